-- What the definitions above take and give: the state as tables, the token memory, and the memory of lines (document 02, Ask 4). A contract
-- speaks of the memories that its function is lent: of `world st mem` where no line is touched, of `lined st ls` where no port is, of
-- `lent st mem ls` where both are; where all are lent as one, of `world_of m`, which is that. A memory that is not lent is none; definitions that
-- do not touch it pass it through.
use Rattle.std.specs.Prelude.{ℕ, ◌*◌, Bool, true, false, ◌&&◌, List, [], ◌∷◌, eqb, leb, length, Option, Some, None}
use Rattle.laws.specs.Pick.{pick}
use Rattle.names.specs.Size.{nodes, links, ports}
use Rattle.names.specs.declared.Slot.{Slot}
use Rattle.circuits.specs.Circuit.{hop_of}
use Rattle.circuits.specs.declared.Hop.{Hop}
use Rattle.ports.specs.Queue.{capacity}
use Rattle.ports.specs.Memory.{place, held}
use Rattle.lines.specs.Line.{line_capacity, line_place, on_line}
use Rattle.cells.specs.View.{Net, view}
use Rattle.cells.specs.declared.link.Cable.{Cable}

pub record World : Type 0 where
  pub net : Net
  pub memory : List ℕ
  pub line_memory : List ℕ

-- the world that three lent slices are, and two
abbrev pub lent : List ℕ → List ℕ → List ℕ → World
lent st mem ls = record { net = view st; memory = mem; line_memory = ls }

abbrev pub world : List ℕ → List ℕ → World
world st mem = lent st mem []

abbrev pub lined : List ℕ → List ℕ → World
lined st ls = lent st [] ls

-- where a cable leads: to a link of a slot, or nowhere
abbrev pub Far : Type 0
Far = Option (Slot × ℕ)

pattern abbrev pub Nowhere : Far
Nowhere = None

pattern abbrev pub At : Slot → ℕ → Far
At m k = Some (m, k)

abbrev pub far_of : Cable → Far
far_of k = pick (eqb k.wired 1) (At (record { 0 = k.far_slot }) k.far_link) Nowhere

-- where the circuit of port p of node n goes
abbrev pub hop : Net → ℕ → ℕ → Hop
hop s n p = hop_of (s.ports.legs n p).circuit (s.ports.legs n p).tile

-- what that port holds, oldest first
abbrev pub queue : World → ℕ → ℕ → List ℕ
queue w n p = held (w.net.ports.counters n p) w.memory (place n p)

-- what is on the line that starts at link l of node n, the first to arrive first
abbrev pub line_from : World → ℕ → ℕ → List ℕ
line_from w n l = on_line (w.net.lines.rings n l) w.line_memory (line_place n l)

abbrev pub is_empty : List ℕ → Bool
is_empty [] = true
is_empty (x ∷ l) = false

-- "The host lends one token memory: nodes × 13 ports × 64 words of 16 bits, exactly" (document 01, "Sizes"), and "a second lent memory of
-- nodes × 8 × 66 words" (document 02, Ask 4)
abbrev pub token_words : ℕ → ℕ
token_words n = n * (ports * capacity)

abbrev pub line_words : ℕ → ℕ
line_words n = n * (links * line_capacity)

-- "A network of 1 to 16 XS1-L nodes", and both memories are theirs
unfoldable pub shaped : World → Bool
shaped w =
    let n = w.net.nodes in
    is_empty w.net.rest
    && (leb 1 n && (leb n nodes && (eqb (length w.memory) (token_words n) && eqb (length w.line_memory) (line_words n))))
