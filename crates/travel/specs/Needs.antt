-- What these ask of the state that they are made on. A sound state has it: `line_there` and `grants` in switch/proofs/Cabled.antt,
-- `line_possible` in switch/proofs/Arrivals.antt.
use Prim.{Unit}
use Rattle.std.specs.Prelude.{ℕ, ◌+◌, ◌^◌, ◌<◌, ◌≤◌, ◌≡◌, true, false, eqb, length}
use Rattle.names.specs.Size.{links}
use Rattle.lines.specs.Line.{line_capacity, LineFair, line_place}
use Rattle.lines.specs.Load.{is_hello, credit_of}
use Rattle.cells.specs.View.{Net}
use Rattle.cells.specs.World.{World, far_of, Far, Nowhere, At}
use Rattle.acts.specs.Needs.{Room}
use Rattle.travel.specs.Travel.{taken_off, first_on, token_in, greets}

-- among so many nodes, a cable leads nowhere or to a link that is there
abbrev pub Leads : ℕ → Far → Type 0
Leads nodes Nowhere = Unit
Leads nodes (At m j) = (m.0 < nodes) × (j < links)

-- .. at link l of node n
abbrev pub Cabled : Net → ℕ → ℕ → Type 0
Cabled s n l = Leads s.nodes (far_of (s.links.cables n l))

-- the line that starts at link l of node n can be read
pub record LineThere (w : World) (n l : ℕ) : Type 0 where
  pub node : n < w.net.nodes
  pub link : l < links
  pub fair : LineFair (w.net.lines.rings n l)
  pub reaches : line_place n l + line_capacity ≤ length w.line_memory

-- the line at the far end of a cable can
abbrev pub FarLine : World → Far → Type 0
FarLine w Nowhere = Unit
FarLine w (At n l) = LineThere w n.0 l

-- link k of node m may grant: both lines of its cable can be read, and its count takes a grant
pub record Grants (w : World) (m k : ℕ) : Type 0 where
  pub here : LineThere w m k
  pub far : FarLine w (far_of (w.net.links.cables m k))
  pub fits : w.net.lines.issued m k + 64 < 2 ^ 32

-- what comes off a line can arrive: there is room for a token, and a credit is a number of 32 bits with what the link has
pub record Arrives (w : World) (n l m k x : ℕ) : Type 0 where
  pub token : is_hello x ≡ false → eqb (credit_of x) 0 ≡ true → Room w m k 1 × Grants (token_in w m k x) m k
  pub credit : is_hello x ≡ false → (w.net.links.flows m k).credit + 64 < 2 ^ 32
  pub hello : is_hello x ≡ true → Grants (greets w n l m k) m k
  pub node : (n < w.net.nodes) × (m < w.net.nodes)
  pub link : (l < links) × (k < links)

abbrev pub StepsTo : World → ℕ → ℕ → Far → Type 0
StepsTo w n l Nowhere = Unit
StepsTo w n l (At m k) = 0 < (w.net.lines.rings n l).held → LineThere w n l × Arrives (taken_off w n l) n l m.0 k (first_on w n l)

-- the line that starts at link l of node n can make its step
abbrev pub LineSteps : World → ℕ → ℕ → Type 0
LineSteps w n l = StepsTo w n l (far_of (w.net.links.cables n l))
