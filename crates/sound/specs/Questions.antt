-- What is asked at every place of every node: one row of the Sound list, all that the list asks there, a tie, or that it is quiet.
use Rattle.std.specs.Prelude.{ℕ, Bool, ◌&&◌, ◌≡◌, eqb}
use Rattle.laws.specs.All.{every}
use Rattle.names.specs.Size.{links, ports, tile_links, ends}
use Rattle.names.specs.declared.Slot.{Slot}
use Rattle.cells.specs.View.{Net}
use Rattle.cells.specs.World.{World}
use Rattle.clauses.specs.Ties.{unfed, unsent, idle, sends, replied}
use Rattle.line_clauses.specs.Lines.{fed_over, between, towards, hello_last}
use Rattle.sound.specs.Tests.{holds_at, places}
use Rattle.sound.specs.Clauses.{sound_clauses, asked}
use Rattle.sound.specs.declared.questions.Question.{Question}
use Rattle.sound.specs.declared.questions.Question.TheVariants.{Row, OfNode, OfLink, OfPort, OfTile, OfEnd}
use Rattle.sound.specs.declared.questions.Question.TheVariants.{Tied, Sends, Replied, QuietPort, QuietEnd, QuietLine}

-- all that the ties ask of a link
abbrev pub tied : World → ℕ → ℕ → Bool
tied w n l =
    fed_over w n l
    && (unfed w n l && (unsent w n l && (idle w.net n l && (between w n l && (towards w n l && hello_last w n l)))))

-- "no token, no claim, no open circuit anywhere"
abbrev pub quiet_port : Net → ℕ → ℕ → Bool
quiet_port s n p = eqb (s.ports.counters n p).held 0 && eqb (s.ports.legs n p).circuit.kind 0

abbrev pub quiet_end : Net → ℕ → ℕ → Bool
quiet_end s n c = eqb (s.ends.buffers n c).held 0 && (eqb (s.ends.claims n c).kind 0 && eqb (s.ends.sendings n c).kind 0)

-- .. on a line as in a port: nothing travels
abbrev pub quiet_line : Net → ℕ → ℕ → Bool
quiet_line s n l = eqb (s.lines.rings n l).held 0

-- the answer at place i of node n
abbrev pub answer_at : Question → World → ℕ → ℕ → Bool
answer_at (Row k t) w n i = holds_at t w n i
answer_at OfNode w n i = asked sound_clauses 1 w n i
answer_at OfLink w n i = asked sound_clauses links w n i
answer_at OfPort w n i = asked sound_clauses ports w n i
answer_at OfTile w n i = asked sound_clauses tile_links w n i
answer_at OfEnd w n i = asked sound_clauses ends w n i
answer_at Tied w n i = tied w n i
answer_at Sends w n i = sends w n i
answer_at Replied w n i = replied w n 0
answer_at QuietPort w n i = quiet_port w.net n i
answer_at QuietEnd w n i = quiet_end w.net n i
answer_at QuietLine w n i = quiet_line w.net n i

-- how many places of a node it is asked at
abbrev pub places_of : Question → ℕ
places_of (Row k t) = places t
places_of OfNode = 1
places_of OfLink = links
places_of OfPort = ports
places_of OfTile = tile_links
places_of OfEnd = ends
places_of Tied = links
places_of Sends = ends
places_of Replied = 1
places_of QuietPort = ports
places_of QuietEnd = ends
places_of QuietLine = links

unfoldable pub everywhere : Question → World → Bool
everywhere q w = every w.net.nodes (places_of q) (answer_at q w)

-- what a call may answer at a place is what f says there
abbrev pub Answers : (Slot → ℕ → Bool → Type 0) → (ℕ → ℕ → Bool) → Type 0
Answers call f = (slot : Slot) (i : ℕ) (r : Bool) → call slot i r → r ≡ f slot.0 i
