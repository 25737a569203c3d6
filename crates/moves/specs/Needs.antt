-- What taking a token and passing it on ask of the state. A sound state has it: `plan_possible` in switch/proofs/Possibles.antt.
use Rattle.std.specs.Prelude.{ℕ, ◌<◌}
use Rattle.names.specs.Size.{links}
use Rattle.lines.specs.Line.{line_capacity}
use Rattle.cells.specs.World.{World}
use Rattle.acts.specs.Needs.{Holds}
use Rattle.travel.specs.Needs.{LineThere, Grants}
use Rattle.moves.specs.Moves.{took}

-- a port that a link feeds may grant
abbrev pub Up : World → ℕ → ℕ → Type 0
Up w n p = p < links → Grants w n p

-- .. and port p has k tokens to take
pub record Takes (w : World) (n p k : ℕ) : Type 0 where
  pub holds : Holds w n p k
  pub up : Up w n p

-- the line from a link has room for a token
pub record LineRoom (w : World) (n l : ℕ) : Type 0 where
  pub there : LineThere w n l
  pub room : (w.net.lines.rings n l).held < line_capacity

-- .. once one is taken from port p, with the credit that this may put on that very line
abbrev pub Passes : World → ℕ → ℕ → ℕ → Type 0
Passes w n p l = LineRoom (took w n p) n l
