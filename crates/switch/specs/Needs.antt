-- What carrying out a Step asks of the state. A sound state has it: `plan_possible` in switch/proofs/Possibles.antt.
use Prim.{Unit}
use Rattle.std.specs.Prelude.{ℕ, ◌<◌}
use Rattle.names.specs.Size.{links, tile_links}
use Rattle.cells.specs.World.{World}
use Rattle.acts.specs.Acts.{width_at, first_at}
use Rattle.acts.specs.Needs.{Door, Given}
use Rattle.messages.specs.Needs.{Ready}
use Rattle.moves.specs.Needs.{Takes, Passes}
use Rattle.plans.specs.Plan.{size_of}
use Rattle.plans.specs.declared.Plan.{Plan}
use Rattle.plans.specs.declared.Plan.TheVariants.{Idle, Wait, OpenOut, OpenChannel, OpenUnit, Refuse, MoveOut, Hand, Hear, Drop}

-- a plan that can be carried out
abbrev pub StepPossible : World → ℕ → ℕ → Plan → Type 0
StepPossible w n p Idle = Unit
StepPossible w n p Wait = Unit
StepPossible w n p (OpenOut l) = l < links
StepPossible w n p (OpenChannel c t) = (t < tile_links) × Door c × Takes w n p (size_of (width_at w.net n))
StepPossible w n p OpenUnit = Takes w n p (size_of (width_at w.net n))
StepPossible w n p (Refuse x) = Unit
StepPossible w n p (MoveOut l) = (l < links) × Takes w n p 1 × Passes w n p l
StepPossible w n p (Hand c t) = (t < tile_links) × Given w.net n c (first_at w n p) × Takes w n p 1
StepPossible w n p Hear = Takes w n p 1 × Ready w n
StepPossible w n p (Drop x) = Takes w n p 1
