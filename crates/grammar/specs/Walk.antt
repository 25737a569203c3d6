-- The walk over a port's tokens, oldest first, from where the port's circuit stands (document 01, "Sound").
use Rattle.std.specs.Prelude.{ℕ, suc, Bool, false, List, [], ◌∷◌}
use Rattle.laws.specs.Pick.{pick}
use Rattle.circuits.specs.declared.Hop.{Hop}
use Rattle.circuits.specs.declared.Hop.TheVariants.{Shut, Out, Channel, Unit, Dropped}
use Rattle.tokens.specs.Shape.{shape_of}
use Rattle.grammar.specs.Stage.{next_stage, of_three, of_one, due}
use Rattle.grammar.specs.declared.port.Stages.{Stages}
use Rattle.grammar.specs.declared.stage.Stage.{Stage}
use Rattle.grammar.specs.declared.stage.Stage.TheVariants.{Fresh, Body}

abbrev pub walk : Stage → List ℕ → Stage
walk s [] = s
walk s (w ∷ q) = walk (next_stage s (shape_of w)) q

-- how many tokens of a three-byte header stand at the front
abbrev pub threes : List ℕ → ℕ
threes [] = 0
threes (w ∷ q) = pick (of_three (shape_of w)) (suc (threes q)) 0

abbrev pub begins_one : List ℕ → Bool
begins_one [] = false
begins_one (w ∷ q) = of_one (shape_of w)

-- a circuit that is sent on, or dropped, with what is left of its header
abbrev pub lead : List ℕ → Stage
lead q = due (threes q) (begins_one q)

-- where a port's circuit stands before the first token
abbrev pub front_of : Hop → List ℕ → Stage
front_of Shut q = Fresh
front_of (Out l) q = lead q
front_of (Channel c t) q = Body
front_of Unit q = Body
front_of (Dropped c) q = lead q

-- and past the last
abbrev pub back_of : Hop → List ℕ → Stage
back_of h q = walk (front_of h q) q

-- both
abbrev pub stages_of : Hop → List ℕ → Stages
stages_of h q = record { front = front_of h q; back = back_of h q }
