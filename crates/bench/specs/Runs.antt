-- Runs: any list of calls, each made on the state and token memory exactly as the one before left them.
use Rattle.std.specs.Prelude.{List, [], ◌∷◌, ◌++◌, eqb, length}
use Rattle.laws.specs.Pick.{pick}
use Rattle.answers.specs.Answered.{Answered}
use Rattle.cells.specs.World.{World}
use Rattle.bench.specs.declared.StepRecord.{StepRecord}
use Rattle.bench.specs.Calls.{Call, Begin, Wire, Set, Aim, Output, Input, Step, Line, Steps, apply}

-- the answers in order, and what is left
pub record Ran : Type 0 where
  pub answers : List Answered
  pub last : World

abbrev pub run : World → List Call → Ran
run w [] = record { answers = []; last = w }
run w (c ∷ cs) = record { answers = (apply w c).answer ∷ (run (apply w c).next cs).answers; last = (run (apply w c).next cs).last }

-- A list of steps is its Steps, one by one (document 02, Ask 1); one that is refused is none
abbrev pub step_of : StepRecord → Call
step_of x = Step (record { 0 = x.slot }) x.port

abbrev pub steps_of : List StepRecord → List Call
steps_of [] = []
steps_of (x ∷ xs) = step_of x ∷ steps_of xs

abbrev pub singly : Call → List Call
singly (Begin s n) = Begin s n ∷ []
singly (Wire a l b k) = Wire a l b k ∷ []
singly (Set a x) = Set a x ∷ []
singly (Aim a c g v) = Aim a c g v ∷ []
singly (Output a c x) = Output a c x ∷ []
singly (Input a c k) = Input a c k ∷ []
singly (Step a p) = Step a p ∷ []
singly (Line a l) = Line a l ∷ []
singly (Steps n xs) = pick (eqb n (length xs)) (steps_of xs) []

-- the run of single calls that a run stands for
abbrev pub flat : List Call → List Call
flat [] = []
flat (c ∷ cs) = singly c ++ flat cs
