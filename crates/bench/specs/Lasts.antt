-- What it is that a run from a start is never refused as (document 01, "Numbers for no": "1 Unsound: memory of the wrong length, or (not
-- Fresh) state that fails the list").
use Prim.{Unit}
use Rattle.std.specs.Prelude.{ℕ, ◌≡◌, List, [], ◌∷◌}
use Rattle.names.specs.declared.no.No.TheVariants.{Unsound}
use Rattle.answers.specs.Answered.{Answered, No}
use Rattle.bench.specs.Calls.{Call, Begin, Wire, Set, Aim, Output, Input, Step, Line, Steps}

-- a start of another number of boards than the memory has, n
abbrev pub OtherBoards : ℕ → Call → Type 0
OtherBoards n (Begin s m) = m ≡ n → ⊥
OtherBoards n (Wire a l b k) = ⊥
OtherBoards n (Set a x) = ⊥
OtherBoards n (Aim a c g v) = ⊥
OtherBoards n (Output a c x) = ⊥
OtherBoards n (Input a c k) = ⊥
OtherBoards n (Step a p) = ⊥
OtherBoards n (Line a l) = ⊥
OtherBoards n (Steps m xs) = ⊥

-- a call that answers Unsound is such a start
abbrev pub NeverUnsound : ℕ → Call → Answered → Type 0
NeverUnsound n c a = a ≡ No Unsound → OtherBoards n c

-- P holds of every call with its answer, and there are as many answers as calls
abbrev pub Throughout : (Call → Answered → Type 0) → List Call → List Answered → Type 0
Throughout P [] [] = Unit
Throughout P [] (a ∷ l) = ⊥
Throughout P (c ∷ cs) [] = ⊥
Throughout P (c ∷ cs) (a ∷ l) = P c a × Throughout P cs l
