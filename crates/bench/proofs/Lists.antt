-- A LIST OF STEPS is the same Steps made one by one (document 02, Ask 1): what it leaves and its results are those of `run` over them, on
-- any memory. So a run with lists in it is a run without, and what holds of every run holds of it. Assumes nothing.
use Prim.{tt}
use Prim.Native.Nat.{ℕ, ◌≤◌}
use mathlib.Core.Path.{◌≡◌, refl, sym, ap, ◌∙◌}
use mathlib.Core.Bool.{false}
use mathlib.Core.List.{List, [], ◌∷◌, ◌++◌, map}
use lib.Dec.{eqb}
use lib.ListN.{length}
use borrow.Author.Tests.{eq-eqb, ne_eqb}
use Rattle.laws.specs.All.{Each}
use Rattle.laws.proofs.Order.{by_test}
use Rattle.names.specs.declared.no.No.TheVariants.{Unsound, NoSuch}
use Rattle.names.specs.Size.{nodes}
use Rattle.answers.specs.Out.{out}
use Rattle.answers.specs.Answered.{Answered, No, Done}
use Rattle.cells.specs.World.{World}
use Rattle.fresh.specs.Fresh.{start_of}
use Rattle.fresh.specs.declared.Start.{Start}
use Rattle.kept.proofs.Calls.{start_kept}
use Rattle.sound.specs.Sound.{sound}
use Rattle.kept.specs.Kept.{Kept}
use Rattle.bench.specs.declared.StepRecord.{StepRecord}
use Rattle.bench.specs.Calls.{Call, Begin, Wire, Set, Aim, Output, Input, Step, Line, Steps, step_by, stepped, results, apply}
use Rattle.bench.specs.Runs.{run, step_of, steps_of, singly, flat}
use Rattle.bench.proofs.Bounded.{Bounded, bounded}
use Rattle.bench.proofs.Lasts.{call_keeps, call_unsound, run_keeps}

-- ONE RECORD is the single call
pub by_call : (w : World) (x : StepRecord) → step_by w x ≡ apply w (step_of x)
unfolding apply
by_call w x = refl

-- "as the same steps made one by one": what is left, and each answer
pub left_by_steps : (xs : List StepRecord) (w : World) → stepped w xs ≡ (run w (steps_of xs)).last
unfolding apply
left_by_steps [] w = refl
left_by_steps (x ∷ xs) w = left_by_steps xs (step_by w x).next

pub results_by_steps : (xs : List StepRecord) (w : World) → results w xs ≡ (run w (steps_of xs)).answers
unfolding apply
results_by_steps [] w = refl
results_by_steps (x ∷ xs) w = ap (λ (rest : List Answered). (step_by w x).answer ∷ rest) (results_by_steps xs (step_by w x).next)

-- THE CALL, on any memory: with a place for each record it is done
pub list_done : (w : World) (xs : List StepRecord) → apply w (Steps (length xs) xs) ≡ out Done (run w (steps_of xs)).last
unfolding apply
list_done w xs = rw (eq-eqb (length xs) (length xs) refl) (ap (out Done) (left_by_steps xs w))

-- "first, a results buffer of another length than the list is NoSuch, and nothing is done"
pub length_first : (w : World) (n : ℕ) (xs : List StepRecord) → (n ≡ length xs → ⊥) → apply w (Steps n xs) ≡ out (No NoSuch) w
unfolding apply
length_first w n xs other = rw (ne_eqb n (length xs) other)

-- "Unsound is each record's own": on an unsound state every record's, and nothing is changed
unsound_step : (w : World) (x : StepRecord) → sound w ≡ false → step_by w x ≡ out (No Unsound) w
unsound_step w x e = rw e

pub unsound_results : (xs : List StepRecord) (w : World) → sound w ≡ false → results w xs ≡ map (λ (x : StepRecord). No Unsound) xs
unsound_results [] w e = refl
unsound_results (x ∷ xs) w e =
    rw (unsound_step w x e) (ap (λ (rest : List Answered). No Unsound ∷ rest) (unsound_results xs w e))

pub unsound_left : (xs : List StepRecord) (w : World) → sound w ≡ false → stepped w xs ≡ w
unsound_left [] w e = refl
unsound_left (x ∷ xs) w e = rw (unsound_step w x e) (unsound_left xs w e)

-- on a state that is sound and tight no record's is
pub results_sure : (xs : List StepRecord) (w : World) → Kept w → Each (λ (a : Answered). a ≡ No Unsound → ⊥) (results w xs)
unfolding apply
results_sure [] w k = tt
results_sure (x ∷ xs) w k = (call_unsound w k (step_of x), results_sure xs (step_by w x).next (call_keeps w k (step_of x)))

-- .. so of no list of any run from a start, whatever calls were made before it
pub never_unsound_results : (s : Start) (n : ℕ) → 1 ≤ n → n ≤ nodes → (cs : List Call) (xs : List StepRecord)
    → Each (λ (a : Answered). a ≡ No Unsound → ⊥) (results (run (start_of s n) cs).last xs)
never_unsound_results s n some few cs xs =
    results_sure xs (run (start_of s n) cs).last (run_keeps cs (start_of s n) (start_kept s n some few))

-- each result is within the bounds of answers, so that its number tells it (`one_answer` in host/proofs/Told.antt)
pub results_bounded : (xs : List StepRecord) (w : World) → Each Bounded (results w xs)
unfolding apply
results_bounded [] w = tt
results_bounded (x ∷ xs) w = (bounded w (step_of x), results_bounded xs (step_by w x).next)

-- RUNS with lists in them
run_append : (cs ds : List Call) (w : World) → (run w (cs ++ ds)).last ≡ (run (run w cs).last ds).last
run_append [] ds w = refl
run_append (c ∷ cs) ds w = run_append cs ds (apply w c).next

pub singly_left : (w : World) (c : Call) → (run w (singly c)).last ≡ (apply w c).next
unfolding apply
singly_left w (Begin s n) = refl
singly_left w (Wire a l b k) = refl
singly_left w (Set a x) = refl
singly_left w (Aim a c g v) = refl
singly_left w (Output a c x) = refl
singly_left w (Input a c k) = refl
singly_left w (Step a p) = refl
singly_left w (Line a l) = refl
singly_left w (Steps n xs) = by_test (eqb n (length xs)) (λ e. rw e (sym (left_by_steps xs w))) (λ e. rw e)

-- a run leaves what its single calls leave
pub flat_left : (cs : List Call) (w : World) → (run w (flat cs)).last ≡ (run w cs).last
flat_left [] w = refl
flat_left (c ∷ cs) w =
    run_append (singly c) (flat cs) w ∙ ap (λ (z : World). (run z (flat cs)).last) (singly_left w c) ∙ flat_left cs (apply w c).next
