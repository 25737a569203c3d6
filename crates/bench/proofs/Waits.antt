-- "A Waiting or Idle step changes nothing either." (document 01, "Numbers for no"), nor does a line step that is Idle. Assumes nothing.
use Prim.Native.Nat.{ℕ}
use mathlib.Core.Path.{◌≡◌, refl, sym, ◌∙◌}
use mathlib.Core.Bool.{Bool, true, false}
use Rattle.laws.proofs.Order.{by_test, clash}
use Rattle.names.specs.declared.Slot.{Slot}
use Rattle.answers.specs.Rows.{checked}
use Rattle.answers.specs.Answered.{Answered}
use Rattle.answers.specs.Answered as A
use Rattle.answers.proofs.Refusals.{by_check}
use Rattle.cells.specs.World.{World, far_of, Far, Nowhere, At}
use Rattle.plans.specs.Plan.{step_plan}
use Rattle.switch.specs.Step.{step_performed}
use Rattle.plans.specs.declared.Plan.{Plan}
use Rattle.plans.specs.declared.Plan.TheVariants.{Idle, Wait, OpenOut, OpenChannel, OpenUnit, Refuse, MoveOut, Hand, Hear, Drop}
use Rattle.switch.proofs.Stepped.{heard_answers}
use Rattle.travel.specs.Travel.{line_empty, came_by, left_by, line_came, line_stepped}
use Rattle.bench.specs.Calls.{Step, Line, came_answer, rows, apply}

-- Idle and Waiting, of all answers
abbrev pub still : Answered → Bool
still (A.No n) = false
still A.Done = false
still (A.Granted g) = false
still (A.Token v) = false
still A.Idle = true
still A.Waiting = true
still A.Moved = false
still (A.OpenedLink l) = false
still A.OpenedChannel = false
still A.OpenedUnit = false
still (A.Refused c) = false
still (A.Dropped c) = false
still A.Malformed = false
still A.Unheard = false
still (A.Arrived g) = false

module _ (w : World) (n p : ℕ) where
  plan_still : (x : Plan) → still (step_performed w n p x).answer ≡ true → (step_performed w n p x).next ≡ w
  plan_still Idle e = refl
  plan_still Wait e = refl
  plan_still (OpenOut l) e = clash (sym e)
  plan_still (OpenChannel c t) e = clash (sym e)
  plan_still OpenUnit e = clash (sym e)
  plan_still (Refuse x) e = clash (sym e)
  plan_still (MoveOut l) e = clash (sym e)
  plan_still (Hand c t) e = clash (sym e)
  plan_still Hear e = clash (sym e ∙ heard_answers (λ a. still a ≡ false) refl refl refl w n p)
  plan_still (Drop x) e = clash (sym e)

pub waits_change_nothing : (w : World) (a : Slot) (p : ℕ) → still (apply w (Step a p)).answer ≡ true → (apply w (Step a p)).next ≡ w
unfolding apply
waits_change_nothing w a p h =
    by_check (checked (rows w (Step a p)))
    (λ e. rw e (plan_still w a.0 p (step_plan w a.0 p) (rw e at h)))
    (λ k e. rw e)

came_still : (w : World) (n l : ℕ) (f : Far) → still (came_answer (came_by w n l f)) ≡ true → left_by w n l f ≡ w
came_still w n l Nowhere e = refl
came_still w n l (At m k) e = by_test (line_empty w n l) (λ d. rw d) (λ d. clash (sym (rw d at e)))

pub idle_line_changes_nothing : (w : World) (a : Slot) (l : ℕ) → still (apply w (Line a l)).answer ≡ true → (apply w (Line a l)).next ≡ w
unfolding apply line_came line_stepped
idle_line_changes_nothing w a l h =
    by_check (checked (rows w (Line a l)))
    (λ e. rw e (came_still w a.0 l (far_of (w.net.links.cables a.0 l)) (rw e at h)))
    (λ k e. rw e)
