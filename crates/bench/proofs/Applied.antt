-- Theorems over every call: one result, numbers exactly under their conditions, nothing changed by a refusal. Assumes nothing.
use Prim.Native.Nat.{ℕ}
use mathlib.Core.Path.{◌≡◌, refl, sym, ap, ◌∙◌}
use mathlib.Core.Bool.{true, false}
use mathlib.Core.List.{List}
use lib.Dec.{eqb}
use Rattle.std.specs.Prelude.{Option, Some, None}
use Rattle.laws.specs.All.{Means}
use Rattle.names.specs.No as Names
use Rattle.names.specs.declared.no.No.{No as Why}
use Rattle.answers.specs.Answer.{number_of}
use Rattle.answers.specs.Rows.{refusal, Exactly, Passes, rising, distinct}
use Rattle.answers.specs.Out.{Out, out}
use Rattle.answers.specs.Answered.{Answered}
use Rattle.answers.proofs.Refusals.{given, passed, answered, refused_keeps}
use Rattle.cells.specs.World.{World, lent}
use Rattle.cells.proofs.Whole.{whole_state}
use Rattle.settings.specs.declared.Setting.TheVariants.{Number, Width, Direction, LinkDirection, Network, Enable, Hello}
use Rattle.plans.specs.Plan.{step_plan}
use Rattle.switch.specs.Step.{step_performed}
use Rattle.plans.specs.declared.Plan.{Plan}
use Rattle.plans.specs.declared.Plan.TheVariants.{Idle, Wait, OpenOut, OpenChannel, OpenUnit, Refuse, MoveOut, Hand, Hear, Drop}
use Rattle.switch.proofs.Stepped.{heard_answers}
use Rattle.travel.specs.Travel.{line_came}
use Rattle.bench.specs.Calls.{came_answer}
use Rattle.bench.specs.Calls.{Call, Begin, Wire, Set, Aim, Output, Input, Step, Line, Steps, rows, made, apply}

-- "show that two results meeting it are equal": answer, every word of the state, every word of token memory, in ports and on lines
pub one_result : (w : World) (c : Call) (r q : Answered) (st zt mem nem ls ks : List ℕ)
    → out r (lent st mem ls) ≡ apply w c
    → out q (lent zt nem ks) ≡ apply w c
    → (r ≡ q) × (st ≡ zt) × (mem ≡ nem) × (ls ≡ ks)
one_result w c r q st zt mem nem ls ks a b =
    let e : out r (lent st mem ls) ≡ out q (lent zt nem ks) = a ∙ sym b in (
      ap (λ (o : Out World). o.answer) e,
      whole_state st zt (ap (λ (o : Out World). o.next.net) e),
      ap (λ (o : Out World). o.next.memory) e,
      ap (λ (o : Out World). o.next.line_memory) e,
    )

-- a Step's answer is no refusal of the call
no_refusal : (w : World) (n p : ℕ) (x : Plan) → number_of (step_performed w n p x).answer ≡ Names.passes
no_refusal w n p Idle = refl
no_refusal w n p Wait = refl
no_refusal w n p (OpenOut l) = refl
no_refusal w n p (OpenChannel c t) = refl
no_refusal w n p OpenUnit = refl
no_refusal w n p (Refuse x) = refl
no_refusal w n p (MoveOut l) = refl
no_refusal w n p (Hand c t) = refl
no_refusal w n p Hear = heard_answers (λ a. number_of a ≡ Names.passes) refl refl refl w n p
no_refusal w n p (Drop x) = refl

-- nor is a line step's
no_refusal_came : (x : Option ℕ) → number_of (came_answer x) ≡ Names.passes
no_refusal_came None = refl
no_refusal_came (Some g) = refl

-- what a call makes is no refusal
passing : (w : World) (c : Call) → number_of (made w c).answer ≡ Names.passes
passing w (Begin s n) = refl
passing w (Wire a l b k) = refl
passing w (Set a (Number v)) = refl
passing w (Set a (Width v)) = refl
passing w (Set a (Direction b v)) = refl
passing w (Set a (LinkDirection l v)) = refl
passing w (Set a (Network l v)) = refl
passing w (Set a (Enable l v)) = refl
passing w (Set a (Hello l)) = refl
passing w (Aim a c g v) = refl
passing w (Output a c x) = refl
passing w (Input a c k) = refl
passing w (Step a p) = no_refusal w a.0 p (step_plan w a.0 p)
passing w (Line a l) = no_refusal_came (line_came w a.0 l)
passing w (Steps n xs) = refl

-- no call has two rows of one number
once : (w : World) (c : Call) → distinct (rows w c) ≡ true
once w (Begin s n) = refl
once w (Wire a l b k) = refl
once w (Set a x) = refl
once w (Aim a c g v) = refl
once w (Output a c x) = refl
once w (Input a c k) = refl
once w (Step a p) = refl
once w (Line a l) = refl
once w (Steps n xs) = refl

-- "The lowest number wins": the rows of a call stand in the order of their numbers; a start looks at the count before the lengths
abbrev pub InOrder : World → Call → Type 0
InOrder w (Begin s n) = rising 0 (rows w (Begin s n)) ≡ false
InOrder w (Wire a l b k) = rising 0 (rows w (Wire a l b k)) ≡ true
InOrder w (Set a x) = rising 0 (rows w (Set a x)) ≡ true
InOrder w (Aim a c g v) = rising 0 (rows w (Aim a c g v)) ≡ true
InOrder w (Output a c x) = rising 0 (rows w (Output a c x)) ≡ true
InOrder w (Input a c k) = rising 0 (rows w (Input a c k)) ≡ true
InOrder w (Step a p) = rising 0 (rows w (Step a p)) ≡ true
InOrder w (Line a l) = rising 0 (rows w (Line a l)) ≡ true
InOrder w (Steps n xs) = rising 0 (rows w (Steps n xs)) ≡ true

pub in_order : (w : World) (c : Call) → InOrder w c
in_order w (Begin s n) = refl
in_order w (Wire a l b k) = refl
in_order w (Set a x) = refl
in_order w (Aim a c g v) = refl
in_order w (Output a c x) = refl
in_order w (Input a c k) = refl
in_order w (Step a p) = refl
in_order w (Line a l) = refl
in_order w (Steps n xs) = refl

module _ (w : World) (c : Call) where
  pub numbered : number_of (apply w c).answer ≡ refusal (rows w c)
  unfolding apply
  numbered = answered (rows w c) w (made w c) (passing w c)

  -- "Given exactly when": number k is answered exactly where its row's test holds and no row before it refuses
  pub exactly : (k : Why) → Means (eqb (number_of (apply w c).answer) (Names.number k)) (Exactly (rows w c) k)
  exactly k = rw numbered (given (rows w c) k (once w c))

  -- no number, exactly where no row refuses
  pub accepted : Means (eqb (number_of (apply w c).answer) Names.passes) (Passes (rows w c))
  accepted = rw numbered (passed (rows w c))

  -- "A refused call .. leaves the state as it was": every word of the memories
  pub refused_changes_nothing : (number_of (apply w c).answer ≡ Names.passes → ⊥) → (apply w c).next ≡ w
  unfolding apply
  refused_changes_nothing h = refused_keeps (rows w c) w (made w c) (passing w c) h

-- .. and over the lent words themselves: whatever words meet the contract of a call that is refused are the words that were lent
pub refused_words : (st mem ls zt nem ks : List ℕ) (c : Call) (r : Answered)
    → (number_of (apply (lent st mem ls) c).answer ≡ Names.passes → ⊥)
    → out r (lent zt nem ks) ≡ apply (lent st mem ls) c
    → (zt ≡ st) × (nem ≡ mem) × (ks ≡ ls)
refused_words st mem ls zt nem ks c r h e =
    let same : lent zt nem ks ≡ lent st mem ls = ap (λ (o : Out World). o.next) e ∙ refused_changes_nothing (lent st mem ls) c h in (
      whole_state zt st (ap (λ (w : World). w.net) same),
      ap (λ (w : World). w.memory) same,
      ap (λ (w : World). w.line_memory) same,
    )
