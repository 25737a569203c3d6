-- What crosses is the answer itself: two answers of calls that cross as one number are one answer, and a refusal leaves the very words that
-- were lent. Assumes nothing.
use Prim.Native.Nat.{ℕ, ◌+◌, ◌*◌, ◌<◌, ◌≤◌}
use mathlib.Core.Path.{◌≡◌, refl, sym, ap, ◌∙◌}
use mathlib.Core.List.{List}
use native.Mathlib.Omega.{arith}
use lib.Dec.{eqb}
use Rattle.laws.specs.Pick.{pick}
use Rattle.names.specs.No.{passes}
use Rattle.names.specs.declared.no.No.{No as Why}
use Rattle.names.specs.declared.no.No.TheVariants as Whys
use Rattle.circuits.specs.declared.Cause.{Cause}
use Rattle.circuits.specs.declared.Cause.TheVariants.{Split, NoRoute}
use Rattle.answers.specs.Answer.{number_of, case_of, answer_value, answer_number}
use Rattle.answers.specs.Answered.{No, Done, Granted, Token, Idle, Waiting, Moved, OpenedLink, OpenedChannel}
use Rattle.answers.specs.Answered.{Answered, OpenedUnit, Refused, Dropped, Malformed, Unheard, Arrived}
use Rattle.cells.specs.World.{World, lent}
use Rattle.cells.proofs.Whole.{whole_state}
use Rattle.bench.specs.Calls.{Call, apply}
use Rattle.bench.proofs.Applied.{refused_changes_nothing}
use Rattle.bench.proofs.Bounded.{Bounded, bounded, small_value}
use Rattle.host.specs.Crossed.{Crossing, crossing, crossed}

-- the answer of a case and the number that it bears
abbrev cause_at : ℕ → Cause
cause_at v = pick (eqb v 0) Split NoRoute

abbrev named : ℕ → Why
named v =
    pick (eqb v 1) Whys.Unsound
    (pick (eqb v 2) Whys.NoSuch
    (pick (eqb v 3) Whys.Value
    (pick (eqb v 4) Whys.Busy
    (pick (eqb v 5) Whys.Unaimed
    (pick (eqb v 6) Whys.Open
    (pick (eqb v 7) Whys.Hardware
    (pick (eqb v 8) Whys.Privileged
    (pick (eqb v 9) Whys.Narrow
    (pick (eqb v 10) Whys.Full (pick (eqb v 11) Whys.Empty Whys.Trap))))))))))

abbrev answer_at : ℕ → ℕ → Answered
answer_at k v =
    pick (eqb k 0) (No (named v))
    (pick (eqb k 1) Done
    (pick (eqb k 2) (Granted v)
    (pick (eqb k 3) (Token v)
    (pick (eqb k 4) Idle
    (pick (eqb k 5) Waiting
    (pick (eqb k 6) Moved
    (pick (eqb k 7) (OpenedLink v)
    (pick (eqb k 8) OpenedChannel
    (pick (eqb k 9) OpenedUnit
    (pick (eqb k 10) (Refused (cause_at v))
    (pick (eqb k 11) (Dropped (cause_at v))
    (pick (eqb k 12) Malformed (pick (eqb k 13) Unheard (Arrived v))))))))))))))

back : (a : Answered) → answer_at (case_of a) (answer_value a) ≡ a
back (No Whys.Unsound) = refl
back (No Whys.NoSuch) = refl
back (No Whys.Value) = refl
back (No Whys.Busy) = refl
back (No Whys.Unaimed) = refl
back (No Whys.Open) = refl
back (No Whys.Hardware) = refl
back (No Whys.Privileged) = refl
back (No Whys.Narrow) = refl
back (No Whys.Full) = refl
back (No Whys.Empty) = refl
back (No Whys.Trap) = refl
back Done = refl
back (Granted g) = refl
back (Token v) = refl
back Idle = refl
back Waiting = refl
back Moved = refl
back (OpenedLink l) = refl
back OpenedChannel = refl
back OpenedUnit = refl
back (Refused Split) = refl
back (Refused NoRoute) = refl
back (Dropped Split) = refl
back (Dropped NoRoute) = refl
back Malformed = refl
back Unheard = refl
back (Arrived g) = refl

-- two numbers of 64 bits with the same halves
halves : (k j v u : ℕ) → v < 256 → u < 256 → k * 4294967296 + v ≡ j * 4294967296 + u → (k ≡ j) × (v ≡ u)
halves k j v u h l e = (omega arith, omega arith)

-- two answers within their bounds that cross as one number are one answer
pub one_answer : (a b : Answered) → Bounded a → Bounded b → answer_number a ≡ answer_number b → a ≡ b
one_answer a b h l e =
    let z = halves (case_of a) (case_of b) (answer_value a) (answer_value b) (small_value a h) (small_value b l) e in
    sym (back a) ∙ ap (λ (k : ℕ). answer_at k (answer_value a)) z.0 ∙ ap (answer_at (case_of b)) z.1 ∙ back b

-- .. so any two calls, on any memories, that a caller hears answer one number have one answer
pub answer_told : (w v : World) (c d : Call) → answer_number (apply w c).answer ≡ answer_number (apply v d).answer
    → (apply w c).answer ≡ (apply v d).answer
answer_told w v c d e = one_answer (apply w c).answer (apply v d).answer (bounded w c) (bounded v d) e

-- and what meets a call's contract on the other side names the one answer: the number tells which, and there is no second
pub answer_heard : (w : World) (c : Call) (r : ℕ) (left : World) (a : Answered) → Bounded a
    → crossing r left ≡ crossed (apply w c)
    → r ≡ answer_number a
    → (apply w c).answer ≡ a
answer_heard w c r left a h e q =
    one_answer (apply w c).answer a (bounded w c) h (sym (ap (λ (x : Crossing). x.number) e) ∙ q)

-- Refusals

-- a refusal crosses as its own number, 1 to 12, and every other answer as 2 to the 32nd or more
pub refusal_number : (a : Answered) → Bounded a → answer_number a < 4294967296
    → (number_of a ≡ answer_number a) × ((1 ≤ number_of a) × (number_of a ≤ 12))
refusal_number (No n) h l = (omega arith, h)
refusal_number Done h l = absurd (omega arith)
refusal_number (Granted g) h l = absurd (omega arith)
refusal_number (Token v) h l = absurd (omega arith)
refusal_number Idle h l = absurd (omega arith)
refusal_number Waiting h l = absurd (omega arith)
refusal_number Moved h l = absurd (omega arith)
refusal_number (OpenedLink k) h l = absurd (omega arith)
refusal_number OpenedChannel h l = absurd (omega arith)
refusal_number OpenedUnit h l = absurd (omega arith)
refusal_number (Refused c) h l = absurd (omega arith)
refusal_number (Dropped c) h l = absurd (omega arith)
refusal_number Malformed h l = absurd (omega arith)
refusal_number Unheard h l = absurd (omega arith)
refusal_number (Arrived g) h l = absurd (omega arith)

module _ (st mem ls zt nem ks : List ℕ) (c : Call) (r : ℕ) (e : crossing r (lent zt nem ks) ≡ crossed (apply (lent st mem ls) c)) where
  number_is : r ≡ answer_number (apply (lent st mem ls) c).answer
  number_is = ap (λ (x : Crossing). x.number) e

  -- "A refused call returns its number and leaves the state as it was": a caller that hears a number below 2 to the 32nd hears the paper's
  -- number, and has every word of the memories as it lent them
  pub refused_as_lent : r < 4294967296 → (number_of (apply (lent st mem ls) c).answer ≡ r) × (zt ≡ st) × (nem ≡ mem) × (ks ≡ ls)
  refused_as_lent l =
      let a = (apply (lent st mem ls) c).answer in
      let low : answer_number a < 4294967296 = omega (arith, number_is) in
      let z = refusal_number a (bounded (lent st mem ls) c) low in
      let some : number_of a ≡ passes → ⊥ = λ q. let k = z.1.0 in omega arith in
      let same : lent zt nem ks ≡ lent st mem ls = ap (λ (x : Crossing). x.next) e ∙ refused_changes_nothing (lent st mem ls) c some in (
        z.0 ∙ sym number_is,
        whole_state zt st (ap (λ (w : World). w.net) same),
        ap (λ (w : World). w.memory) same,
        ap (λ (w : World). w.line_memory) same,
      )
