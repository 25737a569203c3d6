-- Each number is given exactly under its row's condition, and a refused call changes nothing. Assumes nothing.
use Prim.{Unit, tt}
use Prim.Native.Nat.{ℕ}
use mathlib.Core.Path.{◌≡◌, refl, sym, ◌∙◌}
use mathlib.Core.Bool.{Bool, true, false, not}
use mathlib.Core.List.{List, [], ◌∷◌}
use lib.Dec.{eqb}
use borrow.Author.Tests.{eq-eqb, eqb-true, not-true}
use Rattle.laws.specs.All.{Means}
use Rattle.laws.proofs.All.{also, as_is}
use Rattle.laws.proofs.Order.{by_test, clash}
use Rattle.std.specs.Prelude.{Result, Ok, Err, IsErr, is_ok}
use Rattle.std.specs.Result.{IsErrAnd}
use Rattle.names.specs.No as Names
use Rattle.names.specs.declared.no.No.{No as Why}
use Rattle.names.specs.declared.no.No.TheVariants as Whys
use Rattle.answers.specs.Answer.{number_of}
use Rattle.answers.specs.Rows.{Row, checked, refusal, Exactly, Passes, absent, distinct}
use Rattle.answers.specs.Out.{Out, out, attempt}
use Rattle.answers.specs.Answered.{Answered, No, Done, Granted, Token, Idle, Waiting, Moved, OpenedLink, OpenedChannel, OpenedUnit, Refused, Dropped}
use Rattle.answers.specs.Answered.{Malformed, Unheard, Arrived}

-- no name has the number that stands for none
some : (k : Why) → eqb Names.passes (Names.number k) ≡ false
some Whys.Unsound = refl
some Whys.NoSuch = refl
some Whys.Value = refl
some Whys.Busy = refl
some Whys.Unaimed = refl
some Whys.Open = refl
some Whys.Hardware = refl
some Whys.Privileged = refl
some Whys.Narrow = refl
some Whys.Full = refl
some Whys.Empty = refl
some Whys.Trap = refl

pub some_back : (k : Why) → eqb (Names.number k) Names.passes ≡ false
some_back k =
    by_test (eqb (Names.number k) Names.passes)
    (λ e. clash (sym (eq-eqb Names.passes (Names.number k) (sym (eqb-true (Names.number k) Names.passes e))) ∙ some k))
    (λ e. e)

-- what is answered is no refusal, by its number
pub unrefused : (a : Answered) → is_ok a ≡ eqb (number_of a) Names.passes
unrefused (No k) = sym (some_back k)
unrefused Done = refl
unrefused (Granted g) = refl
unrefused (Token v) = refl
unrefused Idle = refl
unrefused Waiting = refl
unrefused Moved = refl
unrefused (OpenedLink l) = refl
unrefused OpenedChannel = refl
unrefused OpenedUnit = refl
unrefused (Refused c) = refl
unrefused (Dropped c) = refl
unrefused Malformed = refl
unrefused Unheard = refl
unrefused (Arrived g) = refl

-- a test that fails, of what is impossible
pub refuted : {P : Type 0} (b : Bool) → b ≡ false → (P → ⊥) → Means b P
refuted b e h = record { sure = λ t. clash (sym t ∙ e); back = λ p. absurd (h p) }

pub certain : {P : Type 0} (b : Bool) → b ≡ true → P → Means b P
certain b e p = record { sure = λ t. p; back = λ h. e }

second : {P : Type 0} {b : Bool} → Means b P → Means b ((false ≡ false) × P)
second m = record { sure = λ t. (refl, m.sure t); back = λ h. m.back h.1 }

-- a number that no row has is not given
not_given : (a : ℕ) (rs : List Row) → eqb Names.passes a ≡ false → absent a rs ≡ true → eqb (refusal rs) a ≡ false
not_given a [] z h = z
not_given a (r ∷ rs) z h =
    let m = (also (as_is (not (eqb (Names.number r.no) a))) (as_is (absent a rs))).sure h in
    by_test r.when
    (λ e. rw e (not-true _ m.0))
    (λ e. rw e (not_given a rs z m.1))

-- "Given exactly when": number k, for its row's test where no row before it refuses
pub given : (rs : List Row) (k : Why) → distinct rs ≡ true → Means (eqb (refusal rs) (Names.number k)) (Exactly rs k)
given [] k d = refuted (eqb Names.passes (Names.number k)) (some k) (λ x. x)
given (r ∷ rs) k d =
    let m = (also (as_is (absent (Names.number r.no) rs)) (as_is (distinct rs))).sure d in
    by_test r.when
    (λ e. by_test (eqb (Names.number r.no) (Names.number k))
    (λ f. rw (e, f) (certain true refl refl))
    (λ f. rw (e, f) (refuted false refl (λ x. clash x.0))))
    (λ e. by_test (eqb (Names.number r.no) (Names.number k))
    (λ f. rw (e, f) (refuted (eqb (refusal rs) (Names.number k)) (not_given (Names.number k) rs (some k) (rw (← eqb-true (Names.number r.no) (Names.number k) f) m.0)) (λ x. clash (sym x))))
    (λ f. rw (e, f) (second (given rs k m.1))))

-- no refusal, exactly where no row's test holds
pub passed : (rs : List Row) → Means (eqb (refusal rs) Names.passes) (Passes rs)
passed [] = certain true refl tt
passed (r ∷ rs) =
    by_test r.when
    (λ e. rw e (refuted (eqb (Names.number r.no) Names.passes) (some_back r.no) (λ x. clash x.0)))
    (λ e. rw e (second (passed rs)))

-- a test lets pass, or it refuses
pub by_check : {P : Type 0} (r : Result Unit Why) → (r ≡ Ok tt → P) → ((k : Why) → r ≡ Err k → P) → P
by_check (Ok u) f g = f refl
by_check (Err k) f g = g k refl

-- rows that let pass, by their number, and none of their tests holds
pub clear : (rs : List Row) → refusal rs ≡ Names.passes → checked rs ≡ Ok tt
clear rs h =
    by_check (checked rs) (λ e. e) (λ k e. clash (sym (eq-eqb (Names.number k) Names.passes (rw e at h)) ∙ some_back k))

pub all_clear : (rs : List Row) → checked rs ≡ Ok tt → Passes rs
all_clear rs e = (passed rs).sure (rw e refl)

module _ {S : Type 0} (rs : List Row) (s : S) (done : Out S) (ok : number_of done.answer ≡ Names.passes) where
  -- the number that a call answers is the one that its rows give
  pub answered : number_of (attempt rs s done).answer ≡ refusal rs
  answered = by_check (checked rs) (λ e. rw e ok) (λ k e. rw e)

  -- "A refused call .. leaves the state as it was"
  pub refused_keeps : (number_of (attempt rs s done).answer ≡ Names.passes → ⊥) → (attempt rs s done).next ≡ s
  refused_keeps h = by_check (checked rs) (λ e. absurd (h (rw e ok))) (λ k e. rw e)

-- What a call does that asks first whether it is refused: it answers that, or goes on
module _ {S : Type 0} (rs : List Row) (s : S) (done : Out S) (r : Result Unit Why) (e : r ≡ checked rs) where
  pub refuses : (k : Why) → r ≡ Err k → out (No k) s ≡ attempt rs s done
  refuses k h = rw (sym e ∙ h)

  -- .. by `?`
  pub hands_on : (a : Answered) (k : Why) → IsErr a × IsErrAnd a (λ j. j ≡ k) → r ≡ Err k → out a s ≡ attempt rs s done
  hands_on (Ok x) k p h = absurd p.1
  hands_on (Err j) k p h = rw p.1 (refuses k h)

  pub goes_on_lem : r ≡ Ok tt → {o : Out S} → o ≡ done → o ≡ attempt rs s done
  goes_on_lem h q = rw (sym e ∙ h) q
