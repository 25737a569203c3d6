-- Laws of `all`, for the loops that compute it and for those who read it; tests and what they mean. Assumes nothing.
use Prim.Native.Nat.{ℕ, zero, suc, ◌+◌, ◌<◌, ◌≤◌}
use mathlib.Core.Path.{◌≡◌, refl, ap, ◌∙◌, sym}
use mathlib.Core.Bool.{Bool, true, false, not, ◌&&◌, ◌||◌}
use mathlib.Core.Logic.{◌⊎◌, inl, inr, ⊎_elim}
use native.Mathlib.Decide.{ℕ_discrete}
use native.Mathlib.Omega.{arith}
use native.Mathlib.Numerals.{add-one}
use lib.Dec.{eqb, ltb, leb}
use borrow.Author.Tests.{eqb-true, eq-eqb, ltb-true, ltb-false, lt-ltb, le-ltb, leb-true, le-leb, not-true, not-false}
use Rattle.std.specs.Prelude.{Option, Some, None, MatchOption}
use Rattle.laws.specs.All.{all, first, place_below, NoneBelow, every, Means}
use Rattle.laws.proofs.Order.{by_test, order, clash, never}

and_left : (a b : Bool) → (a && b) ≡ true → a ≡ true
and_left true b e = refl
and_left false b e = e

and_right : (a b : Bool) → (a && b) ≡ true → b ≡ true
and_right true b e = e
and_right false b e = clash (sym e)

pub and_false : (a : Bool) → (a && false) ≡ false
and_false true = refl
and_false false = refl

-- Tests and what they mean

pub below : (a b : ℕ) → Means (ltb a b) (a < b)
below a b = record { sure = ltb-true a b; back = lt-ltb a b }

pub at_most : (a b : ℕ) → Means (leb a b) (a ≤ b)
at_most a b = record { sure = leb-true a b; back = le-leb a b }

pub equal : (a b : ℕ) → Means (eqb a b) (a ≡ b)
equal a b = record { sure = eqb-true a b; back = eq-eqb a b }

pub both : {P Q : Type 0} (a b : Bool) → Means a P → Means b Q → Means (a && b) (P × Q)
both a b m k =
    record {
      sure = λ e. (m.sure (and_left a b e), k.sure (and_right a b e));
      back = λ h. rw (m.back h.0, k.back h.1);
    }

pub also : {P Q : Type 0} {a b : Bool} → Means a P → Means b Q → Means (a && b) (P × Q)
also {a = a} {b = b} m k = both a b m k

pub either : {P Q : Type 0} {a b : Bool} → Means a P → Means b Q → Means (a || b) (P ⊎ Q)
either {a = true} m k = record { sure = λ e. inl (m.sure refl); back = λ h. refl }
either {a = false} m k = record { sure = λ e. inr (k.sure e); back = λ h. ⊎_elim (λ x. clash (sym (m.back x))) k.back h }

pub denied : {P : Type 0} {b : Bool} → Means b P → Means (not b) (P → ⊥)
denied {b = true} m = record { sure = λ e x. clash (sym e); back = λ h. absurd (h (m.sure refl)) }
denied {b = false} m = record { sure = λ e x. clash (sym (m.back x)); back = λ h. refl }

pub as_is : (b : Bool) → Means b (b ≡ true)
as_is b = record { sure = λ e. e; back = λ e. e }

pub same_as : {P Q : Type 0} {b : Bool} → (P → Q) → (Q → P) → Means b P → Means b Q
same_as f g m = record { sure = λ e. f (m.sure e); back = λ h. m.back (g h) }

pub each : {P : ℕ → Type 0} (n : ℕ) (f : ℕ → Bool) → ((i : ℕ) → Means (f i) (P i)) → Means (all n f) ((i : ℕ) → i < n → P i)
unfolding all
each zero f m = record { sure = λ e i l. absurd (omega arith); back = λ h. refl }
each {P} (suc n) f m =
    let r = each {P = P} n f m in
    record {
      sure = λ e i l. elim (ℕ_discrete i n) [
        | yes q ↦ rw q ((m n).sure (and_right (all n f) (f n) e))
        | no q ↦ r.sure (and_left (all n f) (f n) e) i (omega arith)
      ];
      back = λ h. rw (r.back (λ i l. h i (omega arith)), (m n).back (h n (omega arith)));
    }

pub each_place : {P : ℕ → ℕ → Type 0} (a b : ℕ) (f : ℕ → ℕ → Bool)
    → ((n i : ℕ) → Means (f n i) (P n i))
    → Means (every a b f) ((n i : ℕ) → n < a → i < b → P n i)
unfolding every
each_place {P} a b f m =
    let r = each {P = λ n. (i : ℕ) → i < b → P n i} a (λ n. all b (λ i. f n i)) (λ n. each {P = P n} b (f n) (m n)) in
    record { sure = λ e n i x y. r.sure e n x i y; back = λ h. r.back (λ n x i y. h n i x y) }

-- As a loop counts: none yet; one more; the bound reached; one that fails

pub all_none : (f : ℕ → Bool) → all 0 f ≡ true
unfolding all
all_none f = refl

pub all_more : (f : ℕ → Bool) (i : ℕ) → all i f ≡ true → f i ≡ true → all (i + 1) f ≡ true
unfolding all
all_more f i a b = rw (add-one, a, b)

pub all_done : (f : ℕ → Bool) (n i : ℕ) → i ≤ n → n ≤ i → all i f ≡ true → all n f ≡ true
all_done f n i a b e = let q : n ≡ i = omega arith in rw q e

pub all_miss : (f : ℕ → Bool) (n i : ℕ) → i < n → f i ≡ false → all n f ≡ false
unfolding all
all_miss f zero i l e = absurd (omega arith)
all_miss f (suc n) i l e =
    elim (ℕ_discrete i n) [
      | yes q ↦ ap (λ (k : ℕ). all n f && f k) (sym q) ∙ rw (e, and_false)
      | no q ↦ rw (all_miss f n i (omega arith) e)
    ]

-- two tests that agree below the bound
pub all_same : (f g : ℕ → Bool) (n : ℕ) → ((i : ℕ) → i < n → f i ≡ g i) → all n f ≡ all n g
unfolding all
all_same f g zero h = refl
all_same f g (suc n) h = rw (all_same f g n (λ i l. h i (omega arith)), h n (omega arith))

-- As a loop computes it, with b the test at i and m the bound: it stops at a test that fails, goes on past one that holds, and ends
pub loop_stops : (f : ℕ → Bool) (n i : ℕ) {m : ℕ} {b : Bool} → m ≡ n → i < m → b ≡ f i → not b ≡ true → false ≡ all n f
loop_stops f n i {m} {b} q l e h = sym (all_miss f n i (omega arith) (sym e ∙ not-true b h))

pub loop_goes : (f : ℕ → Bool) (i : ℕ) {b : Bool} → all i f ≡ true → b ≡ f i → not b ≡ false → all (i + 1) f ≡ true
loop_goes f i {b} a e h = all_more f i a (sym e ∙ not-false b h)

pub loop_ends : (f : ℕ → Bool) (n i : ℕ) {m : ℕ} → m ≡ n → i ≤ m → m ≤ i → all i f ≡ true → true ≡ all n f
loop_ends f n i q l h a = sym (all_done f n i (omega arith) (omega arith) a)

-- The first place that passes: none before it does, and it does where there is one
pub first_least : (f : ℕ → Bool) (n : ℕ) → NoneBelow f (first n f)
unfolding first
first_least f zero j l = absurd (omega arith)
first_least f (suc n) j l =
    by_test (f 0) (λ e. absurd (nothing j (rw e at l))) (λ e. later j e (first_least (λ i. f (suc i)) n) (rw e at l))
  where
    nothing : (j : ℕ) → j < 0 → ⊥
    nothing j l = omega arith

    later : (j : ℕ) → f 0 ≡ false → NoneBelow (λ i. f (suc i)) (first n (λ i. f (suc i))) → j < suc (first n (λ i. f (suc i))) → f j ≡ false
    later zero e h l = e
    later (suc j) e h l = h j (omega arith)

pub first_passes : (f : ℕ → Bool) (n : ℕ) → first n f < n → f (first n f) ≡ true
unfolding first
first_passes f zero l = absurd (omega arith)
first_passes f (suc n) l =
    by_test (f 0) (λ e. rw e e) (λ e. rw e (first_passes (λ i. f (suc i)) n (below_suc (rw e at l))))
  where
    below_suc : {i : ℕ} → suc i < suc n → i < n
    below_suc l = omega arith

-- where none passes it is the bound
pub first_none : (f : ℕ → Bool) (n : ℕ) → NoneBelow f n → first n f ≡ n
unfolding first
first_none f zero h = refl
first_none f (suc n) h = rw (h 0 (omega arith)) (ap suc (first_none (λ j. f (suc j)) n (λ j k. h (suc j) (omega arith))))

pub first_found : (f : ℕ → Bool) (n : ℕ) → (first n f ≡ n → ⊥) → first n f < n
first_found f n ne = ⊎_elim (λ l. l) (λ l. absurd (ne (first_none f n (λ j k. first_least f n j (omega arith))))) (order (first n f) n)

-- .. as a loop seeks it, with none of the places below i passing
pub none_more : (f : ℕ → Bool) (i : ℕ) → NoneBelow f i → f i ≡ false → NoneBelow f (i + 1)
none_more f i h e j l = elim (ℕ_discrete j i) [ yes d ↦ rw d e | no d ↦ h j (omega arith) ]

pub first_here : (f : ℕ → Bool) (n i : ℕ) → i < n → NoneBelow f i → f i ≡ true → first n f ≡ i
unfolding first
first_here f zero i l h e = absurd (omega arith)
first_here f (suc n) zero l h e = rw e
first_here f (suc n) (suc i) l h e =
    rw (h 0 (omega arith)) (ap suc (first_here (λ j. f (suc j)) n i (omega arith) (λ j k. h (suc j) (omega arith)) e))

-- .. as `find` over the places from a up to n answers it, by a test that is this one there, with none of the places below a passing
pub lowest_place : (f g : ℕ → Bool) (a n : ℕ) (r : Option ℕ) → NoneBelow f a → ((i : ℕ) → a ≤ i → i < n → f i ≡ g i)
    → MatchOption r ((i : ℕ) → a ≤ i → i < n → g i ≡ false)
    (λ i. (a ≤ i) × (i < n) × (g i ≡ true) × ((j : ℕ) → a ≤ j → j < i → g j ≡ false))
    → r ≡ place_below n (first n f)
lowest_place f g a n None less same h =
    let none : NoneBelow f n = λ j l. ⊎_elim (less j) (λ m. same j m l ∙ h j m l) (order j a) in
    rw (first_none f n none, le-ltb n n (omega arith)) refl
lowest_place f g a n (Some i) less same h =
    let none : NoneBelow f i = λ j l. ⊎_elim (less j) (λ m. same j m (omega (arith, h.1)) ∙ h.3 j m l) (order j a) in
    rw (first_here f n i h.1 none (same i h.0 h.1 ∙ h.2), lt-ltb i n h.1) refl

pub place_some : (n i p : ℕ) → Some p ≡ place_below n i → (i ≡ p) × (p < n)
place_some n i p e =
    by_test (ltb i n)
    (λ t. let q : Some p ≡ Some i = rw t at e in let d : i ≡ p = cc in (d, rw d at (ltb-true i n t)))
    (λ t. never (let q : Some p ≡ None = rw t at e in cc))

pub place_none : (f : ℕ → Bool) (n : ℕ) → None ≡ place_below n (first n f) → first n f ≡ n
place_none f n e =
    by_test (ltb (first n f) n)
    (λ t. never (let q : None ≡ Some (first n f) = rw t at e in cc))
    (λ t. let h = ltb-false (first n f) n t in first_none f n (λ j k. first_least f n j (omega arith)))
