-- The form that the writer takes is one of the row, and none of the row is better: of END, PAUSE and the returns, at every state of the
-- wires. Assumes nothing.
use Prim.Native.Nat.{ℕ, ◌<◌}
use mathlib.Core.Path.{◌≡◌, refl, ◌∙◌}
use mathlib.Core.Bool.{Bool, true, not, ◌&&◌, ◌||◌}
use mathlib.Core.Logic.{inl, inr, ⊎_elim}
use mathlib.Core.List.{List, [], ◌∷◌}
use native.Mathlib.Omega.{arith}
use lib.Dec.{eqb, leb}
use lib.ListN.{length}
use borrow.Author.Tests.{eq-eqb, not-true}
use Rattle.laws.specs.All.{all, first, Each}
use Rattle.laws.proofs.All.{also, at_most, as_is}
use Rattle.laws.proofs.Order.{by_test}
use Rattle.probe.specs.Wires.{changed, after, high}
use Rattle.probe.specs.Fast.{end_forms, pause_forms, return_forms, left, smaller, preferred, better, best, least_of}
use Rattle.probe.specs.Facts.{Among, NoBetter, Least}
use Rattle.probe.specs.Needs.{alone}
use Rattle.probe.proofs.Tables.{at}
use Rattle.probe.proofs.Closings.{end_of, pause_of, return_of, end_least, pause_least, return_least}

-- one of the row
best_among : (s : ℕ) (p : List ℕ) (qs : List (List ℕ)) → Among (best s p qs) (p ∷ qs)
best_among s p [] = inl refl
best_among s p (q ∷ qs) =
    ⊎_elim
    (λ e. by_test (preferred s q p)
    (λ h. let b : better s q p ≡ q = rw h in inr (inl (e ∙ b)))
    (λ h. let b : better s q p ≡ p = rw h in inl (e ∙ b)))
    (λ m. inr (inr m))
    (best_among s (better s q p) qs)

least_among : (s : ℕ) (l : List (List ℕ)) → 0 < length l → Among (least_of s l) l
unfolding least_of
least_among s [] h = absurd (omega arith)
least_among s (q ∷ qs) h = best_among s q qs

-- none of the row is better, as a test
abbrev no_better : ℕ → List ℕ → List ℕ → Bool
no_better s p q = leb (left s p) (left s q) && (not (eqb (left s q) (left s p)) || not (smaller q p))

abbrev each : (List ℕ → Bool) → List (List ℕ) → Bool
each f [] = true
each f (q ∷ l) = f q && each f l

no_better_lem : (s : ℕ) (p q : List ℕ) → no_better s p q ≡ true → NoBetter s p q
no_better_lem s p q e =
    let m = (also (at_most (left s p) (left s q)) (as_is (not (eqb (left s q) (left s p)) || not (smaller q p)))).sure e in
    record { fewest = m.0; smallest = λ d. not-true (smaller q p) (rw (eq-eqb _ _ d) at m.1) }

none_better : (s : ℕ) (p : List ℕ) (l : List (List ℕ)) → each (no_better s p) l ≡ true → Each (λ q. NoBetter s p q) l
none_better s p [] e = tt
none_better s p (q ∷ l) e =
    let m = (also (as_is (no_better s p q)) (as_is (each (no_better s p) l))).sure e in
    (no_better_lem s p q m.0, none_better s p l m.1)

ends_tested : all 32 (λ s. each (no_better s (end_of s)) end_forms) ≡ true
unfolding all changed after high end_of
ends_tested = refl

pauses_tested : all 32 (λ s. each (no_better s (pause_of s)) pause_forms) ≡ true
unfolding all changed after high pause_of
pauses_tested = refl

returns_tested : all 32 (λ s. each (no_better s (return_of s)) return_forms) ≡ true
unfolding all first changed after high alone return_of
returns_tested = refl

-- THE THEOREM
module _ (s : ℕ) (h : s < 32) where
  pub least_end : Least s end_forms
  least_end =
      record {
        among = least_among s end_forms (omega arith);
        none =
            let tested = at 32 (λ s. each (no_better s (end_of s)) end_forms) ends_tested s h in
            rw (end_least s h) at (none_better s (end_of s) end_forms tested);
      }

  pub least_pause : Least s pause_forms
  least_pause =
      record {
        among = least_among s pause_forms (omega arith);
        none =
            let tested = at 32 (λ s. each (no_better s (pause_of s)) pause_forms) pauses_tested s h in
            rw (pause_least s h) at (none_better s (pause_of s) pause_forms tested);
      }

  pub least_return : Least s return_forms
  least_return =
      record {
        among = least_among s return_forms (omega arith);
        none =
            let tested = at 32 (λ s. each (no_better s (return_of s)) return_forms) returns_tested s h in
            rw (return_least s h) at (none_better s (return_of s) return_forms tested);
      }
