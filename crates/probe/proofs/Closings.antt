-- The forms that END, PAUSE and returns take, state by state, as the code finds them: computed at all 32 states of the wires. Assumes
-- nothing.
use Prim.Native.Nat.{ℕ, ◌<◌, ◌≤◌, ◌/◌, ◌%◌}
use mathlib.Core.Path.{◌≡◌, refl}
use mathlib.Core.Bool.{true, not, ◌||◌}
use mathlib.Core.List.{List, [], ◌∷◌, ◌++◌}
use lib.Dec.{eqb, ltb}
use borrow.Author.Tests.{lt-ltb, le-ltb, ne_eqb, not-true}
use Rattle.std.specs.Prelude.{Some, None}
use Rattle.laws.specs.Pick.{pick}
use Rattle.laws.specs.All.{all, first}
use Rattle.probe.specs.Wires.{changed, after, high}
use Rattle.probe.specs.Fast.{escape, end_forms, pause_forms, return_forms, least_of, returned, closing}
use Rattle.probe.specs.Needs.{Lies, place_in, lowest_two, alone}
use Rattle.probe.specs.declared.sequence.Sequence.{Sequence}
use Rattle.probe.proofs.Tables.{at, same, alike}
use Rattle.probe.proofs.Places.{placed, unplaced}

unfoldable pub end_of : ℕ → List ℕ
end_of s = escape ∷ escape ∷ lowest_two s / 4 ∷ lowest_two s % 4 ∷ []

unfoldable pub pause_of : ℕ → List ℕ
pause_of s = lowest_two s / 4 ∷ lowest_two s % 4 ∷ escape ∷ escape ∷ []

unfoldable pub return_of : ℕ → List ℕ
return_of s =
    pick (ltb (alone s) 4) (escape ∷ 3 ∷ 3 ∷ alone s ∷ []) (escape ∷ lowest_two s / 4 ∷ lowest_two s % 4 ∷ escape ∷ [])

module _ (s : ℕ) (h : s < 32) where
  pub end_least : end_of s ≡ least_of s end_forms
  unfolding all changed after high least_of end_of
  end_least = alike (end_of s) (least_of s end_forms) (at 32 (λ s. same (end_of s) (least_of s end_forms)) refl s h)

  pub pause_least : pause_of s ≡ least_of s pause_forms
  unfolding all changed after high least_of pause_of
  pause_least = alike (pause_of s) (least_of s pause_forms) (at 32 (λ s. same (pause_of s) (least_of s pause_forms)) refl s h)

  pub return_least : return_of s ≡ least_of s return_forms
  unfolding all first changed after high least_of alone return_of
  return_least = alike (return_of s) (least_of s return_forms) (at 32 (λ s. same (return_of s) (least_of s return_forms)) refl s h)

  pub alone_least : alone s < 4 → escape ∷ 3 ∷ 3 ∷ alone s ∷ [] ≡ least_of s return_forms
  unfolding return_of
  alone_least l = rw (lt-ltb _ _ l) at return_least

  pub two_least : 4 ≤ alone s → escape ∷ lowest_two s / 4 ∷ lowest_two s % 4 ∷ escape ∷ [] ≡ least_of s return_forms
  unfolding return_of
  two_least l = rw (le-ltb _ _ l) at return_least

  -- .. as the code finds the wire
  pub alone_found : (v : ℕ) → Some v ≡ place_in (alone s) 4 → escape ∷ 3 ∷ 3 ∷ v ∷ [] ≡ least_of s return_forms
  alone_found v e = let p = placed (alone s) 4 v e in rw p.0 (alone_least p.1)

  pub none_alone : None ≡ place_in (alone s) 4 → escape ∷ lowest_two s / 4 ∷ lowest_two s % 4 ∷ escape ∷ [] ≡ least_of s return_forms
  none_alone e = two_least (unplaced (alone s) 4 e)

  some_high : (eqb s 0 || not (eqb (high s) 0)) ≡ true
  unfolding all high
  some_high = at 32 (λ s. eqb s 0 || not (eqb (high s) 0)) refl s h

  pub returned_some : (s ≡ 0 → ⊥) → returned s ≡ least_of s return_forms
  unfolding returned
  returned_some n = let e = rw (ne_eqb s 0 n) at some_high in rw (not-true (eqb (high s) 0) e)

pub returned_none : (s : ℕ) → s ≡ 0 → returned s ≡ []
unfolding returned high
returned_none s e = rw e

-- a form that is the least of its row, with its return
pub is_closed : (r : Sequence) (s : ℕ) (f : List ℕ) (forms : List (List ℕ))
    → f ≡ least_of s forms
    → Lies r (f ++ returned (after s f))
    → Lies r (closing s forms)
unfolding closing
is_closed r s f forms e h = rw (← e) h
