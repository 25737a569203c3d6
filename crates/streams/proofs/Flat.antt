-- A table by node and place, read through as one row: an entry changed, and entries that are read the same. Assumes nothing.
use Prim.Native.Nat.{ℕ, ◌+◌, ◌*◌, ◌/◌, ◌%◌, ◌<◌}
use mathlib.Core.Path.{◌≡◌, sym, ap, ◌∙◌, fun_ext}
use native.Mathlib.Omega.{arith}
use native.Mathlib.Nat.{mod-lt, div-add-mod'}
use native.Mathlib.Decide.{ℕ_discrete}
use lib.Arith.{digits_div, digits_mod}
use borrow.Author.Tests.{eq-eqb, ne_eqb}
use Rattle.laws.specs.Table as Two
use Rattle.streams.specs.Model.{alter}
use Rattle.streams.specs.View.{flat, nth}

module _ {A : Type 0} (k n i : ℕ) (h : i < k) (f : ℕ → ℕ → A) where
  pub flat_at : flat k f (nth k n i) ≡ f n i
  flat_at = rw (digits_div n h, digits_mod n h)

-- entries that are read the same
pub flat_same : {A : Type 0} (k : ℕ) (f g : ℕ → ℕ → A) → 0 < k → ((m j : ℕ) → j < k → g m j ≡ f m j) → flat k g ≡ flat k f
flat_same k f g h e = fun_ext (λ j. e (j / k) (j % k) (mod-lt j h))

-- one entry, and every other as it was
pub flat_put : {A : Type 0} (k : ℕ) (f g : ℕ → ℕ → A) (n i : ℕ) (a : A) → i < k
    → g n i ≡ a
    → ((m j : ℕ) → j < k → Two.Off n i m j → g m j ≡ f m j)
    → flat k g ≡ alter (flat k f) (nth k n i) a
unfolding alter
flat_put k f g n i a h here off =
    fun_ext (λ j. elim (ℕ_discrete j (nth k n i)) [
      | yes e ↦ rw (eq-eqb j (nth k n i) e) (ap (flat k g) e ∙ flat_at k n i h g ∙ here)
      | no e ↦ rw (ne_eqb j (nth k n i) e) (off (j / k) (j % k) (mod-lt j (omega (arith, h)))
          (λ en ei. e (sym (div-add-mod' j k) ∙ ap (λ (x : ℕ). x * k + j % k) en ∙ ap (λ (x : ℕ). n * k + x) ei)))
    ])
