-- Laws of a table by node and place: the entry that was changed, any other, and what holds of all. Assumes nothing.
use Prim.Native.Nat.{ℕ}
use mathlib.Core.Path.{◌≡◌, refl, fun_ext}
use mathlib.Core.Bool.{Bool, true, false, ◌&&◌}
use native.Mathlib.Decide.{ℕ_discrete}
use lib.Dec.{eqb}
use borrow.Author.Tests.{eq-eqb, ne_eqb, eqb-true}
use Rattle.laws.specs.Table.{upd, Off}

and_off : (a b : Bool) → (a ≡ true → b ≡ false) → (a && b) ≡ false
and_off true b h = h refl
and_off false b h = refl

module _ {ℓ} {A : Type ℓ} (f : ℕ → ℕ → A) (n i : ℕ) (a : A) where
  pub upd_same : upd f n i a n i ≡ a
  unfolding upd
  upd_same = rw (eq-eqb n n refl, eq-eqb i i refl)

  pub upd_hit : (m j : ℕ) → m ≡ n → j ≡ i → upd f n i a m j ≡ a
  upd_hit m j d e = rw (d, e) upd_same

  pub upd_miss : (m j : ℕ) → Off n i m j → upd f n i a m j ≡ f m j
  unfolding upd
  upd_miss m j o = rw (and_off (eqb m n) (eqb j i) (λ e. ne_eqb j i (o (eqb-true m n e))))

-- an entry is the one, or another
pub place : {P : Type 0} (n i m j : ℕ) → (m ≡ n → j ≡ i → P) → (Off n i m j → P) → P
place n i m j h k =
    elim (ℕ_discrete m n) [
      | yes d ↦ elim (ℕ_discrete j i) [ yes e ↦ h d e | no e ↦ k (λ x y. e y) ]
      | no d ↦ k (λ x y. d x)
    ]

-- what holds of every entry still does, if it does of the new one
pub upd_all : {A : Type 0} (P : ℕ → ℕ → A → Type 0) (f : ℕ → ℕ → A) (n i : ℕ) (a : A) (m j : ℕ)
    → (m ≡ n → j ≡ i → P m j a)
    → (Off n i m j → P m j (f m j))
    → P m j (upd f n i a m j)
upd_all P f n i a m j h k =
    place n i m j (λ d e. rw (upd_hit f n i a m j d e) (h d e)) (λ o. rw (upd_miss f n i a m j o) (k o))

-- an entry written as it was changes nothing
pub upd_own : {A : Type 0} (f : ℕ → ℕ → A) (n i : ℕ) → upd f n i (f n i) ≡ f
upd_own f n i =
    fun_ext (λ m. fun_ext (λ j. upd_all (λ a b x. x ≡ f a b) f n i (f n i) m j (λ d e. rw (d, e)) (λ o. refl)))
