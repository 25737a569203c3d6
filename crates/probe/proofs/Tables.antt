-- What a test that is computed at every place of a table says at each. Assumes nothing.
use Prim.Native.Nat.{ℕ, ◌<◌}
use mathlib.Core.Path.{◌≡◌, refl}
use mathlib.Core.Bool.{Bool, true, false, ◌&&◌}
use mathlib.Core.List.{List, [], ◌∷◌}
use lib.Dec.{eqb}
use Rattle.laws.specs.All.{all}
use Rattle.laws.proofs.All.{each, equal, also, as_is}
use Rattle.laws.proofs.Order.{never}

-- a test at every place
pub at : (n : ℕ) (f : ℕ → Bool) → all n f ≡ true → (i : ℕ) → i < n → f i ≡ true
at n f e = (each n f (λ i. as_is (f i))).sure e

-- two numbers at every place
pub agree : (n : ℕ) (f g : ℕ → ℕ) → all n (λ i. eqb (f i) (g i)) ≡ true → (i : ℕ) → i < n → f i ≡ g i
agree n f g e = (each n (λ i. eqb (f i) (g i)) (λ i. equal (f i) (g i))).sure e

-- two lists
abbrev pub same : List ℕ → List ℕ → Bool
same [] [] = true
same [] (y ∷ p) = false
same (x ∷ q) [] = false
same (x ∷ q) (y ∷ p) = eqb x y && same q p

pub alike : (q p : List ℕ) → same q p ≡ true → q ≡ p
alike [] [] e = refl
alike [] (y ∷ p) e = never (cc)
alike (x ∷ q) [] e = never (cc)
alike (x ∷ q) (y ∷ p) e =
    let both = (also (equal x y) (as_is (same q p))).sure e in
    let rest : q ≡ p = alike q p both.1 in
    rw (both.0, rest)
