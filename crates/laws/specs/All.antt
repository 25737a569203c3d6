-- A test at every index below a bound, and what a test means.
use Prim.{Unit}
use Rattle.std.specs.Prelude.{ℕ, zero, suc, ◌<◌, ◌≡◌, Bool, true, false, ◌&&◌, List, [], ◌∷◌, ltb, Option, Some, None}
use Rattle.laws.specs.Pick.{pick}

-- f 0, f 1, .. f (n - 1) all hold
unfoldable pub all : ℕ → (ℕ → Bool) → Bool
all zero f = true
all (suc n) f = all n f && f n

-- the first of 0, 1, .. n - 1 that passes; n where none does
unfoldable pub first : ℕ → (ℕ → Bool) → ℕ
first zero f = 0
first (suc n) f = pick (f 0) 0 (suc (first n (λ i. f (suc i))))

-- the place i where it is below n, as one is that was found; none where it is the bound
abbrev pub place_below : ℕ → ℕ → Option ℕ
place_below n i = pick (ltb i n) (Some i) None

-- no place below i passes
abbrev pub NoneBelow : (ℕ → Bool) → ℕ → Type 0
NoneBelow f i = (j : ℕ) → j < i → f j ≡ false

-- `all` over two indices, a node and a place of it
unfoldable pub every : ℕ → ℕ → (ℕ → ℕ → Bool) → Bool
every a b f = all a (λ n. all b (λ i. f n i))

-- a test that is true exactly when P holds
pub record Means (b : Bool) (P : Type 0) : Type 0 where
  pub sure : b ≡ true → P
  pub back : P → b ≡ true

-- what holds of each element of a list
abbrev pub Each : {A : Type 0} → (A → Type 0) → List A → Type 0
Each P [] = Unit
Each P (x ∷ l) = P x × Each P l
