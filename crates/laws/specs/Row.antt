-- Stretches of a list: a part of a lent memory, and a table whose records lie in such parts.
use Rattle.std.specs.Prelude.{ℕ, zero, suc, ◌+◌, ◌≤◌, ◌≡◌, ◌⊎◌, List, [], ◌∷◌, length, take, drop}

-- the s elements from place a on
abbrev pub row {ℓ} : {A : Type ℓ} → ℕ → ℕ → List A → List A
row s a l = take s (drop a l)

-- f 0, f 1, .. f (k - 1)
abbrev pub tab {ℓ} : {A : Type ℓ} → ℕ → (ℕ → A) → List A
tab zero f = []
tab (suc k) f = f zero ∷ tab k (λ i. f (suc i))

-- the s elements from b on lie outside those from a up to e
abbrev pub Apart : ℕ → ℕ → ℕ → ℕ → Type 0
Apart a e b s = (b + s ≤ a) ⊎ (e ≤ b)

-- ys is xs but for the elements from a up to e
pub record Same {A : Type 0} (a e : ℕ) (xs ys : List A) : Type 0 where
  pub front : take a ys ≡ take a xs
  pub back : drop e ys ≡ drop e xs
  pub long : length ys ≡ length xs
