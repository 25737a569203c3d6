-- A table by node and place, as a function, and one entry of it changed.
use Rattle.std.specs.Prelude.{ℕ, ◌≡◌, ◌&&◌, eqb}
use Rattle.laws.specs.Pick.{pick}

-- entry i of node n is a, and every other entry is as it was
unfoldable pub upd {ℓ} : {A : Type ℓ} → (ℕ → ℕ → A) → ℕ → ℕ → A → ℕ → ℕ → A
upd f n i a m j = pick (eqb m n && eqb j i) a (f m j)

-- (m, j) is another entry than (n, i)
abbrev pub Off : ℕ → ℕ → ℕ → ℕ → Type 0
Off n i m j = m ≡ n → j ≡ i → ⊥
