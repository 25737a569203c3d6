-- Cases on a test and on an order. Assumes nothing.
use Prim.Native.Nat.{ℕ, ◌+◌, ◌*◌, ◌≤◌, ◌<◌}
use mathlib.Core.Path.{◌≡◌, refl}
use mathlib.Core.Bool.{Bool, true, false}
use mathlib.Core.Logic.{◌⊎◌, inl, inr}
use native.Mathlib.Decide.{dec_lt}
use native.Mathlib.Nat.{suc-mul, mul-le-mul_right}
use native.Mathlib.Omega.{arith}

-- a test holds or fails
pub by_test : {P : Type 0} (b : Bool) → (b ≡ true → P) → (b ≡ false → P) → P
by_test true h k = h refl
by_test false h k = k refl

-- one of two orders
pub order : (m n : ℕ) → (m < n) ⊎ (n ≤ m)
order m n = elim (dec_lt m n) [ yes h ↦ inl h | no h ↦ inr (omega arith) ]

-- the i-th of m stretches of s ends where or before they all do
pub next : (i m s : ℕ) → i < m → i * s + s ≤ m * s
next i m s h = rw (← suc-mul i s) (mul-le-mul_right s h)

-- 0 is not 1, which `cc` shows of two constructors that are not one; so true is not false
pub never : {P : Type 0} → ◌≡◌ {A = ℕ} 0 1 → P
never z = absurd (omega arith)

pub clash : {P : Type 0} → true ≡ false → P
clash e = never (cc)
