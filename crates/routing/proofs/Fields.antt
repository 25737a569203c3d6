-- Four bits of a register, by shifts and masks and as numbers, at any place. Assumes nothing.
use Prim.Native.Nat.{ℕ, ◌+◌, ◌-◌, ◌*◌, ◌/◌, ◌%◌, ◌^◌, ◌<◌, ◌≤◌}
use mathlib.Core.Path.{◌≡◌, ◌∙◌, ap, sym}
use native.Mathlib.Omega.{arith}
use native.Mathlib.Nat.{mod-eq_of_lt, mod-lt, one-mul}
use mathlib.Core.Logic.{◌⊎◌, inl, inr}
use lib.Bits.{bit_and, bit_or, and_mask, or_shifted}
use lib.Pow.{pow_pos, pow-add, shl_exact, shr_lt, shr-shr, shr_le, high, low, field, mod-mod-pow}

-- r with the four bits from k on replaced by those of d: above, these four, below
abbrev pub replaced : ℕ → ℕ → ℕ → ℕ
replaced k r d = (r / 2 ^ k / 16 * 16 + d % 16) * 2 ^ k + r % 2 ^ k

-- the register's 32 bits are m above, these four and k below
module _ (m k r d : ℕ) (span : m + 4 + k ≡ 32) (fits : r < 2 ^ 32) where
  above : r / 2 ^ k / 16 < 2 ^ m
  above =
      let e : m + (k + 4) ≡ 32 = omega arith in
      rw (shr-shr r k 4) (shr_lt m (k + 4) (rw e fits))

  -- the upper part fits the register before it is shifted back, and after
  upper : r / 2 ^ k / 16 * 16 + d % 16 < 2 ^ (m + 4)
  upper = rw (pow-add 2 m 4) (omega (arith, above))

  pub unit : 1 * 2 ^ k % 2 ^ 32 ≡ 2 ^ k
  unit = shl_exact 1 k 32 (omega arith) (omega arith) ∙ one-mul (2 ^ k)

  -- as shifts and masks of 32 bits have it
  pub by_masks : bit_or (bit_or (r / 2 ^ k / 16 * 16 % 2 ^ 32) (bit_and d 15) * 2 ^ k % 2 ^ 32) (bit_and r (1 * 2 ^ k % 2 ^ 32 - 1)) ≡ replaced k r d
  by_masks =
      let q : ℕ = r / 2 ^ k / 16 in
      let a : q * 16 % 2 ^ 32 ≡ q * 16 = mod-eq_of_lt (omega (arith, shr_le r k)) in
      let o : bit_or (q * 16) (d % 16) ≡ q * 16 + d % 16 = or_shifted q 4 (d % 16) (omega arith) in
      let s : (q * 16 + d % 16) * 2 ^ k % 2 ^ 32 ≡ (q * 16 + d % 16) * 2 ^ k = shl_exact (m + 4) k 32 upper (omega arith) in
      rw (a, and_mask d 4, o, s, unit, and_mask r k) (or_shifted (q * 16 + d % 16) k (r % 2 ^ k) (mod-lt r (pow_pos k)))

-- The replaced register's bits, from k on, above these four, and below

module _ (k r d : ℕ) where
  from : replaced k r d / 2 ^ k ≡ r / 2 ^ k / 16 * 16 + d % 16
  from = high (r / 2 ^ k / 16 * 16 + d % 16) k (mod-lt r (pow_pos k))

  pub these : replaced k r d / 2 ^ k % 16 ≡ d % 16
  these = rw from (omega arith)

  beyond : replaced k r d / 2 ^ (k + 4) ≡ r / 2 ^ (k + 4)
  beyond = rw (← shr-shr (replaced k r d) k 4, ← shr-shr r k 4, from) (omega arith)

  below : replaced k r d % 2 ^ k ≡ r % 2 ^ k
  below = low (r / 2 ^ k / 16 * 16 + d % 16) k (mod-lt r (pow_pos k))

-- four bits from l on, in terms of the bits below k or those from k on
four_below : (n l x : ℕ) → x / 2 ^ l % 16 ≡ x % 2 ^ (n + (4 + l)) % 2 ^ (4 + l) / 2 ^ l
four_below n l x = sym (ap (λ (y : ℕ). y / 2 ^ l) (mod-mod-pow x n (4 + l)) ∙ field x 4 l)

four_beyond : (k n x : ℕ) → x / 2 ^ (k + n) % 16 ≡ x / 2 ^ k / 2 ^ n % 16
four_beyond k n x = ap (λ (y : ℕ). y % 16) (sym (shr-shr x k n))

-- four bits that lie below the replaced ones, or above them, are as they were
pub others : (k l r d : ℕ) → (l + 4 ≤ k) ⊎ (k + 4 ≤ l) → replaced k r d / 2 ^ l % 16 ≡ r / 2 ^ l % 16
others k l r d (inl h) =
    let n : ℕ = k - l - 4 in
    let e : n + (4 + l) ≡ k = omega arith in
    four_below n l (replaced k r d)
    ∙ ap (λ (y : ℕ). y % 2 ^ (4 + l) / 2 ^ l) (rw e (below k r d))
    ∙ sym (four_below n l r)
others k l r d (inr h) =
    let n : ℕ = l - k - 4 in
    let e : k + 4 + n ≡ l = omega arith in
    rw (← e) (four_beyond (k + 4) n (replaced k r d) ∙ ap (λ (y : ℕ). y / 2 ^ n % 16) (beyond k r d) ∙ sym (four_beyond (k + 4) n r))
