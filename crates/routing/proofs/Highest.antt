-- The highest differing bit is the top bit of the exclusive or, and only the bits compared decide it. Assumes nothing.
use Prim.Native.Nat.{ℕ, zero, suc, ◌+◌, ◌-◌, ◌*◌, ◌/◌, ◌%◌, ◌^◌, ◌<◌, ◌≤◌}
use mathlib.Core.Path.{◌≡◌, ◌∙◌, refl, ap, sym}
use native.Mathlib.Decide.{ℕ_discrete}
use native.Mathlib.Omega.{arith}
use native.Mathlib.Nat.{div-eq_of_lt, div-eq_of_lt-le, pow-succ', le_trans, zero-add, suc-add, mod-lt}
use lib.Pow.{pow_pos, pow_mono, field, mod-mod-pow}
use lib.Bits.{bit_xor, xor_shr, xor_mod, xor_self}
use borrow.Author.Tests.{eq-eqb, ne_eqb}
use Rattle.names.specs.declared.NodeNumber.{NodeNumber}
use Rattle.tokens.specs.Header.{compared_bits, compared}
use Rattle.tokens.specs.declared.header.Width.{Width}
use Rattle.routing.specs.Way.{bit, highest, way_to, ThisNode, OtherNode}

-- a bit of the exclusive or
xor_bit : (k a b : ℕ) → bit k (bit_xor a b) ≡ bit_xor (bit k a) (bit k b)
xor_bit k a b = ap (λ (x : ℕ). x % 2) (xor_shr a b k) ∙ xor_mod (a / 2 ^ k) (b / 2 ^ k) 1

-- two digits whose exclusive or is 0 are the same
digits_same : (x y : ℕ) → x < 2 → y < 2 → bit_xor x y ≡ 0 → x ≡ y
digits_same zero zero hx hy e = refl
digits_same zero (suc zero) hx hy e = omega arith
digits_same zero (suc (suc y)) hx hy e = omega arith
digits_same (suc zero) zero hx hy e = omega arith
digits_same (suc zero) (suc zero) hx hy e = refl
digits_same (suc zero) (suc (suc y)) hx hy e = omega arith
digits_same (suc (suc x)) y hx hy e = omega arith

clear : (k a b : ℕ) → bit k (bit_xor a b) ≡ 0 → bit k a ≡ bit k b
clear k a b e = digits_same (bit k a) (bit k b) (omega arith) (omega arith) (sym (xor_bit k a b) ∙ e)

differ : (k a b : ℕ) → bit k (bit_xor a b) ≡ 1 → bit k a ≡ bit k b → ⊥
differ k a b e q =
    let z : bit_xor (bit k a) (bit k b) ≡ 0 = ap (λ (x : ℕ). bit_xor x (bit k b)) q ∙ xor_self (bit k b) in
    let w : bit k (bit_xor a b) ≡ bit_xor (bit k a) (bit k b) = xor_bit k a b in
    omega arith

-- a bit past the top one is 0
above_top : (k x : ℕ) → x < 2 ^ k → bit k x ≡ 0
above_top k x h = ap (λ (y : ℕ). y % 2) (div-eq_of_lt h)

pub none : (n a b : ℕ) → bit_xor a b ≡ 0 → highest n a b ≡ ThisNode
unfolding highest
none zero a b e = refl
none (suc n) a b e =
    let z : bit n (bit_xor a b) ≡ 0 = above_top n (bit_xor a b) (rw e (pow_mono {i = 0} {j = n} (omega arith))) in
    simp (eq-eqb _ _ (clear n a b z)) (none n a b e)

pub found : (n j a b : ℕ) → j < n → 2 ^ j ≤ bit_xor a b → bit_xor a b < 2 ^ suc j → highest n a b ≡ OtherNode j
unfolding highest
found zero j a b h lo hi = absurd (omega arith)
found (suc n) j a b h lo hi =
    elim (ℕ_discrete j n) [
      | yes e ↦ here e
      | no ne ↦ past (omega arith) (found n j a b (omega arith) lo hi)
    ]
  where
    past : j < n → highest n a b ≡ OtherNode j → highest (suc n) a b ≡ OtherNode j
    past l ih = simp (eq-eqb _ _ (clear n a b (above_top n (bit_xor a b) (le_trans hi (pow_mono {i = suc j} {j = n} l))))) ih

    here : j ≡ n → highest (suc n) a b ≡ OtherNode j
    here e =
        let s : 2 ^ suc j ≡ 2 * 2 ^ j = pow-succ' 2 j in
        let u : bit_xor a b / 2 ^ j ≡ 1 = div-eq_of_lt-le {k = 1} (2 ^ j) (omega arith) (omega arith) in
        let z : bit j (bit_xor a b) ≡ 1 = ap (λ (x : ℕ). x % 2) u in
        let w : bit n (bit_xor a b) ≡ 1 = ap (λ (x : ℕ). bit x (bit_xor a b)) (sym e) ∙ z in
        simp (ne_eqb _ _ (differ n a b w)) (ap OtherNode (sym e))

-- bit i of a number's low n bits
low_bit : (n i x : ℕ) → i < n → bit i (x % 2 ^ n) ≡ bit i x
low_bit n i x l =
    let j : ℕ = n - i - 1 in
    let e : n ≡ j + 1 + i = omega arith in
    ap (λ (m : ℕ). bit i (x % 2 ^ m)) e ∙ ap (λ (y : ℕ). y % 2) (field x (j + 1) i) ∙ mod-mod-pow (x / 2 ^ i) j 1

-- bits that agree are told apart alike
agree : (n a b c d : ℕ) → ((i : ℕ) → i < n → bit i a ≡ bit i c) → ((i : ℕ) → i < n → bit i b ≡ bit i d) → highest n a b ≡ highest n c d
unfolding highest
agree zero a b c d f g = refl
agree (suc n) a b c d f g =
    rw (agree n a b c d (λ i l. f i (omega arith)) (λ i l. g i (omega arith)), f n (omega arith), g n (omega arith))

-- numbers of n bits do not differ above them
short : (n k a b : ℕ) → a < 2 ^ n → b < 2 ^ n → highest (k + n) a b ≡ highest n a b
unfolding highest
short n zero a b x y = rw zero-add
short n (suc k) a b x y =
    let p : 2 ^ n ≤ 2 ^ (k + n) = pow_mono {i = n} {j = k + n} (omega arith) in
    rw (suc-add, above_top (k + n) a (le_trans x p), above_top (k + n) b (le_trans y p)) (short n k a b x y)

-- compared in their low n bits, two numbers differ as they do in these
pub at_width : (n k a b : ℕ) → highest (k + n) (a % 2 ^ n) (b % 2 ^ n) ≡ highest n a b
at_width n k a b =
    short n k (a % 2 ^ n) (b % 2 ^ n) (mod-lt a (pow_pos n)) (mod-lt b (pow_pos n))
    ∙ agree n (a % 2 ^ n) (b % 2 ^ n) a b (λ i l. low_bit n i a l) (λ i l. low_bit n i b l)

-- a header leads where its destination does: what a width does not compare does not matter
pub compared_way : (w : Width) (n own : NodeNumber) → way_to w (compared w n) own ≡ way_to w n own
compared_way w n own =
    let k : ℕ = compared_bits w in
    agree k (n.0 % 2 ^ k) own.0 n.0 own.0 (λ i l. low_bit k i n.0 l) (λ i l. refl)
