-- `routing::way::highest_differing` meets its contract: the top bit of the exclusive or, which is 15 less its leading zeros. Assumes
-- nothing.
use Rattle.std.proofs.Common.{◌≡◌, ℕ, ◌+◌, ◌-◌, ◌<◌, ◌≤◌, arith, ap, sym, ◌∙◌}
use Prim.Native.Nat.{suc, ◌^◌}
use lib.Bits.{bit_xor, xor_lt}
use lib.Count.{count_leading_zeros, leading_top}
use Rattle.routing.specs.Way.{OtherNode}
use Rattle.routing.proofs.Highest.{found}
use Rattle.routing.proofs.way.highest_differing.Goals as goal

-- the top bit of a difference, and how many zeros lead it
record Top (x : ℕ) : Type 0 where
  pub bit : ℕ
  pub zeros : count_leading_zeros 16 x + suc bit ≡ 16
  pub low : 2 ^ bit ≤ x
  pub high : x < 2 ^ suc bit

top : (a b : ℕ) → 0 < bit_xor a b → a < 2 ^ 16 → b < 2 ^ 16 → Top (bit_xor a b)
top a b h ha hb =
    let t = leading_top 16 (bit_xor a b) h (xor_lt 16 a b ha hb) in
    record { bit = t.0; zeros = t.1; low = t.2; high = t.3 }

pub overflow_sub-result : goal.overflow_sub-result
overflow_sub-result c = let z = top c.args.a.0 c.args.b.0 (omega arith) (omega arith) (omega arith) in omega arith

pub returns : goal.returns
returns c =
    let a = c.args.a.0 in
    let b = c.args.b.0 in
    let z = top a b (omega arith) (omega arith) (omega arith) in
    let e : 15 - count_leading_zeros 16 (bit_xor a b) ≡ z.bit = omega arith in
    ap OtherNode e ∙ sym (found 16 z.bit a b (omega arith) z.low z.high)
