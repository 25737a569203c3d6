-- Ten transitions as a loop reads them. Assumes nothing.
use Prim.Native.Nat.{ℕ, ◌+◌, ◌*◌, ◌/◌, ◌%◌, ◌^◌, ◌<◌, ◌≤◌}
use mathlib.Core.Path.{◌≡◌, refl, ap}
use mathlib.Core.Bool.{true}
use mathlib.Core.List.{List}
use native.Mathlib.Nat.{pow-suc}
use native.Mathlib.Numerals.{add-one}
use native.Mathlib.Omega.{arith}
use lib.Dec.{ltb, leb}
use lib.ListN.{get_or}
use borrow.Author.Tests.{lt-ltb, le-ltb, ltb-true, eq-eqb, ne_eqb, leb-true}
use Rattle.laws.specs.All.{all}
use Rattle.laws.proofs.All.{all_none, all_more, all_miss}
use Rattle.probe.specs.Digits.{number, ones}
use Rattle.probe.specs.Serial.{serial_says}
use Rattle.probe.specs.declared.sequence.Said.TheVariants.{Token, Nothing}
use Rattle.probe.proofs.Tables.{at}

-- a power of 2 below the tenth
power : (i : ℕ) → i < 10 → 2 ^ i ≤ 512
unfolding all
power i h = leb-true (2 ^ i) 512 (at 10 (λ i. leb (2 ^ i) 512) refl i h)

module _ (q : List ℕ) where
  -- the state of a loop before the i-th transition
  pub record Sofar (i bits sum : ℕ) : Type 0 where
    pub inside : i ≤ 10
    pub value : bits ≡ number 2 i q
    pub parity : sum ≡ ones i q
    pub binary : all i (λ j. ltb (get_or q j 0) 2) ≡ true
    pub few : bits < 2 ^ i
    pub small : sum ≤ i

  pub sofar_none : Sofar 0 0 0
  unfolding number ones
  sofar_none =
      record {
        inside = omega arith;
        value = refl;
        parity = refl;
        binary = all_none (λ j. ltb (get_or q j 0) 2);
        few = omega arith;
        small = omega arith;
      }

  module _ (i bits sum : ℕ) (s : Sofar i bits sum) where
    pub few_bits : i < 10 → bits < 512
    few_bits h = omega (arith, s.few, power i h)

    module _ (h : i < 10) where
      pub sofar_next : get_or q i 0 ≤ 1 → Sofar (i + 1) (bits * 2 + get_or q i 0) (sum + get_or q i 0)
      unfolding number ones
      sofar_next l =
          record {
            inside = omega arith;
            value = rw (add-one, ← s.value);
            parity = rw (add-one, ← s.parity);
            binary = all_more (λ j. ltb (get_or q j 0) 2) i s.binary (lt-ltb (get_or q i 0) 2 (omega arith));
            few = rw (add-one, pow-suc) (omega (arith, s.few));
            small = omega (arith, s.small);
          }

      pub no_bit : 1 < get_or q i 0 → Nothing ≡ serial_says q
      unfolding serial_says
      no_bit l = rw (all_miss (λ j. ltb (get_or q j 0) 2) 10 i h (le-ltb (get_or q i 0) 2 (omega arith)))

  -- the end of the loop
  pub ten : (i bits sum : ℕ) → Sofar i bits sum → 10 ≤ i → Sofar 10 bits sum
  ten i bits sum s l = let e : i ≡ 10 = omega (arith, s.inside) in rw e at s

  module _ (bits sum : ℕ) (s : Sofar 10 bits sum) where
    pub odd : sum % 2 ≡ 1 → Nothing ≡ serial_says q
    unfolding serial_says
    odd e =
        let n : ones 10 q % 2 ≡ 1 = rw (← s.parity) e in
        rw (s.binary, ne_eqb (ones 10 q % 2) 0 (λ z. omega arith))

    pub even : (sum % 2 ≡ 1 → ⊥) → Token (bits / 4 + bits / 2 % 2 * 256) ≡ serial_says q
    unfolding serial_says number
    even e =
        let n : ones 10 q % 2 ≡ 0 = rw (← s.parity) (omega arith) in
        let c : get_or q 8 0 < 2 = ltb-true (get_or q 8 0) 2 (at 10 (λ j. ltb (get_or q j 0) 2) s.binary 8 (omega arith)) in
        let p : get_or q 9 0 < 2 = ltb-true (get_or q 9 0) 2 (at 10 (λ j. ltb (get_or q j 0) 2) s.binary 9 (omega arith)) in
        let split : bits ≡ (number 2 8 q * 2 + get_or q 8 0) * 2 + get_or q 9 0 = s.value in
        let told : bits / 4 + bits / 2 % 2 * 256 ≡ number 2 8 q + 256 * get_or q 8 0 = omega arith in
        rw (s.binary, eq-eqb (ones 10 q % 2) 0 n) (ap Token told)

  -- an odd number of ones at the end of the loop
  pub odd_end : (i bits sum : ℕ) → Sofar i bits sum → 10 ≤ i → sum % 2 ≡ 1 → Nothing ≡ serial_says q
  odd_end i bits sum s l e = odd bits sum (ten i bits sum s l) e

  -- .. and an even one
  pub even_end : (i bits sum : ℕ)
      → Sofar i bits sum
      → 10 ≤ i
      → (sum % 2 ≡ 1 → ⊥)
      → Token (bits / 4 + bits / 2 % 2 * 256) ≡ serial_says q
  even_end i bits sum s l e = even bits sum (ten i bits sum s l) e
