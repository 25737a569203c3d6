-- A word gives back the value and the marks that it was made of, and only the two control tokens END and PAUSE close. Assumes
-- nothing.
use mathlib.Core.Path.{◌≡◌}
use mathlib.Core.Bool.{Bool, true, false, ◌||◌}
use mathlib.Core.Logic.{◌⊎◌, ⊎_elim, inl, inr}
use Prim.Native.Nat.{ℕ, ◌<◌, ◌≤◌, ◌+◌, ◌*◌, ◌/◌, ◌%◌}
use native.Mathlib.Decide.{ℕ_discrete}
use native.Mathlib.Omega.{arith}
use lib.Dec.{eqb}
use borrow.Author.Tests.{eq-eqb, ne_eqb, eqb-true, eqb-false}
use Rattle.laws.proofs.Order.{by_test}
use Rattle.tokens.specs.Word.{bit, word, data_word, control_word, header_word, value_of, is_control, is_header, is_three, closes}
use Rattle.tokens.specs.Control.{end, pause}
use Rattle.tokens.specs.declared.header.Width.{Width}
use Rattle.tokens.specs.declared.header.Width.TheVariants.{One, Three}

-- a mark as a number below 2
bit_small : (b : Bool) → bit b < 2
bit_small true = omega arith
bit_small false = omega arith

of_bit : (n : ℕ) (b : Bool) → n ≡ bit b → eqb n 1 ≡ b
of_bit n true e = eq-eqb n 1 e
of_bit n false e = ne_eqb n 1 (λ h. omega arith)

module _ (v : ℕ) (c h t : Bool) (small : v < 256) where
  pub value_back : value_of (word v c h t) ≡ v
  value_back = omega arith

  pub control_back : is_control (word v c h t) ≡ c
  control_back = of_bit (word v c h t / 256 % 2) c (omega (arith, bit_small c, bit_small h, bit_small t))

  pub header_back : is_header (word v c h t) ≡ h
  header_back = of_bit (word v c h t / 512 % 2) h (omega (arith, bit_small c, bit_small h, bit_small t))

  pub three_back : is_three (word v c h t) ≡ t
  three_back = of_bit (word v c h t / 1024 % 2) t (omega (arith, bit_small c, bit_small h, bit_small t))

to_bit : (n : ℕ) → n < 2 → bit (eqb n 1) ≡ n
to_bit n l =
    by_test (eqb n 1)
    (λ e. rw (e, eqb-true n 1 e))
    (λ e. let d : n ≡ 1 → ⊥ = eqb-false n 1 e in rw e (omega arith))

-- a word below 2048 is its value and its marks, so two words with the same ones are the same
pub word_back : (w : ℕ) → w < 2048 → word (value_of w) (is_control w) (is_header w) (is_three w) ≡ w
word_back w l =
    let a : w / 256 ≡ 2 * (w / 512) + w / 256 % 2 = omega arith in
    let b : w / 512 ≡ 2 * (w / 1024) + w / 512 % 2 = omega arith in
    rw (to_bit (w / 256 % 2) (omega arith), to_bit (w / 512 % 2) (omega arith), to_bit (w / 1024 % 2) (omega arith)) (omega arith)

-- any word but the two closes nothing
pub open_word : (w : ℕ) → (w < 257) ⊎ (258 < w) → closes w ≡ false
unfolding closes
open_word w o =
    rw (ne_eqb w 257 (λ e. ⊎_elim (λ l. omega arith) (λ l. omega arith) o), ne_eqb w 258 (λ e. ⊎_elim (λ l. omega arith) (λ l. omega arith) o))

pub closing_word : (w : ℕ) → 257 ≤ w → w ≤ 258 → closes w ≡ true
unfolding closes
closing_word w l h =
    elim (ℕ_discrete w 257) [
      | yes e ↦ rw e
      | no e ↦ let q : w ≡ 258 = omega arith in rw q
    ]

-- data 1 and 2 close nothing, nor do header bytes of these values; of control tokens END and PAUSE alone close
module _ (v : ℕ) (small : v < 256) where
  pub data_open : closes (data_word v) ≡ false
  data_open = open_word (data_word v) (inl (omega arith))

  pub header_open : (w : Width) → closes (header_word v w) ≡ false
  header_open One = open_word (header_word v One) (inr (omega arith))
  header_open Three = open_word (header_word v Three) (inr (omega arith))

  pub control_closes : closes (control_word v) ≡ (eqb v end || eqb v pause)
  unfolding closes
  control_closes = rw (shifted end, shifted pause)
    where
      shifted : (k : ℕ) → eqb (v + 256) (k + 256) ≡ eqb v k
      shifted k =
          elim (ℕ_discrete v k) [
            | yes e ↦ rw (eq-eqb v k e, eq-eqb (v + 256) (k + 256) (omega arith))
            | no e ↦ rw (ne_eqb v k e, ne_eqb (v + 256) (k + 256) (λ q. e (omega arith)))
          ]
