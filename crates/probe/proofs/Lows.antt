-- The wires between tokens: a serial link's are low behind each, a fast link's behind END and PAUSE with their returns. Assumes nothing.
use Prim.Native.Nat.{ℕ, zero, suc, ◌+◌, ◌%◌, ◌<◌}
use mathlib.Core.Path.{◌≡◌, refl, ap, ◌∙◌}
use mathlib.Core.Bool.{Bool, true, ◌&&◌, ◌||◌}
use mathlib.Core.Logic.{⊎_elim}
use mathlib.Core.List.{List, [], ◌∷◌}
use native.Mathlib.Decide.{ℕ_discrete}
use native.Mathlib.Omega.{arith}
use lib.Dec.{eqb, ltb}
use lib.ListN.{length, get_or}
use borrow.Author.Tests.{ne_eqb}
use Rattle.laws.specs.All.{all, first}
use Rattle.laws.proofs.All.{also, either, equal, below, as_is}
use Rattle.tokens.specs.Word.{closes}
use Rattle.probe.specs.Wires.{low, changed, after, high}
use Rattle.probe.specs.Digits.{ones}
use Rattle.probe.specs.Form.{unmarked, written}
use Rattle.probe.specs.Serial.{serial, serial_one}
use Rattle.probe.specs.Fast.{fast, fast_one, link_value, least_of, returned, closing}
use Rattle.probe.proofs.Tables.{at, agree}
use Rattle.probe.proofs.Levels.{changed_small, after_small, after_append}
use Rattle.probe.proofs.Writing.{written_next}
use Rattle.probe.proofs.Faithfuls.{steady}

-- "The two signal wires are both at rest between tokens" (002, 4.2)
rest_tested : all 512 (λ t. eqb (after low (serial_one t)) low) ≡ true
unfolding all changed after ones serial_one
rest_tested = refl

pub at_rest : (ts : List ℕ) (n : ℕ) → after low (written serial ts n) ≡ low
unfolding written after serial
at_rest ts zero = refl
at_rest ts (suc n) =
    let one = agree 512 (λ t. after low (serial_one t)) (λ t. low) rest_tested (unmarked (get_or ts n 0)) (omega arith) in
    after_append (written serial ts n) (serial_one (unmarked (get_or ts n 0))) low
    ∙ ap (λ (s : ℕ). after s (serial_one (unmarked (get_or ts n 0)))) (at_rest ts n)
    ∙ one

none_high : high low % 2 ≡ 0
unfolding high
none_high = refl

-- each transition changes whether the number of high wires is even
flips_tested : all 32 (λ s. all 5 (λ x. eqb (high (changed s x) % 2) ((high s + 1) % 2))) ≡ true
unfolding all changed high
flips_tested = refl

flips : (s x : ℕ) → s < 32 → x < 5 → high (changed s x) % 2 ≡ (high s + 1) % 2
flips s x h l =
    let here = at 32 (λ s. all 5 (λ x. eqb (high (changed s x) % 2) ((high s + 1) % 2))) flips_tested s h in
    agree 5 (λ x. high (changed s x) % 2) (λ x. (high s + 1) % 2) here x l

-- so as many as are even keep it
abbrev wired : List ℕ → Bool
wired [] = true
wired (x ∷ q) = ltb x 5 && wired q

keeps : (q : List ℕ) (s : ℕ) → s < 32 → wired q ≡ true → high (after s q) % 2 ≡ (high s + length q) % 2
unfolding after
keeps [] s h w = ap (λ (n : ℕ). n % 2) (omega arith)
keeps (x ∷ q) s h w =
    let m = (also (below x 5) (as_is (wired q))).sure w in
    let one = flips s x h m.0 in
    keeps q (changed s x) (changed_small s x h) m.1 ∙ omega (arith, one)

-- every token has an even number of transitions, and END and PAUSE end low where an even number was high
tokens_tested : all 512 (λ t. wired (fast_one 0 t) && eqb (length (fast_one 0 t) % 2) 0) ≡ true
unfolding all first changed after high fast_one link_value least_of returned closing
tokens_tested = refl

abbrev ends_low : ℕ → Bool
ends_low s = eqb (high s % 2) 1 || (eqb (after s (fast_one s 257)) low && eqb (after s (fast_one s 258)) low)

closings_tested : all 32 ends_low ≡ true
unfolding all first changed after high fast_one link_value least_of returned closing
closings_tested = refl

module _ (s : ℕ) (h : s < 32) (even : high s % 2 ≡ 0) where
  two_low : (after s (fast_one s 257) ≡ low) × (after s (fast_one s 258) ≡ low)
  two_low =
      let e = rw (ne_eqb (high s % 2) 1 (λ q. omega arith)) at (at 32 ends_low closings_tested s h) in
      (also (equal (after s (fast_one s 257)) low) (equal (after s (fast_one s 258)) low)).sure e

  closed_low : (t : ℕ) → closes t ≡ true → after s (fast_one s t) ≡ low
  unfolding closes
  closed_low t e =
      ⊎_elim
      (λ q. rw q two_low.0)
      (λ q. rw q two_low.1)
      ((either (equal t 257) (equal t 258)).sure e)

  stays_even : (t : ℕ) → t < 512 → high (after s (fast_one s t)) % 2 ≡ 0
  stays_even t l =
      elim (ℕ_discrete t 257) [
        | yes e ↦ rw (e, two_low.0) none_high
        | no e ↦ elim (ℕ_discrete t 258) [
          | yes p ↦ rw (p, two_low.1) none_high
          | no p ↦
              let m = (also (as_is (wired (fast_one 0 t))) (equal (length (fast_one 0 t) % 2) 0)).sure
              (at 512 (λ t. wired (fast_one 0 t) && eqb (length (fast_one 0 t) % 2) 0) tokens_tested t l) in
              rw (steady s t l e p) (keeps (fast_one 0 t) s h m.0 ∙ omega (arith, m.1))
        ]
      ]

-- THE THEOREM. Between tokens an even number of wires is high, and behind END or PAUSE with its return none is
pub even_high : (ts : List ℕ) (n : ℕ) → high (after low (written fast ts n)) % 2 ≡ 0
unfolding written after fast
even_high ts zero = none_high
even_high ts (suc n) =
    let w = written fast ts n in
    let t = unmarked (get_or ts n 0) in
    rw after_append (stays_even (after low w) (after_small w low (omega arith)) (even_high ts n) t (omega arith))

pub all_low : (ts : List ℕ) (n : ℕ) → closes (unmarked (get_or ts n 0)) ≡ true → after low (written fast ts (n + 1)) ≡ low
unfolding fast
all_low ts n e =
    let w = written fast ts n in
    let t = unmarked (get_or ts n 0) in
    rw (written_next, after_append) (closed_low (after low w) (after_small w low (omega arith)) (even_high ts n) t e)
