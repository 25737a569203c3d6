-- "an even parity bit that causes both wires to go back to low state" (000, 3.1.1): both wires are low behind ten transitions exactly where
-- an even number of them is on wire 1. Assumes nothing.
use Prim.Native.Nat.{ℕ, zero, suc, ◌+◌, ◌*◌, ◌/◌, ◌%◌, ◌<◌}
use mathlib.Core.Path.{◌≡◌, refl, sym, ap, ◌∙◌}
use mathlib.Core.Bool.{true, not}
use mathlib.Core.List.{List, [], ◌∷◌}
use native.Mathlib.Decide.{ℕ_discrete}
use native.Mathlib.Nat.{zero-add, mod-add-mod}
use native.Mathlib.Omega.{arith}
use lib.Dec.{eqb, ltb}
use lib.ListN.{length, get_or}
use Rattle.laws.specs.All.{all, Each, Means}
use Rattle.laws.proofs.All.{equal, below, each, same_as}
use Rattle.laws.proofs.Order.{by_test, clash}
use Rattle.probe.specs.Wires.{low, changed, after}
use Rattle.probe.specs.Digits.{ones}
use Rattle.probe.specs.Form.{meaningless}
use Rattle.probe.specs.Serial.{serial_says}
use Rattle.probe.proofs.Tables.{agree}

-- how many ones a list of bits has
abbrev sum : List ℕ → ℕ
sum [] = 0
sum (x ∷ q) = x + sum q

ones_front : (n x : ℕ) (q : List ℕ) → ones (suc n) (x ∷ q) ≡ x + ones n q
unfolding ones
ones_front zero x q = omega arith
ones_front (suc n) x q = rw (ones_front n x q) (omega arith)

ones_all : (q : List ℕ) → ones (length q) q ≡ sum q
unfolding ones
ones_all [] = refl
ones_all (x ∷ q) = ones_front (length q) x q ∙ rw (ones_all q)

-- two wires, a and b, and a transition on either
zero_flips : (s : ℕ) → s < 4 → changed s 0 ≡ (s + 1) % 2 + 2 * (s / 2)
unfolding all changed
zero_flips = agree 4 (λ s. changed s 0) (λ s. (s + 1) % 2 + 2 * (s / 2)) refl

one_flips : (s : ℕ) → s < 4 → changed s 1 ≡ s % 2 + 2 * ((s / 2 + 1) % 2)
unfolding all changed
one_flips = agree 4 (λ s. changed s 1) (λ s. s % 2 + 2 * ((s / 2 + 1) % 2)) refl

-- what is high behind some transitions: n of them, m on wire 1
abbrev behind : ℕ → ℕ → ℕ → ℕ
behind s n m = (s + n + m) % 2 + 2 * ((s / 2 + m) % 2)

after_zero : (s n m : ℕ) → behind ((s + 1) % 2 + 2 * (s / 2)) n m ≡ behind s (suc n) m
after_zero s n m =
    let a : ((s + 1) % 2 + 2 * (s / 2) + n + m) % 2 ≡ (s + suc n + m) % 2 = omega arith in
    let b : ((s + 1) % 2 + 2 * (s / 2)) / 2 ≡ s / 2 = omega arith in
    rw (a, b)

after_one : (s n m : ℕ) → behind (s % 2 + 2 * ((s / 2 + 1) % 2)) n m ≡ behind s (suc n) (1 + m)
after_one s n m =
    let a : (s % 2 + 2 * ((s / 2 + 1) % 2) + n + m) % 2 ≡ (s + suc n + (1 + m)) % 2 = omega arith in
    let b : (s % 2 + 2 * ((s / 2 + 1) % 2)) / 2 ≡ (s / 2 + 1) % 2 = omega arith in
    let d : ((s / 2 + 1) % 2 + m) % 2 ≡ (s / 2 + (1 + m)) % 2 = mod-add-mod (s / 2 + 1) 2 m ∙ ap (λ (k : ℕ). k % 2) (omega arith) in
    rw (a, b, d)

levels : (q : List ℕ) → Each (λ x. x < 2) q → (s : ℕ) → s < 4 → after s q ≡ behind s (length q) (sum q)
unfolding after
levels [] e s h = omega arith
levels (x ∷ q) e s h =
    elim (ℕ_discrete x 0) [
      | yes z ↦
          rw (z, zero_flips s h, zero-add) (levels q e.1 ((s + 1) % 2 + 2 * (s / 2)) (omega arith) ∙ after_zero s (length q) (sum q))
      | no z ↦
          let o : x ≡ 1 = omega (arith, e.0) in
          rw (o, one_flips s h) (levels q e.1 (s % 2 + 2 * ((s / 2 + 1) % 2)) (omega arith) ∙ after_one s (length q) (sum q))
    ]

-- both wires are low exactly where the ones are even
pub even_low : (q : List ℕ) → length q ≡ 10 → Each (λ x. x < 2) q → Means (eqb (ones 10 q % 2) 0) (after low q ≡ low)
even_low q d e =
    let many : ones 10 q ≡ sum q = ap (λ (n : ℕ). ones n q) (sym d) ∙ ones_all q in
    let here : after low q ≡ behind low (length q) (sum q) = levels q e low (omega arith) in
    same_as (λ z. omega arith) (λ z. omega arith) (equal (ones 10 q % 2) 0)

each_at : (q : List ℕ) → Each (λ x. x < 2) q → (i : ℕ) → i < length q → get_or q i 0 < 2
each_at [] e i h = absurd (omega arith)
each_at (x ∷ q) e zero h = e.0
each_at (x ∷ q) e (suc i) h = each_at q e.1 i (omega arith)

-- THE THEOREM. Ten transitions on the two wires have a meaning exactly where they bring both low
pub parity : (q : List ℕ) → length q ≡ 10 → Each (λ x. x < 2) q → Means (not (meaningless (serial_says q))) (after low q ≡ low)
unfolding serial_says
parity q d e =
    let bits : all 10 (λ i. ltb (get_or q i 0) 2) ≡ true =
    (each 10 (λ i. ltb (get_or q i 0) 2) (λ i. below (get_or q i 0) 2)).back (λ i h. each_at q e i (omega arith)) in
    by_test (eqb (ones 10 q % 2) 0)
    (λ h. rw (bits, h) (record { sure = λ z. (even_low q d e).sure h; back = λ z. refl }))
    (λ h. rw (bits, h) (record { sure = λ z. clash (sym z); back = λ z. clash (sym ((even_low q d e).back z) ∙ h) }))
