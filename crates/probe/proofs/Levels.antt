-- The wires through transitions: a state stays one, and one stretch after another. Assumes nothing.
use Prim.Native.Nat.{ℕ, ◌+◌, ◌*◌, ◌/◌, ◌%◌, ◌^◌, ◌<◌, ◌≤◌}
use mathlib.Core.Path.{◌≡◌, refl, ◌∙◌}
use mathlib.Core.Bool.{true}
use mathlib.Core.Logic.{⊎_elim}
use mathlib.Core.List.{List, [], ◌∷◌, ◌++◌}
use native.Mathlib.Nat.{div-eq_of_lt}
use native.Mathlib.Numerals.{add-one}
use native.Mathlib.Omega.{arith}
use lib.Dec.{eqb, ltb, leb}
use lib.ListN.{get_or, length, take}
use lib.Seq.{take-suc}
use borrow.Author.Tests.{le-ltb, leb-true, ltb-true}
use Rattle.std.specs.List.{fold}
use Rattle.std.specs.Int.Bits.{bit_xor}
use Rattle.laws.specs.All.{all}
use Rattle.laws.proofs.Order.{order}
use Rattle.probe.specs.Wires.{changed, after}
use Rattle.probe.proofs.Tables.{at, agree}

-- the bit of each wire
abbrev bits : List ℕ
bits = 1 ∷ 2 ∷ 4 ∷ 8 ∷ 16 ∷ []

pub bit_is : (i : ℕ) → i < 5 → get_or bits i 0 ≡ 2 ^ i
unfolding all
bit_is = agree 5 (λ i. get_or bits i 0) (λ i. 2 ^ i) refl

pub bit_small : (i : ℕ) → i < 5 → get_or bits i 0 ≤ 16
unfolding all
bit_small i h = leb-true _ 16 (at 5 (λ i. leb (get_or bits i 0) 16) refl i h)

pub bit_some : (i : ℕ) → i < 5 → 0 < get_or bits i 0
unfolding all
bit_some i h = ltb-true 0 _ (at 5 (λ i. ltb 0 (get_or bits i 0)) refl i h)

-- a wire that is high is a part of the number
pub bit_taken : (s i : ℕ) → i < 5 → s / get_or bits i 0 % 2 ≡ 1 → get_or bits i 0 ≤ s
bit_taken s i h e =
    ⊎_elim
    (λ l. let none : s / get_or bits i 0 ≡ 0 = div-eq_of_lt l in absurd (omega arith))
    (λ l. l)
    (order s (get_or bits i 0))

-- the code's way to change a wire
pub is_changed : (s i : ℕ) → s < 256 → i < 5 → bit_xor s (1 * 2 ^ i % 256) ≡ changed s i
unfolding all changed
is_changed s i h l =
    let here = at 256 (λ s. all 5 (λ i. eqb (bit_xor s (1 * 2 ^ i % 256)) (changed s i))) refl s h in
    agree 5 (λ i. bit_xor s (1 * 2 ^ i % 256)) (λ i. changed s i) here i l

pub none_there : (s i : ℕ) → 4 < i → s ≡ changed s i
unfolding changed
none_there s i h = rw (le-ltb i 5 (omega arith))

-- a state of five wires stays one
all_small : all 32 (λ s. all 5 (λ i. ltb (changed s i) 32)) ≡ true
unfolding all changed
all_small = refl

pub changed_small : (s i : ℕ) → s < 32 → changed s i < 32
unfolding changed
changed_small s i h =
    ⊎_elim
    (λ l. ltb-true _ 32 (at 5 (λ i. ltb (changed s i) 32) (at 32 (λ s. all 5 (λ i. ltb (changed s i) 32)) all_small s h) i l))
    (λ l. rw (le-ltb i 5 l) h)
    (order i 5)

pub after_small : (q : List ℕ) (s : ℕ) → s < 32 → after s q < 32
unfolding after
after_small [] s h = h
after_small (x ∷ q) s h = after_small q (changed s x) (changed_small s x h)

-- transitions in two parts; one more
pub after_append : (q p : List ℕ) (s : ℕ) → after s (q ++ p) ≡ after (after s q) p
unfolding after
after_append [] p s = refl
after_append (x ∷ q) p s = after_append q p (changed s x)

pub after_none : (s : ℕ) → after s [] ≡ s
unfolding after
after_none s = refl

after_one : (s x : ℕ) → after s (x ∷ []) ≡ changed s x
unfolding after
after_one s x = refl

pub after_next : (s : ℕ) (l : List ℕ) (i : ℕ) → i < length l → after s (take (i + 1) l) ≡ changed (after s (take i l)) (get_or l i 0)
after_next s l i h = rw (add-one, take-suc l i 0) (after_append (take i l) (get_or l i 0 ∷ []) s ∙ after_one _ _)

-- the library's fold
pub after_folds : (q : List ℕ) (s : ℕ) → fold changed s q ≡ after s q
unfolding after
after_folds [] s = refl
after_folds (x ∷ q) s = after_folds q (changed s x)
