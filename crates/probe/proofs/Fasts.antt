-- The four transitions that the code reads, as the definition reads them off a sequence. Assumes nothing.
use Prim.Native.Nat.{ℕ, ◌+◌, ◌*◌, ◌<◌}
use mathlib.Core.Path.{◌≡◌}
use mathlib.Core.Bool.{Bool, true, false, not, ◌&&◌}
use mathlib.Core.List.{List}
use lib.Dec.{ltb}
use lib.ListN.{get_or}
use native.Mathlib.Nat.{add-zero}
use native.Mathlib.Omega.{arith}
use borrow.Author.Tests.{lt-ltb, le-ltb, not-true, not-false}
use Rattle.laws.specs.Pick.{pick}
use Rattle.laws.specs.All.{all}
use Rattle.laws.specs.Row.{row}
use Rattle.laws.proofs.All.{below, also, all_miss}
use Rattle.laws.proofs.Row.{row_at}
use Rattle.probe.specs.Digits.{number}
use Rattle.probe.specs.Fast.{three, four, symbols_say, fast_says}
use Rattle.probe.specs.declared.sequence.Said.{Said}
use Rattle.probe.specs.declared.sequence.Said.TheVariants.{Nothing}

-- the value of three symbols and of four, as the code adds them up
pub three_is : (k a b c : ℕ) → k + a * 16 + b * 4 + c ≡ k + three a b c
unfolding number
three_is k a b c = omega arith

pub four_is : (a b c d : ℕ) → a * 64 + b * 16 + c * 4 + d ≡ four a b c d
unfolding number
four_is a b c d = omega arith

-- four symbols that are wires
abbrev wired : ℕ → ℕ → ℕ → ℕ → Bool
wired a b c d = ((ltb a 5 && ltb b 5) && ltb c 5) && ltb d 5

pub each_wired : (a b c d : ℕ) → not (wired a b c d) ≡ false → (a < 5) × (b < 5) × (c < 5) × (d < 5)
each_wired a b c d e =
    let m = (also (also (also (below a 5) (below b 5)) (below c 5)) (below d 5)).sure (not-false (wired a b c d) e) in
    (m.0.0.0, m.0.0.1, m.0.1, m.1)

module _ (xs : List ℕ) (at : ℕ) where
  abbrev asked : Bool
  asked = wired (get_or xs at 0) (get_or xs (at + 1) 0) (get_or xs (at + 2) 0) (get_or xs (at + 3) 0)

  abbrev said : Said
  said = symbols_say (get_or xs at 0) (get_or xs (at + 1) 0) (get_or xs (at + 2) 0) (get_or xs (at + 3) 0)

  read_four : fast_says (row 4 at xs) ≡ pick asked said Nothing
  unfolding fast_says all
  read_four =
      let here : (j : ℕ) → j < 4 → get_or (row 4 at xs) j 0 ≡ get_or xs (at + j) 0 = λ j. row_at 4 at j xs 0 in
      rw (here 0 (omega arith), here 1 (omega arith), here 2 (omega arith), here 3 (omega arith), add-zero at)

  pub four_unsaid : not asked ≡ true → Nothing ≡ fast_says (row 4 at xs)
  four_unsaid e = rw (read_four, not-true asked e)

  pub four_said : not asked ≡ false → said ≡ fast_says (row 4 at xs)
  four_said e = rw (read_four, not-false asked e)

-- .. and as the code reads them: all four are wires, and one is none
module _ (q : List ℕ) where
  pub wires_said : get_or q 0 0 < 5
      → get_or q 1 0 < 5
      → get_or q 2 0 < 5
      → get_or q 3 0 < 5
      → symbols_say (get_or q 0 0) (get_or q 1 0) (get_or q 2 0) (get_or q 3 0) ≡ fast_says q
  unfolding fast_says all
  wires_said a b c d = rw (lt-ltb _ _ a, lt-ltb _ _ b, lt-ltb _ _ c, lt-ltb _ _ d)

  pub no_wire_unsaid : (i : ℕ) → i < 4 → 4 < get_or q i 0 → Nothing ≡ fast_says q
  unfolding fast_says
  no_wire_unsaid i h l = rw (all_miss (λ i. ltb (get_or q i 0) 5) 4 i h (le-ltb (get_or q i 0) 5 (omega arith)))
