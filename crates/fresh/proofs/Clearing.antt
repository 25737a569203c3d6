-- A memory of words of any width cleared from the front. Assumes nothing.
use Prim.Native.Nat.{ℕ, ◌+◌, ◌≤◌, ◌<◌, zero-le}
use mathlib.Core.Path.{◌≡◌, refl, ap, ◌∙◌}
use mathlib.Core.List.{List, ◌++◌, append-nil}
use native.Mathlib.Omega.{arith}
use lib.ListN.{length, set, drop, replicate, length-set}
use lib.Seq.{drop-length}
use borrow.Author.Fill.{fill_more}

-- the first i of the words that d had are 0, the others are as they were
pub record Cleared (d s : List ℕ) (i : ℕ) : Type 0 where
  pub within : i ≤ length d
  pub words : s ≡ replicate i 0 ++ drop i d
  pub long : length s ≡ length d

pub cleared_none : (d : List ℕ) → Cleared d d 0
cleared_none d = record { within = zero-le; words = refl; long = refl }

pub cleared_more : (d s : List ℕ) (i : ℕ) → Cleared d s i → i < length d → Cleared d (set s i 0) (i + 1)
cleared_more d s i c h =
    record {
      within = omega arith;
      words = ap (λ (l : List ℕ). set l i 0) c.words ∙ fill_more i 0 d h;
      long = length-set s i 0 ∙ c.long;
    }

pub cleared_all : (d s : List ℕ) (i : ℕ) → Cleared d s i → length d ≤ i → s ≡ replicate (length d) 0
cleared_all d s i c h =
    let e : i ≡ length d = omega (arith, c.within) in
    c.words ∙ rw (e, drop-length d, append-nil)
