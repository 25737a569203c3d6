-- `all` as a chain of iterators finds it: what its own contract says of the items, and `all` over their places. Assumes nothing.
use Prim.Native.Nat.{ℕ, ◌<◌, zero-le}
use mathlib.Core.Path.{◌≡◌, sym, ◌∙◌}
use mathlib.Core.Bool.{Bool, true, false}
use mathlib.Core.List.{List}
use native.Mathlib.Omega.{arith}
use lib.ListN.{length, get_or}
use Rattle.std.proofs.lemmas.List.FromFn.{length-range_with_len, get_or-range_with_len}
use Rattle.std.specs.Bool.{MatchBool}
use Rattle.std.specs.List.{AllWithin, HoldsAt, range_with_len}
use Rattle.laws.specs.All.{all}
use Rattle.laws.proofs.All.{each, as_is, all_miss}

-- what `all` answers of the items xs, where its closure answers g of an item
abbrev pub Found : (ℕ → Bool) → List ℕ → Bool → Type 0
Found g xs r =
    MatchBool r (AllWithin (λ x. g x ≡ true) xs 0 (length xs)) ((k : ℕ) × (k < length xs) × HoldsAt (λ x. g x ≡ false) xs k)

pub of_items : (g f : ℕ → Bool) (xs : List ℕ) (n : ℕ) (r : Bool) → length xs ≡ n → ((k : ℕ) → k < n → g (get_or xs k 0) ≡ f k)
    → Found g xs r
    → r ≡ all n f
of_items g f xs n true e same h =
    sym ((each {P = λ k. f k ≡ true} n f (λ k. as_is (f k))).back
    (λ k l. let one : g (get_or xs k 0) ≡ true = h k 0 zero-le (omega arith) in rw (← same k l, one)))
of_items g f xs n false e same h =
    let here : h.0 < n = let z = h.1 in omega arith in
    sym (all_miss f n h.0 here (rw (← same h.0 here) (h.2 0)))

-- the items 0, 1, .. n - 1
pub of_range : (f : ℕ → Bool) (n : ℕ) (r : Bool) → Found f (range_with_len 0 n) r → r ≡ all n f
of_range f n r h =
    of_items f f (range_with_len 0 n) n r (length-range_with_len 0 n)
    (λ k l. let e : get_or (range_with_len 0 n) k 0 ≡ k = get_or-range_with_len 0 n k 0 l ∙ omega arith in rw e) h
