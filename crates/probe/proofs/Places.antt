-- What it tells that a place is one of so many, and that it is none. Assumes nothing.
use Prim.Native.Nat.{ℕ, ◌<◌, ◌≤◌}
use mathlib.Core.Path.{◌≡◌}
use lib.Dec.{ltb}
use borrow.Author.Tests.{ltb-true, ltb-false}
use Rattle.std.specs.Prelude.{Some, None}
use Rattle.laws.proofs.Order.{by_test, never}
use Rattle.probe.specs.Needs.{place_in}

module _ (place many : ℕ) where
  pub placed : (n : ℕ) → Some n ≡ place_in place many → (n ≡ place) × (place < many)
  placed n h =
      by_test (ltb place many)
      (λ e. let q : Some n ≡ Some place = rw e at h in ((cc), ltb-true place many e))
      (λ e. let q : Some n ≡ None = rw e at h in never (cc))

  pub unplaced : None ≡ place_in place many → many ≤ place
  unplaced h =
      by_test (ltb place many)
      (λ e. let q : None ≡ Some place = rw e at h in never (cc))
      (λ e. ltb-false place many e)
