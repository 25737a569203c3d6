-- What a test of a value's range says. Assumes nothing.
use Prim.Native.Nat.{ℕ, ◌<◌}
use mathlib.Core.Path.{◌≡◌, sym}
use mathlib.Core.Bool.{true}
use lib.Dec.{ltb}
use borrow.Author.Tests.{ltb-true}
use Rattle.laws.proofs.Order.{by_test, clash}
use Rattle.names.specs.Size.{numbers}
use Rattle.names.specs.Number.{is_number}

-- what `is_number` has tested fits a node's number
pub number_fits : (v : ℕ) → is_number v ≡ true → v < numbers
number_fits v e = by_test (ltb v numbers) (λ t. ltb-true v numbers t) (λ t. clash (sym (rw t at e)))
