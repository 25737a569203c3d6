-- A number is its two bytes. Assumes nothing.
use mathlib.Core.Path.{◌≡◌}
use Prim.Native.Nat.{◌+◌, ◌*◌, ◌/◌, ◌%◌}
use native.Mathlib.Omega.{arith}
use Rattle.names.specs.declared.NodeNumber.{NodeNumber}
use Rattle.names.specs.Number.{high_byte, low_byte, of_bytes}

pub of_bytes_back : (n : NodeNumber) → of_bytes (high_byte n) (low_byte n) ≡ n
of_bytes_back n = let e : n.0 / 256 * 256 + n.0 % 256 ≡ n.0 = omega arith in λ i. record { 0 = e i }
