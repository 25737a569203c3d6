-- A node's number, from a wide value and in bytes.
use Rattle.std.specs.Prelude.{ℕ, ◌+◌, ◌*◌, ◌/◌, ◌%◌, Bool, ltb, Option, Some, None, is_some}
use Rattle.laws.specs.Pick.{pick}
use Rattle.names.specs.Size.{numbers}
use Rattle.names.specs.declared.NodeNumber.{NodeNumber}

-- a wide value as a number, if it is one
abbrev pub ranged : ℕ → Option NodeNumber
ranged v = pick (ltb v numbers) (Some (record { 0 = v })) None

abbrev pub is_number : ℕ → Bool
is_number v = is_some (ranged v)

-- "number high byte, number low byte"
abbrev pub high_byte : NodeNumber → ℕ
high_byte n = n.0 / 256

abbrev pub low_byte : NodeNumber → ℕ
low_byte n = n.0 % 256

abbrev pub of_bytes : ℕ → ℕ → NodeNumber
of_bytes high low = record { 0 = high * 256 + low }
