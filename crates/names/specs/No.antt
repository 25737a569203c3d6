-- Document 01, "Numbers for no": each name and its number.
use Prim.{Unit}
use Rattle.std.specs.Prelude.{ℕ, Result, Ok, Err}
use Rattle.names.specs.declared.no.No.{No}
use Rattle.names.specs.declared.no.No.TheVariants.{Unsound, NoSuch, Value, Busy, Unaimed, Open, Hardware, Privileged, Narrow, Full, Empty, Trap}

abbrev pub number : No → ℕ
number Unsound = 1
number NoSuch = 2
number Value = 3
number Busy = 4
number Unaimed = 5
number Open = 6
number Hardware = 7
number Privileged = 8
number Narrow = 9
number Full = 10
number Empty = 11
number Trap = 12

-- what stands for no refusal
abbrev pub passes : ℕ
passes = 0

-- the number that a test gives
abbrev pub number_by : Result Unit No → ℕ
number_by (Ok u) = passes
number_by (Err k) = number k
