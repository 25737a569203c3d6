-- "Control tokens: 0x00..0x7F application, of which 0x01 END and 0x02 PAUSE; 0x80..0xBF special; 0xC0..0xDF privileged;
-- 0xE0..0xFF hardware." (document 01, "Tokens and headers")
use Prim.{Unit, tt}
use Rattle.std.specs.Prelude.{ℕ, Bool, ◌&&◌, ◌||◌, Result, Ok, Err, eqb, ltb}
use Rattle.laws.specs.Pick.{pick}
use Rattle.names.specs.No.{number_by}
use Rattle.names.specs.declared.no.No.{No as Why}
use Rattle.names.specs.declared.no.No.TheVariants as No
use Rattle.tokens.specs.declared.control.Class.{Class}
use Rattle.tokens.specs.declared.control.Class.TheVariants.{Application, Special, Privileged, Hardware}

-- the values that document 01 names
abbrev pub end : ℕ
end = 0x01

abbrev pub pause : ℕ
pause = 0x02

abbrev pub ack : ℕ
ack = 0x03

abbrev pub nack : ℕ
nack = 0x04

abbrev pub writec : ℕ
writec = 0xC0

abbrev pub readc : ℕ
readc = 0xC1

abbrev pub ssctrl : ℕ
ssctrl = 0xC3

abbrev pub class_of : ℕ → Class
class_of v = pick (ltb v 0x80) Application (pick (ltb v 0xC0) Special (pick (ltb v 0xE0) Privileged Hardware))

-- 8 Privileged: "Output of control 0xC0..0xDF, but for 0xC0 and 0xC1 towards a control unit"
abbrev pub privileged_checked : ℕ → Bool → Result Unit Why
privileged_checked v to_unit = pick ((eqb v writec || eqb v readc) && to_unit) (Ok tt) (Err No.Privileged)

-- 7 Hardware: "Output of control 0xE0..0xFF"
abbrev pub class_checked : Class → ℕ → Bool → Result Unit Why
class_checked Application v to_unit = Ok tt
class_checked Special v to_unit = Ok tt
class_checked Privileged v to_unit = privileged_checked v to_unit
class_checked Hardware v to_unit = Err No.Hardware

-- what Output says of control token v, towards a control unit or not
unfoldable pub output_checked : ℕ → Bool → Result Unit Why
output_checked v to_unit = class_checked (class_of v) v to_unit

-- .. by its number for no
abbrev pub output_no : ℕ → Bool → ℕ
output_no v to_unit = number_by (output_checked v to_unit)
