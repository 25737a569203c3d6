-- A word of token memory: the value in bits 0 to 7; bit 8 for a control token; bit 9 for a token of a header; bit 10, with bit 9,
-- for a header of three bytes. "Each header token held in the bench is marked as a header and with its width."
use Rattle.std.specs.Prelude.{ℕ, ◌+◌, ◌*◌, ◌/◌, ◌%◌, Bool, true, false, ◌||◌, eqb}
use Rattle.tokens.specs.Control.{end, pause, ssctrl}
use Rattle.tokens.specs.declared.header.Width.{Width}
use Rattle.tokens.specs.declared.header.Width.TheVariants.{One, Three}

abbrev pub bit : Bool → ℕ
bit true = 1
bit false = 0

-- the word of a value and its three marks: control, header, three bytes
abbrev pub word : ℕ → Bool → Bool → Bool → ℕ
word v c h t = v + (256 * bit c + 512 * bit h + 1024 * bit t)

abbrev pub data_word : ℕ → ℕ
data_word v = word v false false false

abbrev pub control_word : ℕ → ℕ
control_word v = word v true false false

abbrev pub wide : Width → Bool
wide One = false
wide Three = true

-- a data token of a header of that width
abbrev pub header_word : ℕ → Width → ℕ
header_word v w = word v false true (wide w)

-- the control token of a header, "control SSCTRL 0xC3; it exists at three-byte width only"
abbrev pub unit_word : ℕ
unit_word = word ssctrl true true true

abbrev pub value_of : ℕ → ℕ
value_of w = w % 256

abbrev pub is_control : ℕ → Bool
is_control w = eqb (w / 256 % 2) 1

abbrev pub is_header : ℕ → Bool
is_header w = eqb (w / 512 % 2) 1

abbrev pub is_three : ℕ → Bool
is_three w = eqb (w / 1024 % 2) 1

-- "END and PAUSE close the hop": the control tokens, and no other word
unfoldable pub closes : ℕ → Bool
closes w = eqb w (control_word end) || eqb w (control_word pause)

abbrev pub is_pause : ℕ → Bool
is_pause w = eqb w (control_word pause)
