-- What a control unit hears (document 01, "Switch messages").
use Rattle.std.specs.Prelude.{ℕ, ◌+◌, ◌*◌, Bool, ◌&&◌, ◌||◌, eqb, ltb, leb, get_or, set}
use Rattle.laws.specs.Pick.{pick}
use Rattle.names.specs.Size.{unit_buffer}
use Rattle.tokens.specs.Control.{writec, readc}
use Rattle.tokens.specs.Word.{control_word, value_of, is_pause}
use Rattle.tokens.specs.Shape.{legal_channel}
use Rattle.tokens.specs.declared.header.Target.{Target}
use Rattle.tokens.specs.declared.header.Target.TheVariants.{Channel}
use Rattle.cells.specs.View.{Net, with_hearing}
use Rattle.cells.specs.declared.unit.Hearing.{Hearing}
use Rattle.messages.specs.Register.{register_of, is_known}
use Rattle.messages.specs.declared.register.Register.{Register}
use Rattle.messages.specs.declared.heard.Message.{Message}
use Rattle.messages.specs.declared.heard.Message.TheVariants.{Malformed, Wrong, Read, Write}

-- a token of a message is kept behind those heard, as long as there is room; a message that goes on past it is too long, whatever comes
abbrev pub hears_word : Hearing → ℕ → Hearing
hears_word k x = pick (ltb k.heard unit_buffer) (record { heard = k.heard + 1; tokens = set k.tokens k.heard x }) k

abbrev pub listens : Net → ℕ → ℕ → Net
listens s n x = with_hearing s n (hears_word (s.units.hearings n 0) x)

-- the i-th token heard
abbrev pub token : Hearing → ℕ → ℕ
token k i = get_or k.tokens i 0

-- two tokens from the i-th on that are data, and two and four bytes from there on: "All multi-byte values high byte first."
abbrev pub two_data : Hearing → ℕ → Bool
two_data k i = ltb (token k i) 0x100 && ltb (token k (i + 1)) 0x100

abbrev pub two : Hearing → ℕ → ℕ
two k i = value_of (token k i) * 0x100 + value_of (token k (i + 1))

abbrev pub four : Hearing → ℕ → ℕ
four k i = two k i * 0x10000 + two k (i + 2)

-- "A known reply address (command and three data bytes, channel 0..31 or 255)": a word that is such a channel is data
abbrev pub is_command : ℕ → Bool
is_command x = eqb x (control_word writec) || eqb x (control_word readc)

abbrev pub has_reply : Hearing → Bool
has_reply k = leb 4 k.heard && (is_command (token k 0) && (two_data k 1 && legal_channel (token k 3)))

abbrev pub reply_to : Hearing → Target
reply_to k = Channel (record { 0 = two k 1 }) (value_of (token k 3))

-- "Write: WRITEC 0xC0, two bytes reply number, one reply channel, two address, four data, END. Read: READC 0xC1, the same without data."
abbrev pub is_write : Hearing → Bool
is_write k = eqb (token k 0) (control_word writec) && (eqb k.heard 10 && (two_data k 4 && (two_data k 6 && two_data k 8)))

abbrev pub is_read : Hearing → Bool
is_read k = eqb (token k 0) (control_word readc) && (eqb k.heard 6 && two_data k 4)

-- ".. with anything else wrong, an unknown address": Wrong
abbrev pub order_of : Hearing → Target → Register → Message
order_of k g r =
    pick (is_write k && is_known r) (Write g r (four k 6)) (pick (is_read k && is_known r) (Read g r) (Wrong g))

-- what a message says that END or PAUSE has ended: "No known reply address, or PAUSE as the end: no reply, answer Malformed."
unfoldable pub message_of : Hearing → ℕ → Message
message_of k x =
    pick (is_pause x) Malformed (pick (has_reply k) (order_of k (reply_to k) (register_of (two k 4))) Malformed)
