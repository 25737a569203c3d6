-- "tokens and headers are legal" (document 01, "Sound"), as far as one word shows it.
use Rattle.std.specs.Prelude.{ℕ, ◌-◌, Bool, ◌||◌, eqb, ltb}
use Rattle.laws.specs.Pick.{pick}
use Rattle.names.specs.Size.{channels, sink}
use Rattle.tokens.specs.Control.{ssctrl}
use Rattle.tokens.specs.Word.{control_word, closes}

-- what a word is to the grammar of a port's contents
pub data Shape : Type 0 where
  -- no legal token
  Wrong : Shape
  -- a token past the header that closes nothing
  Body : Shape
  -- END or PAUSE
  Closing : Shape
  -- a header of one byte
  OneByte : Shape
  -- a byte of a three-byte header that is no channel
  ThreeByte : Shape
  -- a byte of a three-byte header that is a channel too
  Channel : Shape
  -- SSCTRL
  Unit : Shape

-- "channel 0..31 or 255"
unfoldable pub legal_channel : ℕ → Bool
legal_channel c = ltb c channels || eqb c sink

-- a token of a three-byte header, its marks taken off: any data, of control SSCTRL alone
unfoldable pub three_shape : ℕ → Shape
three_shape m =
    pick (legal_channel m) Channel (pick (ltb m 0x100) ThreeByte (pick (eqb m (control_word ssctrl)) Unit Wrong))

-- END and PAUSE; data, and control that Output lets out; other control; a header of one byte; marks that no token has; a header of
-- three bytes
unfoldable pub shape_of : ℕ → Shape
shape_of w =
    pick (closes w) Closing
    (pick (ltb w 0x1C2) Body
    (pick (ltb w 0x200) Wrong (pick (ltb w 0x300) OneByte (pick (ltb w 0x600) Wrong (three_shape (w - 0x600))))))
