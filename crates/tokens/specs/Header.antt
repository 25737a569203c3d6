-- "Three-byte header: number high byte, number low byte, channel. One-byte header: the low three bits of the number times 32,
-- plus a channel 0..31. A destination that is a switch's control unit has the two number bytes, then control SSCTRL 0xC3; it
-- exists at three-byte width only." (document 01, "Tokens and headers")
use Rattle.std.specs.Prelude.{ℕ, ◌+◌, ◌*◌, ◌/◌, ◌%◌, ◌^◌, ◌<◌, ◌≡◌, Bool, true, false, List, [], ◌∷◌, map, ltb, eqb}
use Rattle.laws.specs.Pick.{pick}
use Rattle.names.specs.Size.{channels, sink, numbers}
use Rattle.names.specs.Number.{high_byte, low_byte, of_bytes}
use Rattle.names.specs.declared.NodeNumber.{NodeNumber}
use Rattle.tokens.specs.Shape.{legal_channel}
use Rattle.tokens.specs.Word.{header_word, unit_word, value_of, is_control}
use Rattle.tokens.specs.declared.header.Target.{Target}
use Rattle.tokens.specs.declared.header.Target.TheVariants.{Channel, Unit}
use Rattle.tokens.specs.declared.header.Width.{Width}
use Rattle.tokens.specs.declared.header.Width.TheVariants.{One, Three}
use Rattle.tokens.specs.declared.header.Header.{Header}
use Rattle.tokens.specs.declared.header.Header.TheVariants as H

-- "sixteen bits at three-byte width, the low three at one-byte width" (document 01, "Routing")
abbrev pub compared_bits : Width → ℕ
compared_bits One = 3
compared_bits Three = 16

-- the bits of a number that a width compares
abbrev pub compared : Width → NodeNumber → NodeNumber
compared w n = record { 0 = n.0 % 2 ^ compared_bits w }

-- the two number bytes, then a last word
abbrev pub three_of : NodeNumber → ℕ → Header
three_of n last = H.Three (header_word (high_byte n) Three) (header_word (low_byte n) Three) last

-- the header of a destination at a width
unfoldable pub header_of : Target → Width → Header
header_of (Channel n c) One = pick (ltb c channels) (H.One (header_word ((compared One n).0 * channels + c) One)) H.Narrow
header_of (Unit n) One = H.Narrow
header_of (Channel n c) Three = three_of n (header_word c Three)
header_of (Unit n) Three = three_of n unit_word

-- a header's words in the order in which they are sent, and their values as the wire has them
abbrev pub words : Header → List ℕ
words H.Narrow = []
words (H.One a) = a ∷ []
words (H.Three a b c) = a ∷ b ∷ c ∷ []

abbrev pub values : Header → List ℕ
values h = map value_of (words h)

-- what a switch reads of the words
unfoldable pub read_one : ℕ → Target
read_one a = Channel (record { 0 = value_of a / channels }) (value_of a % channels)

unfoldable pub read_three : ℕ → ℕ → ℕ → Target
read_three a b c =
    pick (is_control c) (Unit (of_bytes (value_of a) (value_of b))) (Channel (of_bytes (value_of a) (value_of b)) (value_of c))

-- what a switch reads of a header; of none, nothing
abbrev pub Reads : Header → Target → Type 0
Reads H.Narrow t = ⊥
Reads (H.One a) t = read_one a ≡ t
Reads (H.Three a b c) t = read_three a b c ≡ t

-- what a width carries: sixteen bits of a number; a channel 0..31 at one byte, any byte at three; a control unit at three only
abbrev pub Carried : Width → Target → Type 0
Carried One (Channel n c) = (n.0 < numbers) × (c < channels)
Carried One (Unit n) = ⊥
Carried Three (Channel n c) = (n.0 < numbers) × (c < 256)
Carried Three (Unit n) = n.0 < numbers

-- a destination in the bits that a width compares
abbrev pub compared_target : Width → Target → Target
compared_target w (Channel n c) = Channel (compared w n) c
compared_target w (Unit n) = Unit (compared w n)

-- 9 Narrow: "opening at one-byte width towards channel 255 or a control unit"
abbrev pub narrow : Width → Target → Bool
narrow One (Channel n c) = eqb c sink
narrow One (Unit n) = true
narrow Three (Channel n c) = false
narrow Three (Unit n) = false

abbrev pub is_narrow : Header → Bool
is_narrow H.Narrow = true
is_narrow (H.One a) = false
is_narrow (H.Three a b c) = false

-- "channel 0..31 or 255"
abbrev pub legal_target : Target → Bool
legal_target (Channel n c) = legal_channel c
legal_target (Unit n) = true
