-- Document 01, "Both sides of the line": the starred cases, of the very definitions that the contracts cite.
use Rattle.std.specs.Prelude.{◌≡◌, [], ◌∷◌, ℕ}
use Rattle.credits.specs.Grant.{grant_of}
use Rattle.names.specs.declared.NodeNumber.{NodeNumber}
use Rattle.routing.specs.Way.{way_to, ThisNode, OtherNode}
use Rattle.tokens.specs.Header.{header_of, values}
use Rattle.tokens.specs.declared.header.Target.TheVariants.{Channel}
use Rattle.tokens.specs.declared.header.Width.TheVariants.{One, Three}

abbrev number : ℕ → NodeNumber
number n = record { 0 = n }

pub record Starred : Type 0 where
  -- "0x0125, channel 7, three-byte: 01 25 07. Number 5, channel 7, one-byte: A7. Number 9, channel 7, one-byte: 27."
  pub three_byte : values (header_of (Channel (number 0x0125) 7) Three) ≡ 0x01 ∷ 0x25 ∷ 0x07 ∷ []
  pub five : values (header_of (Channel (number 5) 7) One) ≡ 0xA7 ∷ []
  pub nine : values (header_of (Channel (number 9) 7) One) ≡ 0x27 ∷ []
  -- "Highest differing bit: 0x0005 and 0x0005 none; 0x0005 and 0x8005: 15; 0x0000 and 0x0009: 3; at one-byte width 1 and 9: none; 2 and
  -- 7: 2."
  pub same : way_to Three (number 0x0005) (number 0x0005) ≡ ThisNode
  pub top : way_to Three (number 0x0005) (number 0x8005) ≡ OtherNode 15
  pub third : way_to Three (number 0x0000) (number 0x0009) ≡ OtherNode 3
  pub low_same : way_to One (number 1) (number 9) ≡ ThisNode
  pub low_differ : way_to One (number 2) (number 7) ≡ OtherNode 2
  -- "Grants at credit 0, by tokens held: 0 gives 64; 40 gives 16; 56 gives 8; 57 gives none."
  pub none_held : grant_of 0 0 ≡ 64
  pub forty_held : grant_of 0 40 ≡ 16
  pub room_for_8 : grant_of 0 56 ≡ 8
  pub room_for_7 : grant_of 0 57 ≡ 0
