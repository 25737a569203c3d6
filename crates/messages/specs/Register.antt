-- "Known addresses are those where 9.3 places at least one setting of Set." (document 01, "Switch messages"; source document 000, 9.3 and
-- 9.4)
use Rattle.std.specs.Prelude.{ℕ, ◌+◌, ◌-◌, ◌*◌, ◌/◌, ◌%◌, ◌^◌, Bool, true, false, ◌&&◌, List, [], ◌∷◌, eqb, ltb, leb, get_or}
use Rattle.laws.specs.Pick.{pick}
use Rattle.laws.specs.Row.{tab}
use Rattle.names.specs.Size.{links}
use Rattle.routing.specs.Direction.{field}
use Rattle.cells.specs.View.{Net}
use Rattle.settings.specs.declared.Setting.{Setting}
use Rattle.settings.specs.declared.Setting.TheVariants as Set
use Rattle.messages.specs.declared.register.Register.{Register}
use Rattle.messages.specs.declared.register.Register.TheVariants.{Unknown, Width, Number, LowDirections, HighDirections, Route}
use Rattle.messages.specs.declared.register.Register.TheVariants.{State}

-- links C D A B G H E F, in the order of their registers
abbrev pub link_in : ℕ → ℕ
link_in i = get_or (2 ∷ 3 ∷ 0 ∷ 1 ∷ 6 ∷ 7 ∷ 4 ∷ 5 ∷ []) i 0

-- a row of registers, one for each link
abbrev pub in_row : ℕ → ℕ → Bool
in_row first a = leb first a && ltb a (first + links)

abbrev pub register_of : ℕ → Register
register_of a =
    pick (eqb a 0x04) Width
    (pick (eqb a 0x05) Number
    (pick (eqb a 0x0C) LowDirections
    (pick (eqb a 0x0D) HighDirections
    (pick (in_row 0x20 a) (Route (link_in (a - 0x20))) (pick (in_row 0x80 a) (State (link_in (a - 0x80))) Unknown)))))

abbrev pub is_known : Register → Bool
is_known Unknown = false
is_known Width = true
is_known Number = true
is_known LowDirections = true
is_known HighDirections = true
is_known (Route l) = true
is_known (State l) = true

-- the k bitsFrom of a value from bit a on, and a number put there
abbrev pub bits_from : ℕ → ℕ → ℕ → ℕ
bits_from a k v = v / 2 ^ a % 2 ^ k

abbrev pub placed : ℕ → ℕ → ℕ → ℕ
placed a k v = v % 2 ^ k * 2 ^ a

-- the eight direction entries of a register, from bit b on
abbrev pub entries_of : ℕ → ℕ → List Setting
entries_of b v = tab 8 (λ i. Set.Direction (b + i) (field v i))

-- "tried as Sets in the order number, width, direction entries from bit 0, link direction, network, enable, HELLO": what a register's value
-- sets. "Fields that Set lacks are ignored in writes". Short headers are bit 0; HELLO is said where its bit is set.
abbrev pub fields_of : Register → ℕ → List Setting
fields_of Unknown v = []
fields_of Width v = Set.Width (pick (eqb (v % 2) 1) 1 3) ∷ []
fields_of Number v = Set.Number (v % 2 ^ 16) ∷ []
fields_of LowDirections v = entries_of 0 v
fields_of HighDirections v = entries_of 8 v
fields_of (Route l) v = Set.LinkDirection l (bits_from 8 4 v) ∷ Set.Network l (bits_from 4 2 v) ∷ []
fields_of (State l) v = Set.Enable l (bits_from 31 1 v) ∷ pick (eqb (bits_from 24 1 v) 1) (Set.Hello l ∷ []) []

-- what a register reads: ".. and read 0, as does HELLO"
abbrev pub read_of : Net → ℕ → Register → ℕ
read_of s n Unknown = 0
read_of s n Width = pick (eqb (s.own n 0).width 1) 1 0
read_of s n Number = (s.own n 0).number
read_of s n LowDirections = (s.own n 0).directions.first
read_of s n HighDirections = (s.own n 0).directions.second
read_of s n (Route l) = placed 8 4 (s.links.setups n l).direction + placed 4 2 (s.links.setups n l).network
read_of s n (State l) = placed 31 1 (s.links.setups n l).enabled
