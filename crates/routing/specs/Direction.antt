-- "In a direction register the entry for bit b is bits 4(b mod 8) to 4(b mod 8)+3, bits 0..7 in the first register, 8..15 in the
-- second." (document 01, "Routing")
use Rattle.std.specs.Prelude.{ℕ, ◌+◌, ◌*◌, ◌/◌, ◌%◌, ◌^◌, ltb}
use Rattle.laws.specs.Pick.{pick}
use Rattle.routing.specs.declared.direction.Directions.{Directions}

-- bits 4i to 4i + 3 of a register
unfoldable pub field : ℕ → ℕ → ℕ
field r i = r / 2 ^ (4 * i) % 16

-- the register with them replaced by the low four bits of d: what lies above, these four, what lies below
unfoldable pub with_field : ℕ → ℕ → ℕ → ℕ
with_field r i d = (r / 2 ^ (4 * i) / 16 * 16 + d % 16) * 2 ^ (4 * i) + r % 2 ^ (4 * i)

-- the entry for bit b
unfoldable pub entry_of : Directions → ℕ → ℕ
entry_of t b = pick (ltb b 8) (field t.first (b % 8)) (field t.second (b % 8))

-- the table with the entry for bit b replaced
unfoldable pub with_entry : Directions → ℕ → ℕ → Directions
with_entry t b d =
    pick (ltb b 8)
    (record { first = with_field t.first (b % 8) d; second = t.second })
    (record { first = t.first; second = with_field t.second (b % 8) d })
