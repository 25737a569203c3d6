-- The wires of one direction of a link, as a number: bit i is 1 while wire i is high. Levels are no part of a capture: they follow from the
-- transitions, for "the links assume that they start low" (source document 002, 4.4).
use Rattle.std.specs.Prelude.{ℕ, ◌+◌, ◌-◌, ◌/◌, ◌%◌, ◌^◌, List, [], ◌∷◌, ltb, eqb}
use Rattle.laws.specs.Pick.{pick}

-- "The wires are labelled 0, 1, 2, 3, and 4" (002, 4.3)
abbrev pub wires : ℕ
wires = 5

abbrev pub low : ℕ
low = 0

-- 1 where wire i is high
abbrev pub level : ℕ → ℕ → ℕ
level s i = s / 2 ^ i % 2

-- a wire changes: low where it was high, high where it was low
abbrev pub flipped : ℕ → ℕ → ℕ
flipped s bit = pick (eqb (s / bit % 2) 1) (s - bit) (s + bit)

-- a transition on wire i; there are no others
unfoldable pub changed : ℕ → ℕ → ℕ
changed s i = pick (ltb i wires) (flipped s (2 ^ i)) s

-- transitions one after the other
unfoldable pub after : ℕ → List ℕ → ℕ
after s [] = s
after s (x ∷ q) = after (changed s x) q

-- how many wires are high
unfoldable pub high : ℕ → ℕ
high s = level s 0 + (level s 1 + (level s 2 + (level s 3 + level s 4)))
