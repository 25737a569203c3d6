-- Values as symbols, "transmitted most significant bit first" (002, 4.2), "always transmitted starting with the two most significant bits"
-- (4.3): digits of base 2 or 4.
use Rattle.std.specs.Prelude.{ℕ, zero, suc, ◌+◌, ◌*◌, ◌/◌, ◌%◌, ◌^◌, List, [], ◌∷◌, get_or}

-- the last n digits of v in base b, the most significant first
abbrev pub digits : ℕ → ℕ → ℕ → List ℕ
digits b zero v = []
digits b (suc n) v = v / b ^ n % b ∷ digits b n v

-- the number whose digits are the first n of q
unfoldable pub number : ℕ → ℕ → List ℕ → ℕ
number b zero q = 0
number b (suc n) q = number b n q * b + get_or q n 0

-- how many of the first n bits of q are ones
unfoldable pub ones : ℕ → List ℕ → ℕ
ones zero q = 0
ones (suc n) q = ones n q + get_or q n 0
