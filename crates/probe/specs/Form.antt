-- What the serial and the fast link share (002, 4.2 and 4.3): tokens go as sequences of transitions, all of one width, each of which says
-- something by itself.
use Rattle.std.specs.Prelude.{ℕ, zero, suc, ◌*◌, ◌/◌, ◌%◌, Bool, true, false, not, ◌&&◌, List, [], ◌∷◌, ◌++◌, ltb, length, get_or}
use Rattle.laws.specs.All.{first}
use Rattle.laws.specs.Row.{row}
use Rattle.probe.specs.Wires.{low, after}
use Rattle.probe.specs.declared.sequence.Said.{Said}
use Rattle.probe.specs.declared.sequence.Said.TheVariants.{Token, Return, Nothing}

pub record Form : Type 0 where
  -- how many transitions a sequence has
  pub width : ℕ
  -- which tokens it can write
  pub writes : ℕ → Bool
  -- a token written from the wires' state
  pub one : ℕ → ℕ → List ℕ
  -- what a sequence says
  pub says : List ℕ → Said

-- "gives the tokens back without their header marks" (document 02, Ask 8): bits 9 and 10 of a token's word
abbrev pub unmarked : ℕ → ℕ
unmarked w = w % 512

-- a word of a token, which has no bit above the marks, that the form can write
unfoldable pub writable : Form → ℕ → Bool
writable F w = ltb w 2048 && F.writes (unmarked w)

-- WRITING. The transitions of the first n tokens: each is written from the wires as those before it leave them, all low at first
unfoldable pub written : Form → List ℕ → ℕ → List ℕ
written F ts zero = []
written F ts (suc n) = written F ts n ++ F.one (after low (written F ts n)) (unmarked (get_or ts n 0))

abbrev pub transitions : Form → List ℕ → List ℕ
transitions F ts = written F ts (length ts)

-- the place of the first word that has no form, the list's length where each has one
unfoldable pub first_unwritable : Form → List ℕ → ℕ
first_unwritable F ts = first (length ts) (λ i. not (writable F (get_or ts i 0)))

-- READING. How many whole sequences a capture has, and what the i-th says
unfoldable pub whole : Form → List ℕ → ℕ
whole F xs = length xs / F.width

unfoldable pub said_at : Form → List ℕ → ℕ → Said
said_at F xs i = F.says (row F.width (i * F.width) xs)

abbrev pub meaningless : Said → Bool
meaningless (Token t) = false
meaningless Return = false
meaningless Nothing = true

-- a return is "ignored by the receiver" (002, 4.3)
abbrev pub tokens_in : Said → List ℕ
tokens_in (Token t) = t ∷ []
tokens_in Return = []
tokens_in Nothing = []

-- the tokens that the first n sequences say
unfoldable pub gathered : Form → List ℕ → ℕ → List ℕ
gathered F xs zero = []
gathered F xs (suc n) = gathered F xs n ++ tokens_in (said_at F xs n)

abbrev pub tokens : Form → List ℕ → List ℕ
tokens F xs = gathered F xs (whole F xs)

-- which is the first whole sequence of no meaning, their number where each has one
unfoldable pub first_meaningless : Form → List ℕ → ℕ
first_meaningless F xs = first (whole F xs) (λ i. meaningless (said_at F xs i))
