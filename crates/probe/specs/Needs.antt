-- What code says of its own parts on the way, which no reader has to believe.
use Rattle.std.specs.Prelude.{ℕ, ◌+◌, ◌*◌, ◌%◌, ◌^◌, ◌≤◌, ◌≡◌, List, [], ◌∷◌, ◌++◌, ltb, leb, eqb, length, get_or, take, drop, Option, Some, None, Ok, Err}
use Rattle.laws.specs.Pick.{pick}
use Rattle.laws.specs.All.{first}
use Rattle.probe.specs.Form.{Form, first_unwritable, whole, tokens, first_meaningless}
use Rattle.probe.specs.Answer.{Answer}
use Rattle.probe.specs.declared.answer.Refusal.TheVariants.{Bad, Cut}
use Rattle.probe.specs.declared.sequence.Sequence.{Sequence}

-- a sequence of the code has no more transitions than its array has room for
pub record Room (r : Sequence) : Type 0 where
  pub most : r.len ≤ 10
  pub long : r.len ≤ length r.symbols

-- the transitions that a sequence of the code has
pub record Lies (r : Sequence) (q : List ℕ) : Type 0 where
  pub long : r.len ≡ length q
  pub laid : take r.len r.symbols ≡ q
  pub room : Room r

-- a place, where it is one of so many
abbrev pub place_in : ℕ → ℕ → Option ℕ
place_in place many = pick (ltb place many) (Some place) None

-- the two lowest of the high data wires, 4 times the first and the second; where there are none two, wire 0 twice
abbrev pub pairs : List ℕ
pairs = 0 ∷ 0 ∷ 0 ∷ 1 ∷ 0 ∷ 2 ∷ 6 ∷ 1 ∷ 0 ∷ 3 ∷ 7 ∷ 1 ∷ 11 ∷ 2 ∷ 6 ∷ 1 ∷ []

abbrev pub lowest_two : ℕ → ℕ
lowest_two s = get_or pairs (s % 16) 0

-- the data wire that is alone high beside wire 4, 4 where none is
unfoldable pub alone : ℕ → ℕ
alone s = first 4 (λ v. eqb s (16 + 2 ^ v))

abbrev pub unwritable : Form → List ℕ → Option ℕ
unwritable F ts = place_in (first_unwritable F ts) (length ts)

abbrev pub measured : ℕ → ℕ → Option ℕ
measured n most = pick (leb n most) (Some n) None

unfoldable pub judged : Form → List ℕ → Answer
judged F xs =
    pick (ltb (first_meaningless F xs) (whole F xs)) (Err (Bad (first_meaningless F xs * F.width)))
    (pick (eqb (length xs % F.width) 0) (Ok (length (tokens F xs))) (Err Cut))

-- words laid over those of a list from a place on
abbrev pub laid_in : List ℕ → ℕ → List ℕ → List ℕ
laid_in l at ys = take at l ++ (ys ++ drop (at + length ys) l)
