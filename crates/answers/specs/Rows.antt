-- "Numbers for no .. Given exactly when .. The lowest number wins." (document 01): the refusals of a call are rows, each a test and its
-- number, and the first whose test holds is given.
use Prim.{Unit, tt}
use Rattle.std.specs.Prelude.{ℕ, ◌≡◌, Bool, true, false, not, ◌&&◌, List, [], ◌∷◌, Result, Ok, Err, eqb, ltb}
use Rattle.laws.specs.Pick.{pick}
use Rattle.names.specs.No as Names
use Rattle.names.specs.declared.no.No.{No as Why}

pub record Row : Type 0 where
  pub when : Bool
  pub no : Why

abbrev pub refused_if : Bool → Why → Row
refused_if b k = record { when = b; no = k }

-- what the rows say: they let pass, or the first whose test holds refuses
abbrev pub checked : List Row → Result Unit Why
checked [] = Ok tt
checked (r ∷ rs) = pick r.when (Err r.no) (checked rs)

-- .. by its number
abbrev pub refusal : List Row → ℕ
refusal rs = Names.number_by (checked rs)

-- what number k is given for: its row's test holds, and no test before it does
abbrev pub Exactly : List Row → Why → Type 0
Exactly [] k = ⊥
Exactly (r ∷ rs) k = pick (eqb (Names.number r.no) (Names.number k)) (r.when ≡ true) ((r.when ≡ false) × Exactly rs k)

-- no test holds
abbrev pub Passes : List Row → Type 0
Passes [] = Unit
Passes (r ∷ rs) = (r.when ≡ false) × Passes rs

-- the rows stand in the order of their numbers, all above a
abbrev pub rising : ℕ → List Row → Bool
rising a [] = true
rising a (r ∷ rs) = ltb a (Names.number r.no) && rising (Names.number r.no) rs

-- no number stands twice
abbrev pub absent : ℕ → List Row → Bool
absent a [] = true
absent a (r ∷ rs) = not (eqb (Names.number r.no) a) && absent a rs

abbrev pub distinct : List Row → Bool
distinct [] = true
distinct (r ∷ rs) = absent (Names.number r.no) rs && distinct rs
