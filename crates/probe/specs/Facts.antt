-- What is proved of the calls, beside their contracts: proofs/Backs, Found, Lows, Leasts and Parities.
use Rattle.std.specs.Prelude.{ℕ, ◌+◌, ◌*◌, ◌%◌, ◌<◌, ◌≤◌, ◌≡◌, true, false, ◌⊎◌, List, [], ◌∷◌, length, get_or, take, drop}
use Rattle.laws.specs.All.{Each}
use Rattle.probe.specs.Form.{Form, writable, said_at}
use Rattle.probe.specs.Fast.{left, smaller, least_of}
use Rattle.probe.specs.declared.sequence.Said.TheVariants.{Token, Return, Nothing}

-- THE TWO FACTS OF A FORM. What is written of a token is one sequence, or that and a return
pub record Tells (F : Form) (t : ℕ) (q : List ℕ) : Type 0 where
  pub long : (length q ≡ F.width) ⊎ ((length q ≡ F.width * 2) × (F.says (drop F.width q) ≡ Return))
  pub said : F.says (take F.width q) ≡ Token t

pub record Faithful (F : Form) : Type 0 where
  -- a sequence has transitions
  pub wide : 0 < F.width
  -- a token that can be written is what is said of it, from every state of the wires
  pub tells : (s t : ℕ) → s < 32 → t < 512 → F.writes t ≡ true → Tells F t (F.one s t)

-- p is the place of the first word of a list that the form cannot write
pub record FirstUnwritable (F : Form) (ts : List ℕ) (p : ℕ) : Type 0 where
  pub inside : p < length ts
  pub bad : writable F (get_or ts p 0) ≡ false
  pub before : (j : ℕ) → j < p → writable F (get_or ts j 0) ≡ true

-- p begins the first whole sequence of a capture that has no meaning
pub record FirstBad (F : Form) (xs : List ℕ) (p : ℕ) : Type 0 where
  pub which : ℕ
  pub place : p ≡ which * F.width
  pub inside : p + F.width ≤ length xs
  pub bad : said_at F xs which ≡ Nothing
  pub before : (j : ℕ) → j < which → said_at F xs j ≡ Nothing → ⊥

-- every whole sequence has a meaning, and transitions are left over
pub record Short (F : Form) (xs : List ℕ) : Type 0 where
  pub sound : (j : ℕ) → j * F.width + F.width ≤ length xs → said_at F xs j ≡ Nothing → ⊥
  pub over : length xs % F.width ≡ 0 → ⊥

-- a sequence is one of a row's
abbrev pub Among : List ℕ → List (List ℕ) → Type 0
Among q [] = ⊥
Among q (p ∷ l) = (q ≡ p) ⊎ Among q l

-- no form of the row leaves fewer wires high, and of those that leave as few none is smaller
pub record NoBetter (s : ℕ) (p q : List ℕ) : Type 0 where
  pub fewest : left s p ≤ left s q
  pub smallest : left s q ≡ left s p → smaller q p ≡ false

pub record Least (s : ℕ) (forms : List (List ℕ)) : Type 0 where
  pub among : Among (least_of s forms) forms
  pub none : Each (λ q. NoBetter s (least_of s forms) q) forms
