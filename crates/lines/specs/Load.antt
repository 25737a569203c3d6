-- What travels on a line. "Document 002 section 3 sends HELLO and credits as tokens" (document 02, Ask 4): control tokens that Output never
-- lets out and that enter no port. Every other word is a token on its way to a port.
use Rattle.std.specs.Prelude.{ℕ, ◌+◌, ◌*◌, ◌≤◌, Bool, not, ◌&&◌, List, [], ◌∷◌, eqb}
use Rattle.laws.specs.Pick.{pick}
use Rattle.tokens.specs.Word.{control_word}
use Rattle.lines.specs.Line.{line_capacity}
use Rattle.lines.specs.declared.load.Load.{Load}

-- "HELLO 0xE6 Say hello and solicit credits" (source document 002, 3)
abbrev pub hello_word : ℕ
hello_word = control_word 0xE6

-- "CREDIT8 0xE0, CREDIT64 0xE1, CREDIT16 0xE4 Give additional .. tokens of credit" (there)
abbrev pub credit_word : ℕ → ℕ
credit_word g = pick (eqb g 8) (control_word 0xE0) (pick (eqb g 16) (control_word 0xE4) (control_word 0xE1))

abbrev pub is_hello : ℕ → Bool
is_hello x = eqb x hello_word

-- the credit that a word brings: 0 where it is none
unfoldable pub credit_of : ℕ → ℕ
credit_of x = pick (eqb x (credit_word 8)) 8 (pick (eqb x (credit_word 16)) 16 (pick (eqb x (credit_word 64)) 64 0))

-- a token on its way to a port
unfoldable pub is_token : ℕ → Bool
is_token x = not (is_hello x) && eqb (credit_of x) 0

-- the tokens among what is on a line, in order
abbrev pub tokens_of : List ℕ → List ℕ
tokens_of [] = []
tokens_of (x ∷ q) = pick (is_token x) (x ∷ tokens_of q) (tokens_of q)

-- HOW MUCH IS ON A LINE. One thing more in front of the rest: a HELLO has the rest's tokens behind it, a credit adds to the credit
abbrev pub hello_before : Load → Load
hello_before k =
    record { tokens = k.tokens; credit = k.credit; credits = k.credits; hellos = k.hellos + 1; behind = k.behind + k.tokens }

abbrev pub credit_before : ℕ → Load → Load
credit_before g k =
    record { tokens = k.tokens; credit = k.credit + g; credits = k.credits + 1; hellos = k.hellos; behind = k.behind }

abbrev pub token_before : Load → Load
token_before k =
    record { tokens = k.tokens + 1; credit = k.credit; credits = k.credits; hellos = k.hellos; behind = k.behind }

unfoldable pub before : ℕ → Load → Load
before x k = pick (is_hello x) (hello_before k) (pick (eqb (credit_of x) 0) (token_before k) (credit_before (credit_of x) k))

abbrev pub no_load : Load
no_load = record { tokens = 0; credit = 0; credits = 0; hellos = 0; behind = 0 }

-- tokens, credit, how many credits and HELLOs, and tokens behind a HELLO
abbrev pub load_of : List ℕ → Load
load_of [] = no_load
load_of (x ∷ q) = before x (load_of q)

-- what n things can come to
pub record Within (n : ℕ) (k : Load) : Type 0 where
  pub tokens : k.tokens ≤ n
  pub credit : k.credit ≤ 64 * n
  pub credits : k.credits ≤ n
  pub hellos : k.hellos ≤ n
  pub behind : k.behind ≤ line_capacity * n
