-- The tokens on each line after one thing is put on a line or taken off it: a credit and a HELLO are none. Assumes nothing.
use Prim.Native.Nat.{ℕ, ◌<◌}
use mathlib.Core.Path.{◌≡◌, refl, ap, ◌∙◌}
use mathlib.Core.Bool.{Bool, true, false}
use mathlib.Core.List.{List, [], ◌∷◌, ◌++◌, append-nil}
use lib.Dec.{eqb}
use Rattle.laws.specs.Table.{Off}
use Rattle.laws.specs.Pick.{pick}
use Rattle.laws.proofs.Order.{by_test}
use Rattle.names.specs.Size.{links}
use Rattle.lines.specs.Line.{line_capacity}
use Rattle.lines.specs.Load.{is_hello, credit_of, is_token, tokens_of}
use Rattle.cells.specs.World.{World, line_from}
use Rattle.travel.specs.Travel.{put_on, first_on, taken_off}
use Rattle.travel.specs.Needs.{LineThere}
use Rattle.travel.proofs.Loads.{put_line, put_line_away, off_line, off_line_away}

-- a word by what it is
pub token_is : (x : ℕ) → is_hello x ≡ false → eqb (credit_of x) 0 ≡ true → is_token x ≡ true
unfolding is_token
token_is x e g = rw (e, g)

pub credit_none : (x : ℕ) → is_hello x ≡ false → eqb (credit_of x) 0 ≡ false → is_token x ≡ false
unfolding is_token
credit_none x e g = rw (e, g)

pub hello_none : (x : ℕ) → is_hello x ≡ true → is_token x ≡ false
unfolding is_token
hello_none x e = rw e

pub tokens_append : (q r : List ℕ) → tokens_of (q ++ r) ≡ tokens_of q ++ tokens_of r
tokens_append [] r = refl
tokens_append (x ∷ q) r =
    by_test (is_token x)
    (λ e. rw e (ap (λ (t : List ℕ). x ∷ t) (tokens_append q r)))
    (λ e. rw e (tokens_append q r))

module _ (w : World) (n l : ℕ) (z : LineThere w n l) where
  module _ (x : ℕ) where
    -- PUT ON
    pub put_token : (w.net.lines.rings n l).held < line_capacity → is_token x ≡ true
        → tokens_of (line_from (put_on w n l x) n l) ≡ tokens_of (line_from w n l) ++ (x ∷ [])
    put_token h e =
        ap tokens_of (put_line w n l z x h)
        ∙ tokens_append (line_from w n l) (x ∷ [])
        ∙ ap (λ (b : Bool). tokens_of (line_from w n l) ++ pick b (x ∷ []) []) e

    pub put_none : (w.net.lines.rings n l).held < line_capacity → is_token x ≡ false
        → tokens_of (line_from (put_on w n l x) n l) ≡ tokens_of (line_from w n l)
    put_none h e =
        ap tokens_of (put_line w n l z x h)
        ∙ tokens_append (line_from w n l) (x ∷ [])
        ∙ ap (λ (b : Bool). tokens_of (line_from w n l) ++ pick b (x ∷ []) []) e
        ∙ append-nil (tokens_of (line_from w n l))

    pub put_tokens_away : (a j : ℕ) → j < links → Off n l a j → tokens_of (line_from (put_on w n l x) a j) ≡ tokens_of (line_from w a j)
    put_tokens_away a j hj o = ap tokens_of (put_line_away w n l z x a j hj o)

  -- TAKEN OFF
  pub off_token : 0 < (w.net.lines.rings n l).held → is_token (first_on w n l) ≡ true
      → tokens_of (line_from w n l) ≡ first_on w n l ∷ tokens_of (line_from (taken_off w n l) n l)
  off_token h e =
      ap tokens_of (off_line w n l z h)
      ∙ ap (λ (b : Bool). let r = tokens_of (line_from (taken_off w n l) n l) in pick b (first_on w n l ∷ r) r) e

  pub off_none : 0 < (w.net.lines.rings n l).held → is_token (first_on w n l) ≡ false
      → tokens_of (line_from w n l) ≡ tokens_of (line_from (taken_off w n l) n l)
  off_none h e =
      ap tokens_of (off_line w n l z h)
      ∙ ap (λ (b : Bool). let r = tokens_of (line_from (taken_off w n l) n l) in pick b (first_on w n l ∷ r) r) e

  pub off_tokens_away : (a j : ℕ) → j < links → Off n l a j → tokens_of (line_from (taken_off w n l) a j) ≡ tokens_of (line_from w a j)
  off_tokens_away a j hj o = ap tokens_of (off_line_away w n l z a j hj o)
