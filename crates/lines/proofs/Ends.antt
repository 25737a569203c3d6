-- How much is on a line, one thing more at its near end; how many things, and how many of them tokens; why 66 is enough. Assumes nothing.
use Prim.Native.Nat.{ℕ, ◌+◌, ◌*◌, ◌≤◌}
use mathlib.Core.Path.{◌≡◌, refl, ap, ◌∙◌}
use mathlib.Core.Bool.{true, false}
use mathlib.Core.List.{List, [], ◌∷◌, ◌++◌}
use native.Mathlib.Omega.{arith}
use lib.Dec.{eqb}
use lib.ListN.{length}
use Rattle.laws.proofs.Order.{by_test, clash}
use Rattle.ports.specs.Queue.{capacity}
use Rattle.lines.specs.Line.{line_capacity}
use Rattle.lines.specs.Load.{credit_word, is_hello, credit_of, is_token, tokens_of, load_of}
use Rattle.lines.specs.Load.{before, credit_before, no_load}
use Rattle.lines.specs.declared.load.Load.{Load}
use Rattle.lines.proofs.Loads.{credit_most}

-- A THING IS A HELLO, A CREDIT OR A TOKEN
pub data Thing (x : ℕ) : Type 0 where
  hello : is_hello x ≡ true → Thing x
  credit : is_hello x ≡ false → eqb (credit_of x) 0 ≡ false → Thing x
  token : is_hello x ≡ false → eqb (credit_of x) 0 ≡ true → Thing x

pub thing : (x : ℕ) → Thing x
thing x = by_test (is_hello x) hello (λ e. by_test (eqb (credit_of x) 0) (token e) (credit e))

-- BEHIND ALL THAT IS ON IT: a token has every HELLO before it
abbrev pub hello_after : Load → Load
hello_after k =
    record { tokens = k.tokens; credit = k.credit; credits = k.credits; hellos = k.hellos + 1; behind = k.behind }

abbrev pub token_after : Load → Load
token_after k =
    record { tokens = k.tokens + 1; credit = k.credit; credits = k.credits; hellos = k.hellos; behind = k.behind + k.hellos }

-- the two orders come to the same
same_load : {a b : Load} → a.tokens ≡ b.tokens → a.credit ≡ b.credit → a.credits ≡ b.credits → a.hellos ≡ b.hellos
    → a.behind ≡ b.behind → a ≡ b
same_load p q r s t = λ i. record { tokens = p i; credit = q i; credits = r i; hellos = s i; behind = t i }

module _ (x : ℕ) (f : Load → Load) (alone : before x no_load ≡ f no_load) (past : (y : ℕ) (k : Load) → before y (f k) ≡ f (before y k)) where
  last_of : (q : List ℕ) → load_of (q ++ (x ∷ [])) ≡ f (load_of q)
  last_of [] = alone
  last_of (y ∷ q) = ap (before y) (last_of q) ∙ past y (load_of q)

module _ (x : ℕ) (e : is_hello x ≡ true) where
  pub hello_last_lem : (q : List ℕ) → load_of (q ++ (x ∷ [])) ≡ hello_after (load_of q)
  unfolding before
  hello_last_lem = last_of x hello_after (rw e) past
    where
      past : (y : ℕ) (k : Load) → before y (hello_after k) ≡ hello_after (before y k)
      past y k =
          by_test (is_hello y)
          (λ h. rw h)
          (λ h. rw h (by_test (eqb (credit_of y) 0) (λ g. rw g) (λ g. rw g)))

module _ (x : ℕ) (e : is_hello x ≡ false) (g : eqb (credit_of x) 0 ≡ false) where
  pub credit_last : (q : List ℕ) → load_of (q ++ (x ∷ [])) ≡ credit_before (credit_of x) (load_of q)
  unfolding before
  credit_last = last_of x (credit_before (credit_of x)) (rw (e, g)) past
    where
      past : (y : ℕ) (k : Load) → before y (credit_before (credit_of x) k) ≡ credit_before (credit_of x) (before y k)
      past y k =
          by_test (is_hello y)
          (λ h. rw h)
          (λ h. rw h (by_test (eqb (credit_of y) 0)
          (λ b. rw b)
          (λ b. rw b (same_load refl (omega arith) refl refl refl))))

module _ (x : ℕ) (e : is_hello x ≡ false) (g : eqb (credit_of x) 0 ≡ true) where
  pub token_last : (q : List ℕ) → load_of (q ++ (x ∷ [])) ≡ token_after (load_of q)
  unfolding before
  token_last = last_of x token_after (rw (e, g)) past
    where
      past : (y : ℕ) (k : Load) → before y (token_after k) ≡ token_after (before y k)
      past y k =
          by_test (is_hello y)
          (λ h. rw h (same_load refl refl refl refl (omega arith)))
          (λ h. rw h (by_test (eqb (credit_of y) 0) (λ b. rw b) (λ b. rw b)))

-- HOW MANY THINGS
abbrev pub things : Load → ℕ
things k = k.tokens + k.credits + k.hellos

pub how_many : (q : List ℕ) → length q ≡ things (load_of q)
unfolding before
how_many [] = refl
how_many (x ∷ q) = let rest = how_many q in more (thing x) rest
  where
    more : Thing x → length q ≡ things (load_of q) → length (x ∷ q) ≡ things (before x (load_of q))
    more (hello e) h = rw e (omega arith)
    more (credit e g) h = rw (e, g) (omega arith)
    more (token e g) h = rw (e, g) (omega arith)

-- .. of which so many are tokens
pub how_many_tokens : (q : List ℕ) → length (tokens_of q) ≡ (load_of q).tokens
unfolding before is_token
how_many_tokens [] = refl
how_many_tokens (x ∷ q) = let rest = how_many_tokens q in more (thing x) rest
  where
    more : Thing x → length (tokens_of q) ≡ (load_of q).tokens → length (tokens_of (x ∷ q)) ≡ (before x (load_of q)).tokens
    more (hello e) h = rw e h
    more (credit e g) h = rw (e, g) h
    more (token e g) h = rw (e, g) (omega arith)

-- each credit is worth 8 to 64, and behind no HELLO there is nothing
credit_least : (x : ℕ) → eqb (credit_of x) 0 ≡ false → 8 ≤ credit_of x
unfolding credit_of
credit_least x e =
    by_test (eqb x (credit_word 8))
    (λ d. rw d (omega arith))
    (λ d. by_test (eqb x (credit_word 16))
    (λ b. rw (d, b) (omega arith))
    (λ b. by_test (eqb x (credit_word 64)) (λ h. rw (d, b, h) (omega arith)) (λ h. clash (rw (d, b, h) at e))))

pub load_worth : (q : List ℕ) → (8 * (load_of q).credits ≤ (load_of q).credit) × ((load_of q).credit ≤ 64 * (load_of q).credits)
unfolding before
load_worth [] = (omega arith, omega arith)
load_worth (x ∷ q) = let rest = load_worth q in more (thing x) rest
  where
    more : Thing x → (8 * (load_of q).credits ≤ (load_of q).credit) × ((load_of q).credit ≤ 64 * (load_of q).credits)
        → (8 * (before x (load_of q)).credits ≤ (before x (load_of q)).credit)
        × ((before x (load_of q)).credit ≤ 64 * (before x (load_of q)).credits)
    more (hello e) h = rw e h
    more (credit e g) h = rw (e, g) (omega (arith, credit_least x g), omega (arith, credit_most x))
    more (token e g) h = rw (e, g) h

pub load_behind : (q : List ℕ) → (load_of q).hellos ≡ 0 → (load_of q).behind ≡ 0
unfolding before
load_behind [] = λ e. refl
load_behind (x ∷ q) = more (thing x) (load_behind q)
  where
    more : Thing x → ((load_of q).hellos ≡ 0 → (load_of q).behind ≡ 0) → (before x (load_of q)).hellos ≡ 0 → (before x (load_of q)).behind ≡ 0
    more (hello e) h = rw e (λ n. absurd (omega arith))
    more (credit e g) h = rw (e, g) h
    more (token e g) h = rw (e, g) h

-- "up to 66": at most 64 tokens (the room of the port that they go to), one credit and one HELLO
pub line_fits : (q : List ℕ) → (load_of q).tokens ≤ capacity → (load_of q).credits ≤ 1 → (load_of q).hellos ≤ 1 → length q ≤ line_capacity
line_fits q t c h = omega (arith, how_many q)
