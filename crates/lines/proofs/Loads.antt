-- How much is on a line: what so many things can come to, and the things one after another from the near end. Assumes nothing.
use Prim.Native.Nat.{ℕ, ◌+◌, ◌-◌, ◌%◌, ◌<◌, ◌≤◌}
use mathlib.Core.Path.{◌≡◌, ◌∙◌, refl, ap}
use mathlib.Core.List.{List, [], ◌∷◌, ◌++◌}
use native.Mathlib.Nat.{mod-lt}
use native.Mathlib.Omega.{arith}
use lib.Dec.{eqb}
use lib.ListN.{length}
use Rattle.laws.proofs.Order.{by_test}
use Rattle.laws.proofs.Row.{row_at}
use Rattle.ports.specs.Ring.{ring, stretch}
use Rattle.ports.specs.declared.Counters.{Counters}
use Rattle.ports.proofs.Rings.{ring_long, ring_start, ring_next, ring_done}
use Rattle.lines.specs.Line.{line_capacity, LineFair, on_line, word_on}
use Rattle.lines.specs.Load.{credit_word, is_hello, credit_of, before, no_load, load_of, Within}
use Rattle.lines.specs.declared.load.Load.{Load}

-- a word brings at most 64
pub credit_most : (x : ℕ) → credit_of x ≤ 64
unfolding credit_of
credit_most x =
    by_test (eqb x (credit_word 8))
    (λ e. rw e (omega arith))
    (λ e. rw e (by_test (eqb x (credit_word 16))
    (λ d. rw d (omega arith))
    (λ d. rw d (by_test (eqb x (credit_word 64)) (λ b. rw b (omega arith)) (λ b. rw b (omega arith))))))

-- fewer things come to less
pub within_more : (n m : ℕ) (k : Load) → n ≤ m → Within n k → Within m k
within_more n m k h z =
    record {
      tokens = omega (arith, z.tokens);
      credit = omega (arith, z.credit);
      credits = omega (arith, z.credits);
      hellos = omega (arith, z.hellos);
      behind = omega (arith, z.behind);
    }

-- nothing comes to nothing
pub within_none : (n : ℕ) → Within n no_load
within_none n =
    record { tokens = omega arith; credit = omega arith; credits = omega arith; hellos = omega arith; behind = omega arith }

-- one thing more
pub within_before : (n x : ℕ) (k : Load) → n ≤ line_capacity → Within n k → Within (n + 1) (before x k)
unfolding before
within_before n x k few z =
    by_test (is_hello x)
    (λ e. rw e (record {
      tokens = omega (arith, z.tokens);
      credit = omega (arith, z.credit);
      credits = omega (arith, z.credits);
      hellos = omega (arith, z.hellos);
      behind = omega (arith, z.behind, z.tokens);
    }))
    (λ e. rw e (by_test (eqb (credit_of x) 0)
    (λ d. rw d (record {
      tokens = omega (arith, z.tokens);
      credit = omega (arith, z.credit);
      credits = omega (arith, z.credits);
      hellos = omega (arith, z.hellos);
      behind = omega (arith, z.behind);
    }))
    (λ d. rw d (record {
      tokens = omega (arith, z.tokens);
      credit = omega (arith, z.credit, credit_most x);
      credits = omega (arith, z.credits);
      hellos = omega (arith, z.hellos);
      behind = omega (arith, z.behind);
    }))))

-- What is on a line, gone over from its near end: all that is still in front of what has come to k
abbrev pub in_front : List ℕ → Load → Load
in_front [] k = k
in_front (x ∷ q) k = before x (in_front q k)

pub in_front_none : (q : List ℕ) → in_front q no_load ≡ load_of q
in_front_none [] = refl
in_front_none (x ∷ q) = ap (before x) (in_front_none q)

pub in_front_last : (q : List ℕ) (x : ℕ) (k : Load) → in_front (q ++ (x ∷ [])) k ≡ in_front q (before x k)
in_front_last [] x k = refl
in_front_last (y ∷ q) x k = ap (before y) (in_front_last q x k)

-- it is no more than a line holds
pub on_line_long : (c : Counters) (m : List ℕ) (a : ℕ) → LineFair c → length (on_line c m a) ≤ line_capacity
on_line_long c m a f = rw (ring_long line_capacity (stretch line_capacity m a) c.head c.held) f.held_in

-- And gone over by place, the first to arrive at 0
module _ (m : List ℕ) (a : ℕ) (c : Counters) where
  -- from its i-th on
  abbrev pub rest_of : ℕ → List ℕ
  rest_of i = ring line_capacity (stretch line_capacity m a) (c.head + i) (c.held - i)

  pub rest_all : rest_of 0 ≡ on_line c m a
  rest_all = ring_start line_capacity (stretch line_capacity m a) c.head c.held

  pub rest_next : (i : ℕ) → i < c.held → rest_of i ≡ word_on c m a i ∷ rest_of (i + 1)
  rest_next i h =
      let at = row_at line_capacity a ((c.head + i) % line_capacity) m 0 (mod-lt (c.head + i) (omega arith)) in
      ring_next line_capacity (stretch line_capacity m a) c.head c.held i h ∙ rw at

  pub rest_done : (i : ℕ) → c.held ≤ i → rest_of i ≡ []
  rest_done = ring_done line_capacity (stretch line_capacity m a) c.head c.held

  -- the load, from the near end: nothing at first; at each turn one thing more in front of the rest
  pub load_none : load_of (rest_of c.held) ≡ no_load
  load_none = ap load_of (rest_done c.held (omega arith))

  pub load_turn : (i j : ℕ) → i ≡ j + 1 → i ≤ c.held → load_of (rest_of j) ≡ before (word_on c m a j) (load_of (rest_of i))
  load_turn i j e h = ap load_of (rest_next j (omega arith)) ∙ rw e

  pub load_all : load_of (rest_of 0) ≡ load_of (on_line c m a)
  load_all = ap load_of rest_all
