-- A line's step, whole, leaves the accounts of a state in order, and every line that could be read can still be read. Assumes nothing.
use Prim.Native.Nat.{ℕ, ◌+◌, ◌<◌}
use mathlib.Core.Path.{◌≡◌, refl}
use mathlib.Core.Logic.{⊎_elim}
use native.Mathlib.Omega.{arith}
use lib.Dec.{eqb}
use lib.ListN.{length-set}
use borrow.Author.Tests.{eqb-false}
use Rattle.laws.specs.Table.{Off}
use Rattle.laws.proofs.Order.{by_test, order}
use Rattle.laws.proofs.Table.{upd_all}
use Rattle.names.specs.Size.{links}
use Rattle.names.specs.declared.Slot.{Slot}
use Rattle.ports.specs.declared.Counters.{Counters}
use Rattle.lines.specs.Line.{LineFair, off_counters, line_place}
use Rattle.lines.specs.Load.{is_hello, credit_of}
use Rattle.cells.specs.World.{World, far_of, Far, Nowhere, At}
use Rattle.acts.specs.Acts.{pushed}
use Rattle.travel.specs.Travel.{taken_off, first_on, token_in, greets, arrives_at, line_empty, left_by, line_stepped}
use Rattle.travel.specs.Needs.{LineThere}
use Rattle.travel.specs.Accounts.{InOrder}
use Rattle.travel.proofs.Cables.{Backs}
use Rattle.travel.proofs.Keeps.{token_in_order, credit_in_order, hello_arrives_in_order, grant_in_order}

pub positive : (h : ℕ) → (h ≡ 0 → ⊥) → 0 < h
positive h some = ⊎_elim (λ b. b) (λ b. absurd (some (omega arith))) (order 0 h)

-- what is left of a line can be read
off_fair : (c : Counters) → LineFair c → 0 < c.held → LineFair (off_counters c)
off_fair c f h = record { head_in = omega arith; held_in = omega (arith, f.held_in) }

pub there_off : (w : World) (n l : ℕ) → LineThere w n l → 0 < (w.net.lines.rings n l).held → (a j : ℕ) → LineThere w a j
    → LineThere (taken_off w n l) a j
unfolding taken_off
there_off w n l z some a j y =
    record {
      node = y.node;
      link = y.link;
      fair = upd_all (λ b i c. b ≡ a → i ≡ j → LineFair c) w.net.lines.rings n l (off_counters (w.net.lines.rings n l)) a j
          (λ ea ej p q. off_fair (w.net.lines.rings n l) z.fair some)
          (λ o p q. y.fair) refl refl;
      reaches = rw (length-set w.line_memory (line_place n l + (w.net.lines.rings n l).head) 0) y.reaches;
    }

-- .. and so it can where only the state's other tables are written
there_pushed : (w : World) (m k x : ℕ) (a j : ℕ) → LineThere w a j → LineThere (token_in w m k x) a j
unfolding pushed
there_pushed w m k x a j y = record { node = y.node; link = y.link; fair = y.fair; reaches = y.reaches }

there_greeted : (w : World) (n l m k a j : ℕ) → LineThere w a j → LineThere (greets w n l m k) a j
there_greeted w n l m k a j y = record { node = y.node; link = y.link; fair = y.fair; reaches = y.reaches }

module _ (w : World) (back : Backs w.net.nodes w.net.links.cables) (z : InOrder w) (n l : ℕ) (hn : n < w.net.nodes)
    (hl : l < links) (apart : (m : Slot) (k : ℕ) → far_of (w.net.links.cables n l) ≡ At m k → Off n l m.0 k)
    (lines : (a j : ℕ) → a < w.net.nodes → j < links → LineThere w a j) where
  -- what comes off a line to link k of node m
  arrival : (m : Slot) (k : ℕ) → far_of (w.net.links.cables n l) ≡ At m k → 0 < (w.net.lines.rings n l).held
      → InOrder (arrives_at (taken_off w n l) n l m.0 k (first_on w n l))
  unfolding taken_off pushed
  arrival m k e some =
      let y = taken_off w n l in
      let x = first_on w n l in
      let o = apart m k e in
      let far = back n l hn hl m k e in
      let here = lines n l hn hl in
      let there = there_off w n l here some m.0 k (lines m.0 k far.0 far.1) in
      by_test (is_hello x)
      (λ said. rw said
      (grant_in_order (greets y n l m.0 k) back (hello_arrives_in_order w back z n l m k hn hl e o here some said) n l m k hn hl e o
      (there_greeted y n l m.0 k m.0 k there)))
      (λ plain. rw plain (by_test (eqb (credit_of x) 0)
      (λ token. rw token
      (grant_in_order (token_in y m.0 k x) back (token_in_order w back z n l m k hn hl e o here some plain token) n l m k hn hl e o
      (there_pushed y m.0 k x m.0 k there)))
      (λ credit. rw credit (credit_in_order w back z n l m k hn hl e o here some plain credit))))

  pub line_step_in_order : InOrder (line_stepped w n l)
  unfolding line_stepped
  line_step_in_order = by_far (far_of (w.net.links.cables n l)) refl
    where
      by_far : (f : Far) → far_of (w.net.links.cables n l) ≡ f → InOrder (left_by w n l f)
      by_far Nowhere e = z
      by_far (At m k) e =
          by_test (line_empty w n l)
          (λ none. rw none z)
          (λ some. rw some (arrival m k e (positive (w.net.lines.rings n l).held (eqb-false _ 0 some))))
