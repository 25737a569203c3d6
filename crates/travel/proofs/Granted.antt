-- A grant considered: what it leaves as it was. Only lines are written, every line that could be read still can, and the tokens on each are
-- what they were, since a credit is no token. Assumes nothing.
use Prim.Native.Nat.{ℕ, ◌+◌, ◌%◌, ◌<◌}
use mathlib.Core.Path.{◌≡◌, refl, sym}
use mathlib.Core.List.{List}
use mathlib.Core.Logic.{◌⊎◌, inl, inr}
use native.Mathlib.Omega.{arith}
use lib.Dec.{eqb, ltb}
use lib.ListN.{length, length-set}
use borrow.Author.Tests.{eqb-false}
use Rattle.laws.specs.Table.{Off}
use Rattle.laws.proofs.All.{also, equal}
use Rattle.laws.proofs.Order.{by_test}
use Rattle.laws.proofs.Table.{upd_all, upd_miss, place}
use Rattle.names.specs.Size.{links}
use Rattle.names.specs.declared.Slot.{Slot}
use Rattle.ports.specs.Ring.{put_counters}
use Rattle.lines.specs.Line.{line_capacity, LineFair, line_place}
use Rattle.lines.specs.Load.{credit_word, tokens_of}
use Rattle.credits.specs.Grant.{Granted, none}
use Rattle.credits.proofs.Grants.{granted}
use Rattle.cells.specs.View.{LineTables, with_lines}
use Rattle.cells.specs.World.{World, far_of, line_from, Far, Nowhere, At}
use Rattle.acts.specs.Acts.{with_net}
use Rattle.travel.specs.Travel.{load_from, put_on, may_grant, by_count, grant_to, grant_due, issued_more, issues, grants_back}
use Rattle.travel.specs.Needs.{LineThere}
use Rattle.travel.specs.Accounts.{InOrder}
use Rattle.travel.proofs.Cables.{Backs}
use Rattle.travel.proofs.Due.{due_room, word_is}
use Rattle.travel.proofs.Keeps.{grant_in_order}
use Rattle.travel.proofs.There.{there_net}
use Rattle.travel.proofs.Tokens.{credit_none, put_none, put_tokens_away}

-- other lines, and everything else as it was
abbrev pub lines_as : World → LineTables → List ℕ → World
lines_as w t ls = record { net = with_lines w.net t; memory = w.memory; line_memory = ls }

-- a grant of link k of node m goes to a greeted link, at the far end of its cable
pub record GoesTo (w : World) (m k : ℕ) : Type 0 where
  pub slot : Slot
  pub link : ℕ
  pub leads : far_of (w.net.links.cables m k) ≡ At slot link
  pub greeted : (w.net.links.flows slot.0 link).greeted ≡ 1

-- what link k of node m has put on its line, if anything, is no token
pub record Signals (w z : World) (m k : ℕ) : Type 0 where
  pub leaves : z ≡ lines_as w z.net.lines z.line_memory
  pub long : length z.line_memory ≡ length w.line_memory
  pub rings : (a j : ℕ) → Off m k a j → z.net.lines.rings a j ≡ w.net.lines.rings a j
  pub used : (z.net.lines.rings m k ≡ w.net.lines.rings m k) ⊎ GoesTo w m k
  pub there : (a j : ℕ) → LineThere w a j → LineThere z a j
  pub tokens : (a j : ℕ) → j < links → tokens_of (line_from z a j) ≡ tokens_of (line_from w a j)

module _ (w : World) (m k : ℕ) where
  -- a grant is one of four
  pub due_granted : Granted (grant_due w m k)
  unfolding grant_due
  due_granted = at_far (far_of (w.net.links.cables m k))
    where
      counted : Granted (by_count w m k)
      counted =
          by_test (ltb (w.net.lines.rings m k).held line_capacity)
          (λ e. rw e (granted (w.net.lines.issued m k) (w.net.ports.counters m k).held))
          (λ e. rw e none)

      at_far : (f : Far) → Granted (grant_to w m k f)
      at_far Nowhere = none
      at_far (At n l) = by_test (may_grant w n.0 l) (λ e. rw e counted) (λ e. rw e none)

  due_to : (grant_due w m k ≡ 0 → ⊥) → GoesTo w m k
  unfolding grant_due
  due_to some = at_far (far_of (w.net.links.cables m k)) refl some
    where
      at_far : (f : Far) → far_of (w.net.links.cables m k) ≡ f → (grant_to w m k f ≡ 0 → ⊥) → GoesTo w m k
      at_far Nowhere e h = absurd (h refl)
      at_far (At n l) e h =
          by_test (may_grant w n.0 l)
          (λ may.
          let z = (also (equal (w.net.links.flows n.0 l).greeted 1) (equal (load_from w n.0 l).hellos 0)).sure may in
          record { slot = n; link = l; leads = e; greeted = z.0 })
          (λ may. absurd (h (rw may)))

  pub none_leads : far_of (w.net.links.cables m k) ≡ Nowhere → grants_back w m k ≡ w
  unfolding grants_back grant_due
  none_leads e = rw e

  issued : (grant_due w m k ≡ 0 → ⊥) → LineThere w m k → Signals w (issues w m k (grant_due w m k)) m k
  unfolding put_on
  issued some here =
      let g = grant_due w m k in
      let x = credit_word g in
      let y = with_net w (issued_more w.net m k g) in
      let c = w.net.lines.rings m k in
      let room : c.held < line_capacity = due_room w m k g refl some in
      let there : LineThere y m k = there_net refl refl here in
      let credit = word_is due_granted some in
      let long = length-set w.line_memory (line_place m k + (c.head + c.held) % line_capacity) x in
      record {
        leaves = refl;
        long = long;
        rings = λ a j o. upd_miss w.net.lines.rings m k (put_counters c) a j o;
        used = inr (due_to some);
        there = λ a j z.
            record {
              node = z.node;
              link = z.link;
              fair = upd_all (λ b i q. b ≡ a → i ≡ j → LineFair q) w.net.lines.rings m k (put_counters c) a j
                  (λ ea ej p q. record { head_in = here.fair.head_in; held_in = omega arith })
                  (λ o p q. z.fair) refl refl;
              reaches = rw long z.reaches;
            };
        tokens = λ a j hj. place m k a j
            (λ ea ej. rw (ea, ej) (put_none y m k there x room (credit_none x credit.0 credit.1)))
            (λ o. put_tokens_away y m k there x a j hj o);
      }

  pub signals : LineThere w m k → Signals w (grants_back w m k) m k
  unfolding grants_back
  signals here =
      let g = grant_due w m k in
      by_test (eqb g 0) (λ e. rw e still) (λ e. rw e (issued (eqb-false g 0 e) here))
    where
      still : Signals w w m k
      still = record {
        leaves = refl;
        long = refl;
        rings = λ a j o. refl;
        used = inl refl;
        there = λ a j z. z;
        tokens = λ a j hj. refl;
      }

-- the accounts stay in order, wherever the cable of link l of node n leads
module _ (w : World) (back : Backs w.net.nodes w.net.links.cables) (z : InOrder w) (n l : ℕ) (hn : n < w.net.nodes)
    (hl : l < links) (apart : (m : Slot) (k : ℕ) → far_of (w.net.links.cables n l) ≡ At m k → Off n l m.0 k)
    (line : LineThere w n l) where
  pub granted_in_order : InOrder (grants_back w n l)
  granted_in_order = by_far (far_of (w.net.links.cables n l)) refl
    where
      by_far : (f : Far) → far_of (w.net.links.cables n l) ≡ f → InOrder (grants_back w n l)
      by_far Nowhere e = rw (none_leads w n l e) z
      by_far (At m k) e =
          let far = back n l hn hl m k e in
          grant_in_order w back z m.0 k (record { 0 = n }) l far.0 far.1 far.2 (λ a b. apart m k e (sym a) (sym b)) line
