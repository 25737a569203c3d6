-- What the steps of a passing token come to, from the contracts of the functions that make them, and what each asks of the state that the
-- one before left. Assumes nothing.
use Prim.Native.Nat.{ℕ, ◌+◌, ◌<◌, ◌≤◌}
use mathlib.Core.Path.{◌≡◌, refl, sym, ap, ◌∙◌}
use mathlib.Core.List.{List, []}
use native.Mathlib.Omega.{arith}
use lib.Dec.{eqb}
use lib.ListN.{length, length-set}
use Rattle.laws.proofs.Order.{by_test}
use Rattle.laws.proofs.Table.{upd_all}
use Rattle.names.specs.Size.{links, sink}
use Rattle.tokens.specs.Word.{closes}
use Rattle.ports.specs.Queue.{capacity, Fair, take_counters}
use Rattle.ports.specs.Memory.{place}
use Rattle.ports.specs.declared.Counters.{Counters}
use Rattle.lines.specs.Line.{line_capacity}
use Rattle.lines.specs.Load.{tokens_of}
use Rattle.lines.proofs.Ends.{how_many_tokens}
use Rattle.cells.specs.View.{Net}
use Rattle.cells.specs.World.{World, line_from}
use Rattle.acts.specs.Acts.{popped, with_net, first_at}
use Rattle.acts.specs.Needs.{Room, Holds, Given}
use Rattle.travel.specs.Travel.{load_from, grants_back, sends_on}
use Rattle.travel.specs.Needs.{LineThere}
use Rattle.travel.proofs.There.{there_kept, grants_kept}
use Rattle.travel.proofs.Lent.{with_memory, send_lent}
use Rattle.travel.proofs.Granted.{Signals, signals}
use Rattle.moves.specs.Moves.{took, closes_out, moves_out, opens_channel, opens_unit}
use Rattle.moves.specs.Needs.{Up, Takes, LineRoom, Passes}
use Rattle.moves.proofs.Takes.{by_up, up_memory, up_nodes, up_ports, up_links, up_ends}

-- counters of a port that can take k more tokens
Able : ℕ → Counters → Type 0
Able k q = Fair q × (q.held + k ≤ capacity)

module _ (w : World) (n p : ℕ) where
  pub took_nodes : (took w n p).net.nodes ≡ w.net.nodes
  unfolding took popped
  took_nodes = up_nodes (popped w n p) n p

  took_ends : (took w n p).net.ends ≡ w.net.ends
  unfolding took popped
  took_ends = up_ends (popped w n p) n p

  pub took_links : (took w n p).net.links ≡ w.net.links
  unfolding took popped
  took_links = up_links (popped w n p) n p

  -- taking a token leaves room where there was
  popped_able : (m j k : ℕ) → Holds w n p 1 → Able k (w.net.ports.counters m j) → Able k ((popped w n p).net.ports.counters m j)
  unfolding popped Able
  popped_able m j k h a =
      let c = w.net.ports.counters in
      upd_all (λ b d q. Able k (c b d) → Able k q) c n p (take_counters (c n p)) m j
      (λ d e. rw (d, e) (λ x. (record { head_in = omega arith; held_in = omega (arith, x.0.held_in) }, omega (arith, x.1))))
      (λ o x. x) a

  pub took_room : (m j k : ℕ) → Holds w n p 1 → Room w m j k → Room (took w n p) m j k
  unfolding took popped Able
  took_room m j k h r =
      let y = popped w n p in
      let a = popped_able m j k h (r.fair, r.room) in
      record {
        node = rw (up_nodes y n p) r.node;
        port = r.port;
        fair = rw (up_ports y n p) a.0;
        room = rw (up_ports y n p) a.1;
        reaches = rw (up_memory y n p, length-set w.memory (place n p + (w.net.ports.counters n p).head) 0) r.reaches;
      }

  -- .. every line that could be read, and the tokens on it
  granted : Up w n p → p < links → Signals (popped w n p) (grants_back (popped w n p) n p) n p
  unfolding popped
  granted u h = signals (popped w n p) n p (there_kept refl refl refl (u h).here)

  pub took_there : Up w n p → (a j : ℕ) → LineThere w a j → LineThere (took w n p) a j
  unfolding took popped
  took_there u a j z =
      let y : LineThere (popped w n p) a j = there_kept refl refl refl z in
      by_up (popped w n p) n p (λ v. LineThere v a j) y (λ h. (granted u h).there a j y)

  pub took_coming : Up w n p → (a j : ℕ) → j < links → tokens_of (line_from (took w n p) a j) ≡ tokens_of (line_from w a j)
  unfolding took popped
  took_coming u a j hj =
      by_up (popped w n p) n p (λ v. tokens_of (line_from v a j) ≡ tokens_of (line_from w a j)) refl
      (λ h. (granted u h).tokens a j hj)

  pub took_tokens : Up w n p → (a j : ℕ) → j < links → (load_from (took w n p) a j).tokens ≡ (load_from w a j).tokens
  took_tokens u a j hj =
      sym (how_many_tokens (line_from (took w n p) a j)) ∙ ap length (took_coming u a j hj) ∙ how_many_tokens (line_from w a j)

-- A hop that closes leaves the number of nodes, and lines
module _ (s : Net) (n p l x : ℕ) where
  pub closed_nodes : (closes_out s n p l x).nodes ≡ s.nodes
  closed_nodes = by_test (closes x) (λ e. rw e) (λ e. rw e)

  pub closed_lines : (closes_out s n p l x).lines ≡ s.lines
  closed_lines = by_test (closes x) (λ e. rw e) (λ e. rw e)

-- The state after a token is taken, known by an equation
module _ (w z : World) (n p : ℕ) (e : z ≡ took w n p) where
  net_is : z.net ≡ (took w n p).net
  net_is = ap (λ (y : World). y.net) e

  pub node_after : n < w.net.nodes → n < z.net.nodes
  node_after h = rw (net_is, took_nodes w n p) h

  pub given_after : (c x : ℕ) → x ≡ first_at w n p → Given w.net n c (first_at w n p) → Given z.net n c x
  given_after c x q g = rw (q, net_is, took_ends w n p) g

  pub after_took : (s : Net) (x : ℕ) (f : Net → ℕ → Net) → x ≡ first_at w n p → s ≡ f z.net x
      → with_net z s ≡ with_net (took w n p) (f (took w n p).net (first_at w n p))
  after_took s x f q h =
      λ j. record {
        net = (h ∙ ap (f z.net) q ∙ ap (λ (y : Net). f y (first_at w n p)) net_is) j;
        memory = ap (λ (y : World). y.memory) e j;
        line_memory = ap (λ (y : World). y.line_memory) e j;
      }

  pub line_after : (s : Net) (l x : ℕ) → s ≡ closes_out z.net n p l x → Passes w n p l
      → LineThere (record { net = s; memory = []; line_memory = z.line_memory }) n l × ((s.lines.rings n l).held < line_capacity)
  line_after s l x h r =
      let t : LineRoom z n l = rw e r in
      rw h (
        there_kept (closed_nodes z.net n p l x) (closed_lines z.net n p l x) refl t.there,
        rw (closed_lines z.net n p l x) t.room,
      )

-- A token sent, with no other token at hand
pub moves_gives : (w y : World) (s : Net) (ls : List ℕ) (n p l x : ℕ) → x ≡ first_at w n p
    → y ≡ with_net (took w n p) (closes_out (took w n p).net n p l (first_at w n p))
    → record { net = s; memory = []; line_memory = ls } ≡ sends_on (with_memory y []) n l x
    → record { net = s; memory = y.memory; line_memory = ls } ≡ moves_out w n p l
moves_gives w y s ls n p l x q d h =
    ap (λ (v : World). with_memory v y.memory) h
    ∙ sym (send_lent (with_memory y []) y.memory n l x)
    ∙ ap (sends_on y n l) q
    ∙ ap (λ (v : World). sends_on v n l (first_at w n p)) d

-- A circuit that opens leaves what there is to take
takes_kept : (w : World) (s : Net) (n p k : ℕ) → s.nodes ≡ w.net.nodes → s.ports.counters ≡ w.net.ports.counters
    → s.lines ≡ w.net.lines
    → s.links.cables n p ≡ w.net.links.cables n p
    → Takes w n p k
    → Takes (with_net w s) n p k
takes_kept w s n p k d c l f r =
    let h = r.holds in
    record {
      holds = record { node = rw d h.node; port = h.port; fair = rw c h.fair; held = rw c h.held; reaches = h.reaches };
      up = λ g. grants_kept d l refl f (r.up g);
    }

pub channel_takes : (w : World) (n p k c t : ℕ) → Takes w n p k → Takes (with_net w (opens_channel w.net n p c t)) n p k
channel_takes w n p k c t r =
    by_test (eqb c sink)
    (λ e. rw e (takes_kept w _ n p k refl refl refl refl r))
    (λ e. rw e (takes_kept w _ n p k refl refl refl refl r))

pub unit_takes : (w : World) (n p k : ℕ) → Takes w n p k → Takes (with_net w (opens_unit w.net n p)) n p k
unit_takes w n p k r = takes_kept w _ n p k refl refl refl refl r
