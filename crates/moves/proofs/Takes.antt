-- What is left to take after a token is taken, with the grant that it brings. Assumes nothing.
use Prim.Native.Nat.{ℕ, ◌+◌, ◌<◌, ◌≤◌}
use mathlib.Core.Path.{◌≡◌, refl, sym, ap, ◌∙◌}
use mathlib.Core.List.{List, []}
use native.Mathlib.Omega.{arith}
use lib.Dec.{ltb}
use lib.ListN.{length-set}
use borrow.Author.Tests.{ltb-true}
use Rattle.laws.proofs.Order.{by_test}
use Rattle.names.specs.Size.{links}
use Rattle.ports.specs.Memory.{place}
use Rattle.cells.specs.View.{Net, with_lines}
use Rattle.cells.specs.World.{World}
use Rattle.acts.specs.Acts.{with_store, popped}
use Rattle.acts.specs.Needs.{Holds}
use Rattle.acts.proofs.Pushes.{popped_counters}
use Rattle.travel.specs.Travel.{grants_back}
use Rattle.travel.specs.Needs.{Grants}
use Rattle.travel.proofs.There.{grants_kept}
use Rattle.travel.proofs.Lent.{with_memory, with_line_memory, back_lent}
use Rattle.travel.proofs.Again.{back_net, back_memory, grants_again}
use Rattle.plans.proofs.Held.{holds_less}
use Rattle.moves.specs.Moves.{grants_up, took}
use Rattle.moves.specs.Needs.{Up, Takes}

pub takes_less : {w : World} {n p : ℕ} (k j : ℕ) → j ≤ k → Takes w n p k → Takes w n p j
takes_less k j h r = record { holds = holds_less k j h r.holds; up = r.up }

-- A grant changes lines, and neither the number of nodes, nor a port, nor a link
module _ (w : World) (n p : ℕ) where
  pub by_up : (P : World → Type 0) → P w → (p < links → P (grants_back w n p)) → P (grants_up w n p)
  by_up P a b = by_test (ltb p links) (λ e. rw e (b (ltb-true p links e))) (λ e. rw e a)

  pub up_net : (grants_up w n p).net ≡ with_lines w.net (grants_up w n p).net.lines
  up_net = by_up (λ y. y.net ≡ with_lines w.net y.net.lines) refl (λ h. back_net w n p)

  pub up_memory : (grants_up w n p).memory ≡ w.memory
  up_memory = by_up (λ y. y.memory ≡ w.memory) refl (λ h. back_memory w n p)

  pub up_nodes : (grants_up w n p).net.nodes ≡ w.net.nodes
  up_nodes = ap (λ (s : Net). s.nodes) up_net

  pub up_ports : (grants_up w n p).net.ports ≡ w.net.ports
  up_ports = ap (λ (s : Net). s.ports) up_net

  pub up_links : (grants_up w n p).net.links ≡ w.net.links
  up_links = ap (λ (s : Net). s.links) up_net

  pub up_ends : (grants_up w n p).net.ends ≡ w.net.ends
  up_ends = ap (λ (s : Net). s.ends) up_net

-- .. whatever tokens there are
up_lent : (w : World) (m : List ℕ) (n p : ℕ) → grants_up (with_memory w m) n p ≡ with_memory (grants_up w n p) m
up_lent w m n p = by_test (ltb p links) (λ e. rw e (back_lent w m n p)) (λ e. rw e)

module _ (w : World) (n p : ℕ) where
  popped_holds : (k : ℕ) → Holds w n p (k + 1) → Holds (popped w n p) n p k
  unfolding popped
  popped_holds k r =
      record {
        node = r.node;
        port = r.port;
        fair = rw (popped_counters w n p) (record { head_in = omega arith; held_in = omega (arith, r.fair.held_in) });
        held = rw (popped_counters w n p) (omega (arith, r.held));
        reaches = rw (length-set w.memory (place n p + (w.net.ports.counters n p).head) 0) r.reaches;
      }

  popped_grants : Grants w n p → Grants (popped w n p) n p
  unfolding popped
  popped_grants z = grants_kept refl refl refl refl z

  pub takes_left : (k : ℕ) → Takes w n p (k + 1) → Takes (took w n p) n p k
  unfolding took
  takes_left k r =
      let y = popped w n p in
      let h = popped_holds k r.holds in
      record {
        holds =
            record {
              node = rw (up_nodes y n p) h.node;
              port = h.port;
              fair = rw (up_ports y n p) h.fair;
              held = rw (up_ports y n p) h.held;
              reaches = rw (up_memory y n p) h.reaches;
            };
        up = λ l. by_up y n p (λ z. Grants z n p) (popped_grants (r.up l)) (λ h. grants_again y n p (popped_grants (r.up l)));
      }

-- .. where the world after is known by an equation
pub takes_after : (w z : World) (n p k : ℕ) → z ≡ took w n p → Takes w n p (k + 1) → Takes z n p k
takes_after w z n p k e r = rw e (takes_left w n p k r)

-- A token popped with no line at hand, and then a grant considered with no token at hand
module _ (w : World) (s : Net) (m ls : List ℕ) (n p : ℕ) (e : with_store w s m ≡ popped w n p) where
  popped_lent : with_line_memory (with_store w s m) ls ≡ popped (with_line_memory w ls) n p
  unfolding popped
  popped_lent = ap (λ (y : World). with_line_memory y ls) e

  pub up_after : Up (with_line_memory w ls) n p → Up (record { net = s; memory = []; line_memory = ls }) n p
  unfolding popped
  up_after u h =
      let net_is = ap (λ (y : World). y.net) e in
      grants_kept (ap (λ (y : Net). y.nodes) net_is) (ap (λ (y : Net). y.lines) net_is) refl
      (ap (λ (y : Net). y.links.cables n p) net_is) (u h)

  pub took_gives : (z : Net) (b : List ℕ) → record { net = z; memory = []; line_memory = b }
      ≡ grants_up (record { net = s; memory = []; line_memory = ls }) n p
      → record { net = z; memory = m; line_memory = b } ≡ took (with_line_memory w ls) n p
  unfolding took
  took_gives z b h =
      ap (λ (y : World). with_memory y m) h
      ∙ sym (up_lent (record { net = s; memory = []; line_memory = ls }) m n p)
      ∙ ap (λ (y : World). grants_up y n p) popped_lent
