-- The plan of an Output on a sound state can be carried out. Assumes nothing.
use Prim.{tt}
use Prim.Native.Nat.{ℕ, ◌+◌, ◌<◌, ◌≤◌}
use mathlib.Core.Path.{◌≡◌}
use mathlib.Core.Bool.{true, false, not}
use mathlib.Core.Logic.{inl, inr, ⊎_elim}
use native.Mathlib.Omega.{arith}
use lib.Dec.{eqb, leb}
use borrow.Author.Tests.{eqb-true, eqb-false, leb-false}
use Rattle.laws.specs.All.{first}
use Rattle.laws.proofs.All.{also, as_is, either, equal, below, first_passes, first_found}
use Rattle.laws.proofs.Order.{by_test}
use Rattle.names.specs.Size.{first_tile_port, reply_port, ports, ends, sink}
use Rattle.circuits.specs.Circuit.{peer_of}
use Rattle.circuits.specs.declared.Peer.{Peer}
use Rattle.circuits.specs.declared.Peer.TheVariants as Peers
use Rattle.tokens.specs.Header.{header_of, is_narrow, legal_target}
use Rattle.tokens.specs.declared.header.Target.{Target}
use Rattle.tokens.specs.declared.header.Target.TheVariants.{Channel, Unit}
use Rattle.tokens.specs.Shape.{legal_channel}
use Rattle.tokens.proofs.Channels.{legal_channel_lem}
use Rattle.routing.specs.Way.{way_to, Way, ThisNode, OtherNode}
use Rattle.ports.specs.Queue.{capacity}
use Rattle.cells.specs.View.{whole_port}
use Rattle.cells.specs.World.{World}
use Rattle.cells.specs.declared.end.Aim.{Aim}
use Rattle.clauses.specs.Counts.{tile_port}
use Rattle.clauses.specs.Pairs.{taken, open_by}
use Rattle.clauses.proofs.Meanings.{AimFacts}
use Rattle.acts.specs.Acts.{width_at, number_at, channel_claimed, channel_full}
use Rattle.acts.specs.Needs.{Room, Door}
use Rattle.acts.proofs.Doors.{given_room}
use Rattle.sound.proofs.Facts.{end_facts, open_facts, fair, reaches}
use Rattle.ends.specs.Ends.{end_at}
use Rattle.ends.specs.Plan.{target_of, free_port, lowest_free, port_plan, straight_plan, local_plan, output_by_way, target_plan}
use Rattle.ends.specs.Plan.{open_plan, behind_plan, by_peer, output_plan}
use Rattle.ends.specs.Needs.{AimFits, Fits, OutputPossible, with_lines, SoundBy, Sends}
use Rattle.ends.proofs.There.{is_there}

one_not_two : {a : ℕ} → a ≡ 1 → a ≡ 2 → ⊥
one_not_two e f = omega arith

pub tile_there : (p : ℕ) → tile_port p ≡ true → p < ports
tile_there p e = let z = (also (as_is (leb first_tile_port p)) (below p reply_port)).sure e in omega (arith, z.1)

-- a channel that can be named is the sink, or is there
pub legal_door : (d : ℕ) → legal_channel d ≡ true → Door d
legal_door d l = ⊎_elim (λ h. inr (omega arith)) (λ h. inl h) ((legal_channel_lem d).sure l)

module _ (w : World) (n c t : ℕ) (g : Target) (s : Sends w n c g) where
  -- a port of the node, with room
  roomy : (p k : ℕ) → p < ports → (w.net.ports.counters n p).held + k ≤ capacity → Room w n p k
  roomy p k h r =
      record {
        node = s.node;
        port = h;
        fair = fair (with_lines w s.sure.lines) s.sure.all n s.node p h;
        room = r;
        reaches = reaches (with_lines w s.sure.lines) s.sure.all n s.node p h;
      }

  free_room : (p : ℕ) → free_port w.net n p ≡ true → Room w n p 4
  free_room p e =
      let k = whole_port w.net n p in
      let z = (also (as_is (tile_port p)) (also (equal k.leg.circuit.kind 0) (equal k.counters.held 0))).sure e in
      roomy p 4 (tile_there p z.0) (omega (arith, z.1.1))

  port_possible : OutputPossible w n t (port_plan w.net n)
  port_possible =
      let f = free_port w.net n in
      by_test (eqb (lowest_free w.net n) reply_port)
      (λ e. rw e tt)
      (λ e. rw e (free_room (first reply_port f) (first_passes f reply_port (first_found f reply_port (eqb-false _ _ e)))))

  straight_possible : (d : ℕ) → Door d → OutputPossible w n t (straight_plan w.net n d t)
  straight_possible d h =
      by_test (channel_full w.net n d t) (λ e. rw e tt) (λ e. rw e (given_room w.net n d t h e))

  channel_possible : (d : ℕ) → Door d → OutputPossible w n t (local_plan w.net n d t)
  channel_possible d h = by_test (channel_claimed w.net n d) (λ e. rw e tt) (λ e. rw e (straight_possible d h))

  way_possible : (y : Way) (d : ℕ) → Door d → OutputPossible w n t (output_by_way w.net n y d t)
  way_possible ThisNode d l = channel_possible d l
  way_possible (OtherNode b) d l = port_possible

  target_possible : (x : Target) → legal_target x ≡ true → OutputPossible w n t (target_plan w.net n x t)
  target_possible (Channel m d) l = way_possible (way_to (width_at w.net n) m (number_at w.net n)) d (legal_door d l)
  target_possible (Unit m) l = port_possible

  open_possible : legal_target g ≡ true → OutputPossible w n t (open_plan w.net n g t)
  open_possible l =
      by_test (is_narrow (header_of g (width_at w.net n))) (λ e. rw e tt) (λ e. rw e (target_possible g l))

  behind_possible : (p : ℕ) → tile_port p ≡ true → OutputPossible w n t (behind_plan w.net n p)
  behind_possible p h =
      by_test (leb capacity (w.net.ports.counters n p).held)
      (λ e. rw e tt)
      (λ e. rw e (roomy p 1 (tile_there p h) (omega (arith, leb-false capacity (w.net.ports.counters n p).held e))))

  peer_possible : (x : Peer) → open_by w.net n x ≡ true → legal_target g ≡ true → OutputPossible w n t (by_peer w.net n x g t)
  peer_possible Peers.Nobody h l = open_possible l
  peer_possible (Peers.Port p) h l = behind_possible p ((also (as_is (tile_port p)) (as_is (taken w.net n p))).sure h).0
  peer_possible (Peers.End d) h l = straight_possible d ((either (equal d sink) (below d ends)).sure h)

  -- a channel-end that is open goes where it can go
  pub opened : open_by w.net n (peer_of (w.net.ends.sendings n c)) ≡ true
  opened =
      by_test (eqb (w.net.ends.sendings n c).kind 0)
      (λ e. rw (eqb-true (w.net.ends.sendings n c).kind 0 e))
      (λ e.
      let o = rw e at (open_facts (with_lines w s.sure.lines) s.sure.all n s.node c s.end) in
      ((also (as_is (not (eqb (w.net.ends.aims n c).kind 0)))
      (as_is (open_by w.net n (peer_of (w.net.ends.sendings n c))))).sure o).1)

  aim_facts : AimFacts (w.net.ends.aims n c)
  aim_facts = ⊎_elim (λ z. absurd (s.aimed z)) (λ f. f) (end_facts (with_lines w s.sure.lines) s.sure.all n s.node c s.end).aim

  pub legal : legal_target g ≡ true
  legal =
      rw s.target (by_test (eqb (w.net.ends.aims n c).kind 1)
      (λ e. rw e (⊎_elim (λ z. absurd (one_not_two (eqb-true _ _ e) z)) (λ z. z.1) aim_facts.place))
      (λ e. rw e))

  pub plan_possible : OutputPossible w n t (output_plan w.net n c g t)
  unfolding output_plan
  plan_possible = peer_possible (peer_of (w.net.ends.sendings n c)) opened legal

-- a destination that is aimed fits its words
pub aim_fits : (k : Aim) → AimFacts k → AimFits k
aim_fits k f = (f.number, λ e. ⊎_elim (λ z. absurd (one_not_two e z)) (λ z. narrow z.1) f.place)
  where
    narrow : legal_channel k.channel ≡ true → k.channel < 256
    narrow l = ⊎_elim (λ h. omega arith) (λ h. omega arith) ((legal_channel_lem k.channel).sure l)

module _ (w : World) (n c : ℕ) (s : SoundBy w) (h : end_at w.net n c ≡ true) where
  -- so does that of a channel-end of a sound state
  pub fits_here : Fits (w.net.ends.aims n c)
  fits_here ne =
      let z = is_there w.net n c h in
      aim_fits (w.net.ends.aims n c) (⊎_elim (λ a. absurd (ne a)) (λ f. f) (end_facts (with_lines w s.lines) s.all n z.0 c z.1).aim)

  pub sends_here : (g : Target) → (eqb (w.net.ends.aims n c).kind 0 ≡ false) × (g ≡ target_of (w.net.ends.aims n c)) → Sends w n c g
  sends_here g a =
      let z = is_there w.net n c h in
      record { sure = s; node = z.0; end = z.1; aimed = eqb-false _ _ a.0; target = a.1 }
