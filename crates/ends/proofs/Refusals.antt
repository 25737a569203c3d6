-- The plan of an Output on a sound state is Narrow exactly when `opens_narrow`, and Full exactly when `full` and not that. Assumes nothing.
use Prim.Native.Nat.{ℕ, ◌<◌, ◌≤◌}
use mathlib.Core.Path.{◌≡◌, refl, sym, ap, ◌∙◌}
use mathlib.Core.Bool.{Bool, true, false, not, ◌&&◌, ◌||◌, and-true}
use mathlib.Core.Logic.{⊎_elim}
use native.Mathlib.Omega.{arith}
use lib.Dec.{eqb, leb}
use borrow.Author.Tests.{eqb-true, eqb-false, eq-eqb, ne_eqb, leb-true, leb-false}
use Rattle.laws.specs.Pick.{pick}
use Rattle.laws.specs.All.{all, first}
use Rattle.laws.proofs.All.{also, either, as_is, equal, below, and_false, all_miss, first_passes, first_found, first_least, each}
use Rattle.laws.proofs.Order.{by_test, never}
use Rattle.names.specs.Size.{reply_port, ends, end_buffer, sink}
use Rattle.circuits.specs.Circuit.{peer_of}
use Rattle.circuits.specs.declared.Circuit.{Circuit}
use Rattle.circuits.specs.declared.Peer.{Peer}
use Rattle.circuits.specs.declared.Peer.TheVariants as Peers
use Rattle.tokens.specs.Word.{is_pause}
use Rattle.tokens.specs.Header.{narrow, legal_target}
use Rattle.tokens.specs.declared.header.Target.{Target}
use Rattle.tokens.specs.declared.header.Target.TheVariants.{Channel, Unit}
use Rattle.tokens.proofs.Headers.{narrow_made}
use Rattle.routing.specs.Way.{way_to, Way, ThisNode, OtherNode}
use Rattle.ports.specs.Queue.{capacity}
use Rattle.cells.specs.World.{World}
use Rattle.clauses.specs.Counts.{tile_port}
use Rattle.clauses.specs.Pairs.{taken, end_of, Nothing, One}
use Rattle.clauses.specs.declared.pairs.Role.TheVariants.{EndClaim, ClaimEnd}
use Rattle.acts.specs.Acts.{width_at, number_at, channel_claimed, channel_full}
use Rattle.acts.specs.Needs.{Door}
use Rattle.sound.proofs.Facts.{port_facts, end_facts, pair_facts}
use Rattle.ends.specs.Ends.{is_open}
use Rattle.ends.specs.Plan.{free_port, lowest_free, port_plan, straight_plan, local_plan, output_by_way, target_plan}
use Rattle.ends.specs.Plan.{open_plan, by_peer, output_plan}
use Rattle.ends.specs.Output.{is_narrow_plan, is_full_plan}
use Rattle.ends.specs.Refusals.{opens_narrow, ByFree, Locally, matching, first_goes, goes_as, claimed_by_other}
use Rattle.ends.specs.Refusals.{full_by, full}
use Rattle.ends.specs.Needs.{with_lines, Sends}
use Rattle.ends.specs.declared.plan.Plan.{Plan}
use Rattle.ends.specs.declared.plan.Plan.TheVariants.{Full, Opens, Behind, Straight}
use Rattle.ends.proofs.Possibles.{tile_there, legal_door, opened, legal}

-- what is at most k has reached k exactly where it is k
at_limit : (h k : ℕ) → h ≤ k → leb k h ≡ eqb h k
at_limit h k l =
    by_test (leb k h)
    (λ e. let b = leb-true k h e in e ∙ sym (eq-eqb h k (omega arith)))
    (λ e. let b = leb-false k h e in e ∙ sym (ne_eqb h k (λ q. omega arith)))

-- a plan that a test makes Full, and that else is none of the two
full_by_lem : (b : Bool) (x : Plan) → is_full_plan x ≡ false → is_full_plan (pick b Full x) ≡ b
full_by_lem true x e = refl
full_by_lem false x e = e

not_narrow_by : (b : Bool) (x y : Plan) → is_narrow_plan x ≡ false → is_narrow_plan y ≡ false → is_narrow_plan (pick b x y) ≡ false
not_narrow_by true x y e f = e
not_narrow_by false x y e f = f

-- with whom a circuit is, from its two words, where the kind is one of the three
of_nobody : (k : Circuit) → k.kind ≤ 2 → peer_of k ≡ Peers.Nobody → k.kind ≡ 0
of_nobody k l e =
    by_test (eqb k.kind 1)
    (λ f. never (let z : Peers.Port k.index ≡ Peers.Nobody = rw f at e in cc))
    (λ f. by_test (eqb k.kind 2)
    (λ g. never (let z : Peers.End k.index ≡ Peers.Nobody = rw (f, g) at e in cc))
    (λ g. let a = eqb-false _ _ f in let b = eqb-false _ _ g in few k.kind l a b))
  where
    few : (a : ℕ) → a ≤ 2 → (a ≡ 1 → ⊥) → (a ≡ 2 → ⊥) → a ≡ 0
    few a l x y = omega arith

of_port : (k : Circuit) (p : ℕ) → peer_of k ≡ Peers.Port p → (k.kind ≡ 1) × (k.index ≡ p)
of_port k p e =
    by_test (eqb k.kind 1)
    (λ f. (eqb-true _ _ f, let z : Peers.Port k.index ≡ Peers.Port p = rw f at e in cc))
    (λ f. by_test (eqb k.kind 2)
    (λ g. never (let z : Peers.End k.index ≡ Peers.Port p = rw (f, g) at e in cc))
    (λ g. never (let z : Peers.Nobody ≡ Peers.Port p = rw (f, g) at e in cc)))

of_end : (k : Circuit) (d : ℕ) → peer_of k ≡ Peers.End d → (k.kind ≡ 2) × (k.index ≡ d)
of_end k d e =
    by_test (eqb k.kind 1)
    (λ f. never (let z : Peers.Port k.index ≡ Peers.End d = rw f at e in cc))
    (λ f. by_test (eqb k.kind 2)
    (λ g. (eqb-true _ _ g, let z : Peers.End k.index ≡ Peers.End d = rw (f, g) at e in cc))
    (λ g. never (let z : Peers.Nobody ≡ Peers.End d = rw (f, g) at e in cc)))

-- a name is that of a channel-end
of_named : (x : Peer) (e : ℕ) → end_of x ≡ One e → x ≡ Peers.End e
of_named Peers.Nobody e h = never (cc)
of_named (Peers.Port p) e h = never (cc)
of_named (Peers.End d) e h = let q : d ≡ e = cc in ap Peers.End q

full_or : (a b : Bool) (x : Plan) → is_full_plan x ≡ false → is_full_plan (pick a Full (pick b Full x)) ≡ (a || b)
full_or true b x e = refl
full_or false b x e = full_by_lem b x e

module _ (w : World) (n c t : ℕ) (g : Target) (s : Sends w n c g) where
  -- BY A PORT: none is free exactly where there is no lowest free one
  none_free : eqb (lowest_free w.net n) reply_port ≡ all reply_port (λ p. not (free_port w.net n p))
  none_free =
      let f = free_port w.net n in
      by_test (eqb (lowest_free w.net n) reply_port)
      (λ e. e ∙ sym ((each reply_port (λ p. not (f p)) (λ i. as_is (not (f i)))).back
      (λ i l. ap not (first_least f reply_port i (rw (eqb-true (first reply_port f) reply_port e) l)))))
      (λ e.
      let l = first_found f reply_port (eqb-false _ _ e) in
      e ∙ sym (all_miss (λ p. not (f p)) reply_port (first reply_port f) l (ap not (first_passes f reply_port l))))

  port_full : is_full_plan (port_plan w.net n) ≡ full_by w.net n c t ByFree
  port_full = full_by_lem (eqb (lowest_free w.net n) reply_port) (Opens (lowest_free w.net n)) refl ∙ none_free

  -- LOCALLY: who has a circuit has no other's claim on its channel; who has none, none of its own
  module _ (d : ℕ) (other : eqb d sink ≡ false) where
    own_claim : peer_of (w.net.ends.sendings n c) ≡ Peers.End d → claimed_by_other w.net n c d ≡ false
    own_claim e =
        let back = (pair_facts (with_lines w s.sure.lines) s.sure.all n s.node EndClaim c s.end d (rw (e, other))).1 in
        let own = of_end (w.net.ends.claims n d) c (of_named (peer_of (w.net.ends.claims n d)) c back) in
        rw (own.0, own.1, eq-eqb c c refl)

    no_claim : d < ends → peer_of (w.net.ends.sendings n c) ≡ Peers.Nobody
        → claimed_by_other w.net n c d ≡ not (eqb (w.net.ends.claims n d).kind 0)
    no_claim hd e =
        let k = w.net.ends.claims n d in
        by_test (eqb k.kind 2 && eqb k.index c)
        (λ own.
        let z = (also (equal k.kind 2) (equal k.index c)).sure own in
        let back = (pair_facts (with_lines w s.sure.lines) s.sure.all n s.node ClaimEnd d hd c (rw (z.0, z.1))).1 in
        never (let q : Nothing ≡ One d = rw e at back in cc))
        (λ own. rw own (and-true _))

    eight : d < ends → leb end_buffer (w.net.ends.buffers n d).held ≡ eqb (w.net.ends.buffers n d).held end_buffer
    eight hd = at_limit _ _ (end_facts (with_lines w s.sure.lines) s.sure.all n s.node d hd).held

    there : Door d → d < ends
    there h = ⊎_elim (λ q. absurd (eqb-false _ _ other q)) (λ l. l) h

  straight_full : (d : ℕ) → Door d → peer_of (w.net.ends.sendings n c) ≡ Peers.End d
      → is_full_plan (straight_plan w.net n d t) ≡ full_by w.net n c t (Locally d)
  straight_full d h e =
      by_test (eqb d sink)
      (λ q. rw q)
      (λ q. rw (q, own_claim d q e, eight d q (there d q h)) (full_by_lem _ (Straight d) refl))

  local_full : (d : ℕ) → Door d → peer_of (w.net.ends.sendings n c) ≡ Peers.Nobody
      → is_full_plan (local_plan w.net n d t) ≡ full_by w.net n c t (Locally d)
  local_full d h e =
      by_test (eqb d sink)
      (λ q. rw q)
      (λ q. rw (q, no_claim d q (there d q h) e, eight d q (there d q h))
      (full_or (not (eqb (w.net.ends.claims n d).kind 0)) (eqb (w.net.ends.buffers n d).held end_buffer && not (is_pause t))
      (Straight d) refl))

  -- THE FIRST TOKEN
  way_full : (y : Way) (d : ℕ) → Door d → peer_of (w.net.ends.sendings n c) ≡ Peers.Nobody
      → is_full_plan (output_by_way w.net n y d t) ≡ full_by w.net n c t (matching y d)
  way_full ThisNode d h e = local_full d h e
  way_full (OtherNode b) d h e = port_full

  target_full : (x : Target) → legal_target x ≡ true → peer_of (w.net.ends.sendings n c) ≡ Peers.Nobody
      → is_full_plan (target_plan w.net n x t) ≡ full_by w.net n c t (first_goes w.net n x)
  target_full (Channel m d) l e = way_full (way_to (width_at w.net n) m (number_at w.net n)) d (legal_door d l) e
  target_full (Unit m) l e = port_full

  -- 9: THE PLAN IS NARROW EXACTLY WHEN THE OUTPUT OPENS NARROWLY
  is_shut_lem : peer_of (w.net.ends.sendings n c) ≡ Peers.Nobody → eqb (w.net.ends.sendings n c).kind 0 ≡ true
  is_shut_lem e =
      let k = w.net.ends.sendings n c in
      eq-eqb k.kind 0 (of_nobody k (end_facts (with_lines w s.sure.lines) s.sure.all n s.node c s.end).sending e)

  by_port_lem : (p : ℕ) → peer_of (w.net.ends.sendings n c) ≡ Peers.Port p → eqb (w.net.ends.sendings n c).kind 0 ≡ false
  by_port_lem p e = rw (of_port (w.net.ends.sendings n c) p e).0

  by_end_lem : (d : ℕ) → peer_of (w.net.ends.sendings n c) ≡ Peers.End d → eqb (w.net.ends.sendings n c).kind 0 ≡ false
  by_end_lem d e = rw (of_end (w.net.ends.sendings n c) d e).0

  port_wide : is_narrow_plan (port_plan w.net n) ≡ false
  port_wide = not_narrow_by (eqb (lowest_free w.net n) reply_port) Full (Opens (lowest_free w.net n)) refl refl

  straight_wide : (d : ℕ) → is_narrow_plan (straight_plan w.net n d t) ≡ false
  straight_wide d = not_narrow_by (channel_full w.net n d t) Full (Straight d) refl refl

  way_wide : (y : Way) (d : ℕ) → is_narrow_plan (output_by_way w.net n y d t) ≡ false
  way_wide ThisNode d = not_narrow_by (channel_claimed w.net n d) Full (straight_plan w.net n d t) refl (straight_wide d)
  way_wide (OtherNode b) d = port_wide

  target_wide : (x : Target) → is_narrow_plan (target_plan w.net n x t) ≡ false
  target_wide (Channel m d) = way_wide (way_to (width_at w.net n) m (number_at w.net n)) d
  target_wide (Unit m) = port_wide

  open_narrow : is_narrow_plan (open_plan w.net n g t) ≡ narrow (width_at w.net n) g
  open_narrow =
      rw (narrow_made (width_at w.net n) g (legal w n c t g s))
      (by_test (narrow (width_at w.net n) g) (λ e. rw e) (λ e. rw e (target_wide g)))

  peer_narrow : (x : Peer) → peer_of (w.net.ends.sendings n c) ≡ x
      → is_narrow_plan (by_peer w.net n x g t) ≡ (not (is_open w.net n c) && narrow (width_at w.net n) g)
  peer_narrow Peers.Nobody e = rw (is_shut_lem e) open_narrow
  peer_narrow (Peers.Port p) e =
      rw (by_port_lem p e) (not_narrow_by (leb capacity (w.net.ports.counters n p).held) Full (Behind p) refl refl)
  peer_narrow (Peers.End d) e = rw (by_end_lem d e) (straight_wide d)

  pub narrow_plan : is_narrow_plan (output_plan w.net n c g t) ≡ opens_narrow w.net n c
  unfolding output_plan opens_narrow
  narrow_plan =
      peer_narrow (peer_of (w.net.ends.sendings n c)) refl
      ∙ ap (λ (x : Target). not (is_open w.net n c) && narrow (width_at w.net n) x) s.target

  -- 10: FULL EXACTLY WHEN `full`, AND NOT NARROW
  open_full : peer_of (w.net.ends.sendings n c) ≡ Peers.Nobody
      → is_full_plan (open_plan w.net n g t) ≡ (full_by w.net n c t (first_goes w.net n g) && not (narrow (width_at w.net n) g))
  open_full e =
      rw (narrow_made (width_at w.net n) g (legal w n c t g s))
      (by_test (narrow (width_at w.net n) g)
      (λ f. rw f (sym (and_false (full_by w.net n c t (first_goes w.net n g)))))
      (λ f. rw f (target_full g (legal w n c t g s) e ∙ sym (and-true _))))

  peer_full : (x : Peer) → peer_of (w.net.ends.sendings n c) ≡ x
      → is_full_plan (by_peer w.net n x g t)
      ≡ (full_by w.net n c t (goes_as x (first_goes w.net n g))
      && not (not (is_open w.net n c) && narrow (width_at w.net n) g))
  peer_full Peers.Nobody e = rw (is_shut_lem e) (open_full e)
  peer_full (Peers.Port p) e =
      let h = ((also (as_is (tile_port p)) (as_is (taken w.net n p))).sure (rw e at (opened w n c t g s))).0 in
      let held = (port_facts (with_lines w s.sure.lines) s.sure.all n s.node p (tile_there p h)).held in
      let b = eqb (w.net.ports.counters n p).held capacity in
      rw (by_port_lem p e, at_limit _ _ held) (full_by_lem b (Behind p) refl ∙ sym (and-true b))
  peer_full (Peers.End d) e =
      let h = (either (equal d sink) (below d ends)).sure (rw e at (opened w n c t g s)) in
      rw (by_end_lem d e) (straight_full d h e ∙ sym (and-true _))

  pub full_plan : is_full_plan (output_plan w.net n c g t) ≡ (full w.net n c t && not (opens_narrow w.net n c))
  unfolding output_plan opens_narrow full
  full_plan =
      peer_full (peer_of (w.net.ends.sendings n c)) refl
      ∙ ap (λ (x : Target). full_by w.net n c t (goes_as (peer_of (w.net.ends.sendings n c)) (first_goes w.net n x))
      && not (not (is_open w.net n c) && narrow (width_at w.net n) x)) s.target
