-- The plan of a Step on a sound state can be carried out. Assumes nothing.
use Prim.{tt}
use Prim.Native.Nat.{ℕ, ◌+◌, ◌%◌, ◌<◌, ◌≤◌}
use mathlib.Core.Path.{◌≡◌, refl, sym, ap}
use mathlib.Core.Bool.{true, not, ◌||◌}
use mathlib.Core.Logic.{inl, inr, ⊎_elim}
use native.Mathlib.Omega.{arith}
use lib.Dec.{eqb, ltb, lit≤}
use lib.ListN.{get_or}
use borrow.Author.Tests.{eqb-true, eqb-false, ltb-true, ltb-false}
use Rattle.laws.specs.All.{first}
use Rattle.laws.proofs.All.{first_found}
use Rattle.laws.proofs.Order.{by_test, clash, never}
use Rattle.names.specs.Size.{links, ports, reply_port, tile_links, sink}
use Rattle.circuits.specs.Circuit.{peer_of}
use Rattle.circuits.specs.declared.Circuit.{Circuit}
use Rattle.circuits.specs.declared.Hop.{Hop}
use Rattle.circuits.specs.declared.Hop.TheVariants as Hops
use Rattle.tokens.specs.declared.header.Width.{Width}
use Rattle.tokens.specs.declared.header.Width.TheVariants as Widths
use Rattle.tokens.specs.declared.header.Target.{Target}
use Rattle.tokens.specs.declared.header.Target.TheVariants.{Channel, Unit}
use Rattle.routing.specs.Way.{way_to, Way, ThisNode, OtherNode}
use Rattle.routing.specs.Direction.{entry_of}
use Rattle.ports.specs.Queue.{capacity}
use Rattle.ports.specs.Memory.{place}
use Rattle.cells.specs.World.{World, hop}
use Rattle.clauses.specs.declared.pairs.Role.TheVariants.{PortLink, PortTile, PortUnit, PortClaim}
use Rattle.clauses.specs.Pairs.{Nothing, One, port_of}
use Rattle.acts.specs.Acts.{width_at, number_at, word_at, first_at, channel_claimed, channel_full}
use Rattle.acts.specs.Needs.{Holds, Door}
use Rattle.acts.proofs.Doors.{given_room}
use Rattle.messages.specs.Needs.{Ready}
use Rattle.sound.specs.Sound.{sound}
use Rattle.sound.proofs.Facts.{fair, reaches, pair_facts, silent_facts}
use Rattle.plans.specs.Plan.{marked_width, size_of, same_width, target_at, network_at, candidate, lowest_link, route_plan, lowest_tile, tile_free}
use Rattle.plans.specs.Plan.{channel_plan, unit_plan, here_plan, number_in, step_by_way, way_plan, header_plan, out_plan, hand_plan, by_hop, step_plan}
use Rattle.moves.specs.Needs.{Takes}
use Rattle.switch.specs.Needs.{StepPossible}
use Rattle.switch.proofs.Legal.{LegalDoor, legal_target_lem}
use Rattle.switch.proofs.Cabled.{grants, settled}
use Rattle.switch.proofs.Passes.{passes}

same_size : (a b : Width) → same_width a b ≡ true → a ≡ b
same_size Widths.One Widths.One e = refl
same_size Widths.One Widths.Three e = clash (sym e)
same_size Widths.Three Widths.One e = clash (sym e)
same_size Widths.Three Widths.Three e = refl

module _ (w : World) (s : sound w ≡ true) (n p : ℕ) (hn : n < w.net.nodes) (hp : p < ports) where
  pub holds : (k : ℕ) → k ≤ (w.net.ports.counters n p).held → Holds w n p k
  holds k h = record { node = hn; port = hp; fair = fair w s n hn p hp; held = h; reaches = reaches w s n hn p hp }

  takes : (k : ℕ) → k ≤ (w.net.ports.counters n p).held → Takes w n p k
  takes k h = record { holds = holds k h; up = λ l. grants w s n p hn l }

  route_possible : (d v : ℕ) → StepPossible w n p (route_plan w.net n d v)
  route_possible d v =
      by_test (ltb (lowest_link w.net n d v) links)
      (λ e. rw e (ltb-true _ _ e))
      (λ e. rw e (by_test (ltb (first links (candidate w.net n d v)) links) (λ f. rw f tt) (λ f. rw f tt)))

  channel_possible : (c : ℕ) → Door c → Takes w n p (size_of (width_at w.net n)) → StepPossible w n p (channel_plan w.net n c)
  channel_possible c d t =
      by_test (eqb (lowest_tile w.net n) tile_links)
      (λ e. rw e tt)
      (λ e. rw e (by_test (channel_claimed w.net n c)
      (λ f. rw f tt)
      (λ f. rw f (first_found (tile_free w.net n) tile_links (eqb-false _ _ e), d, t))))

  unit_possible : Takes w n p (size_of (width_at w.net n)) → StepPossible w n p (unit_plan w.net n)
  unit_possible t =
      by_test (not (eqb (w.net.units.serving n 0).kind 0) || not (eqb (w.net.ports.counters n reply_port).held 0))
      (λ e. rw e tt)
      (λ e. rw e t)

  here_possible : (g : Target) → LegalDoor g → Takes w n p (size_of (width_at w.net n)) → StepPossible w n p (here_plan w.net n g)
  here_possible (Channel m c) d t = channel_possible c d t
  here_possible (Unit m) d t = unit_possible t

  way_possible : (g : Target) (y : Way) → LegalDoor g → Takes w n p (size_of (width_at w.net n))
      → StepPossible w n p (step_by_way w.net n p g y)
  way_possible g ThisNode d t = here_possible g d t
  way_possible g (OtherNode b) d t = route_possible (entry_of (w.net.own n 0).directions b) (network_at w.net n p)

  header_possible : hop w.net n p ≡ Hops.Shut → StepPossible w n p (header_plan w n p)
  header_possible e =
      by_test (ltb (w.net.ports.counters n p).held (size_of (marked_width (word_at w n p 0))))
      (λ f. rw f tt)
      (λ f. rw f (by_test (same_width (marked_width (word_at w n p 0)) (width_at w.net n))
      (λ g. rw g (whole (ltb-false _ _ f) (same_size _ _ g)))
      (λ g. rw g tt)))
    where
      whole : size_of (marked_width (word_at w n p 0)) ≤ (w.net.ports.counters n p).held → marked_width (word_at w n p 0) ≡ width_at w.net n
          → StepPossible w n p (way_plan w.net n p (target_at w n p))
      whole h q =
          way_possible (target_at w n p) (way_to (width_at w.net n) (number_in (target_at w n p)) (number_at w.net n))
          (legal_target_lem w s n p hn hp e (λ t. rw t at h))
          (takes (size_of (width_at w.net n)) (rw (← q) h))

  -- outward
  out_possible : (l : ℕ) → 1 ≤ (w.net.ports.counters n p).held → hop w.net n p ≡ Hops.Out l → StepPossible w n p (out_plan w.net n l)
  out_possible l h e =
      let there = (pair_facts w s n hn PortLink p hp l (rw e)).0 in
      by_test (eqb (w.net.links.flows n l).credit 0)
      (λ f. rw f tt)
      (λ f. rw f (there, takes 1 h, passes w s n l hn there (eqb-false _ _ f) p))

  -- to a channel
  oldest : (w.net.ports.counters n p).head < capacity → word_at w n p 0 ≡ first_at w n p
  oldest h =
      let e : ((w.net.ports.counters n p).head + 0) % capacity ≡ (w.net.ports.counters n p).head = omega arith in
      ap (λ (i : ℕ). get_or w.memory (place n p + i) 0) e

  hand_possible : (c t : ℕ) → 1 ≤ (w.net.ports.counters n p).held → hop w.net n p ≡ Hops.Channel c t
      → StepPossible w n p (hand_plan w.net n c t (word_at w n p 0))
  hand_possible c t h e =
      let tile = (pair_facts w s n hn PortTile p hp t (rw e)).0 in
      let x = oldest (fair w s n hn p hp).head_in in
      by_test (channel_full w.net n c (word_at w n p 0))
      (λ f. rw f tt)
      (λ f. rw f (tile, rw (← x) (given_room w.net n c (word_at w n p 0) there f), takes 1 h))
    where
      there : Door c
      there = by_test (eqb c sink) (λ k. inl (eqb-true c sink k)) (λ k. inr (pair_facts w s n hn PortClaim p hp c (rw (e, k))).0)

  -- to the control unit: port 12 is empty
  no_reply : hop w.net n p ≡ Hops.Unit → (w.net.ports.counters n reply_port).held ≡ 0
  no_reply e =
      let named = (pair_facts w s n hn PortUnit p hp 0 (rw e)).1 in
      ⊎_elim (λ k. absurd (served (w.net.units.serving n 0) k named)) (λ h. h) (silent_facts w s n hn)
    where
      served : (k : Circuit) → k.kind ≡ 0 → port_of (peer_of k) ≡ One p → ⊥
      served k q h = let z : Nothing ≡ One p = rw q at h in never (cc)

  message_ready : hop w.net n p ≡ Hops.Unit → Ready w n
  message_ready e =
      record {
        room =
            record {
              node = hn;
              port = lit≤ tt;
              fair = fair w s n hn reply_port (lit≤ tt);
              room = rw (no_reply e) (lit≤ tt);
              reaches = reaches w s n hn reply_port (lit≤ tt);
            };
        settled = settled w s;
      }

  hop_possible : (h : Hop) → hop w.net n p ≡ h → 1 ≤ (w.net.ports.counters n p).held → StepPossible w n p (by_hop w n p h)
  hop_possible Hops.Shut e k = header_possible e
  hop_possible (Hops.Out l) e k = out_possible l k e
  hop_possible (Hops.Channel c t) e k = hand_possible c t k e
  hop_possible Hops.Unit e k = (takes 1 k, message_ready e)
  hop_possible (Hops.Dropped x) e k = takes 1 k

  pub plan_possible : StepPossible w n p (step_plan w n p)
  unfolding step_plan
  plan_possible =
      by_test (eqb (w.net.ports.counters n p).held 0)
      (λ e. rw e tt)
      (λ e. rw e (hop_possible (hop w.net n p) refl (some _ (eqb-false _ _ e))))
    where
      some : (a : ℕ) → (a ≡ 0 → ⊥) → 1 ≤ a
      some a ne = omega arith
