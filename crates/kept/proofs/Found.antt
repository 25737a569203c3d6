-- What a Step has found, whatever its plan: with each plan all that holds of the state. One walk through the plan, for all who ask what a
-- Step does. Assumes nothing.
use Prim.Native.Nat.{ℕ, ◌+◌, ◌%◌, ◌<◌, ◌≤◌}
use mathlib.Core.Path.{◌≡◌, refl, sym, ap, ◌∙◌}
use mathlib.Core.Bool.{true, false}
use mathlib.Core.Logic.{inl, inr, ⊎_elim}
use native.Mathlib.Omega.{arith}
use lib.Dec.{eqb, ltb}
use lib.ListN.{get_or}
use borrow.Author.Tests.{eqb-true, eqb-false, ltb-true, ltb-false}
use Rattle.laws.proofs.All.{also, as_is, equal, first_passes, first_found}
use Rattle.laws.proofs.Order.{by_test, clash, never}
use Rattle.names.specs.Size.{links, ports, tile_links, reply_port, sink}
use Rattle.names.specs.declared.NodeNumber.{NodeNumber}
use Rattle.names.specs.declared.Slot.{Slot}
use Rattle.circuits.specs.declared.Cause.{Cause}
use Rattle.circuits.specs.declared.Cause.TheVariants.{Split, NoRoute}
use Rattle.circuits.specs.declared.Hop.{Hop}
use Rattle.circuits.specs.declared.Hop.TheVariants as Hops
use Rattle.tokens.specs.declared.header.Target.{Target}
use Rattle.tokens.specs.declared.header.Target.TheVariants.{Channel, Unit}
use Rattle.routing.specs.Way.{way_to, Way, ThisNode, OtherNode}
use Rattle.routing.specs.Direction.{entry_of}
use Rattle.ports.specs.Queue.{capacity}
use Rattle.ports.specs.Memory.{place}
use Rattle.cells.specs.World.{World, hop, far_of, At}
use Rattle.acts.specs.Acts.{width_at, number_at, word_at, first_at, channel_claimed, channel_full}
use Rattle.acts.specs.Needs.{Holds, Door, Given}
use Rattle.acts.proofs.Doors.{given_room}
use Rattle.plans.specs.Plan.{marked_width, size_of, same_width, target_at, network_at, tile_free, lowest_tile}
use Rattle.plans.specs.Plan.{channel_plan, unit_plan, here_plan, number_in, step_by_way, header_plan, out_plan, hand_plan, by_hop, step_plan}
use Rattle.plans.specs.declared.Plan.{Plan}
use Rattle.plans.specs.declared.Plan.TheVariants.{Idle, Wait, OpenOut, OpenChannel, OpenUnit, Refuse, MoveOut, Hand, Hear, Drop}
use Rattle.plans.proofs.Routes.{Routed, opens, discards, routed}
use Rattle.plans.proofs.Routes as Routes
use Rattle.switch.proofs.Legal.{LegalDoor, legal_target_lem}
use Rattle.kept.specs.Kept.{Kept}
use Rattle.kept.proofs.Parts.{owed, kept_sound}
use Rattle.kept.proofs.Rooms.{kept_holds}
use Rattle.kept.proofs.Opens.{Headed}

some : (a : ℕ) → (a ≡ 0 → ⊥) → 1 ≤ a
some a ne = omega arith

-- a whole header that is of this switch's width
pub record Legible (w : World) (n p : ℕ) : Type 0 where
  pub headed : Headed w n p
  pub fits : same_width (marked_width (word_at w n p 0)) (width_at w.net n) ≡ true

-- .. and names this node
pub record Ours (w : World) (n p : ℕ) : Type 0 where
  pub legible : Legible w n p
  pub here : way_to (width_at w.net n) (number_in (target_at w n p)) (number_at w.net n) ≡ ThisNode

-- a port that has a circuit, and a token for it
pub record Going (w : World) (n p : ℕ) (x : Hop) : Type 0 where
  pub holds : Holds w n p 1
  pub goes : hop w.net n p ≡ x

module _ (w : World) (n p : ℕ) where
  pub data Found : Plan → Type 0 where
    idle : (w.net.ports.counters n p).held ≡ 0 → Found Idle
    -- no whole header of the other width is in front of a port without a circuit
    waits : (hop w.net n p ≡ Hops.Shut → size_of (marked_width (word_at w n p 0)) ≤ (w.net.ports.counters n p).held
        → same_width (marked_width (word_at w n p 0)) (width_at w.net n) ≡ true) → Found Wait
    splits : Headed w n p → same_width (marked_width (word_at w n p 0)) (width_at w.net n) ≡ false → Found (Refuse Split)
    unrouted : Legible w n p → Found (Refuse NoRoute)
    routes : Legible w n p → (l : ℕ) → l < links → (w.net.links.users n l).kind ≡ 0 → (w.net.links.setups n l).enabled ≡ 1
        → Found (OpenOut l)
    lands_channel : Ours w n p → (m : NodeNumber) (c t : ℕ) → target_at w n p ≡ Channel m c → Door c → t < tile_links
        → (w.net.tiles n t).user.kind ≡ 0
        → (eqb c sink ≡ false → (w.net.ends.claims n c).kind ≡ 0)
        → Found (OpenChannel c t)
    lands_unit : Ours w n p → (m : NodeNumber) → target_at w n p ≡ Unit m → (w.net.units.serving n 0).kind ≡ 0
        → (w.net.ports.counters n reply_port).held ≡ 0
        → Found OpenUnit
    moves : (l : ℕ) → Going w n p (Hops.Out l) → (m : Slot) (j : ℕ) → far_of (w.net.links.cables n l) ≡ At m j
        → 1 ≤ (w.net.links.flows n l).credit
        → Found (MoveOut l)
    hands : (c t : ℕ) → Going w n p (Hops.Channel c t) → Given w.net n c (first_at w n p) → Found (Hand c t)
    hears : Going w n p Hops.Unit → Found Hear
    drops : (x : Cause) → Going w n p (Hops.Dropped x) → Found (Drop x)

module _ (w : World) (k : Kept w) (n p : ℕ) (hn : n < w.net.nodes) (hp : p < ports) where
  -- ANOTHER NODE'S
  found_route : Legible w n p → (d v : ℕ) → {x : Plan} → Routed w.net n d v x → Found w n p x
  found_route z d v (opens l hl free none) =
      let suits = also (equal (w.net.links.setups n l).enabled 1) (as_is _) in
      let f = (also suits (equal (w.net.links.users n l).kind 0)).sure free in
      routes z l hl f.1 f.0.0
  found_route z d v (Routes.waits l hl any none) = waits (λ shut whole. z.fits)
  found_route z d v (discards none) = unrouted z

  -- THIS NODE'S
  module _ (z : Ours w n p) where
    fits : hop w.net n p ≡ Hops.Shut → size_of (marked_width (word_at w n p 0)) ≤ (w.net.ports.counters n p).held
        → same_width (marked_width (word_at w n p 0)) (width_at w.net n) ≡ true
    fits shut whole = z.legible.fits

    found_channel : (m : NodeNumber) (c : ℕ) → target_at w n p ≡ Channel m c → Door c → Found w n p (channel_plan w.net n c)
    found_channel m c named door =
        by_test (eqb (lowest_tile w.net n) tile_links)
        (λ e. rw e (waits fits))
        (λ e. rw e (by_test (channel_claimed w.net n c)
        (λ f. rw f (waits fits))
        (λ f.
        let free = tile_free w.net n in
        let there = first_found free tile_links (eqb-false _ _ e) in
        rw f (lands_channel z m c (lowest_tile w.net n) named door there
        (eqb-true _ 0 (first_passes free tile_links there)) (unclaimed f)))))
      where
        unclaimed : channel_claimed w.net n c ≡ false → eqb c sink ≡ false → (w.net.ends.claims n c).kind ≡ 0
        unclaimed f s =
            by_test (eqb (w.net.ends.claims n c).kind 0)
            (λ e. eqb-true _ 0 e)
            (λ e. clash (let y : true ≡ false = rw (s, e) at f in y))

    found_unit : (m : NodeNumber) → target_at w n p ≡ Unit m → Found w n p (unit_plan w.net n)
    found_unit m named =
        by_test (eqb (w.net.units.serving n 0).kind 0)
        (λ e. by_test (eqb (w.net.ports.counters n reply_port).held 0)
        (λ f. rw (e, f) (lands_unit z m named (eqb-true _ 0 e) (eqb-true _ 0 f)))
        (λ f. rw (e, f) (waits fits)))
        (λ e. rw e (waits fits))

    found_here : (g : Target) → target_at w n p ≡ g → LegalDoor g → Found w n p (here_plan w.net n g)
    found_here (Channel m c) named door = found_channel m c named door
    found_here (Unit m) named door = found_unit m named

  found_way : Legible w n p → (y : Way) → way_to (width_at w.net n) (number_in (target_at w n p)) (number_at w.net n) ≡ y
      → LegalDoor (target_at w n p)
      → Found w n p (step_by_way w.net n p (target_at w n p) y)
  found_way z ThisNode here door = found_here (record { legible = z; here = here }) (target_at w n p) refl door
  found_way z (OtherNode b) here door =
      found_route z _ _ (routed w.net n (entry_of (w.net.own n 0).directions b) (network_at w.net n p))

  -- A HEADER
  found_header : hop w.net n p ≡ Hops.Shut → Found w n p (header_plan w n p)
  found_header shut =
      let size = size_of (marked_width (word_at w n p 0)) in
      by_test (ltb (w.net.ports.counters n p).held size)
      (λ e. rw e (waits (λ here whole. absurd (let short = ltb-true (w.net.ports.counters n p).held size e in omega arith))))
      (λ e.
      let z : Headed w n p = record { node = hn; port = hp; shut = shut; whole = ltb-false (w.net.ports.counters n p).held size e } in
      rw e (by_test (same_width (marked_width (word_at w n p 0)) (width_at w.net n))
      (λ f. rw f (found_way (record { headed = z; fits = f })
      (way_to (width_at w.net n) (number_in (target_at w n p)) (number_at w.net n)) refl
      (legal_target_lem w (kept_sound w k).0 n p hn hp shut (λ t. rw t at (ltb-false (w.net.ports.counters n p).held size e)))))
      (λ f. rw f (splits z f))))

  -- A CIRCUIT
  module _ (h : 1 ≤ (w.net.ports.counters n p).held) where
    going : {x : Hop} → hop w.net n p ≡ x → Going w n p x
    going e = record { holds = kept_holds w k n p 1 hn hp h; goes = e }

    -- outward: credit only where greeted, greeted only where wired
    found_out : (l : ℕ) → hop w.net n p ≡ Hops.Out l → Found w n p (out_plan w.net n l)
    found_out l e =
        let there = (k.port_link.out n p hn hp l (rw e)).0 in
        by_test (eqb (w.net.links.flows n l).credit 0)
        (λ f. rw f (waits (λ shut whole. never (let z : Hops.Shut ≡ Hops.Out l = sym shut ∙ e in cc))))
        (λ f.
        let broke : (w.net.links.flows n l).credit ≡ 0 → ⊥ = eqb-false _ 0 f in
        let greeted = ⊎_elim (λ z. absurd (broke z)) (λ g. g) (owed w k n l hn there).earned in
        let far = (k.greeted n l hn there greeted).1 in
        rw f (moves l (going e) far.slot far.link far.leads (some _ broke)))

    -- to a channel
    found_hand : (c t : ℕ) → hop w.net n p ≡ Hops.Channel c t → Found w n p (hand_plan w.net n c t (word_at w n p 0))
    found_hand c t e =
        by_test (channel_full w.net n c (word_at w n p 0))
        (λ f. rw f (waits (λ shut whole. never (let z : Hops.Shut ≡ Hops.Channel c t = sym shut ∙ e in cc))))
        (λ f. rw f (hands c t (going e) (rw (← oldest) (given_room w.net n c (word_at w n p 0) door f))))
      where
        door : Door c
        door = by_test (eqb c sink) (λ s. inl (eqb-true c sink s)) (λ s. inr (k.port_claim.out n p hn hp c (rw (e, s))).0)

        oldest : word_at w n p 0 ≡ first_at w n p
        oldest =
            let q = w.net.ports.counters n p in
            let at : (q.head + 0) % capacity ≡ q.head = omega (arith, (kept_holds w k n p 1 hn hp h).fair.head_in) in
            ap (λ (i : ℕ). get_or w.memory (place n p + i) 0) at

    found_hop : (x : Hop) → hop w.net n p ≡ x → Found w n p (by_hop w n p x)
    found_hop Hops.Shut e = found_header e
    found_hop (Hops.Out l) e = found_out l e
    found_hop (Hops.Channel c t) e = found_hand c t e
    found_hop Hops.Unit e = hears (going e)
    found_hop (Hops.Dropped x) e = drops x (going e)

  pub step_found : Found w n p (step_plan w n p)
  unfolding step_plan
  step_found =
      by_test (eqb (w.net.ports.counters n p).held 0)
      (λ e. rw e (idle (eqb-true _ 0 e)))
      (λ e. rw e (found_hop (some _ (eqb-false _ 0 e)) (hop w.net n p) refl))
