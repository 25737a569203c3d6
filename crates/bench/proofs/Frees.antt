-- "END and PAUSE close the hop" (document 01, "What a Step does"), over every Step: whatever the state, a Step that takes END or PAUSE of a
-- circuit leaves its port without one, and free what its hop held. Assumes nothing.
use Prim.{tt}
use Prim.Native.Nat.{ℕ}
use mathlib.Core.Path.{◌≡◌, refl, sym, ap, ◌∙◌}
use mathlib.Core.Bool.{Bool, true, false, not, ◌||◌}
use lib.Dec.{eqb, ltb}
use Rattle.laws.specs.Pick.{pick}
use Rattle.laws.specs.All.{first}
use Rattle.laws.proofs.Order.{by_test, clash}
use Rattle.laws.proofs.Table.{upd_same}
use Rattle.names.specs.Size.{links, tile_links, reply_port, sink}
use Rattle.names.specs.declared.Slot.{Slot}
use Rattle.circuits.specs.Circuit.{hop_of, of_peer}
use Rattle.circuits.specs.declared.Cause.TheVariants.{Split, NoRoute}
use Rattle.circuits.specs.declared.Circuit.{Circuit}
use Rattle.circuits.specs.declared.Hop.{Hop}
use Rattle.circuits.specs.declared.Hop.TheVariants as Hops
use Rattle.circuits.specs.declared.Peer.TheVariants.{Nobody}
use Rattle.tokens.specs.Word.{closes}
use Rattle.tokens.specs.declared.header.Target.{Target}
use Rattle.tokens.specs.declared.header.Target.TheVariants.{Channel, Unit}
use Rattle.routing.specs.Direction.{entry_of}
use Rattle.routing.specs.Way.{way_to, Way, ThisNode, OtherNode}
use Rattle.answers.specs.Rows.{checked}
use Rattle.answers.proofs.Refusals.{by_check}
use Rattle.cells.specs.View.{Net}
use Rattle.cells.specs.World.{World, hop}
use Rattle.cells.specs.declared.port.Leg.{Leg}
use Rattle.cells.specs.declared.tile.Tile.{Tile}
use Rattle.acts.specs.Acts.{with_net, width_at, number_at, word_at, first_at, handed, channel_claimed, channel_full}
use Rattle.messages.specs.Ended.{ended}
use Rattle.plans.specs.Plan.{marked_width, size_of, same_width, target_at, lowest_link, candidate, lowest_tile}
use Rattle.plans.specs.Plan.{network_at, here_plan, number_in, step_by_way, header_plan, by_hop, step_plan}
use Rattle.plans.specs.declared.Plan.{Plan}
use Rattle.plans.specs.declared.Plan.TheVariants.{Wait, OpenOut, OpenChannel, OpenUnit, Refuse, MoveOut, Hand, Hear}
use Rattle.travel.specs.Travel.{sends_on}
use Rattle.moves.specs.Moves.{took, closes_out, closes_channel, closes_unit}
use Rattle.moves.proofs.Frees.{out_frees, channel_frees, unit_frees, dropped_frees}
use Rattle.switch.specs.Step.{step_performed}
use Rattle.bench.specs.Calls.{Step, rows, apply}
use Rattle.bench.specs.Frees.{took_one, Closed}
use Rattle.bench.proofs.Untouched.{Untouched, send_leaves, end_leaves}

-- circuits are no part of what ports hold or of credits, and no Set changes them
abbrev legs_of : Net → ℕ → ℕ → Leg
legs_of s = s.ports.legs

legs_untouched : Untouched legs_of
legs_untouched =
    record { counters = λ s n p q. refl; flows = λ s n l k. refl; rings = λ s n l c. refl; issued = λ s n l i. refl; settings = λ s z v. ap (λ t. t.legs) v.ports }

abbrev users_of : Net → ℕ → ℕ → Circuit
users_of s = s.links.users

users_untouched : Untouched users_of
users_untouched = record { counters = λ s n p q. refl; flows = λ s n l k. refl; rings = λ s n l c. refl; issued = λ s n l i. refl; settings = λ s z v. v.users }

abbrev serving_of : Net → ℕ → ℕ → Circuit
serving_of s = s.units.serving

serving_untouched : Untouched serving_of
serving_untouched =
    record { counters = λ s n p q. refl; flows = λ s n l k. refl; rings = λ s n l c. refl; issued = λ s n l i. refl; settings = λ s z v. ap (λ t. t.serving) v.units }

same_hop : (s z : Net) (n p : ℕ) → z.ports.legs ≡ s.ports.legs → hop z n p ≡ hop s n p
same_hop s z n p e = ap (λ (t : ℕ → ℕ → Leg). hop_of (t n p).circuit (t n p).tile) e

module _ (w : World) (n p : ℕ) where
  -- A HEADER IS READ: no token leaves
  abbrev Reads : Plan → Type 0
  Reads x = took_one (step_performed w n p x).answer ≡ false

  reads_either : (b : Bool) (x y : Plan) → Reads x → Reads y → Reads (pick b x y)
  reads_either true x y h k = h
  reads_either false x y h k = k

  reads_here : (g : Target) → Reads (here_plan w.net n g)
  reads_here (Channel m c) =
      let s = w.net in
      reads_either (eqb (lowest_tile s n) tile_links) Wait _ refl
      (reads_either (channel_claimed s n c) Wait (OpenChannel c (lowest_tile s n)) refl refl)
  reads_here (Unit m) =
      let busy = not (eqb (w.net.units.serving n 0).kind 0) || not (eqb (w.net.ports.counters n reply_port).held 0) in
      reads_either busy Wait OpenUnit refl refl

  reads_way : (g : Target) (y : Way) → Reads (step_by_way w.net n p g y)
  reads_way g ThisNode = reads_here g
  reads_way g (OtherNode b) =
      let d = entry_of (w.net.own n 0).directions b in
      let v = network_at w.net n p in
      reads_either (ltb (lowest_link w.net n d v) links) (OpenOut (lowest_link w.net n d v)) _ refl
      (reads_either (ltb (first links (candidate w.net n d v)) links) Wait (Refuse NoRoute) refl refl)

  reads_header : Reads (header_plan w n p)
  reads_header =
      reads_either (ltb (w.net.ports.counters n p).held (size_of (marked_width (word_at w n p 0)))) Wait _ refl
      (reads_either (not (same_width (marked_width (word_at w n p 0)) (width_at w.net n))) (Refuse Split) _ refl
      (reads_way (target_at w n p) (way_to (width_at w.net n) (number_in (target_at w n p)) (number_at w.net n))))

  -- A TOKEN THAT CLOSES
  module _ (e : closes (first_at w n p) ≡ true) where
    abbrev Closes : Hop → Plan → Type 0
    Closes h x = took_one (step_performed w n p x).answer ≡ true → Closed h (step_performed w n p x).next.net n p

    or_waits : (h : Hop) (b : Bool) (x : Plan) → Closes h x → Closes h (pick b Wait x)
    or_waits h true x k = λ t. clash (sym t)
    or_waits h false x k = k

    closes_out_lem : (l : ℕ) → Closes (Hops.Out l) (MoveOut l)
    closes_out_lem l t =
        let x = first_at w n p in
        let z = with_net (took w n p) (closes_out (took w n p).net n p l x) in
        let frees = out_frees (took w n p).net n p x e l in
        record {
          shut = same_hop z.net (sends_on z n l x).net n p (send_leaves legs_of legs_untouched z n l x) ∙ frees.0;
          freed = ap (λ u. u n l) (send_leaves users_of users_untouched z n l x) ∙ frees.1;
        }

    closes_channel_lem : (c t : ℕ) → Closes (Hops.Channel c t) (Hand c t)
    closes_channel_lem c t h =
        let x = first_at w n p in
        let s = handed (took w n p).net n c x in
        record {
          shut = dropped_then s c t;
          freed = (tile_then s c t, λ other. (channel_frees s n p x e c t other).2);
        }
      where
        dropped_then : (s : Net) (c t : ℕ) → hop (closes_channel s n p c t (first_at w n p)) n p ≡ Hops.Shut
        dropped_then s c t =
            by_test (eqb c sink)
            (λ q. rw (e, q) (ap (λ (k : Leg). hop_of k.circuit k.tile) (upd_same s.ports.legs n p _)))
            (λ q. (channel_frees s n p (first_at w n p) e c t q).0)

        tile_then : (s : Net) (c t : ℕ) → ((closes_channel s n p c t (first_at w n p)).tiles n t).user ≡ of_peer Nobody
        tile_then s c t =
            by_test (eqb c sink)
            (λ q. rw (e, q) (ap (λ (k : Tile). k.user) (upd_same s.tiles n t _)))
            (λ q. (channel_frees s n p (first_at w n p) e c t q).1)

    closes_unit_lem : Closes Hops.Unit Hear
    closes_unit_lem h =
        let x = first_at w n p in
        let z = with_net (took w n p) (closes_unit (took w n p).net n p) in
        let frees = unit_frees (took w n p).net n p in
        rw e (record {
          shut = same_hop z.net (ended z n x).next.net n p (end_leaves legs_of legs_untouched z n x) ∙ frees.0;
          freed = ap (λ u. u n 0) (end_leaves serving_of serving_untouched z n x) ∙ frees.1;
        })

    by_hop_lem : (h : Hop) → Closes h (by_hop w n p h)
    by_hop_lem Hops.Shut = λ t. clash (sym t ∙ reads_header)
    by_hop_lem (Hops.Out l) = or_waits (Hops.Out l) (eqb (w.net.links.flows n l).credit 0) (MoveOut l) (closes_out_lem l)
    by_hop_lem (Hops.Channel c t) = or_waits (Hops.Channel c t) (channel_full w.net n c (word_at w n p 0)) (Hand c t) (closes_channel_lem c t)
    by_hop_lem Hops.Unit = closes_unit_lem
    by_hop_lem (Hops.Dropped x) = λ t. record { shut = dropped_frees (took w n p).net n p (first_at w n p) e; freed = tt }

    by_plan : Closes (hop w.net n p) (step_plan w n p)
    unfolding step_plan
    by_plan = by_test (eqb (w.net.ports.counters n p).held 0) (λ f. rw f (λ t. clash (sym t))) (λ f. rw f (by_hop_lem (hop w.net n p)))

-- a Step that took END or PAUSE of a circuit: its port is shut, and what the circuit held there is free
pub step_frees : (w : World) (a : Slot) (p : ℕ) → took_one (apply w (Step a p)).answer ≡ true → closes (first_at w a.0 p) ≡ true
    → Closed (hop w.net a.0 p) (apply w (Step a p)).next.net a.0 p
unfolding apply
step_frees w a p took e =
    by_check (checked (rows w (Step a p)))
    (λ f. rw f (by_plan w a.0 p e (rw f at took)))
    (λ k f. clash (sym (rw f at took)))
