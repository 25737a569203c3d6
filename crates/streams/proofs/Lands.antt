-- A circuit that is opened to a channel of this node, or to its control unit, as an event: the header lands. Assumes nothing.
use Prim.Native.Nat.{ℕ}
use mathlib.Core.Path.{◌≡◌, refl, sym, ap, ◌∙◌}
use mathlib.Core.List.{List, ◌++◌}
use native.Mathlib.Omega.{arith}
use lib.Dec.{eqb}
use lib.ListN.{length, take, drop}
use lib.Seq.{drop-append_seam}
use Rattle.laws.specs.Table as Two
use Rattle.laws.proofs.Order.{by_test}
use Rattle.names.specs.Size.{sink}
use Rattle.names.specs.declared.NodeNumber.{NodeNumber}
use Rattle.circuits.specs.declared.Hop.{Hop}
use Rattle.circuits.specs.declared.Hop.TheVariants as Hops
use Rattle.circuits.specs.declared.Peer.TheVariants as Peers
use Rattle.circuits.proofs.Backs.{hop_back}
use Rattle.tokens.specs.Header.{compared}
use Rattle.tokens.specs.declared.header.Target.{Target}
use Rattle.tokens.specs.declared.header.Target.TheVariants.{Channel, Unit}
use Rattle.tokens.specs.declared.header.Width.{Width}
use Rattle.ports.specs.Memory.{place, held}
use Rattle.ports.specs.declared.Counters.{Counters}
use Rattle.cells.specs.View as Cells
use Rattle.cells.specs.World.{World, shaped, queue}
use Rattle.cells.specs.declared.port.Leg.{Leg}
use Rattle.cells.specs.declared.tile.Tile.{Tile}
use Rattle.acts.specs.Acts.{with_net, width_at, number_at, leg_of, hopped, tiled_to}
use Rattle.acts.specs.Needs.{Holds}
use Rattle.plans.specs.Plan.{size_of, target_at, number_in}
use Rattle.moves.specs.Moves.{stripped, lands_channel, lands_unit}
use Rattle.kept.specs.Kept.{Kept}
use Rattle.kept.proofs.Grants.{Credited}
use Rattle.kept.proofs.Rooms.{kept_holds}
use Rattle.kept.proofs.Empties.{emptied_stripped}
use Rattle.kept.proofs.Found.{Ours}
use Rattle.kept.proofs.Steps.{as_long}
use Rattle.streams.specs.Model.{alter, port_no, Place, ToChannel, ToUnit, place_of, Into, Moving}
use Rattle.streams.specs.Events.{Lands, effect}
use Rattle.streams.specs.View.{moving, out_by, outs}
use Rattle.streams.proofs.View.{net_as, out_put, view_queue, view_out, emptied_seen}
use Rattle.streams.proofs.View.{Alike, alike, alike_then, unseen}
use Rattle.streams.proofs.Acts.{Does, alike_claimed}
use Rattle.streams.proofs.Fronts.{Reads, reads, this_node}

module _ (w : World) (k : Kept w) (n p : ℕ) (z : Ours w n p) where
  abbrev x : Width
  x = width_at w.net n

  abbrev hs : List ℕ
  hs = take (size_of x) (queue w n p)

  read : Reads w n p x
  read = reads w k n p z.legible.headed z.legible

  holds : Holds w n p (size_of x)
  holds =
      let h = z.legible.headed in
      kept_holds w k n p (size_of x) h.node h.port (omega (arith, as_long w k n p z.legible, h.whole))

  -- a circuit to a place of this node, whatever else the moving does not see
  does_land : (a : Place) (h : Hop) (s : Cells.Net) → place_of (target_at w n p) ≡ a → out_by n h ≡ Into a → Alike (hopped w.net n p h) s
      → Credited (with_net w s)
      → Does (Lands (port_no n p) x hs a (number_at w.net n)) w (stripped (with_net w s) n p x)
  unfolding effect
  does_land a h s named to same lines =
      let hp = holds.port in
      let y = with_net w s in
      let counters : s.ports.counters ≡ w.net.ports.counters = ap (λ (t : Cells.PortTables). t.counters) same.ports in
      let same_queue : queue y n p ≡ queue w n p =
      ap (λ (t : ℕ → ℕ → Counters). held (t n p) w.memory (place n p)) counters in
      let there : Holds y n p (size_of x) =
      record {
        node = rw same.nodes holds.node;
        port = hp;
        fair = rw counters holds.fair;
        held = rw counters holds.held;
        reaches = holds.reaches;
      } in
      let e = emptied_stripped y n p x lines there in
      let q = queue (stripped y n p x) n p in
      let whole : queue w n p ≡ hs ++ q = sym same_queue ∙ e.here ∙ ap (λ (l : List ℕ). take (size_of x) l ++ q) same_queue in
      let left : q ≡ drop (length hs) ((moving w).queue (port_no n p)) =
      sym (ap (drop (length hs)) (view_queue w n p hp ∙ whole) ∙ drop-append_seam hs q) in
      let opened : moving y ≡ moving (with_net w (hopped w.net n p h)) = unseen w (hopped w.net n p h) s same in
      let goes : outs (Two.upd w.net.ports.legs n p (leg_of h)) ≡ alter (moving w).out (port_no n p) (Into a) =
      out_put n w.net.ports.legs p (leg_of h) hp ∙ ap (alter (moving w).out (port_no n p)) (ap (out_by n) (hop_back h) ∙ to) in
      record {
        ok = (
          record {
            rest = q;
            is = view_queue w n p hp ∙ whole;
            size = read.size;
            plain = read.plain;
            marked = read.marked;
            bits =
                ap (λ (g : Target). compared x (number_in g)) read.says
                ∙ this_node x (number_in (target_at w n p)) (number_at w.net n) z.here;
            place = ap place_of read.says ∙ named;
          },
          view_out w n p hp ∙ ap (out_by n) z.legible.headed.shut,
        );
        is =
            emptied_seen y (stripped y n p x) n p (take (size_of x) (queue y n p)) hp e
            ∙ ap (λ (v : Moving). record {
              queue = alter v.queue (port_no n p) q;
              out = v.out;
              user = v.user;
              busy = v.busy;
              cable = v.cable;
              line = v.line;
            }) opened
            ∙ net_as (ap (alter (moving w).queue (port_no n p)) left) goes refl refl refl refl;
      }

  -- before the header is removed circuits alone are written: no cable, and no line
  credited : (legs : ℕ → ℕ → Leg) (networks : ℕ → ℕ → ℕ) (tiles : ℕ → ℕ → Tile) (ends : Cells.EndTables) (units : Cells.UnitTables)
      → Credited (with_net w (record {
        nodes = w.net.nodes;
        own = w.net.own;
        links = w.net.links;
        ports = record {
          counters = w.net.ports.counters;
          legs = legs;
          networks = networks;
          senders = w.net.ports.senders;
        };
        tiles = tiles;
        ends = ends;
        units = units;
        lines = w.net.lines;
        rest = w.net.rest;
      }))
  unfolding shaped
  credited legs networks tiles ends units =
      record {
        shape = k.shape;
        cabled = k.cabled;
        greeted = k.greeted;
        accounts = k.accounts;
        lines = k.lines;
        between = k.between;
      }

  pub does_lands_channel : (m : NodeNumber) (c t : ℕ) → target_at w n p ≡ Channel m c
      → Does (Lands (port_no n p) x hs (ToChannel c) (number_at w.net n)) w (lands_channel w n p c t)
  does_lands_channel m c t named =
      let s = hopped w.net n p (Hops.Channel c t) in
      let y = tiled_to s n t (Peers.Port p) in
      let tiled : Alike s y = alike refl refl refl refl refl refl in
      does_land (ToChannel c) (Hops.Channel c t) _ (ap place_of named) refl (alike_then tiled (alike_claimed y n c (Peers.Port p)))
      (by_test (eqb c sink) (λ q. rw q (credited _ _ _ _ _)) (λ q. rw q (credited _ _ _ _ _)))

  pub does_lands_unit : (m : NodeNumber) → target_at w n p ≡ Unit m
      → Does (Lands (port_no n p) x hs ToUnit (number_at w.net n)) w (lands_unit w n p)
  does_lands_unit m named =
      does_land ToUnit Hops.Unit _ (ap place_of named) refl
      (alike refl refl refl refl refl refl) (credited _ _ _ _ _)
