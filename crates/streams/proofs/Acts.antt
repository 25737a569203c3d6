-- What the acts of a Step are, as events: each may happen, and does to the view what was done to the world. Assumes nothing.
use Prim.Native.Nat.{ℕ, ◌<◌}
use mathlib.Core.Path.{◌≡◌, refl, sym, ap, ◌∙◌}
use mathlib.Core.Bool.{Bool, true, false}
use mathlib.Core.List.{List, [], ◌∷◌, ◌++◌}
use lib.Dec.{eqb}
use Rattle.laws.specs.Pick.{pick}
use Rattle.laws.specs.Table as Two
use Rattle.names.specs.Size.{links, sink}
use Rattle.names.specs.declared.Slot.{Slot}
use Rattle.circuits.specs.Circuit.{peer_of, of_peer}
use Rattle.circuits.specs.declared.Cause.{Cause}
use Rattle.circuits.specs.declared.Circuit.{Circuit}
use Rattle.circuits.specs.declared.Hop.{Hop}
use Rattle.circuits.specs.declared.Hop.TheVariants as Hops
use Rattle.circuits.specs.declared.Peer.{Peer}
use Rattle.circuits.specs.declared.Peer.TheVariants as Peers
use Rattle.circuits.proofs.Backs.{hop_back}
use Rattle.tokens.specs.Word.{closes}
use Rattle.lines.specs.Load.{tokens_of}
use Rattle.cells.specs.View as Cells
use Rattle.cells.specs.World.{World, far_of, hop, queue, line_from, At}
use Rattle.cells.specs.declared.port.Leg.{Leg}
use Rattle.acts.specs.Acts.{with_net, popped, first_at, leg_of, hopped, shut, tiled_to, claimed_by, handed}
use Rattle.acts.specs.Needs.{Holds}
use Rattle.acts.proofs.Queues.{popped_queue}
use Rattle.messages.specs.Heard.{listens}
use Rattle.travel.specs.Travel.{put_on, paid_one}
use Rattle.travel.specs.Needs.{LineThere}
use Rattle.travel.proofs.There.{there_net}
use Rattle.travel.proofs.Tokens.{token_is, put_token, put_tokens_away}
use Rattle.moves.specs.Moves.{took, opens_out, closes_unit, moves_out, hands, drops}
use Rattle.kept.specs.Kept.{Kept}
use Rattle.kept.proofs.Grants.{kept_credited}
use Rattle.kept.proofs.Empties.{Emptied, emptied_one}
use Rattle.kept.proofs.Leaves.{taken_is, left, left_is}
use Rattle.kept.proofs.Moves.{user_if, freed, sent_on, moves_is, link_there_lem, by_port_lem, plain, line_here, line_room}
use Rattle.streams.specs.Model.{alter, tl, push, port_no, is_link, Place, ToChannel, ToUnit, Out}
use Rattle.streams.specs.Model.{Shut, Into, Nobody, By}
use Rattle.streams.specs.Events.{Event, Takes, Refuses, Enters, Hands, Loses, effect, Ok}
use Rattle.streams.specs.View.{moving, far_end, out_by, out_of, outs, use_by, queues, lines_of}
use Rattle.streams.proofs.View.{net_as, out_put, user_put, lines_same, line_put, queue_emptied}
use Rattle.streams.proofs.View.{view_cable, view_line, view_queue, alike}
use Rattle.streams.proofs.View.{view_out, view_user, Alike, alike_all, alike_then, alike_pick, unseen}

-- the event leads from the one world to the other: it may happen, and does what was done
pub record Does (v : Event) (w z : World) : Type 0 where
  pub ok : Ok is_link (moving w) v
  pub is : moving z ≡ effect v (moving w)

-- nobody, where a circuit's kind is none
pub nobody : (c : Circuit) → c.kind ≡ 0 → peer_of c ≡ Peers.Nobody
nobody c e = rw e

module _ (w : World) (n p : ℕ) (r : Holds w n p 1) where
  -- the first token, as the moving has it
  pub first_seen : (moving w).queue (port_no n p) ≡ first_at w n p ∷ queue (popped w n p) n p
  first_seen = view_queue w n p r.port ∙ popped_queue w n p r

  out_seen : (h : Hop) → hop w.net n p ≡ h → (moving w).out (port_no n p) ≡ out_by n h
  out_seen h e = view_out w n p r.port ∙ ap (out_by n) e

  -- A CIRCUIT OPENED OUTWARD, OR REFUSED
  pub does_opens_out : (l : ℕ) → hop w.net n p ≡ Hops.Shut → l < links → (w.net.links.users n l).kind ≡ 0
      → Does (Takes (port_no n p) (port_no n l)) w (with_net w (opens_out w.net n p l))
  unfolding effect
  does_opens_out l e hl free =
      record {
        ok = (_, _, first_seen, out_seen Hops.Shut e, view_user w n l hl ∙ ap (use_by n) (nobody (w.net.links.users n l) free));
        is = net_as refl (out_put n w.net.ports.legs p (leg_of (Hops.Out l)) r.port)
            (user_put n w.net.links.users l (of_peer (Peers.Port p)) hl) refl refl refl;
      }

  pub does_refused : (x : Cause) → hop w.net n p ≡ Hops.Shut
      → Does (Refuses (port_no n p) x) w (with_net w (hopped w.net n p (Hops.Dropped x)))
  unfolding effect
  does_refused x e =
      record {
        ok = (_, _, first_seen, out_seen Hops.Shut e);
        is = net_as refl
            (out_put n w.net.ports.legs p (leg_of (Hops.Dropped x)) r.port
            ∙ ap (λ (h : Hop). alter (moving w).out (port_no n p) (out_by n h)) (hop_back (Hops.Dropped x)))
            refl refl refl refl;
      }

-- A TOKEN THAT LEAVES ITS PORT. The grant that is considered for it is no event
module _ (w : World) (k : Kept w) (n p : ℕ) (r : Holds w n p 1) where
  emptied : Emptied w (took w n p) n p (first_at w n p ∷ [])
  emptied = emptied_one w n p (kept_credited w k) r

  left_queue : queues (left w n p) ≡ alter (moving w).queue (port_no n p) (tl ((moving w).queue (port_no n p)))
  left_queue =
      ap (λ (s : Cells.Net). queues (with_net (took w n p) s)) (sym (taken_is w n p))
      ∙ queue_emptied w (took w n p) n p (first_at w n p ∷ []) r.port emptied
      ∙ ap (alter (queues w) (port_no n p)) (sym (ap tl (view_queue w n p r.port ∙ emptied.here)))

  left_line : lines_of (left w n p) ≡ (moving w).line
  left_line = lines_same w (left w n p) emptied.tokens

  leg_if : (b : Bool) (k : Leg) → out_of n (pick b (leg_of Hops.Shut) k) ≡ pick b Shut (out_of n k)
  leg_if true k = refl
  leg_if false k = refl

  left_out : (h : Hop) → hop w.net n p ≡ h
      → outs (left w n p).net.ports.legs ≡ alter (moving w).out (port_no n p) (pick (closes (first_at w n p)) Shut (out_by n h))
  left_out h e =
      let b = closes (first_at w n p) in
      out_put n w.net.ports.legs p (pick b (leg_of Hops.Shut) (w.net.ports.legs n p)) r.port
      ∙ ap (alter (moving w).out (port_no n p))
      (leg_if b (w.net.ports.legs n p) ∙ ap (λ (x : Hop). pick b Shut (out_by n x)) e)

  pub does_drops : (x : Cause) → hop w.net n p ≡ Hops.Dropped x → Does (Loses (port_no n p) x (first_at w n p)) w (drops w n p)
  unfolding effect
  does_drops x e =
      record {
        ok = (_, first_seen w n p r, out_seen w n p r (Hops.Dropped x) e);
        is = ap moving (left_is w n p) ∙ net_as left_queue (left_out (Hops.Dropped x) e) refl refl refl left_line;
      }

-- WHAT THE VIEW DOES NOT SEE of a handing: claims, tile links, buffers
module _ (s : Cells.Net) (n c : ℕ) where
  pub alike_claimed : (x : Peer) → Alike s (claimed_by s n c x)
  alike_claimed x = alike_pick (eqb c sink) (alike_all s) (alike refl refl refl refl refl refl)

  pub alike_handed : (x : ℕ) → Alike s (handed s n c x)
  alike_handed x = alike_pick (eqb c sink) (alike_all s) (alike refl refl refl refl refl refl)

alike_shut : {s z : Cells.Net} (n p : ℕ) → Alike s z → Alike (shut s n p) (shut z n p)
alike_shut {s} {z} n p a =
    record {
      nodes = a.nodes;
      ports = ap (λ (t : Cells.PortTables). shut_in t) a.ports;
      users = a.users;
      cables = a.cables;
      sendings = a.sendings;
      lines = a.lines;
    }
  where
    shut_in : Cells.PortTables → Cells.PortTables
    shut_in t =
        record {
          counters = t.counters;
          legs = Two.upd t.legs n p (leg_of Hops.Shut);
          networks = Two.upd t.networks n p (pick (eqb (t.counters n p).held 0) 0 (t.networks n p));
          senders = t.senders;
        }

alike_closed : (b : Bool) (s : Cells.Net) (n p c t x : ℕ)
    → Alike (pick b (shut s n p) s)
    (pick b (claimed_by (tiled_to (shut (handed s n c x) n p) n t Peers.Nobody) n c Peers.Nobody) (handed s n c x))
alike_closed true s n p c t x =
    let z = shut (handed s n c x) n p in
    let tiled : Alike z (tiled_to z n t Peers.Nobody) = alike refl refl refl refl refl refl in
    alike_then (alike_shut n p (alike_handed s n c x)) (alike_then tiled (alike_claimed (tiled_to z n t Peers.Nobody) n c Peers.Nobody))
alike_closed false s n p c t x = alike_handed s n c x

-- A TOKEN HANDED
module _ (w : World) (k : Kept w) (n p : ℕ) (r : Holds w n p 1) where
  -- whatever the moving does not see
  does_hand : (a : Place) (h : Hop) → hop w.net n p ≡ h → out_by n h ≡ Into a
      → (z : Cells.Net)
      → Alike (pick (closes (first_at w n p)) (shut (took w n p).net n p) (took w n p).net) z
      → Does (Hands (port_no n p) a (first_at w n p)) w (with_net (took w n p) z)
  unfolding effect
  does_hand a h e to z same =
      record {
        ok = (_, first_seen w n p r, out_seen w n p r h e ∙ to);
        is =
            unseen (took w n p) _ z same
            ∙ ap moving (left_is w n p)
            ∙ net_as (left_queue w k n p r)
            (left_out w k n p r h e ∙ ap (λ (x : Out). alter (moving w).out (port_no n p) (pick (closes (first_at w n p)) Shut x)) to)
            refl refl refl (left_line w k n p r);
      }

  pub does_hands : (c t : ℕ) → hop w.net n p ≡ Hops.Channel c t
      → Does (Hands (port_no n p) (ToChannel c) (first_at w n p)) w (hands w n p c t)
  does_hands c t e =
      does_hand (ToChannel c) (Hops.Channel c t) e refl _
      (alike_closed (closes (first_at w n p)) (took w n p).net n p c t (first_at w n p))

  -- to the control unit: heard, and the message goes on, or is at its end
  pub does_listens : hop w.net n p ≡ Hops.Unit → closes (first_at w n p) ≡ false
      → Does (Hands (port_no n p) ToUnit (first_at w n p)) w (with_net (took w n p) (listens (took w n p).net n (first_at w n p)))
  does_listens e more =
      does_hand ToUnit Hops.Unit e refl _ (rw more (alike refl refl refl refl refl refl))

  pub does_freed : hop w.net n p ≡ Hops.Unit → closes (first_at w n p) ≡ true
      → Does (Hands (port_no n p) ToUnit (first_at w n p)) w (with_net (took w n p) (closes_unit (took w n p).net n p))
  does_freed e ends =
      does_hand ToUnit Hops.Unit e refl _ (rw ends (alike refl refl refl refl refl refl))

-- A TOKEN THAT GOES ON A LINE
user_if_lem : (n p : ℕ) (b : Bool) (c : Circuit) → peer_of c ≡ Peers.Port p → use_by n (peer_of (user_if b c)) ≡ pick b Nobody (By (port_no n p))
user_if_lem n p true c e = refl
user_if_lem n p false c e = ap (use_by n) e

module _ (w : World) (k : Kept w) (n p l : ℕ) (m : Slot) (j : ℕ) (r : Holds w n p 1) (out : hop w.net n p ≡ Hops.Out l)
    (leads : far_of (w.net.links.cables n l) ≡ At m j) (has : 0 < (w.net.links.flows n l).credit) where
  abbrev x : ℕ
  x = first_at w n p

  hl : l < links
  hl = link_there_lem w k n p l m j r out leads has

  -- behind the tokens that are on it, for which a credit is paid
  sent_line : lines_of (sent_on w n p l) ≡ push (moving w).line (port_no n l) x
  sent_line =
      let y = with_net (freed w n p l) (paid_one (freed w n p l).net n l) in
      let there : LineThere y n l = there_net refl refl (line_here w k n p l m j r out leads has) in
      let word = plain w k n p l m j r out leads has in
      let line = port_no n l in
      let same : lines_of y ≡ (moving w).line = left_line w k n p r in
      let old : (moving w).line line ≡ tokens_of (line_from y n l) =
      ap (λ (f : ℕ → List ℕ). f line) (sym same) ∙ view_line y n l hl in
      line_put y (sent_on w n p l) n l (tokens_of (line_from y n l) ++ (x ∷ [])) hl
      (put_token y n l there x (line_room w k n p l m j r out leads has) (token_is x word.0 word.1))
      (put_tokens_away y n l there x)
      ∙ ap (λ (f : ℕ → List ℕ). alter f line (tokens_of (line_from y n l) ++ (x ∷ []))) same
      ∙ ap (λ (ts : List ℕ). alter (moving w).line line (ts ++ (x ∷ []))) (sym old)

  pub does_moves_out : Does (Enters (port_no n p) (port_no n l) x) w (moves_out w n p l)
  unfolding effect put_on
  does_moves_out =
      record {
        ok = (_, first_seen w n p r, out_seen w n p r (Hops.Out l) out, (_, view_cable w n l hl ∙ ap far_end leads));
        is =
            ap moving (moves_is w n p l)
            ∙ net_as (left_queue w k n p r) (left_out w k n p r (Hops.Out l) out)
            (user_put n w.net.links.users l (user_if (closes x) (w.net.links.users n l)) hl
            ∙ ap (alter (moving w).user (port_no n l))
            (user_if_lem n p (closes x) (w.net.links.users n l) (by_port_lem w k n p l m j r out leads has)))
            refl refl sent_line;
      }
