-- A circuit that is opened outward, or refused, keeps all that is kept: a whole header stands at the front of a port that had no circuit,
-- and stays there. Assumes nothing.
use Prim.Native.Nat.{ℕ, ◌+◌, ◌%◌, ◌<◌, ◌≤◌}
use mathlib.Core.Path.{◌≡◌, refl, sym, ap, ◌∙◌, subst}
use mathlib.Core.Bool.{false}
use mathlib.Core.List.{List, ◌∷◌}
use mathlib.Core.Logic.{◌⊎◌, inl, inr, ⊎_elim}
use native.Mathlib.Omega.{arith}
use lib.ListN.{length, get_or}
use Rattle.laws.specs.Table.{upd, Off}
use Rattle.laws.proofs.Table.{upd_all, upd_same, place}
use Rattle.names.specs.Size.{links, ports}
use Rattle.circuits.specs.Circuit.{peer_of, of_peer, hop_of, of_hop, tile_taken}
use Rattle.circuits.specs.declared.Cause.{Cause}
use Rattle.circuits.specs.declared.Cause.TheVariants.{Split, NoRoute}
use Rattle.circuits.specs.declared.Circuit.{Circuit}
use Rattle.circuits.specs.declared.Hop.{Hop}
use Rattle.circuits.specs.declared.Hop.TheVariants.{Shut, Out, Dropped}
use Rattle.circuits.specs.declared.Peer.TheVariants.{Port}
use Rattle.circuits.proofs.Backs.{hop_back}
use Rattle.ports.specs.Queue.{capacity}
use Rattle.ports.specs.Memory as M
use Rattle.ports.specs.declared.Counters.{Counters}
use Rattle.grammar.specs.Stage.{is_bad, crossed}
use Rattle.grammar.specs.Walk.{walk, lead, front_of, back_of}
use Rattle.grammar.specs.declared.stage.Stage.{Stage}
use Rattle.grammar.specs.declared.stage.Stage.TheVariants.{Fresh}
use Rattle.cells.specs.View.{Net, with_links}
use Rattle.cells.specs.World.{World, shaped, hop, queue}
use Rattle.cells.specs.declared.port.Leg.{Leg}
use Rattle.clauses.specs.Pairs.{link_of, tile_of, unit_of, claim_of, Named, Nothing}
use Rattle.acts.specs.Acts.{with_net, word_at, popped, leg_of, hopped}
use Rattle.acts.proofs.Queues.{popped_queue}
use Rattle.plans.specs.Plan.{marked_width, size_of}
use Rattle.plans.proofs.Held.{size_some}
use Rattle.moves.specs.Moves.{opens_out}
use Rattle.kept.specs.Kept.{All, LegOk, PortOk, NetworkOk, Pair, Idle, Carries, Kept, front_at, back_at, reached_at, carried, leg_link}
use Rattle.kept.specs.Kept.{port_in}
use Rattle.kept.proofs.Comings.{reached_as, good_back}
use Rattle.kept.proofs.Rooms.{kept_holds, queue_long}
use Rattle.kept.proofs.Stages.{hop_at, read_off, same_ends, carries_still, carries_away}
use Rattle.kept.proofs.Tables.{all_at, all_upd, pair_first, pair_link}
use Rattle.kept.proofs.Headers.{Whole, opened}

-- "With a whole header the switch reads it": a port with no circuit, and a header that is held whole
pub record Headed (w : World) (n p : ℕ) : Type 0 where
  pub node : n < w.net.nodes
  pub port : p < ports
  pub shut : hop w.net n p ≡ Shut
  pub whole : size_of (marked_width (word_at w n p 0)) ≤ (w.net.ports.counters n p).held

module _ (w : World) (n p : ℕ) (z : Headed w n p) where
  some_held : 1 ≤ (w.net.ports.counters n p).held
  some_held = omega (arith, size_some (marked_width (word_at w n p 0)), z.whole)

  -- a circuit that names nothing of a kind leaves the port as it was: naming nothing
  pub names_still : (f : Hop → Named) (h : Hop) → f h ≡ f Shut → f (hop_of (of_hop h) (tile_taken h)) ≡ f (hop w.net n p)
  names_still f h e = ap f (hop_back h) ∙ e ∙ sym (ap f z.shut)

  module _ (k : Kept w) where
    -- its first token is the header's
    pub front_is : queue w n p ≡ word_at w n p 0 ∷ queue (popped w n p) n p
    front_is =
        let c = w.net.ports.counters n p in
        let holds = kept_holds w k n p 1 z.node z.port some_held in
        let e : c.head ≡ (c.head + 0) % capacity = omega (arith, holds.fair.head_in) in
        popped_queue w n p holds ∙ ap (λ (i : ℕ). get_or w.memory (M.place n p + i) 0 ∷ queue (popped w n p) n p) e

    pub header_whole : Whole (word_at w n p 0 ∷ queue (popped w n p) n p)
    header_whole = omega (arith, z.whole, ap length front_is, queue_long w n p)

    pub good_walk : is_bad (walk Fresh (queue w n p)) ≡ false
    good_walk = rw z.shut at (good_back w k n p z.node z.port)

    -- a tile port that is taken has a network, whatever its circuit and its tokens come to be
    pub network_stays : (x : Leg) (c : Counters) → NetworkOk p x c (w.net.ports.networks n p)
    network_stays x c =
        ⊎_elim (⊎_elim (λ t. inl (inl t)) (λ f. absurd (omega (arith, some_held, f.1)))) inr (k.networks n p z.node z.port)

-- a port reads as its new circuit says
pub hop_read : {B : Type 0} (F : Hop → List ℕ → B) (legs : ℕ → ℕ → Leg) (n p : ℕ) (h : Hop) (q : List ℕ)
    → F (hop_at (upd legs n p (leg_of h)) n p) q ≡ F h q
hop_read F legs n p h q =
    ap (λ (x : Leg). F (hop_of x.circuit x.tile) q) (upd_same legs n p (leg_of h)) ∙ ap (λ (x : Hop). F x q) (hop_back h)

-- OPENED OUTWARD, OR TO BE DROPPED: a circuit whose header stays, and which names no more than a link
record Onward (h : Hop) : Type 0 where
  leads : (q : List ℕ) → front_of h q ≡ lead q
  leg : LegOk (leg_of h)
  tile : tile_of h ≡ Nothing
  unit : unit_of h ≡ Nothing
  claim : claim_of h ≡ Nothing

onward_out : (l : ℕ) → Onward (Out l)
onward_out l = record { leads = λ q. refl; leg = omega arith; tile = refl; unit = refl; claim = refl }

onward_dropped : (x : Cause) → Onward (Dropped x)
onward_dropped Split = record { leads = λ q. refl; leg = omega arith; tile = refl; unit = refl; claim = refl }
onward_dropped NoRoute = record { leads = λ q. refl; leg = omega arith; tile = refl; unit = refl; claim = refl }

-- the users of links changed, and nothing else
abbrev with_users : Net → (ℕ → ℕ → Circuit) → Net
with_users s x = let k = s.links in with_links s (record { cables = k.cables; setups = k.setups; flows = k.flows; users = x })

module _ (w : World) (k : Kept w) (n p : ℕ) (z : Headed w n p) (h : Hop) (on : Onward h) where
  abbrev old : ℕ → ℕ → Leg
  old = w.net.ports.legs

  abbrev after : World
  after = with_net w (hopped w.net n p h)

  -- the header leads from where it stands, and the port ends where it did
  opening : (crossed (lead (queue w n p)) ≡ Fresh) × (walk (lead (queue w n p)) (queue w n p) ≡ walk Fresh (queue w n p))
  opening = opened (queue w n p) (subst Whole (sym (front_is w n p z k)) (header_whole w n p z k)) (good_walk w n p z k)

  front_here : front_at after n p ≡ lead (queue w n p)
  front_here = hop_read front_of old n p h (queue w n p) ∙ on.leads (queue w n p)

  front_off : All w.net.nodes ports (λ m j. Off n p m j → front_at after m j ≡ front_at w m j)
  front_off m j hm hj o = read_off front_of old n p (leg_of h) (queue w) (queue w) m j refl o

  back_here : back_at after n p ≡ back_at w n p
  back_here =
      hop_read back_of old n p h (queue w n p)
      ∙ ap (λ (x : Stage). walk x (queue w n p)) (on.leads (queue w n p))
      ∙ opening.1
      ∙ sym (ap (λ (x : Hop). back_of x (queue w n p)) z.shut)

  back_same : All w.net.nodes ports (λ m j. back_at after m j ≡ back_at w m j)
  back_same m j hm hj =
      place n p m j (λ a b. rw (a, b) back_here) (λ o. read_off back_of old n p (leg_of h) (queue w) (queue w) m j refl o)

  reached_same : All w.net.nodes ports (λ m j. reached_at after m j ≡ reached_at w m j)
  reached_same m j hm hj = reached_as w after m j (back_same m j hm hj) refl

  -- nothing has left it
  begins_fresh : crossed (front_at after n p) ≡ Fresh
  begins_fresh = ap crossed front_here ∙ opening.0

  as_before : Carries w.net.nodes w.net.links.cables w.net.links.users (front_at after) (reached_at after)
  as_before = carries_away n p k.port_link (ap link_of z.shut) front_off reached_same k.cabled k.carries

  -- .. by a link that nobody used
  carries_out : (l : ℕ) → (w.net.links.users n l).kind ≡ 0
      → Carries w.net.nodes w.net.links.cables (upd w.net.links.users n l (of_peer (Port p))) (front_at after) (reached_at after)
  carries_out l free =
      let users = w.net.links.users in
      carries_still k.cabled (λ m i hm hi. refl)
      (λ a j ha hj.
      upd_all (λ a j x. carried (peer_of x) (front_at after a) ≡ carried (peer_of (users a j)) (front_at after a)) users n l _ a j
      (λ ea ej. rw (ea, ej, free) begins_fresh)
      (λ o. refl))
      as_before

  keep_onward : (users : ℕ → ℕ → Circuit)
      → All w.net.nodes links (λ m j. PortOk (users m j))
      → Pair w.net.nodes ports links leg_link port_in (upd old n p (leg_of h)) users
      → Idle w.net.nodes w.net.links.setups users
      → Carries w.net.nodes w.net.links.cables users (front_at after) (reached_at after)
      → Kept (with_net w (with_users (hopped w.net n p h) users))
  unfolding shaped
  keep_onward users kinds link idle carries =
      record {
        shape = k.shape;
        nodes = k.nodes;
        cabled = k.cabled;
        setups = k.setups;
        users = kinds;
        greeted = k.greeted;
        accounts = k.accounts;
        counters = k.counters;
        legs = all_upd old n p (leg_of h) LegOk k.legs on.leg;
        networks =
            all_at old n p (leg_of h) (λ m j x. NetworkOk j x (w.net.ports.counters m j) (w.net.ports.networks m j)) k.networks
            (network_stays w n p z k (leg_of h) (w.net.ports.counters n p));
        senders = k.senders;
        tiles = k.tiles;
        aims = k.aims;
        sendings = k.sendings;
        claims = k.claims;
        buffers = k.buffers;
        serving = k.serving;
        hearings = k.hearings;
        port_link = link;
        port_tile = pair_first k.port_tile n p (leg_of h) (names_still w n p z tile_of h on.tile);
        port_unit = pair_first k.port_unit n p (leg_of h) (names_still w n p z unit_of h on.unit);
        port_claim = pair_first k.port_claim n p (leg_of h) (names_still w n p z claim_of h on.claim);
        end_claim = k.end_claim;
        end_port = k.end_port;
        aimed = k.aimed;
        goes = k.goes;
        lines = k.lines;
        between = k.between;
        silent = k.silent;
        backs = same_ends back_same reached_same k.goes k.backs;
        idle = idle;
        carries = carries;
      }

-- OUTWARD
pub keep_opens_out : (w : World) → Kept w → (n p l : ℕ) → Headed w n p → l < links → (w.net.links.users n l).kind ≡ 0
    → (w.net.links.setups n l).enabled ≡ 1
    → Kept (with_net w (opens_out w.net n p l))
keep_opens_out w k n p l z hl free on =
    let way = onward_out l in
    let users = w.net.links.users in
    let user = of_peer (Port p) in
    keep_onward w k n p z (Out l) way (upd users n l user)
    (all_upd users n l user PortOk k.users (omega arith))
    (pair_link k.port_link n p l (leg_of (Out l)) user z.port hl (ap link_of z.shut) (rw free) refl refl)
    (all_at users n l user (λ m j x. ((w.net.links.setups m j).enabled ≡ 1) ⊎ (x.kind ≡ 0)) k.idle (inl on))
    (carries_out w k n p z (Out l) way l free)

-- "Refused circuits: Dropped, with the cause."
pub keep_refused : (w : World) → Kept w → (n p : ℕ) (x : Cause) → Headed w n p → Kept (with_net w (hopped w.net n p (Dropped x)))
keep_refused w k n p x z =
    let way = onward_dropped x in
    keep_onward w k n p z (Dropped x) way w.net.links.users k.users
    (pair_first k.port_link n p (leg_of (Dropped x)) (names_still w n p z link_of (Dropped x) refl))
    k.idle
    (as_before w k n p z (Dropped x) way)
