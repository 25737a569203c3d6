-- A circuit that lands at a channel or at the control unit keeps all that is kept: the header is removed from the front of a port that had
-- no circuit, and a grant is considered for each of its tokens. Assumes nothing.
use Prim.Native.Nat.{ℕ, ◌<◌, ◌≤◌}
use mathlib.Core.Path.{◌≡◌, refl, sym, ap, ◌∙◌, subst}
use mathlib.Core.Bool.{false}
use mathlib.Core.List.{List}
use mathlib.Core.Logic.{◌⊎◌, inl, inr, ⊎_elim}
use native.Mathlib.Omega.{arith}
use lib.Dec.{eqb}
use lib.ListN.{drop, take}
use lib.Seq.{drop_at, length-take-le}
use borrow.Author.Tests.{eqb-false}
use Rattle.laws.specs.Table.{upd, Off}
use Rattle.laws.proofs.Order.{by_test}
use Rattle.laws.proofs.Table.{upd_all, upd_hit, upd_miss, place}
use Rattle.names.specs.Size.{ports, tile_links, ends, sink, reply_port}
use Rattle.circuits.specs.Circuit.{of_peer}
use Rattle.circuits.specs.declared.Circuit.{Circuit}
use Rattle.circuits.specs.declared.Hop.{Hop}
use Rattle.circuits.specs.declared.Hop.TheVariants.{Channel, Unit}
use Rattle.circuits.specs.declared.Peer.TheVariants.{Port}
use Rattle.tokens.specs.declared.header.Width.{Width}
use Rattle.ports.specs.Queue.{Fair}
use Rattle.ports.specs.declared.Counters.{Counters}
use Rattle.grammar.specs.Stage.{is_bad}
use Rattle.grammar.specs.Walk.{walk, front_of, back_of}
use Rattle.grammar.specs.declared.stage.Stage.{Stage}
use Rattle.grammar.specs.declared.stage.Stage.TheVariants.{Fresh, Body}
use Rattle.cells.specs.View.{Net, UnitTables, with_counters, with_lines}
use Rattle.cells.specs.World.{World, shaped, queue}
use Rattle.cells.specs.declared.port.Leg.{Leg}
use Rattle.cells.specs.declared.tile.Tile.{Tile}
use Rattle.cells.specs.declared.unit.Hearing.{Hearing}
use Rattle.clauses.specs.Pairs.{link_of, tile_of, unit_of, claim_of, Nothing}
use Rattle.acts.specs.Acts.{with_net, width_at, word_at, popped, leg_of, hopped}
use Rattle.acts.specs.Needs.{Door}
use Rattle.plans.specs.Plan.{marked_width, size_of}
use Rattle.moves.specs.Moves.{stripped, lands_channel, lands_unit}
use Rattle.kept.specs.Kept.{All, LegOk, PortOk, PeerOk, HearingOk, NetworkOk, Pair, Silent, Kept}
use Rattle.kept.specs.Kept.{front_at, back_at, reached_at, leg_tile, leg_unit, leg_claim, port_in, end_in, claim_in, tile_user}
use Rattle.kept.proofs.Comings.{coming_same, reached_as}
use Rattle.kept.proofs.Grants.{Credited}
use Rattle.kept.proofs.Empties.{Emptied, emptied_stripped}
use Rattle.kept.proofs.Stages.{read_off, same_ends, carries_away}
use Rattle.kept.proofs.Tables.{all_upd, pair_first, pair_second, pair_link}
use Rattle.kept.proofs.Headers.{landed}
use Rattle.kept.proofs.Rooms.{kept_holds, queue_long}
use Rattle.kept.proofs.Opens.{Headed, names_still, front_is, header_whole, good_walk}
use Rattle.kept.proofs.Opens.{network_stays, hop_read}

-- LANDED: a circuit past its header, whatever it lands at; and who then has the tile links, the channels and the control units
record Holders : Type 0 where
  tiles : ℕ → ℕ → Tile
  claims : ℕ → ℕ → Circuit
  units : UnitTables

abbrev lands_at : Net → ℕ → ℕ → Hop → Holders → Net
lands_at s n p h x =
    record {
      nodes = s.nodes;
      own = s.own;
      links = s.links;
      ports = (hopped s n p h).ports;
      tiles = x.tiles;
      ends = record { aims = s.ends.aims; sendings = s.ends.sendings; claims = x.claims; buffers = s.ends.buffers };
      units = x.units;
      lines = s.lines;
      rest = s.rest;
    }

-- what it asks of them
record Landing (s : Net) (n p : ℕ) (h : Hop) (x : Holders) : Type 0 where
  front : (q : List ℕ) → front_of h q ≡ Body
  link : link_of h ≡ Nothing
  leg : LegOk (leg_of h)
  tiles : All s.nodes tile_links (λ m t. PortOk (x.tiles m t).user)
  claims : All s.nodes ends (λ m e. PeerOk (x.claims m e))
  serving : All s.nodes 1 (λ m i. PortOk (x.units.serving m i))
  hearings : All s.nodes 1 (λ m i. HearingOk (x.units.serving m i) (x.units.hearings m i))
  port_tile : Pair s.nodes ports tile_links leg_tile tile_user (upd s.ports.legs n p (leg_of h)) x.tiles
  port_unit : Pair s.nodes ports 1 leg_unit port_in (upd s.ports.legs n p (leg_of h)) x.units.serving
  port_claim : Pair s.nodes ports ends leg_claim port_in (upd s.ports.legs n p (leg_of h)) x.claims
  end_claim : Pair s.nodes ends ends claim_in end_in s.ends.sendings x.claims
  silent : Silent s.nodes x.units.serving s.ports.counters

module _ (w : World) (k : Kept w) (n p : ℕ) (z : Headed w n p) (x : Width) (size : size_of x ≡ size_of (marked_width (word_at w n p 0)))
    (h : Hop) (who : Holders) (l : Landing w.net n p h who) where
  abbrev old : ℕ → ℕ → Leg
  old = w.net.ports.legs

  abbrev first : World
  first = with_net w (lands_at w.net n p h who)

  abbrev last : World
  last = stripped first n p x

  size_held : size_of x ≤ (w.net.ports.counters n p).held
  size_held = omega (arith, size, z.whole)

  -- nothing of cables and lines is touched yet
  credited_first : Credited first
  unfolding shaped
  credited_first =
      record {
        shape = k.shape;
        cabled = k.cabled;
        greeted = k.greeted;
        accounts = k.accounts;
        lines = k.lines;
        between = k.between;
      }

  emptied : Emptied first last n p (take (size_of x) (queue w n p))
  emptied =
      let r = kept_holds w k n p (size_of x) z.node z.port size_held in
      emptied_stripped first n p x credited_first
      (record { node = r.node; port = r.port; fair = r.fair; held = r.held; reaches = r.reaches })

  abbrev count : Counters
  count = last.net.ports.counters n p

  -- the state that is come to, table by table
  abbrev after : World
  after = with_net last (with_lines (with_counters first.net n p count) last.net.lines)

  queue_as : (m j : ℕ) → queue after m j ≡ queue last m j
  queue_as m j = ap (λ (s : Net). queue (with_net last s) m j) (sym emptied.net)

  -- the port holds what stood behind the header, and ends where it did
  queue_here : queue after n p ≡ drop (size_of x) (queue w n p)
  queue_here =
      queue_as n p
      ∙ sym (drop_at (take (size_of x) (queue w n p)) (queue last n p) (size_of x)
      (length-take-le (size_of x) (queue w n p) (omega (arith, size_held, queue_long w n p))))
      ∙ ap (λ (q : List ℕ). drop (size_of x) q) (sym emptied.here)

  queue_off : (m j : ℕ) → j < ports → Off n p m j → queue after m j ≡ queue w m j
  queue_off m j hj o = queue_as m j ∙ emptied.away m j hj o

  removed : walk Body (drop (size_of x) (queue w n p)) ≡ walk Fresh (queue w n p)
  removed =
      subst (λ (q : List ℕ). is_bad (walk Fresh q) ≡ false → walk Body (drop (size_of x) q) ≡ walk Fresh q) (sym (front_is w n p z k))
      (rw size (landed (word_at w n p 0) (queue (popped w n p) n p) (header_whole w n p z k)))
      (good_walk w n p z k)

  back_here : back_at after n p ≡ back_at w n p
  back_here =
      hop_read back_of old n p h (queue after n p)
      ∙ ap (λ (s : Stage). walk s (queue after n p)) (l.front (queue after n p))
      ∙ ap (λ (q : List ℕ). walk Body q) queue_here
      ∙ removed
      ∙ sym (ap (λ (o : Hop). back_of o (queue w n p)) z.shut)

  front_off : All w.net.nodes ports (λ m j. Off n p m j → front_at after m j ≡ front_at w m j)
  front_off m j hm hj o = read_off front_of old n p (leg_of h) (queue w) (queue after) m j (queue_off m j hj o) o

  back_same : All w.net.nodes ports (λ m j. back_at after m j ≡ back_at w m j)
  back_same m j hm hj =
      place n p m j (λ a b. rw (a, b) back_here)
      (λ o. read_off back_of old n p (leg_of h) (queue w) (queue after) m j (queue_off m j hj o) o)

  reached_same : All w.net.nodes ports (λ m j. reached_at after m j ≡ reached_at w m j)
  reached_same m j hm hj =
      reached_as w after m j (back_same m j hm hj) (coming_same w after refl k.cabled (λ a i ha hi. emptied.tokens a i hi) m j hm hj)

  fewer : count.held ≤ (w.net.ports.counters n p).held
  fewer = omega (arith, emptied.held)

  silent_after : Silent w.net.nodes who.units.serving (upd w.net.ports.counters n p count)
  silent_after m hm =
      let counters = w.net.ports.counters in
      ⊎_elim inl
      (λ e. inr (upd_all (λ a b x. (counters a b).held ≡ 0 → x.held ≡ 0) counters n p count m reply_port
      (λ ea eb d. let none : (counters n p).held ≡ 0 = rw (ea, eb) at d in omega (arith, fewer))
      (λ o d. d)
      e))
      (l.silent m hm)

  networks_after : All w.net.nodes ports
      (λ m j. NetworkOk j (upd old n p (leg_of h) m j) (upd w.net.ports.counters n p count m j) (w.net.ports.networks m j))
  networks_after m j hm hj =
      let counters = w.net.ports.counters in
      place n p m j
      (λ a b. rw (a, b) (network_stays w n p z k (upd old n p (leg_of h) n p) (upd counters n p count n p)))
      (λ o. rw (upd_miss old n p (leg_of h) m j o, upd_miss counters n p count m j o) (k.networks m j hm hj))

  kept_after : Kept after
  kept_after =
      let credited : Credited after = subst (λ (s : Net). Credited (with_net last s)) emptied.net emptied.credited in
      record {
        shape = credited.shape;
        nodes = k.nodes;
        cabled = k.cabled;
        setups = k.setups;
        users = k.users;
        greeted = k.greeted;
        accounts = credited.accounts;
        counters = all_upd w.net.ports.counters n p count Fair k.counters emptied.fair;
        legs = all_upd old n p (leg_of h) LegOk k.legs l.leg;
        networks = networks_after;
        senders = k.senders;
        tiles = l.tiles;
        aims = k.aims;
        sendings = k.sendings;
        claims = l.claims;
        buffers = k.buffers;
        serving = l.serving;
        hearings = l.hearings;
        port_link = pair_first k.port_link n p (leg_of h) (names_still w n p z link_of h l.link);
        port_tile = l.port_tile;
        port_unit = l.port_unit;
        port_claim = l.port_claim;
        end_claim = l.end_claim;
        end_port = k.end_port;
        aimed = k.aimed;
        goes = k.goes;
        lines = credited.lines;
        between = credited.between;
        silent = silent_after;
        backs = same_ends back_same reached_same k.goes k.backs;
        idle = k.idle;
        carries = carries_away n p k.port_link (ap link_of z.shut) front_off reached_same k.cabled k.carries;
      }

  keep_landed : Kept last
  keep_landed = subst (λ (s : Net). Kept (with_net last s)) (sym emptied.net) kept_after

-- "this node's channel .. Opened and the header is removed"
pub keep_lands_channel : (w : World) → Kept w → (n p c t : ℕ) → Headed w n p
    → size_of (width_at w.net n) ≡ size_of (marked_width (word_at w n p 0))
    → Door c
    → t < tile_links
    → (w.net.tiles n t).user.kind ≡ 0
    → (eqb c sink ≡ false → (w.net.ends.claims n c).kind ≡ 0)
    → Kept (lands_channel w n p c t)
keep_lands_channel w k n p c t z size door ht free unclaimed =
    by_test (eqb c sink)
    (λ e. rw e (at w.net.ends.claims k.claims
    (pair_first k.port_claim n p leg (names_still w n p z claim_of (Channel c t) (rw e)))
    k.end_claim))
    (λ e. let none = unclaimed e in
    let there : c < ends = ⊎_elim (λ d. absurd (eqb-false c sink e d)) (λ d. d) door in
    rw e (at (upd w.net.ends.claims n c peer)
    (all_upd w.net.ends.claims n c peer PeerOk k.claims (omega arith))
    (pair_link k.port_claim n p c leg peer z.port there (ap claim_of z.shut) (rw none) (rw e) refl)
    (pair_second k.end_claim n c peer (rw none))))
  where
    leg : Leg
    leg = leg_of (Channel c t)

    peer : Circuit
    peer = of_peer (Port p)

    tile : Tile
    tile = record { user = peer }

    who : (ℕ → ℕ → Circuit) → Holders
    who claims = record { tiles = upd w.net.tiles n t tile; claims = claims; units = w.net.units }

    at : (claims : ℕ → ℕ → Circuit)
        → All w.net.nodes ends (λ m e. PeerOk (claims m e))
        → Pair w.net.nodes ports ends leg_claim port_in (upd w.net.ports.legs n p leg) claims
        → Pair w.net.nodes ends ends claim_in end_in w.net.ends.sendings claims
        → Kept (stripped (with_net w (lands_at w.net n p (Channel c t) (who claims))) n p (width_at w.net n))
    at claims kinds port local =
        keep_landed w k n p z (width_at w.net n) size (Channel c t) (who claims)
        (record {
          front = λ q. refl;
          link = refl;
          leg = omega arith;
          tiles = all_upd w.net.tiles n t tile (λ x. PortOk x.user) k.tiles (omega arith);
          claims = kinds;
          serving = k.serving;
          hearings = k.hearings;
          port_tile = pair_link k.port_tile n p t leg tile z.port ht (ap tile_of z.shut) (rw free) refl refl;
          port_unit = pair_first k.port_unit n p leg (names_still w n p z unit_of (Channel c t) refl);
          port_claim = port;
          end_claim = local;
          silent = k.silent;
        })

-- "this node's control unit .. Opened, header removed"
pub keep_lands_unit : (w : World) → Kept w → (n p : ℕ) → Headed w n p
    → size_of (width_at w.net n) ≡ size_of (marked_width (word_at w n p 0))
    → (w.net.units.serving n 0).kind ≡ 0
    → (w.net.ports.counters n reply_port).held ≡ 0
    → Kept (lands_unit w n p)
keep_lands_unit w k n p z size free quiet =
    let leg = leg_of Unit in
    let peer = of_peer (Port p) in
    let serving = w.net.units.serving in
    let hearings = w.net.units.hearings in
    let fresh : Hearing = record { heard = 0; tokens = (hearings n 0).tokens } in
    keep_landed w k n p z (width_at w.net n) size Unit
    (record {
      tiles = w.net.tiles;
      claims = w.net.ends.claims;
      units = record { serving = upd serving n 0 peer; hearings = upd hearings n 0 fresh };
    })
    (record {
      front = λ q. refl;
      link = refl;
      leg = omega arith;
      tiles = k.tiles;
      claims = k.claims;
      serving = all_upd serving n 0 peer PortOk k.serving (omega arith);
      hearings = λ m i hm hi. place n 0 m i
          (λ a b. rw (upd_hit serving n 0 peer m i a b, upd_hit hearings n 0 fresh m i a b)
          (inr (omega arith, λ j less. absurd (omega arith))))
          (λ o. rw (upd_miss serving n 0 peer m i o, upd_miss hearings n 0 fresh m i o) (k.hearings m i hm hi));
      port_tile = pair_first k.port_tile n p leg (names_still w n p z tile_of Unit refl);
      port_unit = pair_link k.port_unit n p 0 leg peer z.port (omega arith) (ap unit_of z.shut) (rw free) refl refl;
      port_claim = pair_first k.port_claim n p leg (names_still w n p z claim_of Unit refl);
      end_claim = k.end_claim;
      silent = λ m hm. upd_all (λ a i x. (x.kind ≡ 0) ⊎ ((w.net.ports.counters a reply_port).held ≡ 0)) serving n 0 peer m 0
          (λ a b. inr (rw a quiet))
          (λ o. k.silent m hm);
    })
