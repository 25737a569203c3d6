-- A token that is dropped, and one that goes on a line, keep all that is kept. Assumes nothing.
use Prim.Native.Nat.{ℕ, ◌+◌, ◌-◌, ◌%◌, ◌<◌}
use mathlib.Core.Path.{◌≡◌, refl, sym, ap, ◌∙◌, subst}
use mathlib.Core.Bool.{Bool, true, false}
use mathlib.Core.List.{List, [], ◌∷◌, ◌++◌}
use mathlib.Core.Logic.{◌⊎◌, inl, inr, ⊎_elim}
use native.Mathlib.Omega.{arith}
use lib.Dec.{eqb}
use lib.ListN.{length-set}
use borrow.Author.Tests.{eqb-true}
use Rattle.laws.specs.Pick.{pick}
use Rattle.laws.specs.Table.{upd, Off}
use Rattle.laws.proofs.Order.{by_test, never}
use Rattle.laws.proofs.Table.{upd_same, upd_miss, upd_own, place}
use Rattle.names.specs.Size.{links, ports}
use Rattle.names.specs.declared.Slot.{Slot}
use Rattle.circuits.specs.Circuit.{peer_of, of_peer}
use Rattle.circuits.specs.declared.Cause.{Cause}
use Rattle.circuits.specs.declared.Circuit.{Circuit}
use Rattle.circuits.specs.declared.Hop.TheVariants.{Shut, Out, Dropped}
use Rattle.circuits.specs.declared.Peer.TheVariants.{Nobody, Port}
use Rattle.tokens.specs.Word.{closes}
use Rattle.tokens.specs.Shape.{shape_of}
use Rattle.ports.specs.Ring.{put_counters}
use Rattle.ports.specs.declared.Counters.{Counters}
use Rattle.grammar.specs.Stage.{is_bad, next_stage, crossed}
use Rattle.grammar.specs.Walk.{walk}
use Rattle.grammar.specs.declared.stage.Stage.{Stage}
use Rattle.grammar.specs.declared.stage.Stage.TheVariants.{Fresh}
use Rattle.grammar.proofs.Walks.{walk_append}
use Rattle.lines.specs.Line.{line_capacity, LineFair, line_place}
use Rattle.lines.specs.Load.{is_hello, credit_of}
use Rattle.cells.specs.View.{Net, with_user}
use Rattle.cells.specs.World.{World, far_of, hop, Nowhere, At}
use Rattle.cells.specs.declared.link.Cable.{Cable}
use Rattle.cells.proofs.Fars.{same_far}
use Rattle.clauses.specs.Pairs.{link_of, tile_of, unit_of, claim_of, One}
use Rattle.acts.specs.Acts.{with_net, first_at, leg_of, shut, linked_to}
use Rattle.acts.specs.Needs.{Holds}
use Rattle.line_clauses.specs.Lines.{coming}
use Rattle.travel.specs.Travel.{put_on, paid_one, sends_on}
use Rattle.travel.specs.Needs.{LineThere}
use Rattle.travel.proofs.Accounts.{greeted_sender}
use Rattle.travel.proofs.Keeps.{sends_room, sends_in_order}
use Rattle.travel.proofs.There.{there_net}
use Rattle.travel.proofs.Tokens.{put_token, put_tokens_away}
use Rattle.moves.specs.Moves.{took, closes_out, drops, moves_out}
use Rattle.kept.specs.Kept.{PortOk, Hears, carried, leg_link, port_in, front_at, back_at, reached_at, Kept}
use Rattle.kept.proofs.Tables.{all_at, all_upd, pair_leave}
use Rattle.kept.proofs.Comings.{ported, ported_token, coming_along, coming_off}
use Rattle.kept.proofs.Grants.{leads_back, leads_off, greeted_credit}
use Rattle.kept.proofs.Queues.{shape_as}
use Rattle.kept.proofs.Rooms.{line_reaches}
use Rattle.kept.proofs.Stages.{carried_same, carries_away, used_by, names_port}
use Rattle.kept.proofs.Walks.{closes_fresh, crossed_next, crossed_after}
use Rattle.kept.proofs.Leaves.{taken_is, shut_if, left, left_is, Left, pair_left, leaves}

-- DROPPED
pub keep_drops : (w : World) → Kept w → (n p : ℕ) (c : Cause) → Holds w n p 1 → hop w.net n p ≡ Dropped c → Kept (drops w n p)
keep_drops w k n p c r e =
    let gone = leaves w k n p r (λ d. never (cc)) in
    subst (λ (z : World). Kept z) (sym (left_is w n p))
    (record {
      shape = gone.shape;
      nodes = k.nodes;
      cabled = k.cabled;
      setups = k.setups;
      users = k.users;
      greeted = k.greeted;
      accounts = gone.accounts;
      counters = gone.counters;
      legs = gone.legs;
      networks = gone.networks;
      senders = k.senders;
      tiles = k.tiles;
      aims = k.aims;
      sendings = k.sendings;
      claims = k.claims;
      buffers = k.buffers;
      serving = k.serving;
      hearings = k.hearings;
      port_link = pair_left w n p k.port_link refl (ap link_of e);
      port_tile = pair_left w n p k.port_tile refl (ap tile_of e);
      port_unit = pair_left w n p k.port_unit refl (ap unit_of e);
      port_claim = pair_left w n p k.port_claim refl (ap claim_of e);
      end_claim = k.end_claim;
      end_port = k.end_port;
      aimed = k.aimed;
      goes = k.goes;
      lines = gone.lines;
      between = gone.between;
      silent = gone.silent;
      backs = gone.backs;
      idle = k.idle;
      carries = carries_away n p k.port_link (ap link_of e) gone.off gone.reached k.cabled k.carries;
    })

-- a cable that leads somewhere is there
leads_wired : (k : Cable) (m : Slot) (j : ℕ) → far_of k ≡ At m j → k.wired ≡ 1
leads_wired k m j e =
    by_test (eqb k.wired 1) (λ t. eqb-true k.wired 1 t) (λ t. never (let z : Nowhere ≡ At m j = rw t at e in cc))

-- OUTWARD: the link is free once its circuit is closed
abbrev pub user_if : Bool → Circuit → Circuit
user_if b c = pick b (of_peer Nobody) c

freed_if : (b : Bool) (s : Net) (n p l : ℕ)
    → pick b (linked_to (shut s n p) n l Nobody) s ≡ with_user (shut_if b s n p) n l (user_if b (s.links.users n l))
freed_if true s n p l = refl
freed_if false s n p l = rw (upd_own s.ports.legs n p, upd_own s.ports.networks n p, upd_own s.links.users n l)

user_if_lem : (b : Bool) (c : Circuit) → PortOk c → PortOk (user_if b c)
user_if_lem true c h = omega arith
user_if_lem false c h = h

nobody_if : (b : Bool) (c : Circuit) → c.kind ≡ 0 → (user_if b c).kind ≡ 0
nobody_if true c h = refl
nobody_if false c h = h

carried_if : (b : Bool) (c : Circuit) (f : ℕ → Stage) (p : ℕ) (s : Stage) → peer_of c ≡ Port p → (b ≡ true → s ≡ Fresh) → s ≡ crossed (f p)
    → s ≡ carried (peer_of (user_if b c)) f
carried_if true c f p s e h g = h refl
carried_if false c f p s e h g = rw e g

-- the world once the token is taken and the link freed, and then the token on its line for a credit
abbrev pub freed : World → ℕ → ℕ → ℕ → World
freed w n p l =
    with_net (left w n p) (with_user (left w n p).net n l (user_if (closes (first_at w n p)) (w.net.links.users n l)))

abbrev pub sent_on : World → ℕ → ℕ → ℕ → World
sent_on w n p l = sends_on (freed w n p l) n l (first_at w n p)

pub freed_is : (w : World) (n p l : ℕ) → with_net (took w n p) (closes_out (took w n p).net n p l (first_at w n p)) ≡ freed w n p l
freed_is w n p l =
    let b = closes (first_at w n p) in
    ap (λ (s : Net). with_net (took w n p) s)
    (freed_if b (took w n p).net n p l
    ∙ ap (λ (s : Net). with_user (shut_if b s n p) n l (user_if b (s.links.users n l))) (taken_is w n p))

pub moves_is : (w : World) (n p l : ℕ) → moves_out w n p l ≡ sent_on w n p l
moves_is w n p l = ap (λ (z : World). sends_on z n l (first_at w n p)) (freed_is w n p l)

-- the port and the far end may be of one node: the token is taken first, and then goes on the line
module _ (w : World) (k : Kept w) (n p l : ℕ) (m : Slot) (j : ℕ) (r : Holds w n p 1) (out : hop w.net n p ≡ Out l)
    (leads : far_of (w.net.links.cables n l) ≡ At m j) (has : 0 < (w.net.links.flows n l).credit) where
  -- the link is there, and used by the port
  uses : (l < links) × (port_in (w.net.links.users n l) ≡ One p)
  uses = k.port_link.out n p r.node r.port l (ap link_of out)

  pub link_there_lem : l < links
  link_there_lem = uses.0

  pub by_port_lem : peer_of (w.net.links.users n l) ≡ Port p
  by_port_lem = names_port (peer_of (w.net.links.users n l)) p uses.1

  gone : Left w n p
  gone = leaves w k n p r (λ d. never (cc))

  -- who has credit is greeted, so that both ends are enabled
  pub sender_greeted : (w.net.links.flows n l).greeted ≡ 1
  sender_greeted = greeted_sender (k.accounts.joined n l r.node link_there_lem m j leads) has

  -- what leads the walk on is a token, for which the line has room
  pub plain : (is_hello (first_at w n p) ≡ false) × (eqb (credit_of (first_at w n p)) 0 ≡ true)
  plain = ported (front_at w n p) (first_at w n p) gone.good

  pub line_here : LineThere (freed w n p l) n l
  line_here =
      record {
        node = r.node;
        link = link_there_lem;
        fair = gone.lines n l r.node link_there_lem;
        reaches = line_reaches (left w n p) gone.shape n l r.node link_there_lem;
      }

  pub line_room : ((freed w n p l).net.lines.rings n l).held < line_capacity
  line_room =
      sends_room (freed w n p l) (leads_back k.cabled) gone.accounts n l m j r.node link_there_lem leads
      (leads_off k.cabled n l r.node link_there_lem m j leads) line_here has (first_at w n p) plain.0 plain.1

  keep_sent : Kept (sent_on w n p l)
  unfolding put_on
  keep_sent =
      let x = first_at w n p in
      let c = shape_of x in
      let b = closes x in
      let t = w.net.links in
      let y = freed w n p l in
      let v = sent_on w n p l in
      let ring = y.net.lines.rings n l in
      let user = user_if b (t.users n l) in
      let long = length-set y.line_memory (line_place n l + (ring.head + ring.held) % line_capacity) x in
      -- the link, who uses it, and the far port
      let hn = r.node in
      let named : leg_link (w.net.ports.legs n p) ≡ One l = ap link_of out in
      let hl = link_there_lem in
      let joined = k.cabled.agree n l hn hl m j leads in
      let hj = joined.link in
      let apart = leads_off k.cabled n l hn hl m j leads in
      let there : LineThere (with_net y (paid_one y.net n l)) n l = there_net refl refl line_here in
      -- what comes to the far port, and to every other
      let more : coming v m.0 j ≡ coming y m.0 j ++ (x ∷ []) =
      coming_along v m.0 j hj (record { 0 = n }) l joined.back
      ∙ put_token (with_net y (paid_one y.net n l)) n l there x line_room (ported_token (front_at w n p) x gone.good)
      ∙ ap (λ (q : List ℕ). q ++ (x ∷ [])) (sym (coming_along y m.0 j hj (record { 0 = n }) l joined.back)) in
      let off : (a i : ℕ) → a < w.net.nodes → i < ports → Off m.0 j a i → reached_at v a i ≡ reached_at w a i =
      λ a i ha hi o.
      ap (walk (back_at y a i))
      (coming_off y v refl k.cabled n l m j hn hl leads
      (λ d e hd he q. put_tokens_away (with_net y (paid_one y.net n l)) n l there x d e he q) a i ha hi o)
      ∙ gone.reached a i ha hi in
      -- where the far port ended once all had come, and where the token takes it
      let front = front_at w n p in
      let was : reached_at y m.0 j ≡ crossed front =
      gone.reached m.0 j joined.node (omega arith) ∙ k.carries.fed n l hn hl m j leads ∙ rw by_port_lem in
      let next : reached_at v m.0 j ≡ next_stage front c =
      ap (walk (back_at y m.0 j)) more
      ∙ walk_append (back_at y m.0 j) (coming y m.0 j) (x ∷ [])
      ∙ ap (λ (s : Stage). next_stage s c) was
      ∙ crossed_next front c gone.good in
      -- what the link has carried
      let here : reached_at v m.0 j ≡ carried (peer_of (upd t.users n l user n l)) (front_at v n) =
      next
      ∙ carried_if b (t.users n l) (front_at v n) p (next_stage front c) by_port_lem (λ e. (closes_fresh front x gone.good e).1)
      (sym (ap crossed gone.front ∙ crossed_after front c))
      ∙ sym (ap (λ (q : Circuit). carried (peer_of q) (front_at v n)) (upd_same t.users n l user)) in
      -- .. and every other one
      let elsewhere : (a i : ℕ) → a < w.net.nodes → i < links → Off n l a i
      → carried (peer_of (upd t.users n l user a i)) (front_at v a) ≡ carried (peer_of (t.users a i)) (front_at w a) = λ a i ha hi o.
      ap (λ (z : Circuit). carried (peer_of z) (front_at v a)) (upd_miss t.users n l user a i o)
      ∙ carried_same (peer_of (t.users a i)) (front_at w a) (front_at v a)
      (λ s d.
      let (hs, names) = k.port_link.back a i ha hi s (used_by (peer_of (t.users a i)) s d) in
      gone.off a s ha hs
      (λ ea es. let both : One i ≡ One l = sym (rw (ea, es) at names) ∙ named in let link : i ≡ l = cc in o ea link)) in
      record {
        shape = shape_as (left w n p) v refl refl refl long ∙ gone.shape;
        nodes = k.nodes;
        cabled = k.cabled;
        setups = k.setups;
        users = all_upd t.users n l user (λ (q : Circuit). PortOk q) k.users (user_if_lem b (t.users n l) (k.users n l hn hl));
        greeted = greeted_credit w.net.nodes t.cables t.setups t.flows n l ((t.flows n l).credit - 1) k.greeted;
        accounts =
            sends_in_order y (leads_back k.cabled) gone.accounts n l m j hn hl leads apart line_here has x plain.0 plain.1;
        counters = gone.counters;
        legs = gone.legs;
        networks = gone.networks;
        senders = k.senders;
        tiles = k.tiles;
        aims = k.aims;
        sendings = k.sendings;
        claims = k.claims;
        buffers = k.buffers;
        serving = k.serving;
        hearings = k.hearings;
        port_link = pair_leave k.port_link b n p l (leg_of Shut) (of_peer Nobody) hn r.port named refl refl;
        port_tile = pair_left w n p k.port_tile refl (ap tile_of out);
        port_unit = pair_left w n p k.port_unit refl (ap unit_of out);
        port_claim = pair_left w n p k.port_claim refl (ap claim_of out);
        end_claim = k.end_claim;
        end_port = k.end_port;
        aimed = k.aimed;
        goes = k.goes;
        lines = all_upd y.net.lines.rings n l (put_counters ring) (λ (q : Counters). LineFair q) gone.lines
            (record { head_in = line_here.fair.head_in; held_in = omega (arith, line_room) });
        between =
            all_at y.net.lines.rings n l (put_counters ring)
            (λ a i q. (q.held ≡ 0) ⊎ (((t.setups a i).enabled ≡ 1) × Hears t.setups (t.cables a i))) gone.between
            (inr (k.greeted n l hn hl sender_greeted));
        silent = gone.silent;
        backs = record {
          walks = λ a i ha hi. place m.0 j a i
              (λ ea ei. rw (ea, ei) (ap is_bad next ∙ gone.good))
              (λ o. ap is_bad (off a i ha hi o) ∙ k.backs.walks a i ha hi);
          unfed = λ a i ha hi. place m.0 j a i
              (λ ea ei. inl (rw (ea, ei) (leads_wired (t.cables m.0 j) (record { 0 = n }) l joined.back)))
              (λ o. ⊎_elim inl (λ e. inr (off a i ha (omega arith) o ∙ e)) (k.backs.unfed a i ha hi));
          sends = gone.backs.sends;
          replied = gone.backs.replied;
        };
        idle =
            all_at t.users n l user (λ a i q. ((t.setups a i).enabled ≡ 1) ⊎ (q.kind ≡ 0)) k.idle
            (⊎_elim inl (λ none. inr (nobody_if b (t.users n l) none)) (k.idle n l hn hl));
        carries = record {
          fed = λ a i ha hi q h e. place n l a i
              (λ ea ei.
              let same : At m j ≡ At q h = sym leads ∙ (rw (ea, ei) at e) in
              let slot : m ≡ q = (same_far same).0 in
              let link : j ≡ h = (same_far same).1 in
              rw (sym slot, sym link, ea, ei) here)
              (λ o.
              let far = k.cabled.agree a i ha hi q h e in
              let away : Off m.0 j q.0 h = λ eq eh.
              let both : At (record { 0 = n }) l ≡ At (record { 0 = a }) i = sym joined.back ∙ (rw (eq, eh) at far.back) in
              let slot : ◌≡◌ {A = Slot} (record { 0 = n }) (record { 0 = a }) = (same_far both).0 in
              let link : l ≡ i = (same_far both).1 in
              o (ap (λ (z : Slot). z.0) (sym slot)) (sym link) in
              off q.0 h far.node (omega (arith, far.link)) away
              ∙ k.carries.fed a i ha hi q h e
              ∙ sym (elsewhere a i ha hi o));
          unsent = λ a i ha hi. place n l a i
              (λ ea ei. inl (rw (ea, ei) (leads_wired (t.cables n l) m j leads)))
              (λ o. ⊎_elim inl (λ e. inr (elsewhere a i ha hi o ∙ e)) (k.carries.unsent a i ha hi));
        };
      }

  pub keep_moves_out : Kept (moves_out w n p l)
  keep_moves_out = subst (λ (z : World). Kept z) (sym (moves_is w n p l)) keep_sent
