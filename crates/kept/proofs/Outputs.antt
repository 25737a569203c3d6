-- Output by a port keeps all that is kept, the first token with its header and those behind it, and so does a reply in port 12. Assumes
-- nothing.
use Prim.Native.Nat.{ℕ, ◌+◌, ◌<◌, ◌≤◌}
use mathlib.Core.Path.{◌≡◌, refl, sym, ap, ◌∙◌, subst}
use mathlib.Core.Bool.{true, false}
use mathlib.Core.List.{List, [], ◌∷◌, ◌++◌, append_assoc}
use mathlib.Core.Logic.{◌⊎◌, inl, inr, ⊎_elim}
use native.Mathlib.Omega.{arith}
use lib.Dec.{eqb}
use lib.ListN.{length, length-append}
use borrow.Author.Tests.{eqb-true}
use Rattle.laws.specs.Pick.{pick}
use Rattle.laws.specs.Table.{upd, Off}
use Rattle.laws.proofs.All.{also, at_most, below, equal}
use Rattle.laws.proofs.Order.{by_test, never}
use Rattle.laws.proofs.Table.{upd_same, upd_miss, upd_all, place}
use Rattle.names.specs.Size.{links, first_tile_port, reply_port, ports, ends, networks, numbers}
use Rattle.circuits.specs.Circuit.{peer_of, of_peer}
use Rattle.circuits.specs.declared.Circuit.{Circuit}
use Rattle.circuits.specs.declared.Peer.{Peer}
use Rattle.circuits.specs.declared.Peer.TheVariants.{Nobody, Port, End}
use Rattle.circuits.specs.declared.Hop.{Hop}
use Rattle.circuits.specs.declared.Hop.TheVariants.{Shut, Out, Channel, Unit, Dropped}
use Rattle.tokens.specs.Word.{closes, control_word}
use Rattle.tokens.specs.Control.{end}
use Rattle.tokens.specs.Shape.{shape_of}
use Rattle.tokens.specs.Shape as S
use Rattle.tokens.specs.Header.{header_of, words, is_narrow, legal_target}
use Rattle.tokens.specs.declared.header.Target.{Target}
use Rattle.tokens.specs.declared.header.Width.{Width}
use Rattle.ports.specs.Queue.{capacity, Fair}
use Rattle.ports.specs.declared.Counters.{Counters}
use Rattle.grammar.specs.Stage.{next_stage, is_bad}
use Rattle.grammar.specs.Walk.{walk, front_of, back_of}
use Rattle.grammar.specs.declared.stage.Stage.TheVariants.{Fresh, Body}
use Rattle.grammar.proofs.Nexts.{plain}
use Rattle.cells.specs.View.{Net, with_ports, with_ends, with_counters}
use Rattle.cells.specs.World.{World, shaped, hop, queue}
use Rattle.cells.specs.declared.end.Aim.{Aim}
use Rattle.acts.specs.Acts.{with_net, width_at, networked, until_closed, pushed, pushed_all}
use Rattle.acts.specs.Needs.{Room}
use Rattle.travel.specs.Accounts.{end_at}
use Rattle.travel.proofs.Accounts.{held_to}
use Rattle.travel.proofs.Cables.{same_cables}
use Rattle.ends.specs.Plan.{target_of, free_port}
use Rattle.ends.specs.Output.{goes_by, goes_behind, opens_by}
use Rattle.messages.specs.Ended.{byte, bytes, said, reply_put}
use Rattle.messages.specs.declared.reply.Reply.{Reply}
use Rattle.messages.specs.declared.reply.Reply.TheVariants.{Nack, Ack, Value}
use Rattle.plans.specs.Plan.{number_in}
use Rattle.clauses.specs.Pairs.{port_of, straight_to, Named, Nothing, One}
use Rattle.clauses.proofs.Meanings.{AimFacts}
use Rattle.kept.specs.Kept.{All, Pair, EndOk, PeerOk, TilePort, Free, NetworkOk, Aimed, GoesBy, Sends, Kept}
use Rattle.kept.specs.Kept.{front_at, back_at, reached_at, port_in, end_in, claim_in}
use Rattle.kept.proofs.Rooms.{has_room, nothing_held}
use Rattle.kept.proofs.Walks.{put}
use Rattle.kept.proofs.Headers.{header_walk, header_size, past_header_lem, body_good}
use Rattle.kept.proofs.Tables.{all_upd, pair_first}
use Rattle.kept.proofs.Comings.{reached_back, reached_as}
use Rattle.kept.proofs.Grants.{leads_back}
use Rattle.kept.proofs.Fills.{Filled, filled_one, filled_then, filled_all, filled_room}
use Rattle.kept.proofs.Stages.{tile_there, carried_same, carries_still, names_port}
use Rattle.kept.proofs.Ends.{Sender, until, pair_until, sending_ok, sending_aimed, sending_goes}

-- A PORT THAT NO CABLE LEADS TO IS FILLED
-- the world then, of which the port's counters and the token memory are new
abbrev after : World → ℕ → ℕ → Counters → List ℕ → World
after w n p c m = record { net = with_counters w.net n p c; memory = m; line_memory = w.line_memory }

filled_as : {w z : World} {n p : ℕ} {ts : List ℕ} → Filled w z n p ts → (P : World → Type 0)
    → ((c : Counters) (m : List ℕ) → Filled w (after w n p c m) n p ts → P (after w n p c m))
    → P z
filled_as {w} {z} {n} {p} {ts} f P h =
    let c = z.net.ports.counters n p in
    let over : Net → List ℕ → World = λ s g. record { net = s; memory = z.memory; line_memory = g } in
    let there : Filled w (after w n p c z.memory) n p ts =
    subst (λ g. Filled w (over (with_counters w.net n p c) g) n p ts) f.lines
    (subst (λ s. Filled w (over s z.line_memory) n p ts) f.net f) in
    subst (λ s. P (over s z.line_memory)) (sym f.net)
    (subst (λ g. P (over (with_counters w.net n p c) g)) (sym f.lines) (h c z.memory there))

-- .. with the networks, the senders and the sendings that there are then
abbrev with : World → (ℕ → ℕ → ℕ) → (ℕ → ℕ → Circuit) → (ℕ → ℕ → Circuit) → World
with z nets senders sendings =
    let s = z.net in
    let t = s.ports in
    let e = s.ends in
    with_net z
    (with_ends (with_ports s (record { counters = t.counters; legs = t.legs; networks = nets; senders = senders }))
    (record { aims = e.aims; sendings = sendings; claims = e.claims; buffers = e.buffers }))

-- what has to hold of them in the world z, and of where the port begins and ends
record FillOk (w z : World) (n p : ℕ) (nets : ℕ → ℕ → ℕ) (senders sendings : ℕ → ℕ → Circuit) : Type 0 where
  networks_ok : All w.net.nodes ports (λ a j. NetworkOk j (w.net.ports.legs a j) (z.net.ports.counters a j) (nets a j))
  senders_ok : All w.net.nodes ports (λ a j. EndOk (senders a j))
  sendings_ok : All w.net.nodes ends (λ a e. PeerOk (sendings a e))
  end_claim : Pair w.net.nodes ends ends claim_in end_in sendings w.net.ends.claims
  end_port : Pair w.net.nodes ends ports port_in end_in sendings senders
  aimed : Aimed w.net.nodes sendings w.net.ends.aims
  goes : All w.net.nodes ends (λ a e. GoesBy (peer_of (sendings a e)))
  silent : p ≡ reply_port → (w.net.units.serving n 0).kind ≡ 0
  front : front_at z n p ≡ front_at w n p
  good : is_bad (back_at z n p) ≡ false
  sends : Sends w.net.nodes sendings (back_at z)
  replied : p ≡ reply_port → back_at z n p ≡ Fresh

module _ (w : World) (n p : ℕ) (c : Counters) {m ts : List ℕ} (f : Filled w (after w n p c m) n p ts) where
  -- every other port begins and ends where it did
  front_away : (a j : ℕ) → j < ports → Off n p a j → front_at (after w n p c m) a j ≡ front_at w a j
  front_away a j hj o = ap (front_of (hop w.net a j)) (f.away a j hj o)

  back_away : (a j : ℕ) → j < ports → Off n p a j → back_at (after w n p c m) a j ≡ back_at w a j
  back_away a j hj o = ap (back_of (hop w.net a j)) (f.away a j hj o)

  reached_away : (a j : ℕ) → j < ports → Off n p a j → reached_at (after w n p c m) a j ≡ reached_at w a j
  reached_away a j hj o = reached_as w (after w n p c m) a j (back_away a j hj o) refl

  keep_filled : Kept w → links ≤ p → (nets : ℕ → ℕ → ℕ) (senders sendings : ℕ → ℕ → Circuit)
      → FillOk w (after w n p c m) n p nets senders sendings
      → Kept (with (after w n p c m) nets senders sendings)
  unfolding shaped
  keep_filled k lo nets senders sendings x =
      let counters = w.net.ports.counters in
      record {
        shape = f.shape ∙ k.shape;
        nodes = k.nodes;
        cabled = k.cabled;
        setups = k.setups;
        users = k.users;
        greeted = k.greeted;
        accounts = same_cables (leads_back k.cabled) k.accounts (λ a j hj.
            ap (λ (q : Counters). held_to (end_at w a j) q.held) (upd_miss counters n p c a j (λ ea ej. omega arith)));
        counters = all_upd counters n p c Fair k.counters (rw (upd_same counters n p c) at f.fair);
        legs = k.legs;
        networks = x.networks_ok;
        senders = x.senders_ok;
        tiles = k.tiles;
        aims = k.aims;
        sendings = x.sendings_ok;
        claims = k.claims;
        buffers = k.buffers;
        serving = k.serving;
        hearings = k.hearings;
        port_link = k.port_link;
        port_tile = k.port_tile;
        port_unit = k.port_unit;
        port_claim = k.port_claim;
        end_claim = x.end_claim;
        end_port = x.end_port;
        aimed = x.aimed;
        goes = x.goes;
        lines = k.lines;
        between = k.between;
        silent = λ a ha.
            upd_all (λ a j y. j ≡ reply_port → ((w.net.units.serving a 0).kind ≡ 0) ⊎ (y.held ≡ 0)) counters n p c a reply_port
            (λ ea ej e. inl (rw ea (x.silent (sym ej))))
            (λ o e. k.silent a ha) refl;
        backs = record {
          walks = λ a j ha hj. place n p a j
              (λ ea ej. rw (ea, ej) (ap is_bad (reached_back (after w n p c m) n p lo) ∙ x.good))
              (λ o. ap is_bad (reached_away a j hj o) ∙ k.backs.walks a j ha hj);
          unfed = λ a l ha hl.
              ⊎_elim inl (λ e. inr (reached_away a l (omega arith) (λ ea el. omega arith) ∙ e)) (k.backs.unfed a l ha hl);
          sends = x.sends;
          replied = λ a ha. place n p a reply_port
              (λ ea ej. rw ea (ap (back_at (after w n p c m) n) ej ∙ x.replied (sym ej)))
              (λ o. back_away a reply_port (omega arith) o ∙ k.backs.replied a ha);
        };
        idle = k.idle;
        carries =
            carries_still k.cabled (λ b j hb hj. reached_away b j (omega arith) (λ eb ej. omega arith))
            (λ a l ha hl. carried_same (peer_of (w.net.links.users a l)) (front_at w a) (front_at (after w n p c m) a)
            (λ q d. place n p a q
            (λ ea eq. rw (ea, eq) x.front)
            (λ o. front_away a q (k.port_link.back a l ha hl q (ap port_of d)).0 o)))
            k.carries;
      }

-- A TOKEN BY A PORT, which the channel-end's circuit goes by until END or PAUSE
-- .. and still does only where the token closes nothing
still : (t p q : ℕ) → peer_of (of_peer (until_closed t (Port p))) ≡ Port q → (closes t ≡ false) × (q ≡ p)
still t p q = by_test (closes t) (λ e. rw e (λ h. never (cc))) (λ e. rw e (λ h. (refl, cc)))

-- a circuit that goes by port p already, or none yet while no other goes by it
abbrev By : Net → ℕ → ℕ → ℕ → Type 0
By s n e p =
    (peer_of (s.ends.sendings n e) ≡ Port p)
    ⊎ ((peer_of (s.ends.sendings n e) ≡ Nobody) × (end_in (s.ports.senders n p) ≡ Nothing))

module _ (w : World) (k : Kept w) (n e p t : ℕ) (s : Sender w.net n e) (tile : TilePort p) (o : By w.net n e p) where
  alone : (d : ℕ) → end_in (w.net.ports.senders n p) ≡ One d → d ≡ e
  alone d h =
      ⊎_elim
      (λ x. let mine = (k.end_port.out n e s.node s.end p (ap port_of x)).1 in cc)
      (λ x. never (let none = x.1 in cc))
      o

  keep_by : (c : Counters) {m ts : List ℕ} → Filled w (after w n p c m) n p ts → (nets : ℕ → ℕ → ℕ)
      → ((a j : ℕ) → Off n p a j → nets a j ≡ w.net.ports.networks a j)
      → nets n p < networks
      → front_at (after w n p c m) n p ≡ front_at w n p
      → back_at (after w n p c m) n p ≡ pick (closes t) Fresh Body
      → Kept (with (after w n p c m) nets (upd w.net.ports.senders n p (of_peer (until_closed t (End e))))
      (upd w.net.ends.sendings n e (of_peer (until_closed t (Port p)))))
  keep_by c {m} f nets same small front back =
      keep_filled w n p c f k tile.0 nets _ _
      (record {
        networks_ok = λ a j ha hj.
            upd_all (λ a j y. NetworkOk j (w.net.ports.legs a j) y (nets a j)) w.net.ports.counters n p c a j
            (λ ea ej. inr (rw (ea, ej) small))
            (λ off. rw (same a j off) (k.networks a j ha hj));
        senders_ok =
            all_upd w.net.ports.senders n p _ EndOk k.senders
            (until (λ (x : Peer). EndOk (of_peer x)) t (End e) (inl refl) (inr refl));
        sendings_ok = sending_ok w k n e t s (Port p) tile;
        end_claim = pair_first k.end_claim n e _
            (until (λ x. claim_in (of_peer x) ≡ Nothing) t (Port p) refl refl
            ∙ sym (⊎_elim (λ x. ap straight_to x) (λ x. ap straight_to x.0) o));
        end_port = pair_until k.end_port n e p t (Port p) (End e) s.node s.end (omega (arith, tile.1))
            (⊎_elim (λ x. inl (ap port_of x)) (λ x. inr (ap port_of x.0, x.1)) o) refl refl refl refl;
        aimed = sending_aimed w k n e t s (Port p) tile;
        goes = sending_goes w k n e t s (Port p) tile;
        silent = λ r. absurd (omega (arith, tile.1));
        front = front;
        good = rw back (by_test (closes t) (λ e. rw e) (λ e. rw e));
        sends = λ a d ha hd q.
            upd_all (λ a d y. peer_of y ≡ Port q → back_at (after w n p c m) a q ≡ Body) w.net.ends.sendings n e _ a d
            (λ ea ed h. let y = still t p q h in rw (ea, y.1) (back ∙ rw y.0))
            (λ off h.
            let named = k.end_port.out a d ha hd q (ap port_of h) in
            back_away w n p c f a q named.0 (λ ea eq. off ea (alone d (rw (ea, eq) at named.1)))
            ∙ k.backs.sends a d ha hd q h);
        replied = λ r. absurd (omega (arith, tile.1));
      })

-- BEHIND, in the port that the circuit goes by
pub free_fresh : (w : World) (n p : ℕ) → Free (w.net.ports.legs n p) (w.net.ports.counters n p) → back_at w n p ≡ Fresh
free_fresh w n p f = rw (nothing_held w n p f.1, f.0)

pub keep_behind : (w : World) → Kept w → (n c p t : ℕ) → Sender w.net n c → peer_of (w.net.ends.sendings n c) ≡ Port p
    → (w.net.ports.counters n p).held < capacity
    → t < 0x1C2
    → Kept (goes_behind w n c p t)
keep_behind w k n c p t s o room l =
    let tile = tile_there (peer_of (w.net.ends.sendings n c)) p (k.goes n c s.node s.end) o in
    let hp : p < ports = omega (arith, tile.1) in
    let body = k.backs.sends n c s.node s.end p o in
    let h = hop w.net n p in
    let more = put h (queue w n p) t (ap (λ x. is_bad (next_stage x (shape_of t))) body ∙ body_good t l) in
    let net = ⊎_elim
    (λ x. ⊎_elim (λ no_tile. absurd (no_tile tile)) (λ f. never (let fresh = free_fresh w n p f in cc)) x)
    (λ v. v)
    (k.networks n p s.node hp) in
    filled_as (filled_one w n p t (has_room w k n p 1 s.node hp (omega arith))) (λ z. Kept (with_net z (goes_by z.net n c p t)))
    (λ a m f. keep_by w k n c p t s tile (inl o) a f w.net.ports.networks (λ b j off. refl) net
    (ap (front_of h) f.here ∙ more.front)
    (ap (back_of h) f.here ∙ more.back ∙ ap (λ x. next_stage x (shape_of t)) body ∙ past_header_lem t l))

-- THE FIRST, behind the header, in a free port: where that begins and ends
module _ (w : World) (n p : ℕ) (c : Counters) {m ts : List ℕ} (f : Filled w (after w n p c m) n p ts)
    (shut : hop w.net n p ≡ Shut)
    (held : (w.net.ports.counters n p).held ≡ 0)
  where
    first_front : front_at (after w n p c m) n p ≡ front_at w n p
    first_front = rw shut

    first_back : back_at (after w n p c m) n p ≡ walk Fresh ts
    first_back = rw (shut, f.here, nothing_held w n p held)

-- no channel-end sends by it
pub unsent : (w : World) → Kept w → (n p : ℕ) → n < w.net.nodes → p < ports → Free (w.net.ports.legs n p) (w.net.ports.counters n p)
    → end_in (w.net.ports.senders n p) ≡ Nothing
unsent w k n p hn hp f = go (end_in (w.net.ports.senders n p)) refl
  where
    go : (x : Named) → end_in (w.net.ports.senders n p) ≡ x → x ≡ Nothing
    go Nothing e = refl
    go (One d) e =
        let y = k.end_port.back n p hn hp d e in
        let body = k.backs.sends n d hn y.0 p (names_port (peer_of (w.net.ends.sendings n d)) p y.1) in
        never (let fresh = free_fresh w n p f in cc)

-- what is aimed at can be named
pub aim_legal : (k : Aim) → AimFacts k → ((number_in (target_of k)).0 < numbers) × (legal_target (target_of k) ≡ true)
aim_legal k f =
    by_test (eqb k.kind 1)
    (λ e. rw e (f.number, ⊎_elim (λ z. absurd (omega (arith, eqb-true k.kind 1 e))) (λ z. z.1) f.place))
    (λ e. rw e (f.number, refl))

-- a port that an Output may take
pub port_free : (w : World) (n p : ℕ) → free_port w.net n p ≡ true
    → TilePort p × Free (w.net.ports.legs n p) (w.net.ports.counters n p)
port_free w n p free =
    let unused = also (equal (w.net.ports.legs n p).circuit.kind 0) (equal (w.net.ports.counters n p).held 0) in
    (also (also (at_most first_tile_port p) (below p reply_port)) unused).sure free

-- a header and a token put into a port that is empty
pub opens_filled : (w : World) → Kept w → (n p t : ℕ) (g : Target) (y : Width) → n < w.net.nodes → p < ports
    → (w.net.ports.counters n p).held ≡ 0
    → let ws = words (header_of g y) in Filled w (pushed (pushed_all w n p ws) n p t) n p (ws ++ (t ∷ []))
opens_filled w k n p t g y hn hp empty =
    let ws = words (header_of g y) in
    let size = header_size g y in
    let room : (j : ℕ) → j ≤ capacity → Room w n p j = λ j h. has_room w k n p j hn hp (omega (arith, empty)) in
    let header = filled_all ws w n p (room (length ws) (omega arith)) in
    filled_then header (filled_one (pushed_all w n p ws) n p t (filled_room header (room (length ws + 1) (omega arith))))

pub keep_opens_by : (w : World) → Kept w → (n c p t : ℕ) (g : Target) → Sender w.net n c
    → peer_of (w.net.ends.sendings n c) ≡ Nobody
    → g ≡ target_of (w.net.ends.aims n c)
    → is_narrow (header_of g (width_at w.net n)) ≡ false
    → free_port w.net n p ≡ true
    → t < 0x1C2
    → Kept (opens_by w n c g p t)
keep_opens_by w k n c p t g s o aim wide free l =
    let x = w.net.ends.aims n c in
    let nets = w.net.ports.networks in
    let width = width_at w.net n in
    let facts = ⊎_elim (λ e. absurd (s.aimed e)) (λ f. f) (k.aims n c s.node s.end) in
    let legal : ((number_in g).0 < numbers) × (legal_target g ≡ true) = rw aim (aim_legal x facts) in
    let (tile, none) = port_free w n p free in
    let hp : p < ports = omega (arith, tile.1) in
    filled_as (opens_filled w k n p t g width s.node hp none.1)
    (λ z. Kept (with_net z (goes_by (networked z.net n p x.network) n c p t)))
    (λ a m f. keep_by w k n c p t s tile (inr (o, unsent w k n p s.node hp none)) a f (upd nets n p x.network)
    (upd_miss nets n p x.network)
    (rw (upd_same nets n p x.network) facts.network)
    (first_front w n p a f (rw none.0) none.1)
    (first_back w n p a f (rw none.0) none.1 ∙ header_walk g width (t ∷ []) legal.0 legal.1 wide ∙ past_header_lem t l))

-- A REPLY, in port 12
-- a port that holds nothing and ends with a circuit's end has no circuit
shut_empty : (h : Hop) → back_of h [] ≡ Fresh → h ≡ Shut
shut_empty Shut e = refl
shut_empty (Out l) e = never (cc)
shut_empty (Channel c t) e = never (cc)
shut_empty Unit e = never (cc)
shut_empty (Dropped c) e = never (cc)

-- what is said past the header, and END
byte_plain : (at v : ℕ) → shape_of (byte at v) ≡ S.Body
byte_plain at v = plain (byte at v) (omega arith)

data_walk : (v : ℕ) (r : List ℕ) → walk Body (bytes v ++ r) ≡ walk Body r
data_walk v r = rw (byte_plain 0x1000000 v, byte_plain 0x10000 v, byte_plain 0x100 v, byte_plain 1 v)

said_walk : (x : Reply) → walk Body (said x ++ (control_word end ∷ [])) ≡ Fresh
unfolding shape_of closes
said_walk Nack = refl
said_walk Ack = refl
said_walk (Value v) = data_walk v (control_word end ∷ [])

said_size : (x : Reply) → length (said x) ≤ 5
said_size Nack = omega arith
said_size Ack = omega arith
said_size (Value v) = omega arith

-- header, what is said, and END, put into port 12, which is empty
pub reply_filled : (w : World) → Kept w → (n : ℕ) (g : Target) (y : Width) (x : Reply) → n < w.net.nodes
    → (w.net.ports.counters n reply_port).held ≡ 0
    → Filled w (reply_put w n (header_of g y) x) n reply_port ((words (header_of g y) ++ said x) ++ (control_word end ∷ []))
reply_filled w k n g y x hn empty =
    let p = reply_port in
    let ws = words (header_of g y) in
    let long = length-append ws (said x) in
    let size = header_size g y in
    let more = said_size x in
    let room : (j : ℕ) → j ≤ capacity → Room w n p j = λ j h. has_room w k n p j hn (omega arith) (omega (arith, empty)) in
    let header = filled_all ws w n p (room (length ws) (omega arith)) in
    let rest = filled_all (said x) (pushed_all w n p ws) n p (filled_room header (room (length ws + length (said x)) (omega arith))) in
    let both = filled_then header rest in
    filled_then both (filled_one _ n p (control_word end) (filled_room both (room (length (ws ++ said x) + 1) (omega arith))))

pub keep_reply : (w : World) → Kept w → (n : ℕ) (g : Target) (y : Width) (x : Reply) → n < w.net.nodes
    → (w.net.ports.counters n reply_port).held ≡ 0
    → (w.net.units.serving n 0).kind ≡ 0
    → (number_in g).0 < numbers
    → legal_target g ≡ true
    → is_narrow (header_of g y) ≡ false
    → Kept (reply_put w n (header_of g y) x)
keep_reply w k n g y x hn empty idle fits legal wide =
    let p = reply_port in
    let ws = words (header_of g y) in
    let last = control_word end ∷ [] in
    let shut = shut_empty (hop w.net n p) (rw (nothing_held w n p empty) at (k.backs.replied n hn)) in
    filled_as (reply_filled w k n g y x hn empty) Kept
    (λ c m f.
    let back =
    first_back w n p c f shut empty
    ∙ ap (walk Fresh) (append_assoc ws (said x) last)
    ∙ header_walk g y (said x ++ last) fits legal wide
    ∙ said_walk x in
    keep_filled w n p c f k (omega arith) w.net.ports.networks w.net.ports.senders w.net.ends.sendings
    (record {
      networks_ok = λ a j ha hj.
          upd_all (λ a j y. NetworkOk j (w.net.ports.legs a j) y (w.net.ports.networks a j)) w.net.ports.counters n p c a j
          (λ ea ej. inl (inl (λ tile. omega (arith, tile.1))))
          (λ off. k.networks a j ha hj);
      senders_ok = k.senders;
      sendings_ok = k.sendings;
      end_claim = k.end_claim;
      end_port = k.end_port;
      aimed = k.aimed;
      goes = k.goes;
      silent = λ e. idle;
      front = first_front w n p c f shut empty;
      good = ap is_bad back;
      sends = λ a d ha hd q h.
          let tile = tile_there (peer_of (w.net.ends.sendings a d)) q (k.goes a d ha hd) h in
          back_away w n p c f a q (omega (arith, tile.1)) (λ ea eq. omega (arith, tile.1))
          ∙ k.backs.sends a d ha hd q h;
      replied = λ e. back;
    }))
