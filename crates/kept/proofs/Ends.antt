-- What programs do at channel-ends keeps all that is kept: Aim, Input, and Output straight to a channel of the same node. Assumes nothing.
use Prim.{tt}
use Prim.Native.Nat.{ℕ, suc, ◌+◌, ◌-◌, ◌<◌}
use mathlib.Core.Path.{◌≡◌, refl, sym, ap, ◌∙◌}
use mathlib.Core.Bool.{true, false}
use mathlib.Core.List.{[], ◌∷◌, ◌++◌}
use mathlib.Core.Logic.{◌⊎◌, inl, inr, ⊎_elim}
use native.Mathlib.Omega.{arith}
use lib.Dec.{eqb, ltb}
use lib.ListN.{get_or, set, get_or-append}
use borrow.Author.Tests.{eqb-true, eqb-false, ltb-true, lt-ltb, not-false}
use Rattle.laws.specs.Table.{upd}
use Rattle.laws.specs.Row.{tab}
use Rattle.laws.proofs.All.{also, as_is}
use Rattle.laws.proofs.Order.{by_test, clash, never}
use Rattle.laws.proofs.Row.{length_tab, get_or_tab}
use Rattle.laws.proofs.Table.{upd_all}
use Rattle.names.specs.Size.{ports, ends, end_buffer, networks, numbers, sink}
use Rattle.names.specs.Number.{is_number}
use Rattle.circuits.specs.Circuit.{peer_of, of_peer}
use Rattle.circuits.specs.declared.Circuit.{Circuit}
use Rattle.circuits.specs.declared.Peer.{Peer}
use Rattle.circuits.specs.declared.Peer.TheVariants.{Nobody, Port, End}
use Rattle.circuits.proofs.Backs.{peer_back}
use Rattle.tokens.specs.Word.{closes, is_pause}
use Rattle.tokens.specs.Shape.{legal_channel}
use Rattle.grammar.specs.declared.stage.Stage.TheVariants.{Body}
use Rattle.cells.specs.View.{Net, EndTables, with_ends, with_sending, with_claim, with_buffer}
use Rattle.cells.specs.World.{World, shaped}
use Rattle.cells.specs.declared.end.Buffer.{Buffer}
use Rattle.clauses.specs.Contents.{legal_word}
use Rattle.clauses.specs.Pairs.{port_of, end_of, claimable, straight_to, Named, Nothing, One}
use Rattle.clauses.proofs.Meanings.{AimFacts}
use Rattle.acts.specs.Acts.{with_net, until_closed, channel_claimed, buffer_after}
use Rattle.acts.specs.Needs.{Keeps, Door, Given}
use Rattle.acts.proofs.Doors.{door}
use Rattle.acts.proofs.Pushes.{holds}
use Rattle.ends.specs.Aim.{goal_ranged, aimed_at, aim_made}
use Rattle.ends.specs.Input.{took_first, input_made}
use Rattle.ends.specs.Output.{goes_straight}
use Rattle.ends.specs.declared.aim.Goal.{Goal}
use Rattle.ends.specs.declared.aim.Goal.TheVariants.{Channel, Unit}
use Rattle.kept.specs.Kept.{All, Pair, AimOk, PeerOk, BufferOk, Aimed, GoesBy, Sends, Kept, back_at}
use Rattle.kept.specs.Kept.{leg_claim, port_in, end_in, claim_in}
use Rattle.kept.proofs.Words.{words_more}
use Rattle.kept.proofs.Tables.{all_at, all_upd, pair_same, pair_first, pair_second, pair_link, pair_unlink, reads}

-- other channel-ends, and everything else as it was
abbrev ends_as : World → EndTables → World
ends_as w x = with_net w (with_ends w.net x)

-- what has to hold of them
record EndsOk (w : World) (x : EndTables) : Type 0 where
  aims : All w.net.nodes ends (λ n e. AimOk (x.aims n e))
  sendings : All w.net.nodes ends (λ n e. PeerOk (x.sendings n e))
  claims : All w.net.nodes ends (λ n e. PeerOk (x.claims n e))
  buffers : All w.net.nodes ends (λ n e. BufferOk (x.buffers n e))
  port_claim : Pair w.net.nodes ports ends leg_claim port_in w.net.ports.legs x.claims
  end_claim : Pair w.net.nodes ends ends claim_in end_in x.sendings x.claims
  end_port : Pair w.net.nodes ends ports port_in end_in x.sendings w.net.ports.senders
  aimed : Aimed w.net.nodes x.sendings x.aims
  goes : All w.net.nodes ends (λ n e. GoesBy (peer_of (x.sendings n e)))
  sends : Sends w.net.nodes x.sendings (back_at w)

keep_ends : (w : World) (x : EndTables) → Kept w → EndsOk w x → Kept (ends_as w x)
unfolding shaped
keep_ends w x k z =
    record {
      shape = k.shape;
      nodes = k.nodes;
      cabled = k.cabled;
      setups = k.setups;
      users = k.users;
      greeted = k.greeted;
      accounts = k.accounts;
      counters = k.counters;
      legs = k.legs;
      networks = k.networks;
      senders = k.senders;
      tiles = k.tiles;
      aims = z.aims;
      sendings = z.sendings;
      claims = z.claims;
      buffers = z.buffers;
      serving = k.serving;
      hearings = k.hearings;
      port_link = k.port_link;
      port_tile = k.port_tile;
      port_unit = k.port_unit;
      port_claim = z.port_claim;
      end_claim = z.end_claim;
      end_port = z.end_port;
      aimed = z.aimed;
      goes = z.goes;
      lines = k.lines;
      between = k.between;
      silent = k.silent;
      backs = record { walks = k.backs.walks; unfed = k.backs.unfed; sends = z.sends; replied = k.backs.replied };
      idle = k.idle;
      carries = k.carries;
    }

-- AIM
pub sixteen_bits : (v : ℕ) → is_number v ≡ true → v < numbers
sixteen_bits v r = by_test (ltb v numbers) (λ e. ltb-true v numbers e) (λ e. clash (sym (rw e at r)))

aim_ok : (g : Goal) (v : ℕ) → goal_ranged g ≡ true → v < networks → AimFacts (aimed_at g v)
aim_ok (Channel m c) v r h =
    let z = (also (as_is (is_number m)) (as_is (legal_channel c))).sure r in
    record { number = sixteen_bits m z.0; network = h; place = inr (refl, z.1) }
aim_ok (Unit m) v r h = record { number = sixteen_bits m r; network = h; place = inl refl }

aimed_so : (g : Goal) (v : ℕ) → (aimed_at g v).kind ≡ 0 → ⊥
aimed_so (Channel m c) v e = omega arith
aimed_so (Unit m) v e = omega arith

pub keep_aim : (w : World) → Kept w → (n c : ℕ) (g : Goal) (v : ℕ) → goal_ranged g ≡ true → v < networks
    → Kept (with_net w (aim_made w.net n c g v))
keep_aim w k n c g v r h =
    let t = w.net.ends in
    let a = aimed_at g v in
    keep_ends w (record { aims = upd t.aims n c a; sendings = t.sendings; claims = t.claims; buffers = t.buffers }) k
    (record {
      aims = all_upd t.aims n c a AimOk k.aims (inr (aim_ok g v r h));
      sendings = k.sendings;
      claims = k.claims;
      buffers = k.buffers;
      port_claim = k.port_claim;
      end_claim = k.end_claim;
      end_port = k.end_port;
      aimed = all_at t.aims n c a (λ m e x. ((t.sendings m e).kind ≡ 0) ⊎ (x.kind ≡ 0 → ⊥)) k.aimed (inr (aimed_so g v));
      goes = k.goes;
      sends = k.backs.sends;
    })

-- INPUT
took_first_lem : (b : Buffer) → BufferOk b → BufferOk (took_first b)
took_first_lem b h =
    let k = end_buffer - 1 in
    let up : ℕ → ℕ = λ i. get_or b.tokens (suc i) 0 in
    let moved : (i : ℕ) → i < k → get_or (tab k up ++ (0 ∷ [])) i 0 ≡ up i =
    λ i l. get_or-append (tab k up) (0 ∷ []) 0 i (rw (length_tab k up) l) ∙ get_or_tab k up i 0 l in
    (omega (arith, h.0), λ i l. rw (moved i (omega (arith, h.0))) (h.1 (suc i) (omega arith)))

pub keep_input : (w : World) → Kept w → (n c : ℕ) → n < w.net.nodes → c < ends → Kept (with_net w (input_made w.net n c))
keep_input w k n c hn hc =
    let t = w.net.ends in
    let b = took_first (t.buffers n c) in
    keep_ends w (record { aims = t.aims; sendings = t.sendings; claims = t.claims; buffers = upd t.buffers n c b }) k
    (record {
      aims = k.aims;
      sendings = k.sendings;
      claims = k.claims;
      buffers = all_upd t.buffers n c b BufferOk k.buffers (took_first_lem (t.buffers n c) (k.buffers n c hn hc));
      port_claim = k.port_claim;
      end_claim = k.end_claim;
      end_port = k.end_port;
      aimed = k.aimed;
      goes = k.goes;
      sends = k.backs.sends;
    })

-- WHAT A CHANNEL-END KEEPS of a token
legal_word_lem : (t : ℕ) → t < 0x1C2 → is_pause t ≡ false → legal_word true t ≡ true
legal_word_lem t l e = rw (lt-ltb t 0x1C2 l, e)

pub buffer_after_lem : (b : Buffer) (t : ℕ) → BufferOk b → Keeps b t → t < 0x1C2 → BufferOk (buffer_after b t)
buffer_after_lem b t h m l = by_test (is_pause t) (λ e. rw e h) (λ e. rw e (more e))
  where
    more : is_pause t ≡ false → BufferOk (record { held = b.held + 1; tokens = set b.tokens b.held t })
    more e =
        let room = holds b t false m (sym e) refl in
        (omega arith, words_more (λ x. legal_word true x ≡ true) b.tokens b.held t (legal_word_lem t l e) refl h.1)

-- UNTIL END OR PAUSE: what holds of nobody, and of who has the circuit
pub until : (P : Peer → Type 0) (t : ℕ) (x : Peer) → P Nobody → P x → P (until_closed t x)
until P t x shut still = by_test (closes t) (λ e. rw e shut) (λ e. rw e still)

module _ {N a b : ℕ} {f g : Circuit → Named} {x y : ℕ → ℕ → Circuit} (z : Pair N a b f g x y) (n i j : ℕ) where
  same : (c d : Circuit) → f c ≡ f (x n i) → g d ≡ g (y n j) → Pair N a b f g (upd x n i c) (upd y n j d)
  same c d p q = pair_same z (upd x n i c) (upd y n j d) (reads f x n i c p) (reads g y n j d q)

  -- two that name each other, or name nobody, name each other until then
  pub pair_until : (t : ℕ) (u v : Peer) → n < N → i < a → j < b
      → (f (x n i) ≡ One j) ⊎ ((f (x n i) ≡ Nothing) × (g (y n j) ≡ Nothing))
      → f (of_peer Nobody) ≡ Nothing
      → g (of_peer Nobody) ≡ Nothing
      → f (of_peer u) ≡ One j
      → g (of_peer v) ≡ One i
      → Pair N a b f g (upd x n i (of_peer (until_closed t u))) (upd y n j (of_peer (until_closed t v)))
  pair_until t u v hn hi hj met fn gn fu gv =
      by_test (closes t)
      (λ e. rw e (⊎_elim
      (λ named. pair_unlink z n i j _ _ hn hi named fn gn)
      (λ free. same _ _ (fn ∙ sym free.0) (gn ∙ sym free.1))
      met))
      (λ e. rw e (⊎_elim
      (λ named. same _ _ (fu ∙ sym named) (gv ∙ sym (z.out n i hn hi j named).1))
      (λ free. pair_link z n i j _ _ hi hj free.0 free.1 fu gv)
      met))

-- OUTPUT: a channel-end that is there and aimed
pub record Sender (s : Net) (n c : ℕ) : Type 0 where
  pub node : n < s.nodes
  pub end : c < ends
  pub aimed : (s.ends.aims n c).kind ≡ 0 → ⊥

peer_ok : (x : Peer) → PeerOk (of_peer x)
peer_ok Nobody = omega arith
peer_ok (Port p) = omega arith
peer_ok (End e) = omega arith

-- its circuit goes to x until END or PAUSE
module _ (w : World) (k : Kept w) (n c t : ℕ) (s : Sender w.net n c) (x : Peer) (there : GoesBy x) where
  abbrev then : ℕ → ℕ → Circuit
  then = upd w.net.ends.sendings n c (of_peer (until_closed t x))

  pub sending_ok : All w.net.nodes ends (λ m e. PeerOk (then m e))
  sending_ok = all_upd w.net.ends.sendings n c _ PeerOk k.sendings (peer_ok (until_closed t x))

  pub sending_aimed : Aimed w.net.nodes then w.net.ends.aims
  sending_aimed =
      all_at w.net.ends.sendings n c _ (λ m e y. (y.kind ≡ 0) ⊎ ((w.net.ends.aims m e).kind ≡ 0 → ⊥)) k.aimed (inr s.aimed)

  pub sending_goes : All w.net.nodes ends (λ m e. GoesBy (peer_of (then m e)))
  sending_goes =
      all_upd w.net.ends.sendings n c _ (λ y. GoesBy (peer_of y)) k.goes
      (rw (peer_back (until_closed t x)) (until GoesBy t x tt there))

-- STRAIGHT TO A CHANNEL: a circuit that goes there already, or none yet while no other claims it
abbrev pub Straight : Net → ℕ → ℕ → ℕ → Type 0
Straight s n c d =
    (peer_of (s.ends.sendings n c) ≡ End d) ⊎ ((peer_of (s.ends.sendings n c) ≡ Nobody) × (channel_claimed s n d ≡ false))

not_port : (x : Peer) (e : ℕ) → end_of x ≡ One e → port_of x ≡ Nothing
not_port Nobody e h = refl
not_port (Port p) e h = never (cc)
not_port (End d) e h = refl

module _ (w : World) (k : Kept w) (n c d t : ℕ) (s : Sender w.net n c) (o : Straight w.net n c d) (there : Door d) where
  abbrev sending : Circuit
  sending = of_peer (until_closed t (End d))

  -- a reading to which nobody and d are nothing reads the same before and after
  names_none : (f : Peer → Named) → f Nobody ≡ Nothing → f (End d) ≡ Nothing → f (peer_of sending) ≡ f (peer_of (w.net.ends.sendings n c))
  names_none f z e =
      rw (peer_back (until_closed t (End d))) (until (λ x. f x ≡ Nothing) t (End d) z e)
      ∙ sym (⊎_elim (λ p. ap f p ∙ e) (λ p. ap f p.0 ∙ z) o)

  -- with the claims and the buffers that there are then
  straight_as : (claims : ℕ → ℕ → Circuit) (buffers : ℕ → ℕ → Buffer)
      → All w.net.nodes ends (λ m e. PeerOk (claims m e))
      → All w.net.nodes ends (λ m e. BufferOk (buffers m e))
      → Pair w.net.nodes ports ends leg_claim port_in w.net.ports.legs claims
      → Pair w.net.nodes ends ends claim_in end_in (upd w.net.ends.sendings n c sending) claims
      → Kept (ends_as w (record {
        aims = w.net.ends.aims;
        sendings = upd w.net.ends.sendings n c sending;
        claims = claims;
        buffers = buffers;
      }))
  straight_as claims buffers ok held by-ports by-ends =
      keep_ends w _ k
      (record {
        aims = k.aims;
        sendings = sending_ok w k n c t s (End d) there;
        claims = ok;
        buffers = held;
        port_claim = by-ports;
        end_claim = by-ends;
        end_port = pair_first k.end_port n c sending (names_none port_of refl refl);
        aimed = sending_aimed w k n c t s (End d) there;
        goes = sending_goes w k n c t s (End d) there;
        sends = λ a e ha he p. upd_all (λ a e y. peer_of y ≡ Port p → back_at w a p ≡ Body) w.net.ends.sendings n c sending a e
            (λ ea ee. until (λ x. peer_of (of_peer x) ≡ Port p → back_at w a p ≡ Body) t (End d) (λ q. never (cc)) (λ q. never (cc)))
            (λ off. k.backs.sends a e ha he p);
      })

  -- the sink is never claimed, and keeps nothing
  to_sink : eqb d sink ≡ true → Kept (with_net w (with_sending w.net n c sending))
  to_sink e =
      let x = w.net.ends in
      straight_as x.claims x.buffers k.claims k.buffers k.port_claim
      (pair_first k.end_claim n c sending (names_none straight_to refl (rw e)))

  -- any other channel is claimed until END or PAUSE, and keeps what it is handed
  to_end_lem : eqb d sink ≡ false → t < 0x1C2 → d < ends → Keeps (w.net.ends.buffers n d) t
      → Kept (with_net w (with_sending
      (with_claim (with_buffer w.net n d (buffer_after (w.net.ends.buffers n d) t)) n d (of_peer (until_closed t (End c)))) n c sending))
  to_end_lem e l hd room =
      let x = w.net.ends in
      let v = of_peer (until_closed t (End c)) in
      let b = buffer_after (x.buffers n d) t in
      let one : claimable d ≡ One d = rw e in
      let free : channel_claimed w.net n d ≡ false → peer_of (x.claims n d) ≡ Nobody =
      λ z. rw (eqb-true (x.claims n d).kind 0 (not-false _ (rw e at z))) in
      let no_port = ⊎_elim
      (λ p. not_port (peer_of (x.claims n d)) c (k.end_claim.out n c s.node s.end d (ap straight_to p ∙ one)).1)
      (λ p. ap port_of (free p.1)) o in
      straight_as (upd x.claims n d v) (upd x.buffers n d b)
      (all_upd x.claims n d v PeerOk k.claims (peer_ok (until_closed t (End c))))
      (all_upd x.buffers n d b BufferOk k.buffers (buffer_after_lem (x.buffers n d) t (k.buffers n d s.node hd) room l))
      (pair_second k.port_claim n d v (until (λ z. port_in (of_peer z) ≡ Nothing) t (End c) refl refl ∙ sym no_port))
      (pair_until k.end_claim n c d t (End d) (End c) s.node s.end hd
      (⊎_elim (λ p. inl (ap straight_to p ∙ one)) (λ p. inr (ap straight_to p.0, ap end_of (free p.1))) o) refl refl one refl)

pub keep_straight : (w : World) → Kept w → (n c d t : ℕ) → Sender w.net n c → Straight w.net n c d → t < 0x1C2 → Given w.net n d t
    → Kept (with_net w (goes_straight w.net n c d t))
keep_straight w k n c d t s o l g =
    let there = door w.net n d t g in
    by_test (eqb d sink)
    (λ e. rw e (to_sink w k n c d t s o there e))
    (λ e.
    let z = ⊎_elim (λ i. absurd (eqb-false _ _ e i)) (λ z. z) g in
    rw e (to_end_lem w k n c d t s o there e l z.0 z.1))
