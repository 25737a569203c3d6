-- Output, and a control unit's reply, as events. Assumes nothing.
use Prim.{tt}
use Prim.Native.Nat.{ℕ, ◌/◌, ◌%◌, ◌<◌, ◌≤◌}
use mathlib.Core.Path.{◌≡◌, refl, sym, ap, ◌∙◌}
use mathlib.Core.Bool.{Bool, true, false}
use mathlib.Core.List.{List, [], ◌∷◌, ◌++◌, append_assoc}
use mathlib.Core.Logic.{⊎_elim, inl, inr}
use native.Mathlib.Omega.{arith}
use lib.Dec.{ltb}
use borrow.Author.Tests.{ltb-true, ltb-false}
use Rattle.laws.specs.Pick.{pick}
use Rattle.laws.proofs.Order.{by_test, clash, never}
use Rattle.names.specs.Size.{links, ports, ends, channels, numbers, reply_port}
use Rattle.names.specs.declared.NodeNumber.{NodeNumber}
use Rattle.circuits.specs.Circuit.{peer_of, of_peer}
use Rattle.circuits.specs.declared.Peer.{Peer}
use Rattle.circuits.specs.declared.Peer.TheVariants as Peers
use Rattle.tokens.specs.Control.{ack, nack, end}
use Rattle.tokens.specs.Word.{closes, control_word}
use Rattle.tokens.specs.Header.{Carried, header_of, words, is_narrow, legal_target, compared}
use Rattle.tokens.specs.declared.header.Width.{Width}
use Rattle.tokens.specs.declared.header.Width.TheVariants.{One, Three}
use Rattle.tokens.specs.declared.header.Target.{Target}
use Rattle.tokens.specs.declared.header.Target.TheVariants.{Channel, Unit}
use Rattle.tokens.proofs.Words.{open_word, closing_word}
use Rattle.tokens.proofs.Channels.{legal_channel_lem}
use Rattle.routing.specs.Way.{way_to, ThisNode}
use Rattle.grammar.specs.declared.stage.Stage.TheVariants.{Fresh, Body}
use Rattle.cells.specs.World.{World}
use Rattle.acts.specs.Acts.{with_net, width_at, number_at, pushed, pushed_all, networked, until_closed, claimed_by, handed}
use Rattle.plans.specs.Plan.{number_in}
use Rattle.ends.specs.Output.{goes_by, opens_by, goes_behind, goes_straight}
use Rattle.acts.specs.Needs.{Room}
use Rattle.messages.specs.Ended.{byte, said, reply_put}
use Rattle.messages.specs.declared.reply.Reply.{Reply}
use Rattle.messages.specs.declared.reply.Reply.TheVariants.{Nack, Ack, Value}
use Rattle.kept.specs.Kept.{Kept, TilePort, Free, back_at}
use Rattle.kept.proofs.Fills.{Filled, filled_one}
use Rattle.kept.proofs.Stages.{tile_there}
use Rattle.kept.proofs.Outputs.{free_fresh, opens_filled, reply_filled}
use Rattle.kept.proofs.Messages.{Address, Ready}
use Rattle.streams.specs.Model.{alter, push_all, Plain, place_of, port_no, door_no, doors_each, unit_door, is_link, Closed, Through}
use Rattle.streams.specs.Model.{Direct, Moving}
use Rattle.streams.specs.Events.{Event, Opens, Puts, Starts, Tells, effect}
use Rattle.streams.specs.View.{moving, sender_by, sender_of}
use Rattle.streams.proofs.Machine.{Leads}
use Rattle.streams.proofs.Basics.{alter_same, alter_twice, alter_own}
use Rattle.streams.proofs.Flat.{flat_at}
use Rattle.streams.proofs.View.{net_as, busy_put, view_busy, filled_seen, Alike, alike_then, unseen}
use Rattle.streams.proofs.Acts.{alike_claimed, alike_handed}
use Rattle.streams.proofs.Fronts.{this_node}
use Rattle.streams.proofs.Sends.{behind_in, put_each, puts_all, opens_all}

-- the same events, to a view that is the same
pub leads_to_lem : {vs : List Event} {n n' n'' : Moving} → n'' ≡ n' → Leads is_link vs n n' → Leads is_link vs n n''
leads_to_lem e r = record { view = e ∙ r.view; ok = r.ok }

-- a destination that a header of that width can carry
pub carried : (y : Width) (g : Target) → (number_in g).0 < numbers → legal_target g ≡ true → is_narrow (header_of g y) ≡ false → Carried y g
unfolding header_of
carried One (Channel m c) fits legal wide =
    by_test (ltb c channels) (λ e. (fits, ltb-true c channels e)) (λ e. clash (rw e at wide))
carried One (Unit m) fits legal wide = clash wide
carried Three (Channel m c) fits legal wide = (fits, ⊎_elim (λ h. omega arith) (λ h. omega arith) ((legal_channel_lem c).sure legal))
carried Three (Unit m) fits legal wide = fits

-- a port past the links is no link
pub no_link : (n p : ℕ) → links ≤ p → p < ports → is_link (port_no n p) ≡ false
no_link n p h hp =
    by_test (is_link (port_no n p)) (λ e. absurd (let l = ltb-true (port_no n p % ports) links e in omega arith)) (λ e. e)

-- who sends through a port
through : (m d : ℕ) (x : Peer) → sender_by m x ≡ Through d → (q : ℕ) × (x ≡ Peers.Port q) × (port_no m q ≡ d)
through m d Peers.Nobody e = never (cc)
through m d (Peers.Port q) e = (q, refl, cc)
through m d (Peers.End c) e = never (cc)

module _ (w : World) (k : Kept w) (n p : ℕ) (hn : n < w.net.nodes) (hp : p < ports)
    (free : TilePort p → Free (w.net.ports.legs n p) (w.net.ports.counters n p))
  where
    -- nobody sends through a port that is free, or that is none of the tile's
    pub no_sender : (j : ℕ) → (moving w).busy j ≡ Through (port_no n p) → ⊥
    no_sender j e =
        let m = j / doors_each in
        let i = j % doors_each in
        by_test (ltb i ends)
        (λ t.
        let hi = ltb-true i ends t in
        let (q, is, num) = through m (port_no n p) (peer_of (w.net.ends.sendings m i)) (rw t at e) in
        by_test (ltb m w.net.nodes)
        (λ u.
        let hm = ltb-true m w.net.nodes u in
        let tile = tile_there (peer_of (w.net.ends.sendings m i)) q (k.goes m i hm hi) is in
        let em : m ≡ n = omega (arith, tile.1, num, hp) in
        let eq : q ≡ p = omega (arith, tile.1, num, hp) in
        let body = k.backs.sends m i hm hi q is in
        let fresh = free_fresh w n p (free (rw eq at tile)) in
        let same : back_at w m q ≡ back_at w n p = ap (λ (a : ℕ). back_at w a q) em ∙ ap (back_at w n) eq in
        never (let clash : Body ≡ Fresh = sym body ∙ same ∙ fresh in cc))
        (λ u. let far = ltb-false m w.net.nodes u in absurd (omega (arith, num, hp, hn, far))))
        (λ t. never (let z : Closed ≡ Through (port_no n p) = rw t at e in cc))

-- until END or PAUSE
until_through : (n p : ℕ) (b : Bool)
    → sender_by n (peer_of (of_peer (pick b Peers.Nobody (Peers.Port p)))) ≡ pick b Closed (Through (port_no n p))
until_through n p true = refl
until_through n p false = refl

until_direct : (n d : ℕ) (b : Bool) → sender_by n (peer_of (of_peer (pick b Peers.Nobody (Peers.End d)))) ≡ pick b Closed (Direct d)
until_direct n d true = refl
until_direct n d false = refl

module _ (w : World) (n c : ℕ) (hc : c < ends) where
  abbrev e : ℕ
  e = door_no n c

  -- THROUGH A PORT, whatever port that is
  by_seen : (z : World) (p t v : ℕ) (ts : List ℕ) → p < ports → Filled w z n p ts
      → moving (with_net z (goes_by (networked z.net n p v) n c p t)) ≡ behind_in (moving w) e (port_no n p) ts t
  by_seen z p t v ts hp f =
      let to = pick (closes t) Closed (Through (port_no n p)) in
      net_as refl refl refl
      (busy_put n z.net.ends.sendings c (of_peer (until_closed t (Peers.Port p))) hc
      ∙ ap (alter (moving z).busy e) (until_through n p (closes t))) refl refl
      ∙ ap (λ (y : Moving). record {
        queue = y.queue;
        out = y.out;
        user = y.user;
        busy = alter y.busy e to;
        cable = y.cable;
        line = y.line;
      }) (filled_seen w z n p ts hp f)

  -- the first token, behind the header
  pub does_opens_by : Kept w → (p t : ℕ) (g : Target) → n < w.net.nodes
      → peer_of (w.net.ends.sendings n c) ≡ Peers.Nobody
      → TilePort p
      → Free (w.net.ports.legs n p) (w.net.ports.counters n p)
      → Carried (width_at w.net n) g
      → Leads is_link (Opens e (port_no n p) (width_at w.net n) g ∷ Puts e (port_no n p) t ∷ []) (moving w) (moving (opens_by w n c g p t))
  does_opens_by k p t g hn shut tile free fits =
      let hp : p < ports = omega (arith, tile.1) in
      let y = width_at w.net n in
      leads_to_lem
      (by_seen (pushed (pushed_all w n p (words (header_of g y))) n p t) p t (w.net.ends.aims n c).network _ hp
      (opens_filled w k n p t g y hn hp free.1))
      (opens_all [] t e (port_no n p) y g (moving w) tt
      (view_busy w n c hc ∙ ap (sender_by n) shut, no_link n p tile.0 hp, no_sender w k n p hn hp (λ i. free), fits))

  -- a later one
  pub does_behind : (p t : ℕ) → peer_of (w.net.ends.sendings n c) ≡ Peers.Port p → Room w n p 1
      → Leads is_link (Puts e (port_no n p) t ∷ []) (moving w) (moving (goes_behind w n c p t))
  does_behind p t goes room =
      leads_to_lem (net_as refl refl refl refl refl refl ∙ by_own (pushed w n p t) p t (t ∷ []) room.port (filled_one w n p t room))
      (puts_all [] t e (port_no n p) (moving w) tt (view_busy w n c hc ∙ ap (sender_by n) goes))
    where
      by_own : (z : World) (p t : ℕ) (ts : List ℕ) → p < ports → Filled w z n p ts
          → moving (with_net z (goes_by z.net n c p t)) ≡ behind_in (moving w) e (port_no n p) ts t
      by_own z p t ts hp f = net_as refl refl refl refl refl refl ∙ by_seen z p t 0 ts hp f

  -- STRAIGHT to a channel of its own node
  straight_seen : (d t : ℕ)
      → moving (with_net w (goes_straight w.net n c d t))
      ≡ record {
        queue = (moving w).queue;
        out = (moving w).out;
        user = (moving w).user;
        busy = alter (moving w).busy e (pick (closes t) Closed (Direct d));
        cable = (moving w).cable;
        line = (moving w).line;
      }
  straight_seen d t =
      let x = until_closed t (Peers.End c) in
      let s = claimed_by (handed w.net n d t) n d x in
      let same : Alike w.net s = alike_then (alike_handed w.net n d t) (alike_claimed (handed w.net n d t) n d x) in
      net_as refl refl refl
      (busy_put n s.ends.sendings c (of_peer (until_closed t (Peers.End d))) hc
      ∙ ap (alter (moving (with_net w s)).busy e) (until_direct n d (closes t))) refl refl
      ∙ ap (λ (y : Moving). record {
        queue = y.queue;
        out = y.out;
        user = y.user;
        busy = alter y.busy e (pick (closes t) Closed (Direct d));
        cable = y.cable;
        line = y.line;
      }) (unseen w w.net s same)

  pub does_starts : (d t : ℕ) (m : NodeNumber) (g : Target) → peer_of (w.net.ends.sendings n c) ≡ Peers.Nobody
      → g ≡ Channel m d
      → way_to (width_at w.net n) m (number_at w.net n) ≡ ThisNode
      → Leads is_link (Starts e (number_at w.net n) (width_at w.net n) g d ∷ Tells e d t ∷ []) (moving w)
      (moving (with_net w (goes_straight w.net n c d t)))
  unfolding effect
  does_starts d t m g shut named here =
      record {
        view = straight_seen d t
            ∙ net_as refl refl refl (sym (alter_twice (moving w).busy e (Direct d) (pick (closes t) Closed (Direct d)))) refl refl;
        ok = (
          (
            view_busy w n c hc ∙ ap (sender_by n) shut,
            ap place_of named,
            ap (λ (x : Target). compared (width_at w.net n) (number_in x)) named
                ∙ this_node (width_at w.net n) m (number_at w.net n) here,
          ),
          (alter_same (moving w).busy e (Direct d), tt),
        );
      }

  pub does_goes_on : (d t : ℕ) → peer_of (w.net.ends.sendings n c) ≡ Peers.End d
      → Leads is_link (Tells e d t ∷ []) (moving w) (moving (with_net w (goes_straight w.net n c d t)))
  unfolding effect
  does_goes_on d t goes = record { view = straight_seen d t; ok = (view_busy w n c hc ∙ ap (sender_by n) goes, tt) }

-- A REPLY: a circuit that the control unit opens through port 12, and closes
said_plain : (x : Reply) → Plain (said x)
said_plain Nack = (open_word (control_word nack) (inr (omega arith)), tt)
said_plain Ack = (open_word (control_word ack) (inr (omega arith)), tt)
said_plain (Value v) =
    (open_word (control_word ack) (inr (omega arith)), (plain 0x1000000, (plain 0x10000, (plain 0x100, (plain 1, tt)))))
  where
    plain : (a : ℕ) → closes (byte a v) ≡ false
    plain a = open_word (byte a v) (inl (omega arith))

module _ (w : World) (k : Kept w) (n : ℕ) (z : Ready w n) (g : Target) (x : Reply) (y : Width) (address : Address g)
    (wide : is_narrow (header_of g y) ≡ false)
  where
    abbrev unit : ℕ
    unit = door_no n unit_door

    abbrev port : ℕ
    port = port_no n reply_port

    -- a control unit has no circuit between calls
    closed : (moving w).busy unit ≡ Closed
    closed = flat_at doors_each n unit_door (omega arith) (λ m j. sender_of m j (w.net.ends.sendings m j))

    pub does_reply : Leads is_link (Opens unit port y g ∷ put_each unit port (said x ++ (control_word end ∷ []))) (moving w)
        (moving (reply_put w n (header_of g y) x))
    does_reply =
        let ws = words (header_of g y) in
        let ts = said x ++ (control_word end ∷ []) in
        let shuts : pick (closes (control_word end)) Closed (Through port) ≡ Closed =
        rw (closing_word (control_word end) (omega arith) (omega arith)) in
        leads_to_lem
        (filled_seen w (reply_put w n (header_of g y) x) n reply_port _ (omega arith) (reply_filled w k n g y x z.node z.empty)
        ∙ net_as (ap (push_all (moving w).queue port) (append_assoc ws (said x) (control_word end ∷ []))) refl refl
        (sym (ap (alter (moving w).busy unit) shuts ∙ alter_own (moving w).busy unit Closed closed)) refl refl)
        (opens_all (said x) (control_word end) unit port y g (moving w) (said_plain x) (
          closed,
          no_link n reply_port (omega arith) (omega arith),
          no_sender w k n reply_port z.node (omega arith) (λ tile. absurd (omega (arith, tile.1))),
          carried y g address.0 address.1 wide,
        ))
