-- The parts of what is kept are together Sound and tight: a sound and tight state has them all, and a state that has them is sound and
-- tight. Assumes nothing.
use Prim.Native.Nat.{ℕ, ◌*◌, ◌/◌, ◌<◌, ◌≤◌}
use mathlib.Core.Bool.{Bool, true}
use mathlib.Core.List.{[], ◌∷◌}
use mathlib.Core.Logic.{◌⊎◌, inl, inr, ⊎_elim}
use mathlib.Core.Path.{◌≡◌, refl, sym, ap, ◌∙◌, subst}
use native.Mathlib.Decide.{ℕ_discrete}
use native.Mathlib.Omega.{arith}
use lib.Dec.{ltb, lit≤}
use lib.ListN.{length, get_or}
use borrow.Author.Tests.{ltb-false, lt-ltb, le-leb, ne_eqb}
use Rattle.laws.specs.All.{Means}
use Rattle.laws.proofs.All.{also, either, denied, as_is, same_as, below, at_most, equal, each_place}
use Rattle.laws.proofs.Order.{by_test, never}
use Rattle.names.specs.Size.{links, ports, ends, end_buffer, unit_buffer, sink, reply_port}
use Rattle.names.specs.declared.Slot.{Slot}
use Rattle.circuits.specs.Circuit.{peer_of}
use Rattle.circuits.specs.declared.Peer.{Peer}
use Rattle.circuits.specs.declared.Peer.TheVariants as Peers
use Rattle.ports.specs.Ring.{ring}
use Rattle.ports.specs.Queue.{capacity, Fair}
use Rattle.lines.specs.Line.{LineFair}
use Rattle.lines.specs.Load.{load_of}
use Rattle.lines.proofs.Ends.{load_worth, load_behind}
use Rattle.grammar.specs.Stage.{stage_number, same_stage}
use Rattle.grammar.specs.Walk.{walk}
use Rattle.grammar.specs.declared.stage.Stage.{Stage}
use Rattle.grammar.specs.declared.stage.Stage.TheVariants.{Bad, Fresh, Body, OneDue, ThreeDue, TwoDue, LastDue}
use Rattle.cells.specs.View.{whole_link, whole_port, whole_end, whole_unit, whole_line}
use Rattle.cells.specs.World.{World, shaped, far_of, line_from, Far, Nowhere, At}
use Rattle.cells.specs.declared.link.Cable.{Cable}
use Rattle.cells.specs.declared.port.Port.{Port}
use Rattle.cells.proofs.Fars.{same_far}
use Rattle.clauses.specs.Counts.{tile_port, port_counts}
use Rattle.clauses.specs.Cables.{on_far}
use Rattle.clauses.specs.Contents.{ready, back, filled}
use Rattle.clauses.specs.Pairs.{port_of, named_by, backward, players, taken, open_by, open_end, One}
use Rattle.clauses.specs.Ties.{carried_for, unfed, unsent, in_body}
use Rattle.clauses.specs.declared.pairs.Role.{Role}
use Rattle.clauses.specs.declared.pairs.Role.TheVariants as Roles
use Rattle.clauses.proofs.Meanings.{node_counts_lem, link_counts_lem, end_counts_lem, unit_counts_lem, cables, credits, greetings, pairs, silences}
use Rattle.clauses.proofs.Meanings.{filled_all, helds, heards, line_counts_lem}
use Rattle.line_clauses.specs.Lines.{line_ready, load_at, reached, fed_over_to, fed_over, between, towards, hello_last}
use Rattle.line_clauses.proofs.Readies.{readies}
use Rattle.line_clauses.proofs.Spoken.{reached_walk}
use Rattle.line_clauses.proofs.Meanings.{Beyond, few_means, unlined_means, room_means, count_means, between_means, towards_means}
use Rattle.line_clauses.proofs.Meanings.{last_means}
use Rattle.travel.specs.Travel.{load_from}
use Rattle.travel.specs.Accounts.{Side, Clean, end_at}
use Rattle.travel.proofs.Loads.{line_none}
use Rattle.sound.specs.Tests.{holds_at, places}
use Rattle.sound.specs.Questions.{answer_at, places_of, everywhere}
use Rattle.sound.specs.Sound.{sound, tight}
use Rattle.sound.specs.declared.tests.Test.{Test}
use Rattle.sound.specs.declared.tests.Test.TheVariants as Tests
use Rattle.sound.specs.declared.questions.Question.{Question}
use Rattle.sound.specs.declared.questions.Question.TheVariants as Questions
use Rattle.sound.proofs.Sounds.{sound_shaped, sound_says, sound_from}
use Rattle.sound.proofs.Facts.{node_facts, link_facts, tile_facts, end_facts, unit_facts, credit_facts, greeting_facts, room_facts}
use Rattle.sound.proofs.Facts.{cable_facts, reached_facts, held_facts, open_facts, pair_facts, silent_facts, line_facts, line_fair}
use Rattle.sound.proofs.Facts.{is_line_ready, few_facts, count_facts, unlined_facts}
use Rattle.kept.specs.Kept.{All, EndOk, LegOk, TilePort, NetworkOk, Cabled, Half, leg_link, port_in, end_in, GoesBy, front_at, back_at}
use Rattle.kept.specs.Kept.{reached_at, carried, Hears, Between, Fed, Unfed, Unsent, Idle, Sends, Replied, Kept}
use Rattle.kept.proofs.Rooms.{lengths}
use Rattle.kept.proofs.Comings.{coming_loose}
use Rattle.kept.proofs.Wires.{Loose, nowhere, unlined}

-- the only place of a table that has one a node
only : (i : ℕ) → i < 1 → i ≡ 0
only i h = omega arith

-- a flag that is not 1 is 0
pub unset : (a : ℕ) → a ≤ 1 → (a ≡ 1 → ⊥) → a ≡ 0
unset a h n = omega arith

-- no more count as held than are held
filled_held : (size held i : ℕ) → i < filled size held → i < held
filled_held size held i =
    by_test (ltb held size)
    (λ e. rw e (λ l. l))
    (λ e. let g = ltb-false held size e in rw e (λ l. omega arith))

-- stages of one number are one stage
abbrev numbered : ℕ → Stage
numbered k = get_or (Bad ∷ Fresh ∷ Body ∷ OneDue ∷ ThreeDue ∷ TwoDue ∷ LastDue ∷ []) k Bad

by_number : (a : Stage) → numbered (stage_number a) ≡ a
by_number Bad = refl
by_number Fresh = refl
by_number Body = refl
by_number OneDue = refl
by_number ThreeDue = refl
by_number TwoDue = refl
by_number LastDue = refl

same_stage_lem : (a b : Stage) → Means (same_stage a b) (a ≡ b)
same_stage_lem a b =
    same_as (λ e. sym (by_number a) ∙ ap numbered e ∙ by_number b) (λ e. ap stage_number e) (equal (stage_number a) (stage_number b))

-- PORTS

tile_port_lem : (p : ℕ) → Means (tile_port p) (TilePort p)
tile_port_lem p = also (at_most _ _) (below _ _)

-- a port's record, table by table
abbrev PortParts : ℕ → Port → Type 0
PortParts p k = Fair k.counters × LegOk k.leg × NetworkOk p k.leg k.counters k.network × EndOk k.sender

port_parts : (p : ℕ) (k : Port) → Means (port_counts p k) (PortParts p k)
port_parts p k =
    same_as
    (λ z. (record { head_in = z.0; held_in = z.1.0 }, z.1.1.0, z.1.1.1.0, z.1.1.1.1))
    (λ z. (z.0.head_in, (z.0.held_in, (z.1, (z.2, z.3)))))
    (also (below _ _) (also (at_most _ _) (also (at_most _ _)
    (also (either (either (denied (tile_port_lem p)) (also (equal _ _) (equal _ _))) (below _ _)) (either (equal _ _) (equal _ _))))))

-- a state of the right lengths with fair counters has every port ready, and every line
ready_at : (w : World) → shaped w ≡ true → All w.net.nodes ports (λ n p. Fair (w.net.ports.counters n p))
    → All w.net.nodes ports (λ n p. ready w n p ≡ true)
ready_at w h f n p hn hp =
    let c = w.net.ports.counters n p in
    let g = f n p hn hp in
    let z = (lengths w h).0 in
    rw (lt-ltb n (length w.memory / (ports * capacity)) (omega arith), lt-ltb p ports hp)
    (rw (lt-ltb c.head capacity g.head_in, le-leb c.held capacity g.held_in))

line_ready_at : (w : World) → shaped w ≡ true → All w.net.nodes links (λ n l. LineFair (w.net.lines.rings n l))
    → All w.net.nodes links (λ n l. line_ready w n l ≡ true)
line_ready_at w h f n l hn hl =
    let g = f n l hn hl in
    let z = (lengths w h).1 in
    (readies w n l).back (record { node = omega arith; link = hl; head = g.head_in; held = g.held_in })

-- a port that ends past a header is taken
not_free : (w : World) (n p : ℕ) → back_at w n p ≡ Body → taken w.net n p ≡ true
unfolding ring
not_free w n p h =
    let k = whole_port w.net n p in
    (denied (also (equal k.leg.circuit.kind 0) (equal k.counters.held 0))).back (λ z.
    let e : Fresh ≡ Body = rw (z.0, z.1) at h in never (cc))

-- TIES

-- a question everywhere, by what it means at each place
asks : {P : ℕ → ℕ → Type 0} (q : Question) (w : World)
    → ((n i : ℕ) → n < w.net.nodes → i < places_of q → Means (answer_at q w n i) (P n i))
    → Means (everywhere q w) (All w.net.nodes (places_of q) P)
unfolding everywhere
asks q w m =
    same_as
    (λ z n i h g. (m n i h g).sure (z n i h g))
    (λ z n i h g. (m n i h g).back (z n i h g))
    (each_place {P = λ n i. answer_at q w n i ≡ true} w.net.nodes (places_of q) (answer_at q w) (λ n i. as_is _))

-- a test at a cable's far end
on_far_lem : {P : Slot → ℕ → Type 0} (c : Far) (f : ℕ → ℕ → Bool) → ((m : Slot) (k : ℕ) → c ≡ At m k → Means (f m.0 k) (P m k))
    → Means (on_far c true f) ((m : Slot) (k : ℕ) → c ≡ At m k → P m k)
on_far_lem Nowhere f z = record { sure = λ h m k e. never (cc); back = λ h. refl }
on_far_lem (At a b) f z =
    record {
      sure = λ h m k e. let d : a ≡ m = (same_far e).0 in let g : b ≡ k = (same_far e).1 in rw (← d, ← g) ((z a b refl).sure h);
      back = λ h. (z a b refl).back (h a b refl);
    }

-- a credit is on a line only towards a greeted end; while a HELLO is on a line its sender has no credit, no token stands behind it, and no
-- credit is on the line back
abbrev pub TowardsAt : World → ℕ → ℕ → Type 0
TowardsAt w n l =
    ((load_from w n l).credits ≡ 0) ⊎ Beyond (w.net.links.cables n l) (λ m k. (w.net.links.flows m k).greeted ≡ 1)

abbrev pub LastAt : World → ℕ → ℕ → Type 0
LastAt w n l =
    ((load_from w n l).hellos ≡ 0)
    ⊎ (((w.net.links.flows n l).credit ≡ 0)
    × (((load_from w n l).behind ≡ 0) × Beyond (w.net.links.cables n l) (λ m k. (load_from w m k).credits ≡ 0)))

-- the nine ties
record Ties (w : World) : Type 0 where
  fed : Fed w.net.nodes w.net.links.cables w.net.links.users (front_at w) (reached_at w)
  unfed : Unfed w.net.nodes w.net.links.cables (reached_at w)
  unsent : Unsent w.net.nodes w.net.links.cables w.net.links.users (front_at w)
  idle : Idle w.net.nodes w.net.links.setups w.net.links.users
  between : Between w.net.nodes w.net.links.cables w.net.links.setups w.net.lines.rings
  towards : All w.net.nodes links (TowardsAt w)
  last : All w.net.nodes links (LastAt w)
  sends : Sends w.net.nodes w.net.ends.sendings (back_at w)
  replied : Replied w.net.nodes (back_at w)

-- what tells that the ports and the lines which they read are there
record Ground (w : World) : Type 0 where
  ready : All w.net.nodes ports (λ n p. ready w n p ≡ true)
  lines : All w.net.nodes links (λ n l. line_ready w n l ≡ true)
  cabled : Cabled w.net.nodes w.net.links.cables
  users : Half w.net.nodes links ports port_in leg_link w.net.links.users w.net.ports.legs
  sendings : Half w.net.nodes ends ports port_in end_in w.net.ends.sendings w.net.ports.senders

-- what the ties ask at one link
abbrev FedAt : World → ℕ → ℕ → Type 0
FedAt w n l =
    (m : Slot) (k : ℕ) → far_of (w.net.links.cables n l) ≡ At m k
    → reached_at w m.0 k ≡ carried (peer_of (w.net.links.users n l)) (front_at w n)

abbrev UnfedAt : World → ℕ → ℕ → Type 0
UnfedAt w n l = ((w.net.links.cables n l).wired ≡ 1) ⊎ (reached_at w n l ≡ Fresh)

abbrev UnsentAt : World → ℕ → ℕ → Type 0
UnsentAt w n l = ((w.net.links.cables n l).wired ≡ 1) ⊎ (carried (peer_of (w.net.links.users n l)) (front_at w n) ≡ Fresh)

abbrev BetweenAt : World → ℕ → ℕ → Type 0
BetweenAt w n l =
    ((w.net.lines.rings n l).held ≡ 0)
    ⊎ (((w.net.links.setups n l).enabled ≡ 1) × Hears w.net.links.setups (w.net.links.cables n l))

abbrev IdleAt : World → ℕ → ℕ → Type 0
IdleAt w n l = ((w.net.links.setups n l).enabled ≡ 1) ⊎ ((w.net.links.users n l).kind ≡ 0)

module _ (w : World) (g : Ground w) where
  -- a line has the load that is read, and a port ends, once all have come, where the walk does
  load_is : (n l : ℕ) → n < w.net.nodes → l < links → load_at w n l ≡ load_from w n l
  unfolding load_at
  load_is n l hn hl = rw (g.lines n l hn hl)

  reached_is : (n p : ℕ) → n < w.net.nodes → p < ports → reached w n p ≡ reached_at w n p
  reached_is n p hn hp =
      reached_walk w n p (record {
        port = g.ready n p hn hp;
        line = λ l m k e. let j = g.cabled.agree n p hn l m k e in g.lines m.0 k j.node j.link;
      })

  -- a port ends where the walk over its tokens does, and a link carries what has left such a port
  ends_in : (n p : ℕ) (a : Stage) → n < w.net.nodes → p < ports → Means (same_stage (back w n p) a) (back_at w n p ≡ a)
  ends_in n p a hn hp = rw (g.ready n p hn hp) (same_stage_lem (back_at w n p) a)

  carried_is : (n : ℕ) (u : Peer) → n < w.net.nodes → ((p : ℕ) → port_of u ≡ One p → p < ports)
      → carried_for w n u ≡ carried u (front_at w n)
  carried_is n Peers.Nobody hn h = refl
  carried_is n (Peers.Port p) hn h = rw (g.ready n p hn (h p refl))
  carried_is n (Peers.End e) hn h = refl

  fed_means : (n l : ℕ) → n < w.net.nodes → l < links → Means (fed_over w n l) (FedAt w n l)
  fed_means n l hn hl =
      let u = peer_of (w.net.links.users n l) in
      on_far_lem {P = λ m k. reached_at w m.0 k ≡ carried u (front_at w n)} (far_of (w.net.links.cables n l)) (fed_over_to w n l)
      (λ m k e.
      let j = g.cabled.agree n l hn hl m k e in
      rw (carried_is n u hn (λ p z. (g.users n l hn hl p z).0), reached_is m.0 k j.node (omega arith))
      (same_stage_lem (reached_at w m.0 k) (carried u (front_at w n))))

  -- nothing comes to a port without a cable
  unwired : (n l : ℕ) → ((w.net.links.cables n l).wired ≡ 1 → ⊥) → reached_at w n l ≡ back_at w n l
  unwired n l e =
      ap (walk (back_at w n l)) (coming_loose w n l (rw (ne_eqb (w.net.links.cables n l).wired 1 e)))

  unfed_means : (n l : ℕ) → n < w.net.nodes → l < links → Means (unfed w n l) (UnfedAt w n l)
  unfed_means n l hn hl =
      same_as
      (λ z. elim (ℕ_discrete (w.net.links.cables n l).wired 1) [
        | yes e ↦ inl e
        | no e ↦ ⊎_elim inl (λ b. inr (unwired n l e ∙ b)) z
      ])
      (λ z. elim (ℕ_discrete (w.net.links.cables n l).wired 1) [
        | yes e ↦ inl e
        | no e ↦ ⊎_elim inl (λ b. inr (sym (unwired n l e) ∙ b)) z
      ])
      (either (equal (w.net.links.cables n l).wired 1) (ends_in n l Fresh hn (omega arith)))

  between_is : (n l : ℕ) → Means (between w n l) (BetweenAt w n l)
  between_is n l =
      same_as
      (⊎_elim inl (λ z. let f = z.1 in inr (z.0, record { slot = f.slot; link = f.link; leads = f.leads; enabled = f.enabled })))
      (⊎_elim inl (λ z. let f = z.1 in inr (z.0, record { slot = f.slot; link = f.link; leads = f.leads; enabled = f.enabled })))
      (between_means w n l)

  towards_is : (n l : ℕ) → n < w.net.nodes → l < links → Means (towards w n l) (TowardsAt w n l)
  towards_is n l hn hl = rw (← load_is n l hn hl) (towards_means w n l)

  -- the far end's line is there, too
  far_load : (n l : ℕ) → n < w.net.nodes → l < links → (m : Slot) (k : ℕ) → far_of (w.net.links.cables n l) ≡ At m k
      → load_at w m.0 k ≡ load_from w m.0 k
  far_load n l hn hl m k e = let j = g.cabled.agree n l hn hl m k e in load_is m.0 k j.node j.link

  last_is : (n l : ℕ) → n < w.net.nodes → l < links → Means (hello_last w n l) (LastAt w n l)
  last_is n l hn hl =
      let load = load_is n l hn hl in
      same_as
      (⊎_elim (λ e. inl (rw load at e)) (λ z. let f = z.1.1 in
      inr (
        z.0,
        (
          rw load at z.1.0,
          record {
            slot = f.slot;
            link = f.link;
            leads = f.leads;
            holds = rw (far_load n l hn hl f.slot f.link f.leads) at f.holds;
          },
        ),
      )))
      (⊎_elim (λ e. inl (rw load e)) (λ z. let f = z.1.1 in
      inr (
        z.0,
        (
          rw load z.1.0,
          record {
            slot = f.slot;
            link = f.link;
            leads = f.leads;
            holds = rw (far_load n l hn hl f.slot f.link f.leads) f.holds;
          },
        ),
      )))
      (last_means w n l)

  unsent_means : (n l : ℕ) → n < w.net.nodes → l < links → Means (unsent w n l) (UnsentAt w n l)
  unsent_means n l hn hl =
      let u = peer_of (w.net.links.users n l) in
      rw (carried_is n u hn (λ p z. (g.users n l hn hl p z).0)) (either (equal _ 1) (same_stage_lem (carried u (front_at w n)) Fresh))

  in_body_lem : (n : ℕ) (u : Peer) → n < w.net.nodes → ((p : ℕ) → port_of u ≡ One p → p < ports)
      → Means (in_body w n u) ((p : ℕ) → u ≡ Peers.Port p → back_at w n p ≡ Body)
  in_body_lem n Peers.Nobody hn h = record { sure = λ z p e. never (cc); back = λ z. refl }
  in_body_lem n (Peers.Port q) hn h =
      same_as (λ z p e. let d : p ≡ q = cc in rw d z) (λ z. z q refl) (ends_in n q Body hn (h q refl))
  in_body_lem n (Peers.End c) hn h = record { sure = λ z p e. never (cc); back = λ z. refl }

  tight_means : Means (tight w) (Ties w)
  unfolding tight
  tight_means =
      let linked = asks {P = λ n l. FedAt w n l × (UnfedAt w n l × (UnsentAt w n l
      × (IdleAt w n l × (BetweenAt w n l × (TowardsAt w n l × LastAt w n l)))))} Questions.Tied w (λ n l hn hl.
      also (fed_means n l hn hl)
      (also (unfed_means n l hn hl)
      (also (unsent_means n l hn hl)
      (also (either (equal _ _) (equal _ _))
      (also (between_is n l) (also (towards_is n l hn hl) (last_is n l hn hl))))))) in
      let opened = asks Questions.Sends w (λ n e hn he. in_body_lem n _ hn (λ p z. (g.sendings n e hn he p z).0)) in
      let last = asks Questions.Replied w (λ n i hn hi. ends_in n reply_port Fresh hn (lit≤ tt)) in
      same_as
      (λ z. record {
        fed = λ n l hn hl. (z.0 n l hn hl).0;
        unfed = λ n l hn hl. (z.0 n l hn hl).1.0;
        unsent = λ n l hn hl. (z.0 n l hn hl).1.1.0;
        idle = λ n l hn hl. (z.0 n l hn hl).1.1.1.0;
        between = λ n l hn hl. (z.0 n l hn hl).1.1.1.1.0;
        towards = λ n l hn hl. (z.0 n l hn hl).1.1.1.1.1.0;
        last = λ n l hn hl. (z.0 n l hn hl).1.1.1.1.1.1;
        sends = z.1.0;
        replied = λ n hn. z.1.1 n 0 hn (lit≤ tt);
      })
      (λ t. (
        λ n l hn hl. (
          t.fed n l hn hl,
          (
            t.unfed n l hn hl,
            (
              t.unsent n l hn hl,
              (t.idle n l hn hl, (t.between n l hn hl, (t.towards n l hn hl, t.last n l hn hl))),
            ),
          ),
        ),
        (t.sends, λ n i hn hi. t.replied n hn),
      ))
      (also linked (also opened last))

-- OPEN CHANNEL-ENDS

open_by_lem : (w : World) (n : ℕ) (u : Peer) → ((p : ℕ) → u ≡ Peers.Port p → taken w.net n p ≡ true)
    → Means (open_by w.net n u) (GoesBy u)
open_by_lem w n Peers.Nobody t = record { sure = λ h. tt; back = λ h. refl }
open_by_lem w n (Peers.Port p) t = same_as (λ z. z.0) (λ z. (z, t p refl)) (also (tile_port_lem p) (as_is (taken w.net n p)))
open_by_lem w n (Peers.End c) t = either (equal c sink) (below c ends)

-- aimed, and going by a tile port or straight to a channel
abbrev OpenAt : World → ℕ → ℕ → Type 0
OpenAt w n e =
    let c = w.net.ends.sendings n e in
    ((c.kind ≡ 0) ⊎ ((w.net.ends.aims n e).kind ≡ 0 → ⊥)) × GoesBy (peer_of c)

open_means : (w : World) → Sends w.net.nodes w.net.ends.sendings (back_at w) → (n e : ℕ) → n < w.net.nodes → e < ends
    → Means (open_end w.net n e) (OpenAt w n e)
open_means w sends n e hn he =
    same_as
    (⊎_elim (λ z. (inl z, rw z tt)) (λ z. (inr z.0, z.1)))
    (λ z. ⊎_elim (λ c. inl c) (λ a. inr (a, z.1)) z.0)
    (either (equal _ _) (also (denied (equal _ _)) (open_by_lem w n _ (λ p q. not_free w n p (sends n e hn he p q)))))

-- WHO NAMES WHOM, by roles

-- what names something is named back by it
abbrev Backed : World → Role → Type 0
Backed w r =
    (n i : ℕ) → n < w.net.nodes → i < players r → (j : ℕ) → named_by r w.net n i ≡ One j
    → (j < players (backward r)) × (named_by (backward r) w.net n j ≡ One i)

-- SOUND AND TIGHT, SO KEPT

module _ (w : World) (s : sound w ≡ true) where
  sound_ports : All w.net.nodes ports (λ n p. PortParts p (whole_port w.net n p))
  sound_ports n p hn hp = (port_parts p (whole_port w.net n p)).sure (sound_says w s Tests.Ports n p hn hp)

  sound_backed : (r : Role) → Backed w r
  sound_backed r n i hn hi = pair_facts w s n hn r i hi

  sound_cabled : Cabled w.net.nodes w.net.links.cables
  sound_cabled =
      record {
        flags = λ n l hn hl. (link_facts w s n hn l hl).wired;
        agree = λ n l hn hl m k e.
            let j = cable_facts w s n hn l hl m k e in
            record { node = j.node; link = j.link; other = j.other; back = j.back };
      }

  sound_ground : Ground w
  sound_ground =
      record {
        ready = ready_at w (sound_shaped w s) (λ n p hn hp. (sound_ports n p hn hp).0);
        lines = λ n l hn hl. is_line_ready w s n hn l hl;
        cabled = sound_cabled;
        users = sound_backed Roles.LinkPort;
        sendings = sound_backed Roles.EndPort;
      }

  -- the accounts, with the ties
  sound_side : Ties w → (n l : ℕ) → n < w.net.nodes → l < links → (m : Slot) (k : ℕ) → far_of (w.net.links.cables n l) ≡ At m k
      → Side (end_at w n l) (end_at w m.0 k)
  sound_side t n l hn hl m k e =
      let f = link_facts w s n hn l hl in
      let j = cable_facts w s n hn l hl m k e in
      let hm = j.node in
      let hk = j.link in
      record {
        flag = f.greeted;
        limit = (f.credit, (line_facts w s m.0 hm k hk).issued);
        earned = credit_facts w s n hn l hl;
        few = few_facts w s n hn l hl;
        worth = load_worth (line_from w n l);
        behind = load_behind (line_from w n l);
        room = room_facts w s n hn l hl m k e;
        count = count_facts w s m.0 hm k hk (record { 0 = n }) l j.back;
        towards = ⊎_elim inl (λ z. inr (at_end (λ a i. (w.net.links.flows a i).greeted ≡ 1) j.back z)) (t.towards m.0 k hm hk);
        last = ⊎_elim inl (λ z. inr (z.0, at_end (λ a i. (load_from w a i).credits ≡ 0) e z.1.1, z.1.0)) (t.last n l hn hl);
      }
    where
      at_end : (P : ℕ → ℕ → Type 0) {c : Cable} {a : Slot} {i : ℕ} → far_of c ≡ At a i → Beyond c P → P a.0 i
      at_end P {c} {a} {i} d z =
          let both : At z.slot z.link ≡ At a i = sym z.leads ∙ d in
          let slot : z.slot ≡ a = (same_far both).0 in
          let link : z.link ≡ i = (same_far both).1 in
          subst (λ (x : Slot). P x.0 i) slot (subst (λ (y : ℕ). P z.slot.0 y) link z.holds)

  sound_clean : (n l : ℕ) → n < w.net.nodes → l < links → far_of (w.net.links.cables n l) ≡ Nowhere → Clean (end_at w n l)
  sound_clean n l hn hl e =
      let f = link_facts w s n hn l hl in
      let c = w.net.links.cables n l in
      let mute : (w.net.links.flows n l).greeted ≡ 1 → ⊥ = λ up. ⊎_elim (λ z. z up)
      (λ z. let h = z.1 in never (let d : Nowhere ≡ At h.slot h.link = sym e ∙ h.leads in cc))
      (greeting_facts w s n hn l hl) in
      let none : ((w.net.lines.rings n l).held ≡ 0) × (w.net.lines.issued n l ≡ 0) = ⊎_elim
      (λ z. never (let d : At (record { 0 = c.far_slot }) c.far_link ≡ Nowhere = rw z at e in cc))
      (λ z. z)
      (unlined_facts w s n hn l hl) in
      record {
        credit = ⊎_elim (λ z. z) (λ up. absurd (mute up)) (credit_facts w s n hn l hl);
        greeted = unset (w.net.links.flows n l).greeted f.greeted mute;
        issued = none.1;
        load = ap load_of (line_none w n l none.0);
        held = (sound_ports n l hn (omega arith)).0.held_in;
      }

pub sound_kept : (w : World) → sound w ≡ true → tight w ≡ true → Kept w
sound_kept w s t =
    let backed = sound_backed w s in
    let ties = (tight_means w (sound_ground w s)).sure t in
    let opened : All w.net.nodes ends (OpenAt w) = λ n e hn he. (open_means w ties.sends n e hn he).sure (open_facts w s n hn e he) in
    record {
      shape = sound_shaped w s;
      nodes = λ n i hn hi. rw (only i hi) (node_facts w s n hn);
      cabled = sound_cabled w s;
      setups = λ n l hn hl. let f = link_facts w s n hn l hl in (f.enabled, f.direction, f.network);
      users = λ n l hn hl. (link_facts w s n hn l hl).user;
      greeted = λ n l hn hl e.
          ⊎_elim (λ z. absurd (z e))
          (λ z. let f = z.1 in (z.0, record { slot = f.slot; link = f.link; leads = f.leads; enabled = f.enabled }))
          (greeting_facts w s n hn l hl);
      accounts = record { joined = sound_side w s ties; alone = sound_clean w s };
      counters = λ n p hn hp. (sound_ports w s n p hn hp).0;
      legs = λ n p hn hp. (sound_ports w s n p hn hp).1;
      networks = λ n p hn hp. (sound_ports w s n p hn hp).2;
      senders = λ n p hn hp. (sound_ports w s n p hn hp).3;
      tiles = λ n t hn ht. tile_facts w s n hn t ht;
      aims = λ n e hn he. (end_facts w s n hn e he).aim;
      sendings = λ n e hn he. (end_facts w s n hn e he).sending;
      claims = λ n e hn he. (end_facts w s n hn e he).claim;
      buffers = λ n e hn he. ((end_facts w s n hn e he).held, held_facts w s n hn e he);
      serving = λ n i hn hi. rw (only i hi) (unit_facts w s n hn).0;
      hearings = λ n i hn hi.
          rw (only i hi)
          (⊎_elim (λ z. inl z)
          (λ b. ⊎_elim (λ z. inl z) (λ f. inr (b, λ j l. f j (filled_all unit_buffer _ j b l)))
          ((heards w.net n 0).sure (sound_says w s Tests.Heard n 0 hn (lit≤ tt))))
          (unit_facts w s n hn).1);
      port_link = record { out = backed Roles.PortLink; back = backed Roles.LinkPort };
      port_tile = record { out = backed Roles.PortTile; back = backed Roles.TilePort };
      port_unit = record {
        out = λ n i hn hi j e. let z = backed Roles.PortUnit n i hn hi j e in (z.0, rw (only j z.0) z.1);
        back = λ n i hn hi j e. backed Roles.UnitPort n i hn hi j (rw (only i hi) at e);
      };
      port_claim = record { out = backed Roles.PortClaim; back = backed Roles.ClaimPort };
      end_claim = record { out = backed Roles.EndClaim; back = backed Roles.ClaimEnd };
      end_port = record { out = backed Roles.EndPort; back = backed Roles.PortEnd };
      aimed = λ n e hn he. (opened n e hn he).0;
      goes = λ n e hn he. (opened n e hn he).1;
      lines = λ n l hn hl. line_fair w s n hn l hl;
      between = ties.between;
      silent = λ n hn. silent_facts w s n hn;
      backs = record {
        walks = λ n p hn hp. reached_facts w s n hn p hp;
        unfed = ties.unfed;
        sends = ties.sends;
        replied = ties.replied;
      };
      idle = ties.idle;
      carries = record { fed = ties.fed; unsent = ties.unsent };
    }

-- KEPT, SO SOUND AND TIGHT

module _ (w : World) (k : Kept w) where
  kept_ground : Ground w
  kept_ground =
      record {
        ready = ready_at w k.shape k.counters;
        lines = line_ready_at w k.shape k.lines;
        cabled = k.cabled;
        users = k.port_link.back;
        sendings = k.end_port.out;
      }

  kept_backed : (r : Role) → Backed w r
  kept_backed Roles.PortLink = k.port_link.out
  kept_backed Roles.LinkPort = k.port_link.back
  kept_backed Roles.PortTile = k.port_tile.out
  kept_backed Roles.TilePort = k.port_tile.back
  kept_backed Roles.PortUnit = λ n i hn hi j e. let z = k.port_unit.out n i hn hi j e in (z.0, rw (only j z.0) at z.1)
  kept_backed Roles.UnitPort = λ n i hn hi j e. rw (only i hi) (k.port_unit.back n 0 hn (lit≤ tt) j e)
  kept_backed Roles.PortClaim = k.port_claim.out
  kept_backed Roles.ClaimPort = k.port_claim.back
  kept_backed Roles.EndClaim = k.end_claim.out
  kept_backed Roles.ClaimEnd = k.end_claim.back
  kept_backed Roles.EndPort = k.end_port.out
  kept_backed Roles.PortEnd = k.end_port.back

  -- what the accounts say of one link, wherever its cable leads
  pub record Owed (n l : ℕ) : Type 0 where
    pub greeted : (w.net.links.flows n l).greeted ≤ 1
    pub credit : (w.net.links.flows n l).credit ≤ capacity
    pub issued : w.net.lines.issued n l ≤ capacity
    pub earned : ((w.net.links.flows n l).credit ≡ 0) ⊎ ((w.net.links.flows n l).greeted ≡ 1)
    pub few : ((load_from w n l).credits ≤ 1) × ((load_from w n l).hellos ≤ 1)
    pub towards : TowardsAt w n l
    pub last : LastAt w n l

  pub owed : (n l : ℕ) → n < w.net.nodes → l < links → Owed n l
  owed n l hn hl = by_far (far_of (w.net.links.cables n l)) refl
    where
      by_far : (f : Far) → far_of (w.net.links.cables n l) ≡ f → Owed n l
      by_far Nowhere e =
          let c = k.accounts.alone n l hn hl e in
          let none = c.load in
          record {
            greeted = omega (arith, c.greeted);
            credit = omega (arith, c.credit);
            issued = omega (arith, c.issued);
            earned = inl c.credit;
            few = rw none (omega arith, omega arith);
            towards = inl (rw none);
            last = inl (rw none);
          }
      by_far (At m i) e =
          let j = k.cabled.agree n l hn hl m i e in
          let s = k.accounts.joined n l hn hl m i e in
          let r = k.accounts.joined m.0 i j.node j.link (record { 0 = n }) l j.back in
          record {
            greeted = s.flag;
            credit = s.limit.0;
            issued = r.limit.1;
            earned = s.earned;
            few = s.few;
            towards = ⊎_elim inl (λ up. inr (record { slot = m; link = i; leads = e; holds = up })) r.towards;
            last = ⊎_elim inl (λ z. inr (z.0, (z.2, record { slot = m; link = i; leads = e; holds = z.1 }))) s.last;
          }

  -- a line's load, as it is read
  load : (n l : ℕ) → n < w.net.nodes → l < links → load_at w n l ≡ load_from w n l
  load = load_is w kept_ground

  kept_says : (t : Test) (n i : ℕ) → n < w.net.nodes → i < places t → holds_at t w n i ≡ true
  kept_says Tests.Nodes n i hn hi = (node_counts_lem (w.net.own n 0)).back (k.nodes n 0 hn (lit≤ tt))
  kept_says Tests.Links n l hn hl =
      let s = k.setups n l hn hl in
      let f = owed n l hn hl in
      (link_counts_lem (whole_link w.net n l)).back (record {
        wired = k.cabled.flags n l hn hl;
        enabled = s.0;
        direction = s.1;
        network = s.2;
        greeted = f.greeted;
        credit = f.credit;
        user = k.users n l hn hl;
      })
  kept_says Tests.Ports n p hn hp =
      (port_parts p (whole_port w.net n p)).back
      (k.counters n p hn hp, k.legs n p hn hp, k.networks n p hn hp, k.senders n p hn hp)
  kept_says Tests.Tiles n t hn ht = (at_most (w.net.tiles n t).user.kind 1).back (k.tiles n t hn ht)
  kept_says Tests.Ends n e hn he =
      (end_counts_lem (whole_end w.net n e)).back (record {
        aim = k.aims n e hn he;
        sending = k.sendings n e hn he;
        claim = k.claims n e hn he;
        held = (k.buffers n e hn he).0;
      })
  kept_says Tests.Units n i hn hi =
      (unit_counts_lem (whole_unit w.net n)).back
      (k.serving n 0 hn (lit≤ tt), ⊎_elim (λ z. inl z) (λ z. inr z.0) (k.hearings n 0 hn (lit≤ tt)))
  kept_says Tests.Credited n l hn hl = (credits w.net n l).back (owed n l hn hl).earned
  kept_says Tests.Greeted n l hn hl =
      (greetings w.net n l).back
      (elim (ℕ_discrete (w.net.links.flows n l).greeted 1) [
        | yes e ↦
            let z = k.greeted n l hn hl e in
            let f = z.1 in
            inr (z.0, record { slot = f.slot; link = f.link; leads = f.leads; enabled = f.enabled })
        | no e ↦ inl e
      ])
  kept_says Tests.Room n l hn hl =
      (room_means w n l).back (λ m i e.
      rw (load n l hn hl, far_load w kept_ground n l hn hl m i e) (k.accounts.joined n l hn hl m i e).room)
  kept_says Tests.Cable n l hn hl =
      (cables w.net n l).back (λ m i e.
      let j = k.cabled.agree n l hn hl m i e in
      record { node = j.node; link = j.link; other = j.other; back = j.back })
  kept_says Tests.Contents n p hn hp = rw (reached_is w kept_ground n p hn hp, k.backs.walks n p hn hp)
  kept_says Tests.Held n e hn he = (helds w.net n e).back (λ i l. (k.buffers n e hn he).1 i (filled_held end_buffer _ i l))
  kept_says (Tests.Agrees r) n i hn hi = (pairs r w.net n i).back (kept_backed r n i hn hi)
  kept_says Tests.OpenEnd n e hn he = (open_means w k.backs.sends n e hn he).back (k.aimed n e hn he, k.goes n e hn he)
  kept_says Tests.Silent n i hn hi = (silences w.net n 0).back (k.silent n hn)
  kept_says Tests.Lines n l hn hl =
      let f = k.lines n l hn hl in
      (line_counts_lem (whole_line w.net n l)).back (record { head = f.head_in; held = f.held_in; issued = (owed n l hn hl).issued })
  kept_says Tests.Few n l hn hl = (few_means w n l).back (rw (load n l hn hl) (owed n l hn hl).few)
  kept_says Tests.Counted n l hn hl =
      (count_means w n l).back (λ m i e.
      let j = k.cabled.agree n l hn hl m i e in
      let count = (k.accounts.joined m.0 i j.node j.link (record { 0 = n }) l j.back).count in
      rw (load n l hn hl, far_load w kept_ground n l hn hl m i e)
      (elim (ℕ_discrete (load_from w m.0 i).hellos 0) [ yes none ↦ inr (count none) | no some ↦ inl some ]))
  kept_says Tests.Unlined n l hn hl =
      (unlined_means w n l).back
      (elim (ℕ_discrete (w.net.links.cables n l).wired 1) [
        | yes e ↦ inl e
        | no e ↦
            let z : Loose w n l = record { node = hn; link = hl; unwired = e } in
            inr (unlined w k n l z, (k.accounts.alone n l hn hl (nowhere w k n l z)).issued)
      ])
  kept_says Tests.Heard n i hn hi =
      (heards w.net n 0).back
      (⊎_elim (λ z. inl z) (λ z. inr (λ j l. z.1 j (filled_held unit_buffer _ j l))) (k.hearings n 0 hn (lit≤ tt)))

pub kept_sound : (w : World) → Kept w → (sound w ≡ true) × (tight w ≡ true)
kept_sound w k = (
  sound_from w k.shape (kept_says w k),
  (tight_means w (kept_ground w k)).back (record {
    fed = k.carries.fed;
    unfed = k.backs.unfed;
    unsent = k.carries.unsent;
    idle = k.idle;
    between = k.between;
    towards = λ n l hn hl. (owed w k n l hn hl).towards;
    last = λ n l hn hl. (owed w k n l hn hl).last;
    sends = k.backs.sends;
    replied = k.backs.replied;
  }),
)
