-- WHAT A CONTROL UNIT HEARS is what the circuit has handed that landed at the port which it serves, eleven tokens at most. Assumes nothing.
use Prim.{tt}
use Prim.Native.Nat.{ℕ, ◌<◌}
use mathlib.Core.Path.{◌≡◌, refl, sym, ap, ◌∙◌}
use mathlib.Core.Bool.{Bool, true, false}
use mathlib.Core.List.{List, [], ◌∷◌, ◌++◌}
use mathlib.Core.Logic.{⊎_elim}
use native.Mathlib.Decide.{ℕ_discrete}
use native.Mathlib.Omega.{arith}
use lib.Dec.{eqb, ltb}
use lib.ListN.{length, take, length-set}
use Rattle.laws.specs.All.{Each}
use Rattle.laws.specs.Table as Two
use Rattle.laws.proofs.Order.{by_test, clash, never}
use Rattle.laws.proofs.Table.{upd_hit, upd_miss, upd_own, upd_all}
use Rattle.names.specs.Size.{ports, unit_buffer, sink}
use Rattle.circuits.specs.Circuit.{peer_of, of_peer}
use Rattle.circuits.specs.declared.Cause.TheVariants.{Split, NoRoute}
use Rattle.circuits.specs.declared.Circuit.{Circuit}
use Rattle.circuits.specs.declared.Hop.{Hop}
use Rattle.circuits.specs.declared.Hop.TheVariants as Hops
use Rattle.circuits.specs.declared.Peer.{Peer}
use Rattle.circuits.specs.declared.Peer.TheVariants as Peers
use Rattle.tokens.specs.Control.{end, pause}
use Rattle.tokens.specs.Word.{closes, control_word}
use Rattle.tokens.specs.Header.{header_of, words}
use Rattle.tokens.specs.declared.header.Target.{Target}
use Rattle.answers.specs.Rows.{Passes}
use Rattle.cells.specs.View as Cells
use Rattle.cells.specs.World.{World, far_of, hop}
use Rattle.cells.specs.declared.unit.Hearing.{Hearing}
use Rattle.clauses.specs.Pairs.{port_of, unit_of}
use Rattle.clauses.specs.Pairs as Nameds
use Rattle.acts.specs.Acts.{with_net, width_at, pushed_all, first_at, until_closed, handed}
use Rattle.messages.specs.Heard.{message_of, hears_word, listens}
use Rattle.messages.specs.Ended.{obeyed, ended}
use Rattle.moves.specs.Moves.{took, closes_out, opens_channel, opens_unit, lands_unit}
use Rattle.plans.specs.declared.Plan.{Plan}
use Rattle.plans.specs.declared.Plan.TheVariants.{Idle, Wait, OpenOut, OpenChannel, OpenUnit, Refuse, MoveOut, Hand, Hear, Drop}
use Rattle.settings.proofs.Leaves.{setting_leaves}
use Rattle.ends.specs.Plan.{target_of, output_plan}
use Rattle.ends.specs.Output.{word_of, output_performed}
use Rattle.ends.specs.declared.plan.Plan as Sents
use Rattle.ends.specs.declared.plan.Plan.TheVariants as Sent
use Rattle.switch.specs.Step.{hears, step_performed}
use Rattle.bench.specs.Calls.{Call, Begin, Wire, Set, Aim, Output, Input, Step, Line, Steps, rows, made}
use Rattle.bench.specs.Writes.{hop_closed}
use Rattle.kept.specs.Kept.{Kept}
use Rattle.kept.proofs.Found.{Going, Found, idle, waits, splits, unrouted, routes, step_found}
use Rattle.kept.proofs.Calls.{step_there}
use Rattle.streams.specs.Model.{keeps, ToUnit, port_no, door_no, unit_door, is_link, Into, hd}
use Rattle.streams.specs.Events.{Event, Hands, At, Ghost, books_of, after, next, note, notes, OkAll}
use Rattle.streams.specs.Demand.{heard_at, Hears}
use Rattle.streams.specs.View.{moving, out_by}
use Rattle.streams.proofs.Basics.{alter_hit, at_same, Fits, each_map}
use Rattle.streams.proofs.Inv.{Handing, Inv}
use Rattle.streams.proofs.Keep.{front_at_lem}
use Rattle.streams.proofs.Theorem.{faithful}
use Rattle.streams.proofs.Places.{landing_flies}
use Rattle.streams.proofs.Handings.{Elsewhere, stays}
use Rattle.streams.proofs.View.{view_out, view_queue}
use Rattle.streams.proofs.Acts.{first_seen}
use Rattle.streams.proofs.Indoors.{Indoors, indoors_all, indoors_then, indoors_pushed, indoors_pushed_all}
use Rattle.streams.proofs.Indoors.{indoors_took, indoors_stripped, indoors_sends, indoors_line, indoors_claimed, indoors_opens}
use Rattle.streams.proofs.Indoors.{indoors_closes_channel, indoors_closes_out, indoors_dropped, indoors_obeyed, heard_in, heard_more}
use Rattle.streams.proofs.Calls.{straight_events, step_events, line_case, output_events, no_event, made_events, obey_events}
use Rattle.streams.proofs.Filling.{Fills, obey_fills, fills_elsewhere}

-- what the control unit of node n has heard, by the proof's books
abbrev pub HeardAt : World → Ghost → ℕ → Type 0
HeardAt w g n =
    (q : ℕ) → peer_of (w.net.units.serving n 0) ≡ Peers.Port q → (c i : ℕ) → g.front (port_no n q) ≡ At c i
    → heard_at w n ≡ take unit_buffer (g.handed c)

-- a control unit's words have their eleven places
abbrev pub Wide : Cells.Net → Type 0
Wide s = (n : ℕ) → length (s.units.hearings n 0).tokens ≡ unit_buffer

-- WHOM IT SERVES
is_unit_lem : (x : Hop) → unit_of x ≡ Nameds.One 0 → x ≡ Hops.Unit
is_unit_lem Hops.Shut e = never (cc)
is_unit_lem (Hops.Out l) e = never (cc)
is_unit_lem (Hops.Channel c t) e = never (cc)
is_unit_lem Hops.Unit e = refl
is_unit_lem (Hops.Dropped x) e = never (cc)

one_same : {p q : ℕ} → Nameds.One p ≡ Nameds.One q → p ≡ q
one_same e = cc

module _ (w : World) (k : Kept w) (n : ℕ) (hn : n < w.net.nodes) where
  pub serves_port : (q : ℕ) → peer_of (w.net.units.serving n 0) ≡ Peers.Port q → (q < ports) × (hop w.net n q ≡ Hops.Unit)
  serves_port q e =
      let b = k.port_unit.back n 0 hn (omega arith) q (ap port_of e) in
      (b.0, is_unit_lem (hop w.net n q) b.1)

  served_port : (p q : ℕ) → p < ports → hop w.net n p ≡ Hops.Unit → peer_of (w.net.units.serving n 0) ≡ Peers.Port q → q ≡ p
  served_port p q hp e served = one_same (sym (ap port_of served) ∙ (k.port_unit.out n p hn hp 0 (ap unit_of e)).1)

-- the circuit that the port goes on with
module _ (w : World) (g : Ghost) (iv : Inv is_link (moving w) g) (n q : ℕ) (hq : q < ports) (e : hop w.net n q ≡ Hops.Unit) where
  pub into_unit : (moving w).out (port_no n q) ≡ Into ToUnit
  into_unit = view_out w n q hq ∙ ap (out_by n) e

  pub going : Handing g.stream g.handed g.fate g.info (port_no n q) ToUnit (g.front (port_no n q))
  going = rw into_unit at (iv.outs (port_no n q))

-- WHAT IS PROMISED
pub hears_so : (w : World) → Kept w → (g : Ghost) → Inv is_link (moving w) g → (n p : ℕ) → n < w.net.nodes
    → peer_of (w.net.units.serving n 0) ≡ Peers.Port p
    → HeardAt w g n
    → Hears w (books_of g) n p
hears_so w k g iv n p hn e heard =
    let (hp, to) = serves_port w k n hn p e in
    let z = going w g iv n p hp to in
    record {
      circuit = z.c;
      number = z.number;
      landed = z.to;
      named = z.place;
      words = heard p e z.c z.i z.front;
      next = λ x q held.
          let ft : Fits (At z.c z.i) (hd (g.cells (port_no n p))) =
          rw z.front at (front_at_lem is_link (moving w) g iv (port_no n p) x q (view_queue w n p hp ∙ held)).fits in
          ft.0;
    }

-- A CALL THAT LEAVES A CONTROL UNIT ALONE
module _ (w z : World) (k : Kept w) (g : Ghost) (iv : Inv is_link (moving w) g) (vs : List Event) (ok : OkAll is_link vs (moving w)) (n : ℕ)
    (hn : n < w.net.nodes) (serving : z.net.units.serving n 0 ≡ w.net.units.serving n 0)
    (hearing : z.net.units.hearings n 0 ≡ w.net.units.hearings n 0)
    (other : (q : ℕ) → q < ports → hop w.net n q ≡ Hops.Unit → Each (Elsewhere (port_no n q)) vs)
  where
    pub heard_stays : HeardAt w g n → HeardAt z (notes vs g) n
    heard_stays heard q e c i front =
        let served = ap peer_of (sym serving) ∙ e in
        let (hq, to) = serves_port w k n hn q served in
        let a = going w g iv n q hq to in
        let s = stays is_link vs (moving w) g iv (port_no n q) ToUnit a.c a.i
        (record { out = into_unit w g iv n q hq to; front = a.front }) ok (other q hq to) in
        let same : a.c ≡ c = (at_same (sym s.into.front ∙ front)).0 in
        ap heard_in hearing
        ∙ heard q served a.c a.i a.front
        ∙ ap (take unit_buffer) (sym s.handed)
        ∙ ap (λ (j : ℕ). take unit_buffer ((notes vs g).handed j)) same

-- a token that closes nothing is kept
kept_word : (x : ℕ) → closes x ≡ false → keeps x ≡ x ∷ []
unfolding closes
kept_word x more =
    by_test (eqb x (control_word end))
    (λ e. clash (rw e at more))
    (λ e. by_test (eqb x (control_word pause)) (λ f. clash (rw (e, f) at more)) (λ f. rw f))

-- ONE CALL, from the world w to z by the events vs
module _ (w : World) (k : Kept w) (g : Ghost) (iv : Inv is_link (moving w) g) where
  abbrev AllHeard : World → Ghost → Type 0
  AllHeard z h = (n : ℕ) → n < w.net.nodes → HeardAt z h n

  pub record Listening (z : World) (vs : List Event) : Type 0 where
    pub wide : Wide w.net → Wide z.net
    pub heard : Wide w.net → OkAll is_link vs (moving w) → AllHeard w g → AllHeard z (notes vs g)

  -- every control unit is left alone
  all_stay : (z : World) (vs : List Event) → z.net.units ≡ w.net.units
      → ((n q : ℕ) → q < ports → hop w.net n q ≡ Hops.Unit → Each (Elsewhere (port_no n q)) vs)
      → Listening z vs
  all_stay z vs same other =
      record {
        wide = λ l n. ap (λ (t : Cells.UnitTables). length (t.hearings n 0).tokens) same ∙ l n;
        heard = λ l ok h n hn.
            heard_stays w z k g iv vs ok n hn (ap (λ (t : Cells.UnitTables). t.serving n 0) same)
            (ap (λ (t : Cells.UnitTables). t.hearings n 0) same) (other n) (h n hn);
      }

  -- all but the one of node n
  module _ (n p : ℕ) (hn : n < w.net.nodes) (hp : p < ports) (z : World) (vs : List Event) (c : Circuit) (y : Hearing)
      (units : z.net.units
      ≡ record { serving = Two.upd w.net.units.serving n 0 c; hearings = Two.upd w.net.units.hearings n 0 y })
      (other : (m q : ℕ) → (m ≡ n → ⊥) → q < ports → Each (Elsewhere (port_no m q)) vs)
      (long : Wide w.net → length y.tokens ≡ unit_buffer)
      (here : Wide w.net → OkAll is_link vs (moving w) → HeardAt w g n
      → (q : ℕ)
      → peer_of c ≡ Peers.Port q
      → (d i : ℕ)
      → (notes vs g).front (port_no n q) ≡ At d i
      → heard_in y ≡ take unit_buffer ((notes vs g).handed d))
    where
      one_hears : Listening z vs
      one_hears =
          record {
            wide = λ l m.
                ap (λ (t : Cells.UnitTables). length (t.hearings m 0).tokens) units
                ∙ upd_all (λ a i (h : Hearing). length h.tokens ≡ unit_buffer) w.net.units.hearings n 0 y m 0
                (λ a b. long l) (λ o. l m);
            heard = λ l ok h m hm. elim (ℕ_discrete m n) [
              | yes e ↦ at m e (λ q served d i front.
                  ap (λ (t : Cells.UnitTables). heard_in (t.hearings n 0)) units
                  ∙ ap heard_in (upd_hit w.net.units.hearings n 0 y n 0 refl refl)
                  ∙ here l ok (h n hn) q
                  (ap peer_of (sym (ap (λ (t : Cells.UnitTables). t.serving n 0) units
                  ∙ upd_hit w.net.units.serving n 0 c n 0 refl refl)) ∙ served) d i front)
              | no off ↦
                  heard_stays w z k g iv vs ok m hm
                  (ap (λ (t : Cells.UnitTables). t.serving m 0) units ∙ upd_miss w.net.units.serving n 0 c m 0 (λ a b. off a))
                  (ap (λ (t : Cells.UnitTables). t.hearings m 0) units ∙ upd_miss w.net.units.hearings n 0 y m 0 (λ a b. off a))
                  (λ q hq to. other m q off hq) (h m hm)
            ];
          }
        where
          at : (m : ℕ) → m ≡ n → HeardAt z (notes vs g) n → HeardAt z (notes vs g) m
          at m e h = rw e h

  -- ports of two nodes are two
  apart : (n p m q : ℕ) → p < ports → q < ports → (m ≡ n → ⊥) → port_no m q ≡ port_no n p → ⊥
  apart n p m q hp hq ne e = ne (omega (arith, e, hp, hq))

  -- A TOKEN HEARD, and the message goes on
  module _ (n p : ℕ) (z : Going w n p Hops.Unit) where
    abbrev x : ℕ
    x = first_at w n p

    abbrev u : Hearing
    u = w.net.units.hearings n 0

    serves : (q : ℕ) → peer_of (w.net.units.serving n 0) ≡ Peers.Port q → (w.net.units.serving n 0).kind ≡ 0 → ⊥
    serves q e none = none_serves (w.net.units.serving n 0) e none
      where
        none_serves : (c : Circuit) → peer_of c ≡ Peers.Port q → c.kind ≡ 0 → ⊥
        none_serves c e none = never (let f : Peers.Nobody ≡ Peers.Port q = rw none at e in cc)

    -- what is next at the port's front is of the circuit that was
    front_circuit : (d i : ℕ) → next (hd (g.cells (port_no n p))) ≡ At d i → (hd (g.cells (port_no n p))).circuit ≡ d
    front_circuit d i = go (closes (hd (g.cells (port_no n p))).token)
      where
        go : (b : Bool) → after b (hd (g.cells (port_no n p))).circuit (hd (g.cells (port_no n p))).pos ≡ At d i
            → (hd (g.cells (port_no n p))).circuit ≡ d
        go true e = never (cc)
        go false e = (at_same e).0

    listens_heard : closes x ≡ false → Listening (with_net (took w n p) (listens (took w n p).net n x)) (Hands (port_no n p) ToUnit x ∷ [])
    unfolding note
    listens_heard more =
        let same = (indoors_took w n p).units in
        let y = hd (g.cells (port_no n p)) in
        let row = g.handed y.circuit ++ keeps x in
        one_hears n p z.holds.node z.holds.port _ _ (w.net.units.serving n 0) (hears_word u x)
        (ap (λ (t : Cells.UnitTables). heard_next t) same
        ∙ ap (λ s. record { serving = s; hearings = Two.upd w.net.units.hearings n 0 (hears_word u x) })
        (sym (upd_own w.net.units.serving n 0)))
        (λ m q off hq. (apart n p m q z.holds.port hq off, tt))
        (λ l. by_test (ltb u.heard unit_buffer) (λ e. rw e (length-set u.tokens u.heard x ∙ l n)) (λ e. rw e (l n)))
        (λ l ok heard q served d i front.
        let (hq, to) = serves_port w k n z.holds.node q served in
        let is-p = served_port w k n z.holds.node p q z.holds.port z.goes served in
        let a = going w g iv n p z.holds.port z.goes in
        let first = front_at_lem is_link (moving w) g iv (port_no n p) x _ (first_seen w n p z.holds) in
        let ft : Fits (At a.c a.i) y = rw a.front at first.fits in
        let front' : next y ≡ At d i = sym (alter_hit g.front (port_no n p) (next y) (port_no n q) (ap (port_no n) is-p)) ∙ front in
        let is-d : y.circuit ≡ d = front_circuit d i front' in
        let fits = ⊎_elim (λ none. absurd (serves q served none)) (λ h. h.0) (k.hearings n 0 z.holds.node (omega arith)) in
        heard_more u x (g.handed y.circuit) (l n) fits
        (heard p (ap (λ (j : ℕ). peer_of (w.net.units.serving n 0)) is-p ∙ served ∙ ap Peers.Port is-p) a.c a.i a.front
        ∙ ap (λ (j : ℕ). take unit_buffer (g.handed j)) (sym ft.0))
        ∙ ap (λ (ts : List ℕ). take unit_buffer (g.handed y.circuit ++ ts)) (sym (kept_word x more))
        ∙ ap (take unit_buffer) (sym (alter_hit g.handed y.circuit row d (sym is-d))))
      where
        heard_next : Cells.UnitTables → Cells.UnitTables
        heard_next t = record { serving = t.serving; hearings = Two.upd t.hearings n 0 (hears_word (t.hearings n 0) x) }

    -- .. and the message is at its end: the unit serves nobody
    freed_heard : closes x ≡ true → Listening (hears w n p).next (step_events w n p Hear)
    unfolding ended
    freed_heard shuts =
        let y = hop_closed w n p in
        let m = message_of (y.net.units.hearings n 0) x in
        let same = (indoors_took w n p).units in
        rw shuts (one_hears n p z.holds.node z.holds.port (obeyed y n m).next _ (of_peer Peers.Nobody) u
        ((indoors_obeyed y n m).units ∙ ap (λ (t : Cells.UnitTables). freed_next t) same
        ∙ ap (λ h. record { serving = Two.upd w.net.units.serving n 0 (of_peer Peers.Nobody); hearings = h })
        (sym (upd_own w.net.units.hearings n 0)))
        (λ i q off hq. (
          apart n p i q z.holds.port hq off,
          each_map (Fills (door_no n unit_door)) (Elsewhere (port_no i q))
              (λ v h. fills_elsewhere (port_no i q) h) (obey_events y n m) (obey_fills y n m),
        ))
        (λ l. l n)
        (λ l ok heard q served d i front. never (cc)))
      where
        freed_next : Cells.UnitTables → Cells.UnitTables
        freed_next t = record { serving = Two.upd t.serving n 0 (of_peer Peers.Nobody); hearings = t.hearings }

  -- A CIRCUIT THAT LANDS AT A CONTROL UNIT: nothing is heard of it yet
  lands_heard : (n p : ℕ) → n < w.net.nodes → p < ports
      → Listening (lands_unit w n p) (step_events w n p OpenUnit)
  unfolding note
  lands_heard n p hn hp =
      let y = hd (g.cells (port_no n p)) in
      let s = opens_unit w.net n p in
      one_hears n p hn hp _ _ (of_peer (Peers.Port p)) (record { heard = 0; tokens = (w.net.units.hearings n 0).tokens })
      (indoors_stripped (with_net w s) n p (width_at w.net n)).units
      (λ m q off hq. (tt, tt))
      (λ l. l n)
      (λ l ok heard q served d i front.
      let is-q : p ≡ q = port_same served in
      let is-d : y.circuit ≡ d = (at_same (sym (alter_hit g.front (port_no n p) _ (port_no n q) (ap (port_no n) (sym is-q))) ∙ front)).0 in
      let flying = landing_flies is_link (moving w) g (port_no n p) _ _ _ _ iv ok.0 in
      ap (take unit_buffer) (sym (ap g.handed (sym is-d) ∙ (faithful is_link (moving w) g iv y.circuit).not_yet flying)))
    where
      port_same : {a b : ℕ} → Peers.Port a ≡ Peers.Port b → a ≡ b
      port_same e = cc

  -- STEP
  module _ (n p : ℕ) where
    abbrev StepHeard : Plan → Type 0
    StepHeard x = Listening (step_performed w n p x).next (step_events w n p x)

    alone : (x : Plan) → Indoors w.net (step_performed w n p x).next.net
        → ((m q : ℕ) → q < ports → hop w.net m q ≡ Hops.Unit → Each (Elsewhere (port_no m q)) (step_events w n p x))
        → StepHeard x
    alone x same other = all_stay _ _ same.units other

    -- a port that hands to a channel is none of a control unit's
    channel_off : (c t : ℕ) → Going w n p (Hops.Channel c t) → (m q : ℕ) → q < ports → hop w.net m q ≡ Hops.Unit
        → port_no m q ≡ port_no n p
        → ⊥
    channel_off c t z m q hq e same =
        let hp = z.holds.port in
        let em : m ≡ n = omega (arith, same, hp, hq) in
        let eq : q ≡ p = omega (arith, same, hp, hq) in
        let same_hop : hop w.net m q ≡ hop w.net n p = ap (hop w.net m) eq ∙ ap (λ (i : ℕ). hop w.net i p) em in
        never (let f : Hops.Channel c t ≡ Hops.Unit = sym z.goes ∙ sym same_hop ∙ e in cc)

    hands_heard : (c t : ℕ) → Going w n p (Hops.Channel c t) → StepHeard (Hand c t)
    hands_heard c t z =
        let x = first_at w n p in
        let y = (took w n p).net in
        let v = handed y n c x in
        let given : v.units ≡ y.units = by_test (eqb c sink) (λ e. rw e) (λ e. rw e) in
        let after = indoors_closes_channel v n p c t x in
        all_stay _ _ (after.units ∙ given ∙ (indoors_took w n p).units) (λ m q hq e. (channel_off c t z m q hq e, tt))

    step_heard : {x : Plan} → Found w n p x → StepHeard x
    step_heard (idle none) = alone Idle (indoors_all w.net) (λ m q hq e. tt)
    step_heard (waits unsplit) = alone Wait (indoors_all w.net) (λ m q hq e. tt)
    step_heard (splits z f) = alone (Refuse Split) (record { aims = refl; buffers = refl; units = refl }) (λ m q hq e. (tt, tt))
    step_heard (unrouted z) = alone (Refuse NoRoute) (record { aims = refl; buffers = refl; units = refl }) (λ m q hq e. (tt, tt))
    step_heard (routes z l hl free on) = alone (OpenOut l) (record { aims = refl; buffers = refl; units = refl }) (λ m q hq e. (tt, tt))
    step_heard (Found.lands_channel z m c t named door there tile claim) =
        alone (OpenChannel c t)
        (indoors_then (indoors_opens w.net n p c t)
        (indoors_stripped (with_net w (opens_channel w.net n p c t)) n p (width_at w.net n))) (λ m q hq e. (tt, tt))
    step_heard (Found.lands_unit z m named free empty) = lands_heard n p z.legible.headed.node z.legible.headed.port
    step_heard (Found.moves l z m j leads credit) =
        let x = first_at w n p in
        let y = took w n p in
        alone (MoveOut l)
        (indoors_then (indoors_took w n p) (indoors_then (indoors_closes_out y.net n p l x)
        (indoors_sends (with_net y (closes_out y.net n p l x)) n l x))) (λ m q hq e. (tt, tt))
    step_heard (Found.hands c t z given) = hands_heard c t z
    step_heard (Found.hears z) =
        by_test (closes (first_at w n p)) (freed_heard n p z) (λ e. rw e (listens_heard n p z e))
    step_heard (Found.drops x z) =
        alone (Drop x) (indoors_then (indoors_took w n p) (indoors_dropped (took w n p).net n p (first_at w n p))) (λ m q hq e. (tt, tt))

  -- OUTPUT
  module _ (n c : ℕ) (goal : Target) (t : ℕ) where
    output_units : (x : Sents.Plan) → (output_performed w n c goal t x).net.units ≡ w.net.units
    output_units Sent.Narrow = refl
    output_units Sent.Full = refl
    output_units (Sent.Opens p) =
        let hs = words (header_of goal (width_at w.net n)) in
        (indoors_then (indoors_pushed_all w n p hs) (indoors_pushed (pushed_all w n p hs) n p t)).units
    output_units (Sent.Behind p) = (indoors_pushed w n p t).units
    output_units (Sent.Straight d) =
        let z = handed w.net n d t in
        (indoors_claimed z n 0 d (until_closed t (Peers.End c))).units ∙ by_test (eqb d sink) (λ e. rw e) (λ e. rw e)

    straight_off : (p d : ℕ) (x : Peer) → Each (Elsewhere p) (straight_events w n c goal d t x)
    straight_off p d Peers.Nobody = (tt, (tt, tt))
    straight_off p d (Peers.Port q) = (tt, tt)
    straight_off p d (Peers.End e) = (tt, tt)

    output_off : (p : ℕ) (x : Sents.Plan) → Each (Elsewhere p) (output_events w n c goal t x)
    output_off p Sent.Narrow = tt
    output_off p Sent.Full = tt
    output_off p (Sent.Opens q) = (tt, (tt, tt))
    output_off p (Sent.Behind q) = (tt, tt)
    output_off p (Sent.Straight d) = straight_off p d (peer_of (w.net.ends.sendings n c))

  -- EVERY CALL that is not refused
  pub made_heard : (c : Call) → Passes (rows w c) → no_event c ≡ false → Listening (made w c).next (made_events w c)
  made_heard (Begin s n) p e = clash e
  made_heard (Wire a l b j) p e = all_stay _ _ refl (λ m q hq f. (tt, tt))
  made_heard (Set a x) p e = all_stay _ [] (setting_leaves w a.0 x).units (λ m q hq f. tt)
  made_heard (Aim a c g v) p e = all_stay _ [] refl (λ m q hq f. tt)
  made_heard (Output a c x) p e =
      let h = target_of (w.net.ends.aims a.0 c) in
      let plan = output_plan w.net a.0 c h (word_of x) in
      all_stay _ _ (output_units a.0 c h (word_of x) plan) (λ m q hq f. output_off a.0 c h (word_of x) (port_no m q) plan)
  made_heard (Input a c y) p e = all_stay _ [] refl (λ m q hq f. tt)
  made_heard (Step a p) q e =
      let there = step_there w a.0 p q.1 in
      step_heard a.0 p (step_found w k a.0 p there.0 there.1)
  made_heard (Line a l) p e =
      all_stay _ _ (indoors_line w a.0 l).units
      (λ m q hq f. line_case (Each (Elsewhere (port_no m q))) w a.0 l tt (λ i j x. (tt, tt)) (far_of (w.net.links.cables a.0 l)))
  made_heard (Steps n xs) p e = clash e
