-- EVERY CALL IS ITS EVENTS: they may happen, and do to the view what the call did to the world. Assumes nothing.
use Prim.{tt}
use Prim.Native.Nat.{ℕ, ◌/◌, ◌%◌, ◌<◌}
use mathlib.Core.Path.{◌≡◌, refl, sym, ap, ◌∙◌, fun_ext}
use mathlib.Core.Bool.{Bool, true, false, ◌&&◌, ◌||◌}
use mathlib.Core.Logic.{⊎_elim}
use mathlib.Core.List.{List, [], ◌∷◌, ◌++◌}
use native.Mathlib.Omega.{arith}
use lib.Arith.{digits_mod}
use lib.Dec.{eqb, ltb}
use lib.ListN.{take}
use borrow.Author.Tests.{eqb-true, eqb-false, lt-ltb, not-false}
use Rattle.laws.specs.Pick.{pick}
use Rattle.laws.specs.Table as Two
use Rattle.laws.proofs.All.{also, below}
use Rattle.laws.proofs.Order.{by_test, clash}
use Rattle.names.specs.Size.{links, ports, ends, reply_port}
use Rattle.names.specs.No.{passes}
use Rattle.circuits.specs.Circuit.{peer_of}
use Rattle.circuits.specs.declared.Cause.TheVariants.{Split, NoRoute}
use Rattle.circuits.specs.declared.Hop.TheVariants as Hops
use Rattle.circuits.specs.declared.Peer.{Peer}
use Rattle.circuits.specs.declared.Peer.TheVariants as Peers
use Rattle.tokens.specs.Control.{end}
use Rattle.tokens.specs.Word.{closes, control_word}
use Rattle.tokens.specs.Header.{Carried, header_of, is_narrow}
use Rattle.tokens.specs.declared.header.Target.{Target}
use Rattle.answers.specs.Rows.{checked, refusal, Passes}
use Rattle.answers.proofs.Refusals.{some_back, by_check, clear, all_clear}
use Rattle.lines.specs.Load.{is_hello, credit_of, is_token, tokens_of}
use Rattle.cells.specs.View as Cells
use Rattle.cells.specs.World.{World, far_of, queue, Far, Nowhere, At}
use Rattle.fresh.specs.Fresh.{start_of}
use Rattle.fresh.specs.declared.Start.{Start}
use Rattle.acts.specs.Acts.{with_net, width_at, number_at, word_at, first_at}
use Rattle.acts.specs.Needs.{Holds}
use Rattle.travel.specs.Travel.{first_on, line_empty, left_by, line_stepped}
use Rattle.travel.proofs.Loads.{line_none}
use Rattle.travel.proofs.Stepped.{positive}
use Rattle.travel.proofs.Tokens.{token_is, credit_none, hello_none}
use Rattle.plans.specs.Plan.{marked_width, size_of, step_plan}
use Rattle.plans.proofs.Held.{size_some}
use Rattle.plans.specs.declared.Plan.{Plan}
use Rattle.plans.specs.declared.Plan.TheVariants.{Idle, Wait, OpenOut, OpenChannel, OpenUnit, Refuse, MoveOut, Hand, Hear, Drop}
use Rattle.messages.specs.Register.{fields_of, read_of}
use Rattle.messages.specs.Heard.{message_of}
use Rattle.messages.specs.Write.{accepted, written}
use Rattle.messages.specs.Ended.{said, reply_sent, obeyed, ended}
use Rattle.messages.specs.declared.heard.Message.{Message}
use Rattle.messages.specs.declared.heard.Message.TheVariants.{Malformed, Wrong, Read, Write}
use Rattle.messages.specs.declared.reply.Reply.{Reply}
use Rattle.messages.specs.declared.reply.Reply.TheVariants.{Nack, Ack, Value}
use Rattle.settings.specs.Wire.{cable_to, wired}
use Rattle.ends.specs.Aim.{aim_made}
use Rattle.ends.specs.Input.{input_made}
use Rattle.ends.specs.Plan.{target_of, lowest_free, output_plan}
use Rattle.ends.specs.Output.{word_of, output_performed}
use Rattle.ends.specs.declared.plan.Plan as SentPlans
use Rattle.ends.specs.declared.plan.Plan.TheVariants as Sent
use Rattle.switch.specs.Step.{step_performed}
use Rattle.bench.specs.Calls.{Call, Begin, Wire, Set, Aim, Output, Input, Step, Line, Steps, line_rows, rows, made, apply}
use Rattle.bench.specs.Writes.{hop_closed}
use Rattle.kept.specs.Kept.{Kept}
use Rattle.kept.proofs.Opens.{Headed}
use Rattle.kept.proofs.Found.{Going, Found, idle, waits, splits, unrouted, routes, lands_channel, lands_unit, step_found}
use Rattle.kept.proofs.Found.{moves, hands, hears, drops}
use Rattle.kept.proofs.Rooms.{kept_holds, has_room, nothing_held}
use Rattle.kept.proofs.Stages.{tile_there}
use Rattle.kept.proofs.Ends.{Sender}
use Rattle.kept.proofs.Outputs.{port_free, aim_legal}
use Rattle.kept.proofs.Chosen as Chosen
use Rattle.kept.proofs.Wires.{Loose, nowhere}
use Rattle.kept.proofs.Calls.{wire_ends, output_sender, step_there}
use Rattle.kept.proofs.Hears.{keep_freed, ready_after}
use Rattle.kept.proofs.Sets.{keep_written}
use Rattle.kept.proofs.Messages.{Address, Replied, replied, Ready, ready_written}
use Rattle.streams.specs.Model.{alter, Use, Nobody, By, Closed, port_no, door_no, doors_each}
use Rattle.streams.specs.Model.{unit_door, is_link, ToChannel, ToUnit, Moving}
use Rattle.streams.specs.Events.{Event, Opens, Puts, Starts, Tells, Takes, Lands, Refuses, Enters, Arrives, Hands, Loses, Wires}
use Rattle.streams.specs.Events.{effect, empty}
use Rattle.streams.specs.Observer.{anew}
use Rattle.streams.specs.View.{moving, far_end}
use Rattle.streams.proofs.Machine.{Leads, leads_append}
use Rattle.streams.proofs.View.{net_as, cable_put, view_cable, Alike, alike, unseen}
use Rattle.streams.proofs.Acts.{Does, does_opens_out, does_refused, does_drops, does_hands, does_listens, does_freed}
use Rattle.streams.proofs.Acts.{does_moves_out}
use Rattle.streams.proofs.Lands.{does_lands_channel, does_lands_unit}
use Rattle.streams.proofs.Arrivals.{credit_seen, hello_seen, does_arrives}
use Rattle.streams.proofs.Settings.{set_seen, written_seen}
use Rattle.streams.proofs.Sends.{put_each}
use Rattle.streams.proofs.Outputs.{carried, does_opens_by, does_behind, does_starts, does_goes_on, does_reply}

-- no event, one
pub leads_none : (n : Moving) → Leads is_link [] n n
leads_none n = record { view = refl; ok = tt }

leads_one : {v : Event} {w z : World} → Does v w z → Leads is_link (v ∷ []) (moving w) (moving z)
leads_one d = record { view = d.is; ok = (d.ok, tt) }

-- what the view does not see is no event
leads_same : {n n' : Moving} → n' ≡ n → Leads is_link [] n n'
leads_same e = record { view = e; ok = tt }

leads_unseen : (w : World) (s : Cells.Net) → Alike w.net s → Leads is_link [] (moving w) (moving (with_net w s))
leads_unseen w s a = leads_same (unseen w w.net s a)

-- A REPLY
abbrev pub reply_events : World → ℕ → Target → Reply → List Event
reply_events w n g x =
    pick (is_narrow (header_of g (width_at w.net n))) []
    (Opens (door_no n unit_door) (port_no n reply_port) (width_at w.net n) g
    ∷ put_each (door_no n unit_door) (port_no n reply_port) (said x ++ (control_word end ∷ [])))

abbrev pub obey_events : World → ℕ → Message → List Event
obey_events w n Malformed = []
obey_events w n (Wrong g) = reply_events w n g Nack
obey_events w n (Read g r) = reply_events w n g (Value (read_of w.net n r))
obey_events w n (Write g r v) =
    reply_events (written w n (fields_of r v)) n g (pick (accepted w n (fields_of r v)) Ack Nack)

reply_leads : (w : World) → Kept w → (n : ℕ) → Ready w n → (g : Target) → Address g → (x : Reply)
    → Leads is_link (reply_events w n g x) (moving w) (moving (reply_sent w n g x).next)
reply_leads w k n z g a x =
    by_test (is_narrow (header_of g (width_at w.net n)))
    (λ e. rw e (leads_none (moving w)))
    (λ e. rw e (does_reply w k n z g x (width_at w.net n) a e))

obey_leads : (w : World) → Kept w → (n : ℕ) → Ready w n → (m : Message) → Replied m
    → Leads is_link (obey_events w n m) (moving w) (moving (obeyed w n m).next)
obey_leads w k n z Malformed a = leads_none (moving w)
obey_leads w k n z (Wrong g) a = reply_leads w k n z g a Nack
obey_leads w k n z (Read g r) a = reply_leads w k n z g a (Value (read_of w.net n r))
obey_leads w k n z (Write g r v) a =
    let xs = fields_of r v in
    let y = written w n xs in
    let r = reply_leads y (keep_written w k n xs) n (ready_written w n z xs) g a (pick (accepted w n xs) Ack Nack) in
    leads_append is_link [] _ (moving w) (moving y) _ (leads_same (written_seen w k n xs)) r

-- A STEP, by its plan
abbrev pub end_events : World → ℕ → ℕ → List Event
end_events w n x = obey_events w n (message_of (w.net.units.hearings n 0) x)

abbrev pub step_events : World → ℕ → ℕ → Plan → List Event
step_events w n p Idle = []
step_events w n p Wait = []
step_events w n p (OpenOut l) = Takes (port_no n p) (port_no n l) ∷ []
step_events w n p (OpenChannel c t) =
    Lands (port_no n p) (width_at w.net n) (take (size_of (width_at w.net n)) (queue w n p)) (ToChannel c) (number_at w.net n) ∷ []
step_events w n p OpenUnit =
    Lands (port_no n p) (width_at w.net n) (take (size_of (width_at w.net n)) (queue w n p)) ToUnit (number_at w.net n) ∷ []
step_events w n p (Refuse x) = Refuses (port_no n p) x ∷ []
step_events w n p (MoveOut l) = Enters (port_no n p) (port_no n l) (first_at w n p) ∷ []
step_events w n p (Hand c t) = Hands (port_no n p) (ToChannel c) (first_at w n p) ∷ []
step_events w n p Hear =
    Hands (port_no n p) ToUnit (first_at w n p) ∷ pick (closes (first_at w n p)) (end_events (hop_closed w n p) n (first_at w n p)) []
step_events w n p (Drop x) = Loses (port_no n p) x (first_at w n p) ∷ []

module _ (w : World) (k : Kept w) (n p : ℕ) where
  abbrev StepLeads : Plan → Type 0
  StepLeads x = Leads is_link (step_events w n p x) (moving w) (moving (step_performed w n p x).next)

  headed_holds : Headed w n p → Holds w n p 1
  headed_holds z = kept_holds w k n p 1 z.node z.port (omega (arith, size_some (marked_width (word_at w n p 0)), z.whole))

  hear_leads : Going w n p Hops.Unit → StepLeads Hear
  unfolding ended
  hear_leads g =
      let x = first_at w n p in
      by_test (closes x)
      (λ e.
      let y = hop_closed w n p in
      let h = y.net.units.hearings n 0 in
      let free = keep_freed w k n p g.holds g.goes e in
      let ready = ready_after w k n p g.holds g.goes e in
      rw e (leads_append is_link (Hands (port_no n p) ToUnit x ∷ []) _ (moving w) (moving y) _
      (leads_one (does_freed w k n p g.holds g.goes e))
      (obey_leads y free n ready (message_of h x) (replied h x))))
      (λ e. rw e (leads_one (does_listens w k n p g.holds g.goes e)))

  step_leads : {x : Plan} → Found w n p x → StepLeads x
  step_leads (idle none) = leads_none (moving w)
  step_leads (waits unsplit) = leads_none (moving w)
  step_leads (splits z f) = leads_one (does_refused w n p (headed_holds z) Split z.shut)
  step_leads (unrouted z) = leads_one (does_refused w n p (headed_holds z.headed) NoRoute z.headed.shut)
  step_leads (routes z l hl free on) = leads_one (does_opens_out w n p (headed_holds z.headed) l z.headed.shut hl free)
  step_leads (lands_channel z m c t named door there tile claim) = leads_one (does_lands_channel w k n p z m c t named)
  step_leads (lands_unit z m named free empty) = leads_one (does_lands_unit w k n p z m named)
  step_leads (moves l g m j leads credit) = leads_one (does_moves_out w k n p l m j g.holds g.goes leads credit)
  step_leads (hands c t g given) = leads_one (does_hands w k n p g.holds c t g.goes)
  step_leads (hears g) = hear_leads g
  step_leads (drops x g) = leads_one (does_drops w k n p g.holds x g.goes)

-- A LINE STEP: a token arrives, or what the view does not see
abbrev pub arrival_events : ℕ → ℕ → ℕ → ℕ → ℕ → List Event
arrival_events n l m j x = pick (is_token x) (Arrives (port_no n l) (port_no m j) x ∷ []) []

abbrev pub line_events : World → ℕ → ℕ → Far → List Event
line_events w n l Nowhere = []
line_events w n l (At m j) = pick (line_empty w n l) [] (arrival_events n l m.0 j (first_on w n l))

-- what holds of no event and of an arrival holds of them
pub line_case : (P : List Event → Type 0) (w : World) (n l : ℕ) → P [] → ((m j x : ℕ) → P (Arrives (port_no n l) (port_no m j) x ∷ []))
    → (f : Far)
    → P (line_events w n l f)
line_case P w n l none one Nowhere = none
line_case P w n l none one (At m j) =
    by_test (line_empty w n l)
    (λ e. rw e none)
    (λ e. rw e (by_test (is_token (first_on w n l)) (λ t. rw t (one m.0 j (first_on w n l))) (λ t. rw t none)))

line_leads : (w : World) → Kept w → (n l : ℕ) → n < w.net.nodes → l < links
    → Leads is_link (line_events w n l (far_of (w.net.links.cables n l))) (moving w) (moving (line_stepped w n l))
unfolding line_stepped
line_leads w k n l hn hl = by_far (far_of (w.net.links.cables n l)) refl
  where
    by_far : (f : Far) → far_of (w.net.links.cables n l) ≡ f → Leads is_link (line_events w n l f) (moving w) (moving (left_by w n l f))
    by_far Nowhere e = leads_none (moving w)
    by_far (At m j) e =
        let x = first_on w n l in
        by_test (line_empty w n l)
        (λ none. rw none (leads_none (moving w)))
        (λ some.
        let held = positive (w.net.lines.rings n l).held (eqb-false _ 0 some) in
        rw some (by_test (is_hello x)
        (λ said. rw (said, hello_none x said) (leads_same (hello_seen w k n l hn hl m j e held said)))
        (λ plain. by_test (eqb (credit_of x) 0)
        (λ token. rw (plain, token, token_is x plain token) (leads_one (does_arrives w k n l hn hl m j e held plain token)))
        (λ credit. rw (plain, credit, credit_none x plain credit) (leads_same (credit_seen w k n l hn hl m j e held plain credit))))))

-- AN OUTPUT, by its plan; straight to a channel, the first token opens the circuit
abbrev pub straight_events : World → ℕ → ℕ → Target → ℕ → ℕ → Peer → List Event
straight_events w n c g d t Peers.Nobody =
    Starts (door_no n c) (number_at w.net n) (width_at w.net n) g d ∷ Tells (door_no n c) d t ∷ []
straight_events w n c g d t (Peers.Port p) = Tells (door_no n c) d t ∷ []
straight_events w n c g d t (Peers.End e) = Tells (door_no n c) d t ∷ []

abbrev pub output_events : World → ℕ → ℕ → Target → ℕ → SentPlans.Plan → List Event
output_events w n c g t Sent.Narrow = []
output_events w n c g t Sent.Full = []
output_events w n c g t (Sent.Opens p) =
    Opens (door_no n c) (port_no n p) (width_at w.net n) g ∷ Puts (door_no n c) (port_no n p) t ∷ []
output_events w n c g t (Sent.Behind p) = Puts (door_no n c) (port_no n p) t ∷ []
output_events w n c g t (Sent.Straight d) = straight_events w n c g d t (peer_of (w.net.ends.sendings n c))

module _ (w : World) (k : Kept w) (n c t : ℕ) (s : Sender w.net n c) where
  abbrev target : Target
  target = target_of (w.net.ends.aims n c)

  fits : is_narrow (header_of target (width_at w.net n)) ≡ false → Carried (width_at w.net n) target
  fits wide =
      let facts = ⊎_elim (λ e. absurd (s.aimed e)) (λ f. f) (k.aims n c s.node s.end) in
      let legal = aim_legal (w.net.ends.aims n c) facts in
      carried (width_at w.net n) target legal.0 legal.1 wide

  output_leads : {x : SentPlans.Plan} → Chosen.Found w n c t x
      → Leads is_link (output_events w n c target t x) (moving w) (moving (output_performed w n c target t x))
  output_leads Chosen.narrow = leads_none (moving w)
  output_leads Chosen.full = leads_none (moving w)
  output_leads (Chosen.opens z away free) =
      let (tile, none) = port_free w n (lowest_free w.net n) free in
      does_opens_by w n c s.end k (lowest_free w.net n) t target s.node z.shut tile none (fits z.wide)
  output_leads (Chosen.behind p e room) =
      let tile = tile_there (peer_of (w.net.ends.sendings n c)) p (k.goes n c s.node s.end) e in
      does_behind w n c s.end p t e (has_room w k n p 1 s.node (omega (arith, tile.1)) (omega (arith, room)))
  output_leads (Chosen.starts z m d named here unclaimed given) =
      rw z.shut (does_starts w n c s.end d t m target z.shut named here)
  output_leads (Chosen.goes_on d e given) = rw e (does_goes_on w n c s.end d t e)

-- WIRE
module _ (w : World) (k : Kept w) (n l m j : ℕ) (a : Loose w n l) (b : Loose w m j) (off : Two.Off n l m j) where
  is_link_lem : (i h : ℕ) → h < links → is_link (port_no i h) ≡ true
  is_link_lem i h hh = ap (λ (x : ℕ). ltb x links) (digits_mod i (omega (arith, hh))) ∙ lt-ltb h links hh

  wire_leads : Leads is_link (Wires (port_no n l) (port_no m j) ∷ []) (moving w) (moving (with_net w (wired w.net n l m j)))
  unfolding effect
  wire_leads =
      let cables = w.net.links.cables in
      let hl = a.link in
      let hj = b.link in
      record {
        view = net_as refl refl refl refl
            (cable_put m (Two.upd cables n l (cable_to m j)) j (cable_to n l) hj
            ∙ ap (λ (t : ℕ → Use). alter t (port_no m j) (By (port_no n l))) (cable_put n cables l (cable_to m j) hl))
            refl;
        ok = (
          (
            λ e. off (omega (arith, e, hl, hj)) (omega (arith, e, hl, hj)),
            is_link_lem n l hl,
            is_link_lem m j hj,
            view_cable w n l hl ∙ ap far_end (nowhere w k n l a),
            view_cable w m j hj ∙ ap far_end (nowhere w k m j b),
          ),
          tt,
        );
      }

-- A CALL that is not refused
abbrev pub done : World → Call → Bool
done w c = eqb (refusal (rows w c)) passes

abbrev pub is_start : Call → Bool
is_start (Begin s n) = true
is_start (Wire a l b j) = false
is_start (Set a x) = false
is_start (Aim a c g v) = false
is_start (Output a c x) = false
is_start (Input a c x) = false
is_start (Step a p) = false
is_start (Line a l) = false
is_start (Steps n xs) = false

-- a list of steps, which is its Steps and no event of its own
abbrev pub is_list : Call → Bool
is_list (Begin s n) = false
is_list (Wire a l b j) = false
is_list (Set a x) = false
is_list (Aim a c g v) = false
is_list (Output a c x) = false
is_list (Input a c x) = false
is_list (Step a p) = false
is_list (Line a l) = false
is_list (Steps n xs) = true

-- what is no event: a start opens new books
abbrev pub no_event : Call → Bool
no_event c = is_start c || is_list c

-- the link of a line step
line_at : (w : World) (n l : ℕ) → Passes (line_rows w.net n l) → (n < w.net.nodes) × (l < links)
line_at w n l p = (also (below n w.net.nodes) (below l links)).sure (not-false _ p.0)

abbrev pub made_events : World → Call → List Event
made_events w (Begin s n) = []
made_events w (Wire a l b j) = Wires (port_no a.0 l) (port_no b.0 j) ∷ []
made_events w (Set a x) = []
made_events w (Aim a c g v) = []
made_events w (Output a c x) =
    let g = target_of (w.net.ends.aims a.0 c) in
    output_events w a.0 c g (word_of x) (output_plan w.net a.0 c g (word_of x))
made_events w (Input a c x) = []
made_events w (Step a p) = step_events w a.0 p (step_plan w a.0 p)
made_events w (Line a l) = line_events w a.0 l (far_of (w.net.links.cables a.0 l))
made_events w (Steps n xs) = []

module _ (w : World) (k : Kept w) where
  made_leads : (c : Call) → Passes (rows w c) → no_event c ≡ false → Leads is_link (made_events w c) (moving w) (moving (made w c).next)
  made_leads (Begin s n) p e = clash e
  made_leads (Wire a l b j) p e =
      let (x, y, off) = wire_ends w a.0 l b.0 j p.1 in
      wire_leads w k a.0 l b.0 j x y off
  made_leads (Set a x) p e = leads_same (set_seen w k a.0 x p.1)
  made_leads (Aim a c g v) p e = leads_unseen w (aim_made w.net a.0 c g v) (alike refl refl refl refl refl refl)
  made_leads (Output a c x) p e =
      let s = output_sender w a.0 c x p.1 in
      output_leads w k a.0 c (word_of x) s (Chosen.output_found w k a.0 c (word_of x) s)
  made_leads (Input a c x) p e = leads_unseen w (input_made w.net a.0 c) (alike refl refl refl refl refl refl)
  made_leads (Step a p) q e =
      let there = step_there w a.0 p q.1 in
      step_leads w k a.0 p (step_found w k a.0 p there.0 there.1)
  made_leads (Line a l) p e =
      let there = line_at w a.0 l p.1 in
      line_leads w k a.0 l there.0 there.1
  made_leads (Steps n xs) p e = clash e

-- EVERY CALL
abbrev pub events_of : World → Call → List Event
events_of w c = pick (done w c) (made_events w c) []

-- new books are opened exactly by a start that is not refused
pub anew_done : (w : World) (c : Call) → anew w c ≡ (is_start c && done w c)
unfolding apply
anew_done w (Begin s n) = by_check (checked (rows w (Begin s n))) (λ t. rw t) (λ j t. rw (t, some_back j))
anew_done w (Wire a l b j) = refl
anew_done w (Set a x) = refl
anew_done w (Aim a c g v) = refl
anew_done w (Output a c x) = refl
anew_done w (Input a c x) = refl
anew_done w (Step a p) = refl
anew_done w (Line a l) = refl
anew_done w (Steps n xs) = refl

pub is_event : (w : World) (c : Call) → is_list c ≡ false → done w c ≡ true → anew w c ≡ false → no_event c ≡ false
is_event w c l t e = go (is_start c) (sym (anew_done w c) ∙ e)
  where
    go : (b : Bool) → (b && done w c) ≡ false → (b || is_list c) ≡ false
    go true f = clash (sym t ∙ f)
    go false f = l

-- what a call leaves that opens new books
pub anew_case : (P : World → Type 0) → ((s : Start) (n : ℕ) → P (start_of s n)) → (w : World) (c : Call) → anew w c ≡ true
    → P (apply w c).next
unfolding apply
anew_case P h w c e = go c (sym (anew_done w c) ∙ e)
  where
    go : (c : Call) → (is_start c && done w c) ≡ true → P (apply w c).next
    go (Begin s n) f = rw (clear (rows w (Begin s n)) (eqb-true (refusal (rows w (Begin s n))) passes f)) (h s n)
    go (Wire a l b j) f = clash (sym f)
    go (Set a x) f = clash (sym f)
    go (Aim a c g v) f = clash (sym f)
    go (Output a c x) f = clash (sym f)
    go (Input a c x) f = clash (sym f)
    go (Step a p) f = clash (sym f)
    go (Line a l) f = clash (sym f)
    go (Steps n xs) f = clash (sym f)

pub call_leads : (w : World) → Kept w → (c : Call) → is_list c ≡ false → anew w c ≡ false
    → Leads is_link (events_of w c) (moving w) (moving (apply w c).next)
unfolding apply
call_leads w k c l e =
    by_check (checked (rows w c))
    (λ t. rw t (made_leads w k c (all_clear (rows w c) t) (is_event w c l (rw t refl) e)))
    (λ j t. rw (t, some_back j) (leads_none (moving w)))

either : {A : Type 0} (b : Bool) (x : A) → pick b x x ≡ x
either true x = refl
either false x = refl

pub start_view : (s : Start) (n : ℕ) → moving (start_of s n) ≡ empty
unfolding empty
start_view s n =
    net_as (fun_ext (λ j. nothing_held (start_of s n) (j / ports) (j % ports) refl)) refl
    (fun_ext (λ l. either (ltb (l % ports) links) Nobody)) (fun_ext (λ d. either (ltb (d % doors_each) ends) Closed))
    (fun_ext (λ l. either (ltb (l % ports) links) Nobody))
    (fun_ext (λ l. ap (λ (q : List ℕ). pick (ltb (l % ports) links) (tokens_of q) []) (line_none (start_of s n) (l / ports) (l % ports) refl)
    ∙ either (ltb (l % ports) links) []))

pub start_seen : (w : World) (c : Call) → anew w c ≡ true → moving (apply w c).next ≡ empty
start_seen = anew_case (λ z. moving z ≡ empty) start_view
