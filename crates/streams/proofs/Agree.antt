-- THE OBSERVER WRITES WHAT THE EVENTS ARE: for each call, what he writes who sees the state before it, the call and its answer, is what the
-- proof's observer notes of its events. Assumes nothing.
use Prim.Native.Nat.{ℕ}
use mathlib.Core.Path.{◌≡◌, refl, sym, ◌∙◌}
use mathlib.Core.Bool.{false}
use mathlib.Core.List.{List, [], ◌∷◌, ◌++◌}
use lib.ListN.{take}
use Rattle.laws.specs.Pick.{pick}
use Rattle.laws.proofs.Order.{by_test, clash}
use Rattle.names.specs.Size.{reply_port}
use Rattle.names.specs.declared.NodeNumber.{NodeNumber}
use Rattle.circuits.specs.Circuit.{peer_of}
use Rattle.circuits.specs.declared.Hop.TheVariants as Hops
use Rattle.tokens.specs.Control.{end}
use Rattle.tokens.specs.Word.{closes, control_word}
use Rattle.tokens.specs.Header.{header_of, is_narrow}
use Rattle.tokens.specs.declared.header.Target.{Target}
use Rattle.tokens.specs.declared.header.Target.TheVariants.{Channel, Unit}
use Rattle.routing.specs.Way.{way_to, Way, ThisNode, OtherNode}
use Rattle.names.specs.declared.no.No.{No as Why}
use Rattle.answers.specs.Rows.{checked, Passes}
use Rattle.answers.specs.Answered.{Answered}
use Rattle.answers.specs.Answered as Answers
use Rattle.answers.proofs.Refusals.{some_back, by_check, all_clear}
use Rattle.cells.specs.World.{World, far_of, queue, Far, Nowhere, At}
use Rattle.acts.specs.Acts.{width_at, number_at, first_at}
use Rattle.lines.specs.Load.{is_token}
use Rattle.travel.specs.Travel.{first_on, line_empty, came_by, line_came}
use Rattle.plans.specs.Plan.{size_of}
use Rattle.plans.specs.declared.Plan as Steps
use Rattle.plans.specs.declared.Plan.TheVariants.{Hear}
use Rattle.messages.specs.Register.{fields_of, read_of}
use Rattle.messages.specs.Heard.{message_of}
use Rattle.messages.specs.Write.{accepted, written}
use Rattle.messages.specs.Ended.{said, reply_sent, obeyed, ended}
use Rattle.messages.specs.declared.heard.Message.{Message}
use Rattle.messages.specs.declared.heard.Message.TheVariants.{Malformed, Wrong, Read, Write}
use Rattle.messages.specs.declared.reply.Reply.{Reply}
use Rattle.messages.specs.declared.reply.Reply.TheVariants.{Nack, Ack, Value}
use Rattle.ends.specs.Plan.{target_of}
use Rattle.ends.specs.Output.{word_of, is_narrow_plan, is_full_plan}
use Rattle.ends.specs.declared.plan.Plan as Sents
use Rattle.switch.specs.Step.{step_performed}
use Rattle.bench.specs.Calls.{Call, Begin, Wire, Set, Aim, Output, Input, Step, Line, Steps, came_answer, rows, made, apply}
use Rattle.bench.specs.Writes.{hop_closed}
use Rattle.kept.specs.Kept.{Kept}
use Rattle.kept.proofs.Found.{Ours, Going, Found, idle, waits, splits, unrouted, routes, lands_channel, lands_unit, step_found}
use Rattle.kept.proofs.Found.{moves, hands, hears, drops}
use Rattle.kept.proofs.Chosen as Chosen
use Rattle.kept.proofs.Calls.{output_sender, step_there}
use Rattle.streams.specs.Model.{Place, ToChannel, ToUnit, port_no, door_no, unit_door, Books, Notes}
use Rattle.streams.specs.Events.{Opens, Lands, Hands, Ghost, books_of, note, notes}
use Rattle.streams.specs.Observer.{put_all, landed, write_through, write_way, write_first, write_output}
use Rattle.streams.specs.Observer.{write_reply, write_obeyed, write_step, write_line, write, anew}
use Rattle.streams.proofs.Fronts.{reads}
use Rattle.streams.proofs.Sends.{put_each}
use Rattle.streams.proofs.Noted.{AimsNoted}
use Rattle.streams.proofs.Calls.{reply_events, obey_events, step_events, line_events, output_events, made_events, events_of}
use Rattle.streams.proofs.Calls.{is_list, no_event, is_event}

-- tokens put one by one
puts_noted : (ts : List ℕ) (e d : ℕ) (g : Ghost) → books_of (notes (put_each e d ts) g) ≡ put_all e d ts (books_of g)
unfolding note
puts_noted [] e d g = refl
puts_noted (t ∷ ts) e d g = puts_noted ts e d _

-- OUTPUT
module _ (w : World) (n c t : ℕ) where
  first_away : (g : Target) (k : Books) → Chosen.Away w n g → write_first w n c t g k ≡ write_through w n c g t k
  first_away (Channel m d) k away = go (way_to (width_at w.net n) m (number_at w.net n)) away
    where
      go : (y : Way) → (y ≡ ThisNode → ⊥) → write_way w n c (Channel m d) d t y k ≡ write_through w n c (Channel m d) t k
      go ThisNode far = absurd (far refl)
      go (OtherNode b) far = refl
  first_away (Unit m) k away = refl

  first_here : (g : Target) (m : NodeNumber) (d : ℕ) (k : Books) → g ≡ Channel m d
      → way_to (width_at w.net n) m (number_at w.net n) ≡ ThisNode
      → write_first w n c t g k ≡ write_way w n c g d t ThisNode k
  first_here g m d k named here = rw (named, here)

  output_agrees : (g : Ghost) {x : Sents.Plan} → Chosen.Found w n c t x → is_narrow_plan x ≡ false → is_full_plan x ≡ false
      → write_output w n c (target_of (w.net.ends.aims n c)) t (peer_of (w.net.ends.sendings n c)) (books_of g)
      ≡ books_of (notes (output_events w n c (target_of (w.net.ends.aims n c)) t x) g)
  unfolding note
  output_agrees g Chosen.narrow e f = clash e
  output_agrees g Chosen.full e f = clash f
  output_agrees g (Chosen.opens z away free) e f = rw z.shut (first_away (target_of (w.net.ends.aims n c)) (books_of g) away)
  output_agrees g (Chosen.behind p goes room) e f = rw goes
  output_agrees g (Chosen.starts z m d named here unclaimed given) e f =
      rw z.shut (first_here (target_of (w.net.ends.aims n c)) m d (books_of g) named here)
  output_agrees g (Chosen.goes_on d goes given) e f = rw goes

-- A MESSAGE AT ITS END, by its answer
module _ (w : World) (n : ℕ) (k : Ghost) (write : Answered → Books) (unheard : write Answers.Unheard ≡ books_of k) where
  reply_agrees : (g : Target) (x : Reply) → write Answers.Moved ≡ write_reply w n g x (books_of k)
      → write (reply_sent w n g x).answer ≡ books_of (notes (reply_events w n g x) k)
  unfolding note
  reply_agrees g x sent =
      let e = door_no n unit_door in
      let d = port_no n reply_port in
      let y = width_at w.net n in
      by_test (is_narrow (header_of g y))
      (λ z. rw z unheard)
      (λ z. rw z (sent ∙ sym (puts_noted (said x ++ (control_word end ∷ [])) e d (note (Opens e d y g) k))))

obey_agrees : (w : World) (n : ℕ) (m : Message) (k : Ghost) (write : Answered → Books)
    → write Answers.Malformed ≡ books_of k
    → write Answers.Unheard ≡ books_of k
    → write Answers.Moved ≡ write_obeyed w n m (books_of k)
    → write (obeyed w n m).answer ≡ books_of (notes (obey_events w n m) k)
obey_agrees w n Malformed k write malformed unheard sent = malformed
obey_agrees w n (Wrong g) k write malformed unheard sent = reply_agrees w n k write unheard g Nack sent
obey_agrees w n (Read g r) k write malformed unheard sent = reply_agrees w n k write unheard g (Value (read_of w.net n r)) sent
obey_agrees w n (Write g r v) k write malformed unheard sent =
    let xs = fields_of r v in
    reply_agrees (written w n xs) n k write unheard g (pick (accepted w n xs) Ack Nack) sent

-- STEP
module _ (w : World) (k : Kept w) (n p : ℕ) (g : Ghost) where
  abbrev Agrees : Steps.Plan → Type 0
  Agrees x = write_step w n p (step_performed w n p x).answer (books_of g) ≡ books_of (notes (step_events w n p x) g)

  hear_agrees : Going w n p Hops.Unit → Agrees Hear
  unfolding note ended
  hear_agrees z =
      by_test (closes (first_at w n p))
      (λ e.
      let y = hop_closed w n p in
      rw e (obey_agrees y n (message_of (y.net.units.hearings n 0) (first_at w n p)) (note (Hands (port_no n p) ToUnit (first_at w n p)) g)
      (λ a. write_step w n p a (books_of g)) refl refl (rw (z.goes, e))))
      (λ e. rw (e, z.goes, e))

  lands_agrees : Ours w n p → (a : Place)
      → let x = width_at w.net n in
      let own = number_at w.net n in
      landed (port_no n p) (size_of x) own (books_of g) ≡ books_of (note (Lands (port_no n p) x (take (size_of x) (queue w n p)) a own) g)
  unfolding note
  lands_agrees z a = rw (reads w k n p z.legible.headed z.legible).size

  step_agrees : {x : Steps.Plan} → Found w n p x → Agrees x
  unfolding note
  step_agrees (idle none) = refl
  step_agrees (waits unsplit) = refl
  step_agrees (splits z f) = refl
  step_agrees (unrouted z) = refl
  step_agrees (routes z l hl free on) = refl
  step_agrees (lands_channel z m c t named door there tile claim) = lands_agrees z (ToChannel c)
  step_agrees (lands_unit z m named free empty) = lands_agrees z ToUnit
  step_agrees (moves l z m j leads credit) = rw z.goes
  step_agrees (hands c t z given) = rw z.goes
  step_agrees (hears z) = hear_agrees z
  step_agrees (drops x z) = refl

-- A LINE STEP: he sees by the word what it is
line_agrees : (w : World) (n l : ℕ) (g : Ghost)
    → write_line w n l (came_answer (line_came w n l)) (books_of g)
    ≡ books_of (notes (line_events w n l (far_of (w.net.links.cables n l))) g)
unfolding note line_came
line_agrees w n l g = by_far (far_of (w.net.links.cables n l)) refl
  where
    by_far : (f : Far) → far_of (w.net.links.cables n l) ≡ f
        → write_line w n l (came_answer (came_by w n l f)) (books_of g) ≡ books_of (notes (line_events w n l f) g)
    by_far Nowhere e = refl
    by_far (At m j) e =
        by_test (line_empty w n l)
        (λ none. rw none)
        (λ some. rw (some, e) (by_test (is_token (first_on w n l)) (λ t. rw t) (λ t. rw t)))

-- EVERY CALL; a channel-end that is aimed is aimed where the notes say
module _ (w : World) (k : Kept w) (g : Ghost) (o : Notes) (aims : AimsNoted w o) where
  made_agrees : (c : Call) → Passes (rows w c) → no_event c ≡ false
      → write o w c (made w c).answer (books_of g) ≡ books_of (notes (made_events w c) g)
  unfolding note
  made_agrees (Begin s n) p e = clash e
  made_agrees (Wire a l b j) p e = refl
  made_agrees (Set a x) p e = refl
  made_agrees (Aim a c v y) p e = refl
  made_agrees (Output a c x) p e =
      let s = output_sender w a.0 c x p.1 in
      let plan = p.1.1.1.1.1 in
      rw (aims a.0 c s.end s.aimed)
      (output_agrees w a.0 c (word_of x) g (Chosen.output_found w k a.0 c (word_of x) s) plan.0 plan.1.0)
  made_agrees (Input a c x) p e = refl
  made_agrees (Step a p) q e =
      let there = step_there w a.0 p q.1 in
      step_agrees w k a.0 p g (step_found w k a.0 p there.0 there.1)
  made_agrees (Line a l) p e = line_agrees w a.0 l g
  made_agrees (Steps n xs) p e = clash e

  refused_agrees : (c : Call) (r : Why) → write o w c (Answers.No r) (books_of g) ≡ books_of g
  refused_agrees (Begin s n) r = refl
  refused_agrees (Wire a l b j) r = refl
  refused_agrees (Set a x) r = refl
  refused_agrees (Aim a c v y) r = refl
  refused_agrees (Output a c x) r = refl
  refused_agrees (Input a c x) r = refl
  refused_agrees (Step a p) r = refl
  refused_agrees (Line a l) r = refl
  refused_agrees (Steps n xs) r = refl

  pub call_agrees : (c : Call) → is_list c ≡ false → anew w c ≡ false
      → write o w c (apply w c).answer (books_of g) ≡ books_of (notes (events_of w c) g)
  unfolding apply
  call_agrees c l e =
      by_check (checked (rows w c))
      (λ t. rw t (made_agrees c (all_clear (rows w c) t) (is_event w c l (rw t refl) e)))
      (λ j t. rw (t, some_back j) (refused_agrees c j))
