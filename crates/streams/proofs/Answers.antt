-- WHAT CALLS ANSWER, on every state of every run: a Step answers Refused, Split exactly when it reads a whole header of the other width;
-- and no Input answers PAUSE. Assumes nothing.
use Prim.{Unit as Nothing}
use Prim.Native.Nat.{ℕ, ◌/◌, ◌%◌, ◌≤◌, ◌<◌}
use mathlib.Core.Path.{◌≡◌, refl, sym, ap, ◌∙◌}
use mathlib.Core.Bool.{true, false, not}
use mathlib.Core.List.{List}
use native.Mathlib.Omega.{arith}
use lib.Dec.{eqb}
use lib.ListN.{get_or}
use borrow.Author.Tests.{eq-eqb, eqb-true, eqb-false, not-false, not-true}
use Rattle.laws.specs.Pick.{pick}
use Rattle.laws.proofs.All.{also, below, as_is}
use Rattle.laws.proofs.Order.{by_test, clash, never}
use Rattle.names.specs.Size.{nodes, ports, ends}
use Rattle.names.specs.declared.Slot.{Slot}
use Rattle.circuits.specs.declared.Cause.TheVariants.{Split}
use Rattle.tokens.specs.Control.{pause}
use Rattle.tokens.specs.Word.{closes, control_word, value_of, is_control}
use Rattle.tokens.specs.Header.{header_of, is_narrow}
use Rattle.std.specs.Prelude.{Result, is_ok}
use Rattle.names.specs.declared.no.No.{No as Why}
use Rattle.answers.specs.Rows.{checked}
use Rattle.answers.specs.Answered.{Answered, Token, Refused}
use Rattle.answers.proofs.Refusals.{by_check, all_clear}
use Rattle.cells.specs.World.{World}
use Rattle.fresh.specs.Fresh.{start_of}
use Rattle.fresh.specs.declared.Start.{Start}
use Rattle.acts.specs.Acts.{width_at, first_at}
use Rattle.plans.specs.declared.Plan.{Plan}
use Rattle.messages.specs.Register.{fields_of, read_of}
use Rattle.messages.specs.Heard.{message_of}
use Rattle.messages.specs.Write.{accepted, written}
use Rattle.messages.specs.Ended.{obeyed, ended, reply_sent}
use Rattle.messages.specs.declared.heard.Message.{Message}
use Rattle.messages.specs.declared.heard.Message.TheVariants.{Malformed, Wrong, Read, Write}
use Rattle.messages.specs.declared.reply.Reply.{Reply}
use Rattle.messages.specs.declared.reply.Reply.TheVariants.{Nack, Ack, Value}
use Rattle.tokens.specs.declared.header.Target.{Target}
use Rattle.ends.specs.Input.{first_held}
use Rattle.ends.specs.declared.Wanted.TheVariants.{Control}
use Rattle.switch.specs.Step.{port_at, step_performed}
use Rattle.bench.specs.Calls.{Call, Input, Step, rows, apply}
use Rattle.bench.specs.Writes.{hop_closed}
use Rattle.bench.specs.Runs.{run}
use Rattle.bench.proofs.Lasts.{boards, run_keeps}
use Rattle.kept.specs.Kept.{Kept}
use Rattle.kept.proofs.Calls.{start_kept}
use Rattle.kept.proofs.Parts.{kept_sound}
use Rattle.kept.proofs.Calls.{step_there}
use Rattle.kept.proofs.Found.{Found, idle, waits, splits, unrouted, routes, lands_channel, lands_unit, moves, hands, hears, drops, step_found}
use Rattle.plans.specs.Plan.{marked_width}
use Rattle.plans.proofs.Held.{size_some}
use Rattle.acts.specs.Acts.{word_at}
use Rattle.streams.specs.Observer.{misread}
use Rattle.streams.proofs.Misreads.{not_misread, is_misread, goes_on_lem}

-- SPLIT
-- both ways
abbrev Same : Answered → World → ℕ → ℕ → Type 0
Same a w n p = (a ≡ Refused Split → misread w n p ≡ true) × (misread w n p ≡ true → a ≡ Refused Split)

neither : {a : Answered} (w : World) (n p : ℕ) → (a ≡ Refused Split → ⊥) → misread w n p ≡ false → Same a w n p
neither w n p other e = (λ z. absurd (other z), λ z. clash (sym z ∙ e))

-- a message's end is answered by Moved, Unheard or Malformed
reply_answers : (w : World) (n : ℕ) (g : Target) (x : Reply) → (reply_sent w n g x).answer ≡ Refused Split → ⊥
reply_answers w n g x =
    by_test (is_narrow (header_of g (width_at w.net n))) (λ e. rw e (λ z. never (cc))) (λ e. rw e (λ z. never (cc)))

obey_answers : (w : World) (n : ℕ) (m : Message) → (obeyed w n m).answer ≡ Refused Split → ⊥
obey_answers w n Malformed z = never (cc)
obey_answers w n (Wrong g) z = reply_answers w n g Nack z
obey_answers w n (Read g r) z = reply_answers w n g (Value (read_of w.net n r)) z
obey_answers w n (Write g r v) z =
    reply_answers (written w n (fields_of r v)) n g (pick (accepted w n (fields_of r v)) Ack Nack) z

module _ (w : World) (n p : ℕ) (hn : n < w.net.nodes) (hp : p < ports) where
  found_answers : {x : Plan} → Found w n p x → Same (step_performed w n p x).answer w n p
  unfolding ended
  found_answers (idle none) =
      neither w n p (λ z. never (cc))
      (not_misread w n p (λ shut whole. absurd (omega (arith, size_some (marked_width (word_at w n p 0)), whole, none))))
  found_answers (waits unsplit) = neither w n p (λ z. never (cc)) (not_misread w n p unsplit)
  found_answers (splits z f) = (λ e. is_misread w n p hn hp z f, λ e. refl)
  found_answers (unrouted z) = neither w n p (λ e. never (cc)) (not_misread w n p (λ shut whole. z.fits))
  found_answers (routes z l hl free on) = neither w n p (λ e. never (cc)) (not_misread w n p (λ shut whole. z.fits))
  found_answers (lands_channel z m c t named door there tile claim) =
      neither w n p (λ e. never (cc)) (not_misread w n p (λ shut whole. z.legible.fits))
  found_answers (lands_unit z m named free empty) =
      neither w n p (λ e. never (cc)) (not_misread w n p (λ shut whole. z.legible.fits))
  found_answers (moves l z m j leads credit) =
      neither w n p (λ e. never (cc)) (not_misread w n p (goes_on_lem w n p z.goes (λ e. never (cc))))
  found_answers (hands c t z given) = neither w n p (λ e. never (cc)) (not_misread w n p (goes_on_lem w n p z.goes (λ e. never (cc))))
  found_answers (hears z) =
      neither w n p
      (by_test (closes (first_at w n p))
      (λ e. rw e (obey_answers (hop_closed w n p) n (message_of ((hop_closed w n p).net.units.hearings n 0) (first_at w n p))))
      (λ e. rw e (λ z. never (cc))))
      (not_misread w n p (goes_on_lem w n p z.goes (λ e. never (cc))))
  found_answers (drops x z) = neither w n p (λ e. never (cc)) (not_misread w n p (goes_on_lem w n p z.goes (λ e. never (cc))))

-- "Step answers Refused, Split exactly then"
pub step_splits : (w : World) → Kept w → (a : Slot) (p : ℕ)
    → ((apply w (Step a p)).answer ≡ Refused Split → misread w a.0 p ≡ true)
    × (misread w a.0 p ≡ true → (apply w (Step a p)).answer ≡ Refused Split)
unfolding apply
step_splits w k a p =
    by_check (checked (rows w (Step a p)))
    (λ t.
    let there = step_there w a.0 p (all_clear (rows w (Step a p)) t).1 in
    rw t (found_answers w a.0 p there.0 there.1 (step_found w k a.0 p there.0 there.1)))
    (λ j t. rw t (neither w a.0 p (λ z. never (cc)) (by_test (port_at w.net a.0 p)
    (λ u. clash (ap (λ (r : Result Nothing Why). is_ok r) (rw ((kept_sound w k).0, u) at t)))
    (λ u. rw u))))

-- PAUSE
-- a word that a channel-end holds is not PAUSE
not_pause : (t : ℕ) → t < 0x1C2 → eqb t (control_word pause) ≡ false → is_control t ≡ true → value_of t ≡ pause → ⊥
not_pause t small other control value =
    eqb-false t (control_word pause) other (let c = eqb-true (t / 256 % 2) 1 control in omega (arith, small, c, value))

-- the i-th token that a channel-end holds
module _ (w : World) (k : Kept w) (n e : ℕ) (hn : n < w.net.nodes) (he : e < ends) where
  pub held_legal : (i : ℕ) → i < (w.net.ends.buffers n e).held
      → (get_or (w.net.ends.buffers n e).tokens i 0 < 0x1C2) × (eqb (get_or (w.net.ends.buffers n e).tokens i 0) (control_word pause) ≡ false)
  held_legal i l =
      let x = get_or (w.net.ends.buffers n e).tokens i 0 in
      let parts = (also (below x 0x1C2) (also (as_is (not (eqb x (control_word pause)))) (as_is true))).sure ((k.buffers n e hn he).1 i l) in
      (parts.0, not-true _ parts.1.0)

pub input_answers : (w : World) → Kept w → (a : Slot) (c : ℕ) → (apply w (Input a c Control)).answer ≡ Token pause → ⊥
unfolding apply
input_answers w k a c =
    by_check (checked (rows w (Input a c Control)))
    (λ t.
    let (ok, (some, (wanted, rest))) = (all_clear (rows w (Input a c Control)) t).1 in
    let there = (also (below a.0 w.net.nodes) (below c ends)).sure (not-false _ ok) in
    let b = w.net.ends.buffers a.0 c in
    let held = eqb-false b.held 0 some in
    let legal = held_legal w k a.0 c there.0 there.1 0 (omega arith) in
    rw t (λ e. not_pause (first_held b) legal.0 legal.1 (not-false _ wanted) (cc)))
    (λ j t. rw t (λ e. never (cc)))

-- of every state of every run
module _ (s : Start) (n : ℕ) (some : 1 ≤ n) (few : n ≤ nodes) (cs : List Call) where
  kept : Kept (run (start_of s n) cs).last
  kept = run_keeps cs (start_of s n) (start_kept s n some few)

  -- "no Input of any run answers control 2"
  pub never_pause : (a : Slot) (c : ℕ) → (apply (run (start_of s n) cs).last (Input a c Control)).answer ≡ Token pause → ⊥
  never_pause = input_answers (run (start_of s n) cs).last kept

  -- "PAUSE is never stored in a channel-end"
  pub never_held : (m e i : ℕ) → m < n → e < ends
      → i < ((run (start_of s n) cs).last.net.ends.buffers m e).held
      → get_or ((run (start_of s n) cs).last.net.ends.buffers m e).tokens i 0 ≡ control_word pause
      → ⊥
  never_held m e i hm he l z =
      let w = (run (start_of s n) cs).last in
      let other = (held_legal w kept m e (rw (boards s n cs) hm) he i l).1 in
      clash (sym (eq-eqb (get_or (w.net.ends.buffers m e).tokens i 0) (control_word pause) z) ∙ other)

  pub always_splits : (a : Slot) (p : ℕ)
      → ((apply (run (start_of s n) cs).last (Step a p)).answer ≡ Refused Split → misread (run (start_of s n) cs).last a.0 p ≡ true)
      × (misread (run (start_of s n) cs).last a.0 p ≡ true → (apply (run (start_of s n) cs).last (Step a p)).answer ≡ Refused Split)
  always_splits = step_splits (run (start_of s n) cs).last kept
