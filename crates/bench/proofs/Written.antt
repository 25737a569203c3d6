-- "What a message writes equals the same Sets made by call", on every state that is kept: none of these calls is refused where the write is
-- accepted, they leave what it leaves, and the Step that ends the message answers and replies from there. A write that is refused writes
-- nothing. Assumes nothing.
use Prim.{tt}
use Prim.Native.Nat.{ℕ}
use mathlib.Core.Path.{◌≡◌, refl, sym, ap, ◌∙◌}
use mathlib.Core.Bool.{true, false}
use mathlib.Core.List.{List, [], ◌∷◌, map}
use native.Mathlib.Omega.{arith}
use borrow.Author.Tests.{lt-ltb, ne_eqb}
use Rattle.laws.specs.All.{Means}
use Rattle.laws.proofs.All.{also, equal}
use Rattle.names.specs.Size.{ports}
use Rattle.names.specs.No.{passes}
use Rattle.names.specs.declared.Slot.{Slot}
use Rattle.tokens.specs.declared.header.Target.{Target}
use Rattle.answers.specs.Answer.{number_of}
use Rattle.answers.specs.Out.{Out}
use Rattle.answers.proofs.Refusals.{certain}
use Rattle.cells.specs.View.{Net}
use Rattle.cells.specs.World.{World}
use Rattle.cells.specs.declared.unit.Hearing.{Hearing}
use Rattle.acts.specs.Acts.{first_at}
use Rattle.settings.specs.Set.{set_rows, set_call}
use Rattle.settings.specs.declared.Setting.{Setting}
use Rattle.messages.specs.Register.{fields_of}
use Rattle.messages.specs.Heard.{message_of}
use Rattle.messages.specs.Write.{accepted, made_all, written}
use Rattle.messages.specs.Ended.{reply_sent, obeyed, ended}
use Rattle.messages.specs.declared.heard.Message.TheVariants.{Write}
use Rattle.messages.specs.declared.register.Register.{Register}
use Rattle.messages.specs.declared.reply.Reply.TheVariants.{Nack, Ack}
use Rattle.messages.proofs.Reading.{as_sets, as_before}
use Rattle.plans.specs.Plan.{step_plan}
use Rattle.switch.specs.Step.{step_made}
use Rattle.kept.specs.Kept.{Kept}
use Rattle.kept.proofs.Parts.{kept_sound}
use Rattle.kept.proofs.Sets.{keep_set}
use Rattle.kept.proofs.Rooms.{kept_holds}
use Rattle.kept.proofs.Leaves.{taken_is}
use Rattle.kept.proofs.Hears.{keep_freed}
use Rattle.bench.specs.Calls.{Set, Step, apply}
use Rattle.bench.specs.Runs.{run}
use Rattle.bench.specs.Writes.{NoneRefused, EndsWrite, hop_closed}
use Rattle.bench.proofs.Lifted.{on_world}

-- SETS BY CALL
one_call : (w : World) → Kept w → (a : Slot) (x : Setting) → apply w (Set a x) ≡ set_call w a.0 x
unfolding set_call
one_call w k a x = sym (on_world w (Set a x) (set_rows w a.0 x) refl (kept_sound w k).0 (set_call w a.0 x) refl)

by_calls : (xs : List Setting) (w : World) → Kept w → (a : Slot) → (run w (map (Set a) xs)).last ≡ made_all w a.0 xs
by_calls [] w k a = refl
by_calls (x ∷ xs) w k a =
    ap (λ (o : Out World). (run o.next (map (Set a) xs)).last) (one_call w k a x)
    ∙ by_calls xs (set_call w a.0 x).next (keep_set w k a.0 x) a

-- a write is accepted exactly where none of them is refused
pub none_refused : (xs : List Setting) (w : World) → Kept w → (a : Slot)
    → Means (accepted w a.0 xs) (NoneRefused (run w (map (Set a) xs)))
none_refused [] w k a = certain true refl tt
none_refused (x ∷ xs) w k a =
    let o = set_call w a.0 x in
    rw (one_call w k a x)
    (also (equal (number_of o.answer) passes) (none_refused xs o.next (keep_set w k a.0 x) a))

pub writes_as_sets : (w : World) → Kept w → (a : Slot) (xs : List Setting) → accepted w a.0 xs ≡ true
    → (run w (map (Set a) xs)).last ≡ written w a.0 xs
writes_as_sets w k a xs e = by_calls xs w k a ∙ sym (as_sets w a.0 xs e)

-- THE STEP THAT ENDS THE MESSAGE
module _ (w : World) (k : Kept w) (a : Slot) (p : ℕ) (g : Target) (r : Register) (v : ℕ) (z : EndsWrite w a.0 p g r v) where
  abbrev n : ℕ
  n = a.0

  -- the state that the message is obeyed on
  abbrev y : World
  y = hop_closed w n p

  -- what it sets
  abbrev fields : List Setting
  fields = fields_of r v

  -- the plan is Hear, and what was heard is a write: taking the token and closing the hop leave it as it was
  obeys : step_made w n p ≡ obeyed y n (Write g r v)
  unfolding step_plan ended
  obeys =
      let heard : y.net.units.hearings n 0 ≡ w.net.units.hearings n 0 = ap (λ (s : Net). s.units.hearings n 0) (taken_is w n p) in
      let says : message_of (y.net.units.hearings n 0) (first_at w n p) ≡ Write g r v =
      ap (λ (h : Hearing). message_of h (first_at w n p)) heard ∙ z.says in
      rw (ne_eqb (w.net.ports.counters n p).held 0 (omega (arith, z.held)), z.served, z.last) (ap (obeyed y n) says)

  pub closed_kept : Kept y
  closed_kept = keep_freed w k n p (kept_holds w k n p 1 z.node z.port z.held) z.served z.last

  -- accepted: as those Sets by call leave y, and ACK from there; refused: nothing is written, and NACK
  pub step_writes : accepted y n fields ≡ true → step_made w n p ≡ reply_sent (run y (map (Set a) fields)).last n g Ack
  step_writes e = obeys ∙ rw e (ap (λ (u : World). reply_sent u n g Ack) (sym (writes_as_sets y closed_kept a fields e)))

  pub step_refuses : accepted y n fields ≡ false → step_made w n p ≡ reply_sent y n g Nack
  step_refuses e = obeys ∙ rw (e, as_before y n fields e)

  -- .. by call
  called : apply w (Step a p) ≡ step_made w n p
  unfolding apply
  called = rw ((kept_sound w k).0, lt-ltb n w.net.nodes z.node, lt-ltb p ports z.port)

  pub call_writes : accepted y n fields ≡ true → apply w (Step a p) ≡ reply_sent (run y (map (Set a) fields)).last n g Ack
  call_writes e = called ∙ step_writes e

  pub call_refuses : accepted y n fields ≡ false → apply w (Step a p) ≡ reply_sent y n g Nack
  call_refuses e = called ∙ step_refuses e
