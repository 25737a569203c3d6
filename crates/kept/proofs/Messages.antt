-- What becomes of a message at its end keeps all that is kept: it is obeyed, all its Sets or none, and replied to by port 12, which is
-- empty. Assumes nothing.
use Prim.{Unit, tt}
use Prim.Native.Nat.{ℕ, ◌<◌}
use mathlib.Core.Path.{◌≡◌, ap, ◌∙◌}
use mathlib.Core.Bool.{true, ◌&&◌}
use mathlib.Core.List.{List}
use mathlib.Core.Logic.{⊎_elim}
use native.Mathlib.Omega.{arith}
use lib.Dec.{leb}
use Rattle.laws.specs.Pick.{pick}
use Rattle.laws.proofs.All.{also, as_is}
use Rattle.laws.proofs.Order.{by_test}
use Rattle.names.specs.Size.{numbers, reply_port}
use Rattle.tokens.specs.Word.{value_of, is_pause}
use Rattle.tokens.specs.Shape.{legal_channel}
use Rattle.tokens.specs.Header.{header_of, is_narrow, legal_target}
use Rattle.tokens.specs.declared.header.Target.{Target}
use Rattle.tokens.proofs.Channels.{legal_channel_lem}
use Rattle.cells.specs.View.{PortTables, UnitTables}
use Rattle.cells.specs.World.{World}
use Rattle.cells.specs.declared.unit.Hearing.{Hearing}
use Rattle.acts.specs.Acts.{width_at}
use Rattle.plans.specs.Plan.{number_in}
use Rattle.settings.specs.declared.Setting.{Setting}
use Rattle.messages.specs.Register.{register_of, is_known, fields_of, read_of}
use Rattle.messages.specs.Heard.{token, two, two_data, is_command, has_reply, reply_to, is_write, is_read, order_of, message_of}
use Rattle.messages.specs.Write.{accepted, written}
use Rattle.messages.specs.Ended.{reply_sent, obeyed, ended}
use Rattle.messages.specs.declared.heard.Message.{Message}
use Rattle.messages.specs.declared.heard.Message.TheVariants.{Malformed, Wrong, Read, Write}
use Rattle.messages.specs.declared.register.Register.{Register}
use Rattle.messages.specs.declared.reply.Reply.{Reply}
use Rattle.messages.specs.declared.reply.Reply.TheVariants.{Nack, Ack, Value}
use Rattle.messages.proofs.Writes.{write_leaves}
use Rattle.kept.specs.Kept.{Kept}
use Rattle.kept.proofs.Sets.{keep_written}
use Rattle.kept.proofs.Outputs.{keep_reply}

-- a reply address that a header can have
abbrev pub Address : Target → Type 0
Address g = ((number_in g).0 < numbers) × (legal_target g ≡ true)

-- every message that is replied to has one
abbrev pub Replied : Message → Type 0
Replied Malformed = Unit
Replied (Wrong g) = Address g
Replied (Read g r) = Address g
Replied (Write g r v) = Address g

addressed : (h : Hearing) → has_reply h ≡ true → Address (reply_to h)
addressed h e =
    let reply = also (as_is (two_data h 1)) (as_is (legal_channel (token h 3))) in
    let z = (also (as_is (leb 4 h.heard)) (also (as_is (is_command (token h 0))) reply)).sure e in
    (omega arith, byte (token h 3) z.1.1.1)
  where
    byte : (c : ℕ) → legal_channel c ≡ true → legal_channel (value_of c) ≡ true
    byte c l = let small : value_of c ≡ c = ⊎_elim (λ h. omega arith) (λ h. omega arith) ((legal_channel_lem c).sure l) in rw small l

ordered : (h : Hearing) (g : Target) (r : Register) → Address g → Replied (order_of h g r)
ordered h g r a =
    by_test (is_write h && is_known r)
    (λ e. rw e a)
    (λ e. rw e (by_test (is_read h && is_known r) (λ f. rw f a) (λ f. rw f a)))

pub replied : (h : Hearing) (x : ℕ) → Replied (message_of h x)
unfolding message_of
replied h x =
    by_test (is_pause x)
    (λ e. rw e tt)
    (λ e. rw e (by_test (has_reply h)
    (λ f. rw f (ordered h (reply_to h) (register_of (two h 4)) (addressed h f)))
    (λ f. rw f tt)))

-- a control unit that is free, with nothing in port 12
pub record Ready (w : World) (n : ℕ) : Type 0 where
  pub node : n < w.net.nodes
  pub free : (w.net.units.serving n 0).kind ≡ 0
  pub empty : (w.net.ports.counters n reply_port).held ≡ 0

module _ (w : World) (k : Kept w) (n : ℕ) (z : Ready w n) where
  keep_sent : (g : Target) → Address g → (x : Reply) → Kept (reply_sent w n g x).next
  keep_sent g a x =
      by_test (is_narrow (header_of g (width_at w.net n)))
      (λ e. rw e k)
      (λ e. rw e (keep_reply w k n g (width_at w.net n) x z.node z.empty z.free a.0 a.1 e))

-- what a message writes leaves the unit free and port 12 empty
pub ready_written : (w : World) (n : ℕ) → Ready w n → (xs : List Setting) → Ready (written w n xs) n
ready_written w n z xs =
    let same = write_leaves w n xs in
    record {
      node = rw same.nodes z.node;
      free = ap (λ (t : UnitTables). (t.serving n 0).kind) same.units ∙ z.free;
      empty = ap (λ (t : PortTables). (t.counters n reply_port).held) same.ports ∙ z.empty;
    }

keep_obeyed : (w : World) → Kept w → (n : ℕ) → Ready w n → (m : Message) → Replied m → Kept (obeyed w n m).next
keep_obeyed w k n z Malformed a = k
keep_obeyed w k n z (Wrong g) a = keep_sent w k n z g a Nack
keep_obeyed w k n z (Read g r) a = keep_sent w k n z g a (Value (read_of w.net n r))
keep_obeyed w k n z (Write g r v) a =
    let xs = fields_of r v in
    keep_sent (written w n xs) (keep_written w k n xs) n (ready_written w n z xs) g a (pick (accepted w n xs) Ack Nack)

pub keep_ended : (w : World) → Kept w → (n : ℕ) → Ready w n → (x : ℕ) → Kept (ended w n x).next
unfolding ended
keep_ended w k n z x =
    keep_obeyed w k n z (message_of (w.net.units.hearings n 0) x) (replied (w.net.units.hearings n 0) x)
