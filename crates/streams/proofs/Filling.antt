-- A REPLY, as events: a circuit opened through port 12 and tokens put behind its header, all by one door and none with a header's mark.
-- Assumes nothing.
use Prim.{tt}
use Prim.Native.Nat.{ℕ, ◌/◌, ◌%◌}
use mathlib.Core.Path.{◌≡◌, refl}
use mathlib.Core.Bool.{true, false}
use mathlib.Core.List.{List, [], ◌∷◌, ◌++◌}
use native.Mathlib.Omega.{arith}
use borrow.Author.Tests.{ne_eqb}
use Rattle.laws.specs.All.{Each}
use Rattle.laws.specs.Pick.{pick}
use Rattle.laws.proofs.Order.{by_test}
use Rattle.names.specs.Size.{reply_port}
use Rattle.tokens.specs.Control.{end, ack, nack}
use Rattle.tokens.specs.Word.{control_word, is_header}
use Rattle.tokens.specs.Header.{header_of, is_narrow}
use Rattle.tokens.specs.declared.header.Target.{Target}
use Rattle.tokens.specs.declared.header.Width.{Width}
use Rattle.tokens.proofs.Words.{header_back}
use Rattle.cells.specs.World.{World}
use Rattle.acts.specs.Acts.{width_at}
use Rattle.messages.specs.Register.{fields_of, read_of}
use Rattle.messages.specs.Write.{accepted, written}
use Rattle.messages.specs.Ended.{byte, said}
use Rattle.messages.specs.declared.heard.Message.{Message}
use Rattle.messages.specs.declared.heard.Message.TheVariants.{Malformed, Wrong, Read, Write}
use Rattle.messages.specs.declared.reply.Reply.{Reply}
use Rattle.messages.specs.declared.reply.Reply.TheVariants.{Nack, Ack, Value}
use Rattle.streams.specs.Model.{port_no, door_no, unit_door}
use Rattle.streams.specs.Events.{Event, Opens, Puts}
use Rattle.streams.proofs.Basics.{each_append}
use Rattle.streams.proofs.Splits.{Mild}
use Rattle.streams.proofs.Sendings.{put_at, puts_at, Unmarked}
use Rattle.streams.proofs.Handings.{hand_at, hands_at, Elsewhere}
use Rattle.streams.proofs.Sends.{put_each}
use Rattle.streams.proofs.Calls.{reply_events, obey_events}

-- door j fills a port
pub data Fills (j : ℕ) : Event → Type 0 where
  opens : (d : ℕ) (w : Width) (a : Target) → Fills j (Opens j d w a)
  puts : (d t : ℕ) → is_header t ≡ false → Fills j (Puts j d t)

-- A REPLY IS THAT
puts_fill : (ts : List ℕ) (j d : ℕ) → Each (λ t. is_header t ≡ false) ts → Each (Fills j) (put_each j d ts)
puts_fill [] j d h = tt
puts_fill (t ∷ ts) j d (h, hs) = (puts d t h, puts_fill ts j d hs)

said_unmarked : (x : Reply) → Each (λ t. is_header t ≡ false) (said x)
said_unmarked Nack = (header_back nack true false false (omega arith), tt)
said_unmarked Ack = (header_back ack true false false (omega arith), tt)
said_unmarked (Value v) = (header_back ack true false false (omega arith), (plain 0x1000000, (plain 0x10000, (plain 0x100, (plain 1, tt)))))
  where
    plain : (a : ℕ) → is_header (byte a v) ≡ false
    plain a = header_back (v / a % 256) false false false (omega arith)

reply_fills : (w : World) (n : ℕ) (g : Target) (x : Reply) → Each (Fills (door_no n unit_door)) (reply_events w n g x)
reply_fills w n g x =
    by_test (is_narrow (header_of g (width_at w.net n)))
    (λ e. rw e tt)
    (λ e. rw e (
      opens _ _ g,
      puts_fill (said x ++ (control_word end ∷ [])) (door_no n unit_door) (port_no n reply_port)
          (each_append (λ t. is_header t ≡ false) (said x) (control_word end ∷ []) (said_unmarked x)
          (header_back end true false false (omega arith), tt)),
    ))

pub obey_fills : (w : World) (n : ℕ) (m : Message) → Each (Fills (door_no n unit_door)) (obey_events w n m)
obey_fills w n Malformed = tt
obey_fills w n (Wrong g) = reply_fills w n g Nack
obey_fills w n (Read g r) = reply_fills w n g (Value (read_of w.net n r))
obey_fills w n (Write g r v) =
    reply_fills (written w n (fields_of r v)) n g (pick (accepted w n (fields_of r v)) Ack Nack)

-- WHAT FOLLOWS
pub fills_mild : {j : ℕ} {v : Event} → Fills j v → Mild v
fills_mild (opens d w a) = tt
fills_mild (puts d t h) = tt

pub fills_unmarked : {j : ℕ} {v : Event} → Fills j v → Unmarked v
fills_unmarked (opens d w a) = tt
fills_unmarked (puts d t h) = h

pub fills_elsewhere : {j : ℕ} (p : ℕ) {v : Event} → Fills j v → Elsewhere p v
fills_elsewhere p (opens d w a) = tt
fills_elsewhere p (puts d t h) = tt

module _ (j d : ℕ) where
  fill_hands : {v : Event} → Fills j v → hand_at v d ≡ []
  fill_hands (opens c w a) = refl
  fill_hands (puts c t h) = refl

  fill_puts : (j ≡ d → ⊥) → {v : Event} → Fills j v → put_at v d ≡ []
  fill_puts ne (opens c w a) = refl
  fill_puts ne (puts c t h) = rw (ne_eqb j d ne)

  pub fills_hands : (vs : List Event) → Each (Fills j) vs → hands_at vs d ≡ []
  fills_hands [] h = refl
  fills_hands (v ∷ vs) (h, hs) = rw (fill_hands h, fills_hands vs hs)

  pub fills_puts : (j ≡ d → ⊥) → (vs : List Event) → Each (Fills j) vs → puts_at vs d ≡ []
  fills_puts ne [] h = refl
  fills_puts ne (v ∷ vs) (h, hs) = rw (fill_puts ne h, fills_puts ne vs hs)
