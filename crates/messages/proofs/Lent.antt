-- A message obeyed where all three memories are lent: its Sets touch no port, and its reply touches no line. Assumes nothing.
use Prim.Native.Nat.{ℕ}
use mathlib.Core.Path.{◌≡◌, refl, sym, ap, ◌∙◌}
use mathlib.Core.Bool.{Bool, ◌&&◌}
use mathlib.Core.List.{List, [], ◌∷◌}
use Rattle.laws.specs.Pick.{pick}
use Rattle.laws.proofs.Order.{by_test}
use Rattle.names.specs.Size.{reply_port}
use Rattle.tokens.specs.Control.{end}
use Rattle.tokens.specs.Word.{control_word}
use Rattle.tokens.specs.Header.{header_of, words, is_narrow}
use Rattle.tokens.specs.declared.header.Header.{Header}
use Rattle.tokens.specs.declared.header.Target.{Target}
use Rattle.answers.specs.Out.{Out, out}
use Rattle.answers.specs.Answered.{Answered}
use Rattle.answers.specs.Answered as Answers
use Rattle.cells.specs.View.{Net}
use Rattle.cells.specs.World.{World}
use Rattle.acts.specs.Acts.{width_at, pushed, pushed_all}
use Rattle.travel.proofs.Lent.{with_memory, with_line_memory}
use Rattle.settings.specs.Set.{set_call}
use Rattle.settings.specs.declared.Setting.{Setting}
use Rattle.settings.proofs.Lent.{set_lent}
use Rattle.messages.specs.Register.{fields_of, read_of}
use Rattle.messages.specs.Write.{passes_set, accepted, made_all, written}
use Rattle.messages.specs.Ended.{said, reply_put, reply_sent, obeyed}
use Rattle.messages.specs.declared.heard.Message.{Message}
use Rattle.messages.specs.declared.heard.Message.TheVariants.{Wrong, Read, Write}
use Rattle.messages.specs.declared.register.Register.{Register}
use Rattle.messages.specs.declared.reply.Reply.{Reply}
use Rattle.messages.specs.declared.reply.Reply.TheVariants.{Nack, Ack, Value}

-- A WRITE passes the token memory through
module _ (m : List ℕ) (n : ℕ) where
  pub accepted_lent : (xs : List Setting) (w : World) → accepted (with_memory w m) n xs ≡ accepted w n xs
  accepted_lent [] w = refl
  accepted_lent (x ∷ xs) w =
      rw (set_lent w m n x) (ap (λ (b : Bool). passes_set w n x && b) (accepted_lent xs (set_call w n x).next))

  all_lent : (xs : List Setting) (w : World) → made_all (with_memory w m) n xs ≡ with_memory (made_all w n xs) m
  all_lent [] w = refl
  all_lent (x ∷ xs) w = rw (set_lent w m n x) (all_lent xs (set_call w n x).next)

  pub written_lent : (xs : List Setting) (w : World) → written (with_memory w m) n xs ≡ with_memory (written w n xs) m
  unfolding written
  written_lent xs w =
      ap (λ (b : Bool). pick b (made_all (with_memory w m) n xs) (with_memory w m)) (accepted_lent xs w)
      ∙ by_test (accepted w n xs) (λ e. rw e (all_lent xs w)) (λ e. rw e)

-- A REPLY passes the lines through
module _ (ls : List ℕ) (n : ℕ) where
  words_lent : (ts : List ℕ) (w : World) → pushed_all (with_line_memory w ls) n reply_port ts ≡ with_line_memory (pushed_all w n reply_port ts) ls
  unfolding pushed
  words_lent [] w = refl
  words_lent (t ∷ ts) w = words_lent ts (pushed w n reply_port t)

  put_lent : (w : World) (h : Header) (x : Reply) → reply_put (with_line_memory w ls) n h x ≡ with_line_memory (reply_put w n h x) ls
  unfolding pushed
  put_lent w h x =
      let last : World → World = λ y. pushed y n reply_port (control_word end) in
      ap (λ (y : World). last (pushed_all y n reply_port (said x))) (words_lent (words h) w)
      ∙ ap last (words_lent (said x) (pushed_all w n reply_port (words h)))

  -- what a function did that is lent no line
  pub sent_lent : (w z : World) (a : Answered) (g : Target) (x : Reply) → out a z ≡ reply_sent w n g x
      → out a (with_line_memory z ls) ≡ reply_sent (with_line_memory w ls) n g x
  sent_lent w z a g x e =
      ap (λ (o : Out World). out o.answer (with_line_memory o.next ls)) e
      ∙ by_test (is_narrow (header_of g (width_at w.net n)))
      (λ q. rw q)
      (λ q. rw q (ap (out Answers.Moved) (sym (put_lent w (header_of g (width_at w.net n)) x))))

  -- .. of a message that is wrong, and of one that reads
  pub wrong_lent : (w z : World) (a : Answered) {m : Message} {g : Target} → m ≡ Wrong g → out a z ≡ reply_sent w n g Nack
      → out a (with_line_memory z ls) ≡ obeyed (with_line_memory w ls) n m
  wrong_lent w z a {g = g} d e = rw d (sent_lent w z a g Nack e)

  pub read_lent : (w z : World) (a : Answered) {m : Message} {g : Target} {r : Register} (v : ℕ) → m ≡ Read g r → v ≡ read_of w.net n r
      → out a z ≡ reply_sent w n g (Value v)
      → out a (with_line_memory z ls) ≡ obeyed (with_line_memory w ls) n m
  read_lent w z a {g = g} {r = r} v d q e =
      rw d (sent_lent w z a g (Value v) e ∙ ap (λ (k : ℕ). reply_sent (with_line_memory w ls) n g (Value k)) q)

-- .. and of one that writes: its Sets leave y, and the reply is put into the ports that they left
module _ (s : Net) (m ls : List ℕ) (n : ℕ) where
  abbrev lines : World
  lines = record { net = s; memory = []; line_memory = ls }

  pub write_lent : (y z : World) (a : Answered) (done : Bool) (x : Reply) {k : Message} {g : Target} {r : Register} {v : ℕ} → k ≡ Write g r v
      → (done ≡ accepted lines n (fields_of r v)) × (y ≡ written lines n (fields_of r v))
      → x ≡ pick done Ack Nack
      → out a z ≡ reply_sent (record { net = y.net; memory = m; line_memory = [] }) n g x
      → out a (with_line_memory z y.line_memory) ≡ obeyed (with_memory lines m) n k
  write_lent y z a done x {g = g} {r = r} {v = v} d h q e =
      let xs = fields_of r v in
      let left : with_memory y m ≡ written (with_memory lines m) n xs =
      ap (λ (u : World). with_memory u m) h.1 ∙ sym (written_lent m n xs lines) in
      let told : x ≡ pick (accepted (with_memory lines m) n xs) Ack Nack =
      q ∙ ap (λ (b : Bool). pick b Ack Nack) (h.0 ∙ sym (accepted_lent m n xs lines)) in
      rw d
      (sent_lent y.line_memory n (record { net = y.net; memory = m; line_memory = [] }) z a g x e
      ∙ ap (λ (u : World). reply_sent u n g x) left
      ∙ ap (reply_sent (written (with_memory lines m) n xs) n g) told)
