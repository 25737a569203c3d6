-- What no token on its way touches: a part of the state that hangs neither on what ports and lines hold nor on credits, and that no Set
-- changes, is as it was once tokens are put, taken, passed over a cable, and once a message is obeyed and answered. Assumes nothing.
use Prim.Native.Nat.{ℕ}
use mathlib.Core.Path.{◌≡◌, refl, ◌∙◌}
use mathlib.Core.List.{List, [], ◌∷◌}
use lib.Dec.{eqb, ltb}
use Rattle.laws.specs.Pick.{pick}
use Rattle.laws.proofs.Order.{by_test}
use Rattle.names.specs.Size.{links, reply_port}
use Rattle.tokens.specs.Header.{header_of, words, is_narrow}
use Rattle.tokens.specs.declared.header.Target.{Target}
use Rattle.tokens.specs.declared.header.Width.{Width}
use Rattle.tokens.specs.declared.header.Width.TheVariants.{One, Three}
use Rattle.ports.specs.Queue.{take_counters}
use Rattle.ports.specs.declared.Counters.{Counters}
use Rattle.lines.specs.Load.{credit_word, is_hello, credit_of}
use Rattle.cells.specs.View.{Net, with_counters, with_flow, with_ring, with_issued}
use Rattle.cells.specs.World.{World, far_of, Far, Nowhere, At}
use Rattle.cells.specs.declared.link.Flow.{Flow}
use Rattle.acts.specs.Acts.{with_net, width_at, pushed, pushed_all, popped}
use Rattle.travel.specs.Travel.{put_on, taken_off, first_on, grant_due, issued_more, grants_back, paid_one, sends_on, token_in, greets}
use Rattle.travel.specs.Travel.{line_empty, left_by, line_stepped}
use Rattle.settings.proofs.Leaves.{Leaves}
use Rattle.messages.specs.Register.{fields_of, read_of}
use Rattle.messages.specs.Heard.{message_of}
use Rattle.messages.specs.Write.{accepted, written}
use Rattle.messages.specs.Ended.{said, reply_sent, obeyed, ended}
use Rattle.messages.specs.declared.heard.Message.{Message}
use Rattle.messages.specs.declared.heard.Message.TheVariants.{Malformed, Wrong, Read, Write}
use Rattle.messages.specs.declared.reply.Reply.{Reply}
use Rattle.messages.specs.declared.reply.Reply.TheVariants.{Nack, Ack, Value}
use Rattle.messages.proofs.Writes.{write_leaves}
use Rattle.moves.specs.Moves.{took, stripped}

-- such a part
pub record Untouched {A : Type 0} (f : Net → A) : Type 0 where
  pub counters : (s : Net) (n p : ℕ) (q : Counters) → f (with_counters s n p q) ≡ f s
  pub flows : (s : Net) (n l : ℕ) (k : Flow) → f (with_flow s n l k) ≡ f s
  pub rings : (s : Net) (n l : ℕ) (c : Counters) → f (with_ring s n l c) ≡ f s
  pub issued : (s : Net) (n l i : ℕ) → f (with_issued s n l i) ≡ f s
  pub settings : (w z : World) → Leaves w z → f z.net ≡ f w.net

module _ {A : Type 0} (f : Net → A) (u : Untouched f) where
  -- PUT
  pub put_leaves : (w : World) (n p t : ℕ) → f (pushed w n p t).net ≡ f w.net
  unfolding pushed
  put_leaves w n p t = u.counters w.net n p _

  pub all_leave : (ts : List ℕ) (w : World) (n p : ℕ) → f (pushed_all w n p ts).net ≡ f w.net
  all_leave [] w n p = refl
  all_leave (t ∷ ts) w n p = all_leave ts (pushed w n p t) n p ∙ put_leaves w n p t

  -- ON A LINE, and off it
  on_leaves : (w : World) (n l x : ℕ) → f (put_on w n l x).net ≡ f w.net
  unfolding put_on
  on_leaves w n l x = u.rings w.net n l _

  -- TAKEN, with a grant
  pub grant_leaves : (w : World) (n p : ℕ) → f (grants_back w n p).net ≡ f w.net
  unfolding grants_back
  grant_leaves w n p =
      let g = grant_due w n p in
      by_test (eqb g 0)
      (λ e. rw e)
      (λ e. rw e (on_leaves (with_net w (issued_more w.net n p g)) n p (credit_word g) ∙ u.issued w.net n p _))

  pub took_leaves : (w : World) (n p : ℕ) → f (took w n p).net ≡ f w.net
  unfolding took popped
  took_leaves w n p =
      let less = u.counters w.net n p (take_counters (w.net.ports.counters n p)) in
      by_test (ltb p links) (λ e. rw e (grant_leaves (popped w n p) n p ∙ less)) (λ e. rw e less)

  pub strip_leaves : (w : World) (n p : ℕ) (x : Width) → f (stripped w n p x).net ≡ f w.net
  strip_leaves w n p One = took_leaves w n p
  strip_leaves w n p Three = took_leaves (took (took w n p) n p) n p ∙ took_leaves (took w n p) n p ∙ took_leaves w n p

  -- OVER A CABLE
  pub send_leaves : (w : World) (n l t : ℕ) → f (sends_on w n l t).net ≡ f w.net
  send_leaves w n l t = on_leaves (with_net w (paid_one w.net n l)) n l t ∙ u.flows w.net n l _

  arrival_leaves : (w : World) (n l : ℕ) (x : Far) → f (left_by w n l x).net ≡ f w.net
  unfolding taken_off
  arrival_leaves w n l Nowhere = refl
  arrival_leaves w n l (At m k) =
      let y = taken_off w n l in
      let x = first_on w n l in
      let off : f y.net ≡ f w.net = u.rings w.net n l _ in
      by_test (line_empty w n l)
      (λ e. rw e)
      (λ e. rw e (by_test (is_hello x)
      (λ d. rw d (grant_leaves (greets y n l m.0 k) m.0 k ∙ u.issued _ m.0 k _ ∙ u.flows _ n l _ ∙ off))
      (λ d. rw d (by_test (eqb (credit_of x) 0)
      (λ g. rw g (grant_leaves (token_in y m.0 k x) m.0 k ∙ u.issued _ m.0 k _ ∙ put_leaves y m.0 k x ∙ off))
      (λ g. rw g (u.flows _ m.0 k _ ∙ off))))))

  pub line_leaves : (w : World) (n l : ℕ) → f (line_stepped w n l).net ≡ f w.net
  unfolding line_stepped
  line_leaves w n l = arrival_leaves w n l (far_of (w.net.links.cables n l))

  -- A MESSAGE AT ITS END
  answer_leaves : (w : World) (n : ℕ) (g : Target) (x : Reply) → f (reply_sent w n g x).next.net ≡ f w.net
  answer_leaves w n g x =
      let h = header_of g (width_at w.net n) in
      by_test (is_narrow h)
      (λ e. rw e)
      (λ e. rw e (put_leaves _ n reply_port _
      ∙ all_leave (said x) (pushed_all w n reply_port (words h)) n reply_port
      ∙ all_leave (words h) w n reply_port))

  pub obeyed_leaves : (w : World) (n : ℕ) (m : Message) → f (obeyed w n m).next.net ≡ f w.net
  obeyed_leaves w n Malformed = refl
  obeyed_leaves w n (Wrong g) = answer_leaves w n g Nack
  obeyed_leaves w n (Read g r) = answer_leaves w n g (Value (read_of w.net n r))
  obeyed_leaves w n (Write g r v) =
      let xs = fields_of r v in
      answer_leaves (written w n xs) n g (pick (accepted w n xs) Ack Nack)
      ∙ u.settings w (written w n xs) (write_leaves w n xs)

  pub end_leaves : (w : World) (n x : ℕ) → f (ended w n x).next.net ≡ f w.net
  unfolding ended
  end_leaves w n x = obeyed_leaves w n (message_of (w.net.units.hearings n 0) x)
