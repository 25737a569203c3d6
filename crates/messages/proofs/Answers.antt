-- "Moved, but for the two end answers" (document 01, "What a Step does"): what a message's end may be answered with. Assumes nothing.
use Prim.Native.Nat.{ℕ}
use Rattle.laws.specs.Pick.{pick}
use Rattle.laws.proofs.Order.{by_test}
use Rattle.tokens.specs.Header.{header_of, is_narrow}
use Rattle.tokens.specs.declared.header.Target.{Target}
use Rattle.answers.specs.Answered.{Answered}
use Rattle.answers.specs.Answered as Answers
use Rattle.cells.specs.World.{World}
use Rattle.acts.specs.Acts.{width_at}
use Rattle.messages.specs.Register.{fields_of, read_of}
use Rattle.messages.specs.Heard.{message_of}
use Rattle.messages.specs.Write.{accepted, written}
use Rattle.messages.specs.Ended.{reply_sent, obeyed, ended}
use Rattle.messages.specs.declared.heard.Message.{Message}
use Rattle.messages.specs.declared.heard.Message.TheVariants.{Malformed, Wrong, Read, Write}
use Rattle.messages.specs.declared.reply.Reply.{Reply}
use Rattle.messages.specs.declared.reply.Reply.TheVariants.{Nack, Ack, Value}

module _ (P : Answered → Type 0) (moved : P Answers.Moved) (malformed : P Answers.Malformed) (unheard : P Answers.Unheard) where
  of_sent : (w : World) (n : ℕ) (g : Target) (x : Reply) → P (reply_sent w n g x).answer
  of_sent w n g x =
      by_test (is_narrow (header_of g (width_at w.net n))) (λ e. rw e unheard) (λ e. rw e moved)

  of_message : (w : World) (n : ℕ) (m : Message) → P (obeyed w n m).answer
  of_message w n Malformed = malformed
  of_message w n (Wrong g) = of_sent w n g Nack
  of_message w n (Read g r) = of_sent w n g (Value (read_of w.net n r))
  of_message w n (Write g r v) =
      of_sent (written w n (fields_of r v)) n g (pick (accepted w n (fields_of r v)) Ack Nack)

  pub end_answers : (w : World) (n x : ℕ) → P (ended w n x).answer
  unfolding ended
  end_answers w n x = of_message w n (message_of (w.net.units.hearings n 0) x)
