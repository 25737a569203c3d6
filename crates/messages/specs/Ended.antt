-- What becomes of a message at its end, the hop being closed: it is obeyed and replyPut to (document 01, "Switch messages").
use Rattle.std.specs.Prelude.{ℕ, ◌/◌, ◌%◌, List, [], ◌∷◌}
use Rattle.laws.specs.Pick.{pick}
use Rattle.names.specs.Size.{reply_port}
use Rattle.tokens.specs.Control.{ack, nack, end}
use Rattle.tokens.specs.Word.{control_word, data_word}
use Rattle.tokens.specs.Header.{header_of, words, is_narrow}
use Rattle.tokens.specs.declared.header.Header.{Header}
use Rattle.tokens.specs.declared.header.Target.{Target}
use Rattle.answers.specs.Out.{Out, out}
use Rattle.answers.specs.Answered as Answers
use Rattle.cells.specs.World.{World}
use Rattle.acts.specs.Acts.{width_at, pushed, pushed_all}
use Rattle.messages.specs.Register.{fields_of, read_of}
use Rattle.messages.specs.Heard.{message_of}
use Rattle.messages.specs.Write.{accepted, written}
use Rattle.messages.specs.declared.heard.Message.{Message}
use Rattle.messages.specs.declared.heard.Message.TheVariants.{Malformed, Wrong, Read, Write}
use Rattle.messages.specs.declared.reply.Reply.{Reply}
use Rattle.messages.specs.declared.reply.Reply.TheVariants.{Nack, Ack, Value}

-- "four data bytes", "high byte first"
abbrev pub byte : ℕ → ℕ → ℕ
byte at v = data_word (v / at % 256)

abbrev pub bytes : ℕ → List ℕ
bytes v = byte 0x1000000 v ∷ byte 0x10000 v ∷ byte 0x100 v ∷ byte 1 v ∷ []

-- "Replies: header, ACK 0x03, four data bytes for a read, END. .. NACK 0x04, END": what stands between header and END
abbrev pub said : Reply → List ℕ
said Nack = control_word nack ∷ []
said Ack = control_word ack ∷ []
said (Value v) = control_word ack ∷ bytes v

-- a reply in port 12
abbrev pub reply_put : World → ℕ → Header → Reply → World
reply_put w n h x =
    pushed (pushed_all (pushed_all w n reply_port (words h)) n reply_port (said x)) n reply_port (control_word end)

-- "The reply's header has the width the node has after the write; if that width cannot carry the reply channel there is no reply and the
-- answer says Unheard."
abbrev pub headed : World → ℕ → Header → Reply → Out World
headed w n h x = pick (is_narrow h) (out Answers.Unheard w) (out Answers.Moved (reply_put w n h x))

abbrev pub reply_sent : World → ℕ → Target → Reply → Out World
reply_sent w n g x = headed w n (header_of g (width_at w.net n)) x

-- "A known reply address .. with anything else wrong, an unknown address, or a write that Set would refuse: NACK 0x04, END, nothing
-- changed."
abbrev pub obeyed : World → ℕ → Message → Out World
obeyed w n Malformed = out Answers.Malformed w
obeyed w n (Wrong g) = reply_sent w n g Nack
obeyed w n (Read g r) = reply_sent w n g (Value (read_of w.net n r))
obeyed w n (Write g r v) =
    reply_sent (written w n (fields_of r v)) n g (pick (accepted w n (fields_of r v)) Ack Nack)

-- node n's control unit, at END or PAUSE
unfoldable pub ended : World → ℕ → ℕ → Out World
ended w n x = obeyed w n (message_of (w.net.units.hearings n 0) x)
