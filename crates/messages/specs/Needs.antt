-- What obeying a message and replying to it asks of the state. A sound state has it while a control unit serves (`message_ready` in
-- switch/proofs/Possibles.antt), and taking the message's last token leaves it (`ready_after` in switch/proofs/Hears.antt).
use Rattle.std.specs.Prelude.{ℕ}
use Rattle.names.specs.Size.{reply_port}
use Rattle.cells.specs.World.{World}
use Rattle.acts.specs.Needs.{Room}
use Rattle.settings.specs.Needs.{Settled}

-- the longest reply: a header of three bytes, ACK, four bytes, END
abbrev pub longest : ℕ
longest = 9

-- the node is there, a reply finds room, and Sets can be made
pub record Ready (w : World) (n : ℕ) : Type 0 where
  pub room : Room w n reply_port longest
  pub settled : Settled w
