-- `messages::reply::say` meets its contract: ACK leaves room for four bytes. Assumes nothing.
use Rattle.acts.proofs.Pushes.{room_after}
use Rattle.messages.proofs.reply.say.Goals as goal

pub push_bytes-requires : goal.push_bytes-requires
push_bytes-requires c = room_after _ _ _ _ _ 4 c.push-in-Value.ensures c.requires
