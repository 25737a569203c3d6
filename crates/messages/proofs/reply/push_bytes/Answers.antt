-- `messages::reply::push_bytes` meets its contract: each byte that is put leaves room for those behind it. Assumes nothing.
use lib.Dec.{lit≤}
use Rattle.acts.proofs.Pushes.{less, room_after}
use Rattle.messages.proofs.reply.push_bytes.Goals as goal

pub push-requires-2 : goal.push-requires-2
push-requires-2 c = less 3 1 (lit≤ tt) (room_after _ _ _ _ _ 3 c.push.ensures c.requires)

pub push-requires-3 : goal.push-requires-3
push-requires-3 c =
    less 2 1 (lit≤ tt) (room_after _ _ _ _ _ 2 c.push-2.ensures (room_after _ _ _ _ _ 3 c.push.ensures c.requires))

pub push-requires-4 : goal.push-requires-4
push-requires-4 c =
    room_after _ _ _ _ _ 1 c.push-3.ensures
    (room_after _ _ _ _ _ 2 c.push-2.ensures (room_after _ _ _ _ _ 3 c.push.ensures c.requires))
