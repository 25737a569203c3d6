-- `acts::push_header` meets its contract: each token that is put leaves room for those behind it. Assumes nothing.
use lib.Dec.{lit≤}
use Rattle.acts.proofs.Pushes.{less, room_after}
use Rattle.acts.proofs.push_header.Goals as goal

pub push-requires-in-Three-2 : goal.push-requires-in-Three-2
push-requires-in-Three-2 c = less 2 1 (lit≤ tt) (room_after _ _ _ _ _ 2 c.push-in-Three.ensures c.requires)

pub push-requires-in-Three-3 : goal.push-requires-in-Three-3
push-requires-in-Three-3 c =
    room_after _ _ _ _ _ 1 c.push-in-Three-2.ensures (room_after _ _ _ _ _ 2 c.push-in-Three.ensures c.requires)
