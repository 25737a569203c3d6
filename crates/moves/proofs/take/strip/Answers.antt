-- `moves::take::strip` meets its contract: each token that is taken leaves those behind it to take. Assumes nothing.
use lib.Dec.{lit≤}
use Rattle.moves.proofs.Takes.{takes_less, takes_after}
use Rattle.moves.proofs.take.strip.Goals as goal

pub take-requires-in-Three : goal.take-requires-in-Three
take-requires-in-Three c = takes_less 3 1 (lit≤ tt) (rw c.in-Three.is at c.requires)

pub take-requires-in-Three-2 : goal.take-requires-in-Three-2
take-requires-in-Three-2 c =
    takes_less 2 1 (lit≤ tt) (takes_after _ _ _ _ 2 c.take-in-Three.ensures.1 (rw c.in-Three.is at c.requires))

pub take-requires-in-Three-3 : goal.take-requires-in-Three-3
take-requires-in-Three-3 c =
    takes_after _ _ _ _ 1 c.take-in-Three-2.ensures.1
    (takes_after _ _ _ _ 2 c.take-in-Three.ensures.1 (rw c.in-Three.is at c.requires))
