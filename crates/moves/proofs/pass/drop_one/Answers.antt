-- `moves::pass::drop_one` meets its contract. Assumes nothing.
use Rattle.cells.specs.World.{lent}
use Rattle.moves.specs.Moves.{closes_dropped}
use Rattle.moves.proofs.After.{node_after, after_took}
use Rattle.moves.proofs.pass.drop_one.Goals as goal

pub close_dropped-requires : goal.close_dropped-requires
close_dropped-requires c =
    let a = c.args in
    let h = c.requires.holds in
    (node_after (lent a.st.now a.mem.now a.ls.now) _ a.slot.0 a.p c.take-word.ensures.1 h.node, h.port)

pub returns : goal.returns
returns c =
    let a = c.args in
    let n = a.slot.0 in
    let t = c.take-word.ensures in
    after_took (lent a.st.now a.mem.now a.ls.now) _ n a.p t.1 _ _ (λ s x. closes_dropped s n a.p x) t.0
    c.close_dropped.ensures
