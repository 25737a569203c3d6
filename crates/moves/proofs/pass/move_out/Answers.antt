-- `moves::pass::move_out` meets its contract. Assumes nothing.
use Rattle.cells.specs.World.{lent}
use Rattle.moves.specs.Moves.{closes_out}
use Rattle.moves.proofs.After.{node_after, after_took, line_after, moves_gives}
use Rattle.moves.proofs.pass.move_out.Goals as goal

pub close_out-requires : goal.close_out-requires
close_out-requires c =
    let a = c.args in
    let h = c.requires.1.holds in
    let w = lent a.st.now a.mem.now a.ls.now in
    (node_after w _ a.slot.0 a.p c.take-word.ensures.1 h.node, h.port, c.requires.0)

pub send-requires : goal.send-requires
send-requires c =
    let a = c.args in
    line_after (lent a.st.now a.mem.now a.ls.now) _ a.slot.0 a.p c.take-word.ensures.1 _ a.l _
    c.close_out.ensures c.requires.2

pub returns : goal.returns
returns c =
    let a = c.args in
    let n = a.slot.0 in
    let w = lent a.st.now a.mem.now a.ls.now in
    let t = c.take-word.ensures in
    moves_gives w _ _ _ n a.p a.l _ t.0
    (after_took w _ n a.p t.1 _ _ (λ s x. closes_out s n a.p a.l x) t.0 c.close_out.ensures)
    c.send.ensures
