-- `switch::hear::hear` meets its contract. Assumes nothing.
use Rattle.std.proofs.Common.{sym, ◌∙◌}
use Rattle.cells.specs.World.{lent}
use Rattle.moves.proofs.After.{node_after}
use Rattle.switch.proofs.Hears.{ready_after, hears_end, hears_more}
use Rattle.switch.proofs.hear.hear.Goals as goal

pub close_unit-requires : goal.close_unit-requires
close_unit-requires c =
    let a = c.args in
    let h = c.requires.0.holds in
    (node_after (lent a.st.now a.mem.now a.ls.now) _ a.slot.0 a.p c.take-word.ensures.1 h.node, h.port)

pub end_message-requires : goal.end_message-requires
end_message-requires c =
    let a = c.args in
    let w = lent a.st.now a.mem.now a.ls.now in
    ready_after w _ a.slot.0 a.p c.take-word.ensures.1 _ c.close_unit.ensures c.requires.0 c.requires.1

pub returns-then-closes : goal.returns-then-closes
returns-then-closes c =
    let a = c.args in
    let ends = sym c.closes.ensures ∙ c.if-closes.true in
    let w = lent a.st.now a.mem.now a.ls.now in
    hears_end w _ a.slot.0 a.p c.take-word.ensures.1 _ _ _ c.take-word.ensures.0 ends
    c.close_unit.ensures c.end_message.ensures

pub listen-requires : goal.listen-requires
listen-requires c =
    let a = c.args in
    node_after (lent a.st.now a.mem.now a.ls.now) _ a.slot.0 a.p c.take-word.ensures.1 c.requires.0.holds.node

pub returns : goal.returns
returns c =
    let a = c.args in
    let goes_on = sym c.closes.ensures ∙ c.if-closes.false in
    let w = lent a.st.now a.mem.now a.ls.now in
    hears_more w _ a.slot.0 a.p c.take-word.ensures.1 _ _ c.take-word.ensures.0 goes_on c.listen.ensures
