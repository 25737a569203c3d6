-- `ends::output::open_by` meets its contract. Assumes nothing.
use Rattle.std.proofs.Common.{◌∙◌}
use Rattle.tokens.specs.Header.{words}
use Rattle.cells.specs.World.{world}
use Rattle.ends.proofs.Carried.{ready_opened, opens_gives}
use Rattle.ends.proofs.output.open_by.Goals as goal

pub set_network-requires : goal.set_network-requires
set_network-requires c =
    let a = c.args in
    let w = world a.st.now a.mem.now in
    let ts = words c.make_header-h.result in
    (ready_opened w _ _ a.slot.0 a.p a.word ts c.fill.ensures c.requires.1.node, c.requires.1.port)

pub go_by-requires : goal.go_by-requires
go_by-requires c =
    let a = c.args in
    let w = world a.st.now a.mem.now in
    let ts = words c.make_header-h.result in
    rw c.set_network.ensures
    (ready_opened w _ _ a.slot.0 a.p a.word ts c.fill.ensures c.requires.1.node, c.requires.0, c.requires.1.port)

pub returns : goal.returns
returns c =
    opens_gives _ _ _ _ _ _ _ _ _ _ _ _ (c.make_header-h.ensures ∙ rw c.width_at.ensures)
    (rw c.at-k.ensures) c.fill.ensures c.set_network.ensures c.go_by.ensures
