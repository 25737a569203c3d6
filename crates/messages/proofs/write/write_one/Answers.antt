-- `messages::write::write_one` meets its contract: a write of one field is one Set. Assumes nothing.
use Rattle.cells.specs.World.{lined}
use Rattle.messages.proofs.Writes.{one}
use Rattle.messages.proofs.write.write_one.Goals as goal

pub returns : goal.returns
returns c =
    let a = c.args in
    let t = c.tried.ensures in
    one (lined a.st.now a.ls.now) a.slot.0 a.x t.0 t.1
