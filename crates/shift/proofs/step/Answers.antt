-- `shift::step` meets its contract. Assumes nothing.
use Rattle.std.proofs.Common.{refl}
use Rattle.cells.specs.View.{view}
use Rattle.cells.specs.World.{lent}
use Rattle.switch.specs.Step.{step_rows, step}
use Rattle.bench.specs.Calls.{Step}
use Rattle.bench.proofs.Lifted.{on_world}
use Rattle.shift.proofs.Sures.{sure_sound}
use Rattle.shift.proofs.step.Goals as goal

pub step-requires : goal.step-requires
step-requires c =
    let a = c.args in sure_sound a.sure (lent a.st.now a.mem.now a.ls.now) c.if-sure.true c.requires

pub returns-then-sure : goal.returns-then-sure
unfolding step
returns-then-sure c =
    let a = c.args in
    on_world (lent a.st.now a.mem.now a.ls.now) (Step a.slot a.port) (step_rows (view a.st.now) a.slot.0 a.port) refl
    (sure_sound a.sure (lent a.st.now a.mem.now a.ls.now) c.if-sure.true c.requires) _ c.step.ensures
