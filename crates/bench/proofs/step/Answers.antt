-- `bench::step` meets its contract. Assumes nothing.
use Rattle.std.proofs.Common.{refl}
use Rattle.cells.specs.View.{view}
use Rattle.cells.specs.World.{lent}
use Rattle.switch.specs.Step.{step_rows, step}
use Rattle.bench.specs.Calls.{Step}
use Rattle.bench.proofs.Lifted.{found_sound, refused_unsound, on_world}
use Rattle.bench.proofs.step.Goals as goal

pub returns-in_err-check_sound : goal.returns-in_err-check_sound
returns-in_err-check_sound c =
    let a = c.args in
    refused_unsound (lent a.st.now a.mem.now a.ls.now) (Step a.slot a.p) (step_rows (view a.st.now) a.slot.0 a.p) refl _ c.check_sound.ensures _ _ c.from_residual.ensures
    c.in_err-check_sound.was

pub returns : goal.returns
unfolding step
returns c =
    let a = c.args in
    on_world (lent a.st.now a.mem.now a.ls.now) (Step a.slot a.p) (step_rows (view a.st.now) a.slot.0 a.p) refl
    (found_sound (lent a.st.now a.mem.now a.ls.now) _ c.check_sound.ensures c.in_ok-check_sound.was) _
    c.step.ensures
