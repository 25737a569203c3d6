-- `ends::aim::aim` meets its contract where it is refused. Assumes nothing.
use Rattle.answers.specs.Out.{out}
use Rattle.answers.specs.Answered.{Done}
use Rattle.answers.proofs.Refusals.{hands_on}
use Rattle.cells.specs.View.{view}
use Rattle.ends.specs.Aim.{aim_rows, aim_made, aim}
use Rattle.ends.proofs.aim.aim.Goals as goal

pub returns-in_err-check_aim : goal.returns-in_err-check_aim
unfolding aim
returns-in_err-check_aim c =
    let a = c.args in
    let s = view a.st.now in
    hands_on (aim_rows s a.slot.0 a.c a.g a.network) s (out Done (aim_made s a.slot.0 a.c a.g a.network)) _
    c.check_aim.ensures _ _ c.from_residual.ensures c.in_err-check_aim.was
