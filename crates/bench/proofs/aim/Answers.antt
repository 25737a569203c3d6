-- `bench::aim` meets its contract. Assumes nothing.
use Rattle.std.proofs.Common.{refl}
use Rattle.answers.specs.Out.{out}
use Rattle.answers.specs.Answered.{Done}
use Rattle.cells.specs.View.{view}
use Rattle.cells.specs.World.{lent}
use Rattle.ends.specs.Aim.{aim_rows, aim_made, aim}
use Rattle.bench.specs.Calls.{Aim}
use Rattle.bench.proofs.Lifted.{found_sound, refused_unsound, on_net}
use Rattle.bench.proofs.aim.Goals as goal

pub returns-in_err-check_sound : goal.returns-in_err-check_sound
returns-in_err-check_sound c =
    let a = c.args in
    refused_unsound (lent a.st.now a.mem.now a.ls.now) (Aim a.slot a.c a.g a.network) (aim_rows (view a.st.now) a.slot.0 a.c a.g a.network) refl _ c.check_sound.ensures _ _ c.from_residual.ensures
    c.in_err-check_sound.was

pub returns : goal.returns
unfolding aim
returns c =
    let a = c.args in
    on_net (lent a.st.now a.mem.now a.ls.now) (Aim a.slot a.c a.g a.network) (aim_rows (view a.st.now) a.slot.0 a.c a.g a.network) refl
    (found_sound (lent a.st.now a.mem.now a.ls.now) _ c.check_sound.ensures c.in_ok-check_sound.was)
    (out Done (aim_made (view a.st.now) a.slot.0 a.c a.g a.network)) refl _ c.aim.ensures
