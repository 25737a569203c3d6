-- `bench::set` meets its contract. Assumes nothing.
use Rattle.std.proofs.Common.{refl}
use Rattle.cells.specs.World.{lined, lent}
use Rattle.settings.specs.Set.{set_rows, set_call}
use Rattle.settings.proofs.Lent.{settled_lent, called_lent}
use Rattle.switch.proofs.Cabled.{settled}
use Rattle.bench.specs.Calls.{Set}
use Rattle.bench.proofs.Lifted.{found_sound, refused_unsound, on_world}
use Rattle.bench.proofs.set.Goals as goal

pub returns-in_err-check_sound : goal.returns-in_err-check_sound
returns-in_err-check_sound c =
    let a = c.args in
    let w = lent a.st.now a.mem.now a.ls.now in
    refused_unsound w (Set a.slot a.x) (set_rows w a.slot.0 a.x) refl _ c.check_sound.ensures _ _ c.from_residual.ensures
    c.in_err-check_sound.was

-- a Set is lent no port: what it asks of the state and its lines holds with them
pub set-requires : goal.set-requires
set-requires c =
    let a = c.args in
    settled_lent (lined a.st.now a.ls.now) a.mem.now
    (settled (lent a.st.now a.mem.now a.ls.now) (found_sound (lent a.st.now a.mem.now a.ls.now) _ c.check_sound.ensures c.in_ok-check_sound.was))

pub returns : goal.returns
unfolding set_call
returns c =
    let a = c.args in
    let w = lent a.st.now a.mem.now a.ls.now in
    on_world w (Set a.slot a.x) (set_rows w a.slot.0 a.x) refl
    (found_sound (lent a.st.now a.mem.now a.ls.now) _ c.check_sound.ensures c.in_ok-check_sound.was) _
    (called_lent (lined a.st.now a.ls.now) _ _ a.mem.now a.slot.0 a.x c.set.ensures)
