-- `bench::input` meets its contract. Assumes nothing.
use Rattle.std.proofs.Common.{refl}
use Rattle.answers.specs.Out.{out}
use Rattle.answers.specs.Answered.{Token}
use Rattle.cells.specs.View.{view}
use Rattle.cells.specs.World.{lent}
use Rattle.ends.specs.Input.{input_rows, input_value, input_made, input}
use Rattle.bench.specs.Calls.{Input}
use Rattle.bench.proofs.Lifted.{found_sound, refused_unsound, on_net}
use Rattle.bench.proofs.input.Goals as goal

pub returns-in_err-check_sound : goal.returns-in_err-check_sound
returns-in_err-check_sound c =
    let a = c.args in
    refused_unsound (lent a.st.now a.mem.now a.ls.now) (Input a.slot a.c a.wanted) (input_rows (view a.st.now) a.slot.0 a.c a.wanted) refl _ c.check_sound.ensures _ _ c.from_residual.ensures
    c.in_err-check_sound.was

pub returns : goal.returns
unfolding input
returns c =
    let a = c.args in
    on_net (lent a.st.now a.mem.now a.ls.now) (Input a.slot a.c a.wanted) (input_rows (view a.st.now) a.slot.0 a.c a.wanted) refl
    (found_sound (lent a.st.now a.mem.now a.ls.now) _ c.check_sound.ensures c.in_ok-check_sound.was)
    (out (Token (input_value (view a.st.now) a.slot.0 a.c)) (input_made (view a.st.now) a.slot.0 a.c)) refl _ c.input.ensures
