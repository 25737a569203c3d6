-- `bench::output` meets its contract. Assumes nothing.
use Rattle.std.proofs.Common.{refl, ap, ◌∙◌}
use Rattle.answers.specs.Out.{Out}
use Rattle.cells.specs.View.{view}
use Rattle.cells.specs.World.{World, world, lent}
use Rattle.ends.specs.Output.{output_rows, output}
use Rattle.ends.proofs.Lent.{lent_out, output_lent}
use Rattle.bench.specs.Calls.{Output}
use Rattle.bench.proofs.Lifted.{found_sound, refused_unsound, on_world}
use Rattle.bench.proofs.output.Goals as goal

pub returns-in_err-check_sound : goal.returns-in_err-check_sound
returns-in_err-check_sound c =
    let a = c.args in
    refused_unsound (lent a.st.now a.mem.now a.ls.now) (Output a.slot a.c a.x) (output_rows (view a.st.now) a.slot.0 a.c a.x) refl _ c.check_sound.ensures _ _ c.from_residual.ensures
    c.in_err-check_sound.was

pub output-requires : goal.output-requires
output-requires c = let a = c.args in record { lines = a.ls.now; all = found_sound (lent a.st.now a.mem.now a.ls.now) _ c.check_sound.ensures c.in_ok-check_sound.was }

pub returns : goal.returns
unfolding output
returns c =
    let a = c.args in
    let w = world a.st.now a.mem.now in
    on_world (lent a.st.now a.mem.now a.ls.now) (Output a.slot a.c a.x) (output_rows (view a.st.now) a.slot.0 a.c a.x) refl
    (found_sound (lent a.st.now a.mem.now a.ls.now) _ c.check_sound.ensures c.in_ok-check_sound.was) _
    (ap (λ (o : Out World). lent_out o a.ls.now) c.output.ensures ∙ output_lent a.ls.now w a.slot.0 a.c a.x)
