-- `bench::wire` meets its contract. Assumes nothing.
use Rattle.std.proofs.Common.{refl}
use Rattle.answers.specs.Out.{out}
use Rattle.answers.specs.Answered.{Done}
use Rattle.cells.specs.View.{view}
use Rattle.cells.specs.World.{lent}
use Rattle.settings.specs.Wire.{wire_rows, wired, wire}
use Rattle.sound.proofs.Facts.{lengths}
use Rattle.bench.specs.Calls.{Wire}
use Rattle.bench.proofs.Lifted.{found_sound, refused_unsound, on_net}
use Rattle.bench.proofs.wire.Goals as goal

pub returns-in_err-check_sound : goal.returns-in_err-check_sound
returns-in_err-check_sound c =
    let a = c.args in
    refused_unsound (lent a.st.now a.mem.now a.ls.now) (Wire a.a a.l a.b a.k) (wire_rows (view a.st.now) a.a.0 a.l a.b.0 a.k) refl _ c.check_sound.ensures _ _ c.from_residual.ensures
    c.in_err-check_sound.was

pub wire-requires : goal.wire-requires
wire-requires c =
    let a = c.args in (lengths (lent a.st.now a.mem.now a.ls.now) (found_sound (lent a.st.now a.mem.now a.ls.now) _ c.check_sound.ensures c.in_ok-check_sound.was)).few

pub returns : goal.returns
unfolding wire
returns c =
    let a = c.args in
    on_net (lent a.st.now a.mem.now a.ls.now) (Wire a.a a.l a.b a.k) (wire_rows (view a.st.now) a.a.0 a.l a.b.0 a.k) refl
    (found_sound (lent a.st.now a.mem.now a.ls.now) _ c.check_sound.ensures c.in_ok-check_sound.was)
    (out Done (wired (view a.st.now) a.a.0 a.l a.b.0 a.k)) refl _ c.wire.ensures
