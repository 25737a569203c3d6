-- `shift::step_into` meets its contract. Assumes nothing.
use Rattle.std.proofs.Common.{◌+◌, length}
use lib.Dec.{ltb}
use Rattle.cells.specs.World.{lent}
use Rattle.shift.proofs.Sures.{known_from, kept_on, stored}
use Rattle.shift.proofs.step_into.Goals as goal

pub step-a-requires : goal.step-a-requires
step-a-requires c =
    let a = c.args in
    let more = ltb (a.i + 1) (length a.results.now) in
    known_from a.sure more (lent a.st.now a.mem.now a.ls.now) c.known-sure.result c.known-sure.ensures c.requires.1

pub returns : goal.returns
returns c =
    let a = c.args in
    let w = lent a.st.now a.mem.now a.ls.now in
    let more = ltb (a.i + 1) (length a.results.now) in
    let sure = known_from a.sure more w c.known-sure.result c.known-sure.ensures c.requires.1 in (
      kept_on c.known-sure.result w _ _ _ c.step-a.ensures sure,
      stored w a.results.now a.i a.slot a.port _ _ _ c.step-a.ensures c.answer_number.ensures,
    )
