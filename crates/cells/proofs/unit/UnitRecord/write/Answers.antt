-- `cells::unit::UnitRecord::write` meets its contract: every word is stored, and each circuit in its own words. Assumes nothing.
use Rattle.std.proofs.Common.{◌≡◌, length, sym, arith}
use Rattle.laws.proofs.Row.{listed}
use Rattle.names.specs.Size.{unit_buffer}
use Rattle.cells.specs.Layout.{unit}
use Rattle.cells.proofs.unit.UnitRecord.write.Goals as goal

pub returns-clause-words : goal.returns-clause-words
returns-clause-words c =
    let tokens : length c.args.self.hearing.tokens ≡ unit_buffer = omega arith in
    let words = listed unit.size c.args.w.now 0 c.requires in
    rw (c.write.ensures, c.copy_from_slice.ensures.after, words, listed unit_buffer c.args.self.hearing.tokens 0 tokens)

-- the tokens are read back as they are written
pub returns-clause-back : goal.returns-clause-back
returns-clause-back c =
    let k = c.args.self in
    let tokens : length k.hearing.tokens ≡ unit_buffer = omega arith in
    λ j. record {
      serves = k.serves;
      hearing = record { heard = k.hearing.heard; tokens = sym (listed unit_buffer k.hearing.tokens 0 tokens) j };
    }
