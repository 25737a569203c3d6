-- `cells::end::EndRecord::write` meets its contract: every word is stored, and each circuit in its own words. Assumes nothing.
use Rattle.std.proofs.Common.{◌≡◌, length, sym, arith}
use Rattle.laws.proofs.Row.{listed}
use Rattle.names.specs.Size.{end_buffer}
use Rattle.cells.specs.Layout.{end}
use Rattle.cells.proofs.end.EndRecord.write.Goals as goal

pub returns-clause-words : goal.returns-clause-words
returns-clause-words c =
    let tokens : length c.args.self.buffer.tokens ≡ end_buffer = omega arith in
    let words = listed end.size c.args.w.now 0 c.requires in
    rw (c.write-2.ensures, c.write.ensures, c.copy_from_slice.ensures.after, words, listed end_buffer c.args.self.buffer.tokens 0 tokens)

-- the tokens are read back as they are written
pub returns-clause-back : goal.returns-clause-back
returns-clause-back c =
    let k = c.args.self in
    let tokens : length k.buffer.tokens ≡ end_buffer = omega arith in
    λ j. record {
      aim = k.aim;
      sending = k.sending;
      claim = k.claim;
      buffer = record { held = k.buffer.held; tokens = sym (listed end_buffer k.buffer.tokens 0 tokens) j };
    }
