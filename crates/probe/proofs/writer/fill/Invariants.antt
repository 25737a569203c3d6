-- `probe::writer::fill`: at each turn the transitions of the tokens so far. Assumes nothing.
use Rattle.std.proofs.Common.{◌≡◌}
use Rattle.probe.specs.Form.{written}
use Rattle.probe.specs.Calls.{filled}
use Rattle.probe.proofs.Writing.{Upto}
use Rattle.probe.proofs.writer.fill.Given as goal

abbrev pub invariant-loop-word : goal.invariant-loop-word
invariant-loop-word g l =
    let F = g.L.Link.form in
    Upto F l.tokens l.word-index l.wires l.at × (l.buffer ≡ filled (written F l.tokens l.word-index) l.fn.buffer)
