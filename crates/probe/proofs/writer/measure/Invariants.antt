-- `probe::writer::measure`: at each turn the count and the wires behind the tokens so far. Assumes nothing.
use Rattle.std.proofs.Common.{◌≤◌}
use Rattle.probe.proofs.Writing.{Upto}
use Rattle.probe.proofs.writer.measure.Given as goal

abbrev pub invariant-loop-word : goal.invariant-loop-word
invariant-loop-word g l = Upto g.L.Link.form l.tokens l.word-index l.wires l.count × (l.count ≤ l.most)
