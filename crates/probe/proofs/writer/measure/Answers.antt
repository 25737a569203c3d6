-- `probe::writer::measure` meets its contract: at each turn the count and the wires behind the tokens so far. Assumes nothing.
use Rattle.std.proofs.Common.{arith}
use Rattle.probe.proofs.Writing.{upto_none, upto_small, upto_next, too_long}
use Rattle.probe.proofs.writer.measure.Goals as goal

pub loop-word-init : goal.loop-word-init
loop-word-init g c = (upto_none g.L.Link.form c.args.tokens.now, omega arith)

pub one-sequence-requires : goal.one-sequence-requires
one-sequence-requires g c = upto_small g.L.Link.form c.args.tokens.now c.loop-word.invariant.0

pub returns-then-most-count : goal.returns-then-most-count
returns-then-most-count g c =
    let l = c.loop-word in
    too_long g.L.Link.form c.args.tokens.now l.word-index l.wires l.count l.invariant.0 _ c.one-sequence.ensures c.args.most
    l.invariant.1 (omega arith) c.if-most-count.true

pub loop-word-preserved : goal.loop-word-preserved
loop-word-preserved g c =
    let l = c.loop-word in (
      upto_next g.L.Link.form c.args.tokens.now l.word-index l.wires l.count l.invariant.0 _ c.one-sequence.ensures
          c.after-wires.result (omega arith) c.after-wires.ensures,
      omega (arith, l.invariant.1, c.if-most-count.false),
    )
