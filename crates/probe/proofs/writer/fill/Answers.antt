-- `probe::writer::fill` meets its contract: the buffer has room for what comes next. Assumes nothing.
use Rattle.std.proofs.Common.{◌+◌, ◌≤◌, length, arith, ◌∙◌}
use Rattle.probe.proofs.Lays.{part_pasted}
use Rattle.probe.proofs.Writing.{upto_none, upto_small, upto_next, written_none, written_grows, longer, put_next}
use Rattle.probe.proofs.writer.fill.Goals as goal

pub loop-word-init : goal.loop-word-init
loop-word-init g c = (upto_none g.L.Link.form c.args.tokens.now, rw (written_none g.L.Link.form c.args.tokens.now))

pub one-sequence-requires : goal.one-sequence-requires
one-sequence-requires g c = upto_small g.L.Link.form c.args.tokens.now c.loop-word.invariant.0

pub slice_bounds-copy_from_slice-end : goal.slice_bounds-copy_from_slice-end
slice_bounds-copy_from_slice-end g c =
    let F = g.L.Link.form in
    let l = c.loop-word in
    let long = longer F c.args.tokens.now l.word-index l.wires l.at l.invariant.0 _ c.one-sequence.ensures in
    let grows = written_grows F c.args.tokens.now (length c.args.tokens.now) (l.word-index + 1) (omega arith) in
    let inside : l.at + c.one-sequence.result.len ≤ length l.buffer = omega (arith, long, grows, c.requires, l.auto.buffer) in
    inside

pub loop-word-preserved : goal.loop-word-preserved
loop-word-preserved g c =
    let F = g.L.Link.form in
    let l = c.loop-word in
    let q = c.one-sequence in (
      upto_next F c.args.tokens.now l.word-index l.wires l.at l.invariant.0 _ q.ensures c.after-wires.result (omega arith)
          c.after-wires.ensures,
      rw c.copy_from_slice.ensures.after
          (part_pasted l.buffer q.result.symbols l.at q.result.len
          ∙ put_next F c.args.tokens.now l.word-index l.wires l.at l.invariant.0 _ q.ensures l.buffer c.args.buffer.now l.invariant.1),
    )
