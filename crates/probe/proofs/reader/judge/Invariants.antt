-- `probe::reader::judge`: at each turn the count of the tokens so far, and no sequence without a meaning among those passed. Assumes
-- nothing.
use Rattle.std.specs.Slice.Iter.{chunks_exact_rest, chunks_exact_size}
use Rattle.std.specs.Iterator.Adapters.{enumerate_source, enumerate_count}
use Rattle.probe.proofs.Reading.{Judging}
use Rattle.probe.proofs.reader.judge.Given as goal

abbrev pub invariant-loop-i : goal.invariant-loop-i
invariant-loop-i g l =
    let source = enumerate_source l.i-iterator in
    Judging g.L.Link.form l.capture (enumerate_count l.i-iterator) (chunks_exact_size source) l.count (chunks_exact_rest source)
