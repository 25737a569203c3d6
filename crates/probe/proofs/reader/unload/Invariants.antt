-- `probe::reader::unload`: at each turn the tokens of the sequences so far. Assumes nothing.
use Rattle.std.proofs.Common.{length}
use Rattle.std.specs.Slice.Iter.{chunks_exact_rest, chunks_exact_size}
use Rattle.probe.proofs.Reading.{Unloading}
use Rattle.probe.proofs.reader.unload.Given as goal

abbrev pub invariant-loop-symbols : goal.invariant-loop-symbols
invariant-loop-symbols g l =
    let it = l.symbols-iterator in
    Unloading g.L.Link.form l.capture (length l.yielded) (chunks_exact_size it) l.at (chunks_exact_rest it) l.buffer l.fn.buffer
