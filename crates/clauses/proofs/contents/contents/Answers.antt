-- `clauses::contents::contents` meets its contract. Assumes nothing.
use Rattle.std.proofs.Common.{◌∙◌}
use Rattle.cells.specs.Memories.{world_of}
use Rattle.clauses.proofs.Readies.{empty_port}
use Rattle.clauses.proofs.contents.contents.Goals as goal

pub returns-then-k-eq0 : goal.returns-then-k-eq0
returns-then-k-eq0 c =
    let a = c.args in
    let empty = rw c.at-k.ensures at c.if-k-eq0.true in
    c.ready.ensures ∙ empty_port (world_of a.m.now) a.slot.0 a.p empty
