-- `lines::load::load_at`: at each turn what is still in front of what it has is the whole line. Assumes nothing.
use Rattle.std.proofs.Common.{◌≡◌, ◌-◌, ◌≤◌, length}
use Rattle.std.specs.Iterator.Adapters.{rev_source}
use Rattle.lines.specs.Line.{line_capacity, line_place, on_line}
use Rattle.lines.specs.Load.{load_of, Within}
use Rattle.lines.proofs.Loads.{in_front}
use Rattle.lines.proofs.load.load_at.Given as goal

abbrev pub invariant-loop-word : goal.invariant-loop-word
invariant-loop-word l =
    let rest = rev_source l.word-iterator in
    let f = l.fn in
    (length rest ≤ line_capacity)
    × (in_front rest l.k ≡ load_of (on_line f.c f.lines (line_place f.slot.0 f.l)))
    × Within (line_capacity - length rest) l.k
