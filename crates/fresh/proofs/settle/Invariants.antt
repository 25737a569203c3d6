-- `fresh::settle`: the nodes before the one that the loop is at have their settings. Assumes nothing.
use Rattle.std.proofs.Common.{◌≡◌, ◌≤◌, length}
use Rattle.cells.specs.View.{view}
use Rattle.cells.specs.Start.{start_to, none_on}
use Rattle.fresh.proofs.settle.Given as goal

abbrev pub invariant-loop-n : goal.invariant-loop-n
invariant-loop-n l =
    (l.n-end ≡ (view l.fn.st).nodes) × (l.n ≤ l.n-end) × (view l.st ≡ start_to l.n none_on l.n-end) × (length l.st ≡ length l.fn.st)
