-- `fresh::boot`: links E to H of the nodes before the one that the loop is at are enabled. Assumes nothing.
use Rattle.std.proofs.Common.{◌≡◌, ◌*◌, ◌≤◌, length}
use Rattle.names.specs.Size.{links}
use Rattle.cells.specs.View.{view}
use Rattle.cells.specs.Start.{start_net}
use Rattle.fresh.specs.Needs.{booted_to}
use Rattle.fresh.proofs.boot.Given as goal

abbrev pub invariant-loop-n : goal.invariant-loop-n
invariant-loop-n l =
    (l.n-end ≡ (view l.fn.st).nodes)
    × (l.n ≤ l.n-end)
    × (view l.st ≡ start_net (booted_to (l.n * links)) l.n-end)
    × (length l.st ≡ length l.fn.st)
