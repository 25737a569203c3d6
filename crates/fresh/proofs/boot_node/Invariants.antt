-- `fresh::boot_node`: the links before the one that the loop is at are enabled. Assumes nothing.
use Rattle.std.proofs.Common.{◌≡◌, ◌+◌, ◌*◌, ◌≤◌, length}
use Rattle.names.specs.Size.{links}
use Rattle.cells.specs.View.{view}
use Rattle.cells.specs.Start.{start_net}
use Rattle.fresh.specs.Fresh.{first_boot_link}
use Rattle.fresh.specs.Needs.{booted_to}
use Rattle.fresh.proofs.boot_node.Given as goal

abbrev pub invariant-loop-l : goal.invariant-loop-l
invariant-loop-l l =
    (first_boot_link ≤ l.l)
    × (l.l ≤ links)
    × (view l.st ≡ start_net (booted_to (l.slot.0 * links + l.l)) (view l.fn.st).nodes)
    × (length l.st ≡ length l.fn.st)
