-- `messages::write::write_directions`: the entries passed are made. Assumes nothing.
use Rattle.std.proofs.Common.{◌≡◌, ◌+◌}
use Rattle.laws.specs.Row.{tab}
use Rattle.routing.specs.Direction.{field}
use Rattle.cells.specs.World.{lined}
use Rattle.settings.specs.declared.Setting.TheVariants.{Direction}
use Rattle.messages.specs.Write.{made_all}
use Rattle.messages.proofs.write.write_directions.Given as goal

abbrev pub invariant-loop-i : goal.invariant-loop-i
invariant-loop-i l =
    lined l.st l.ls ≡ made_all (lined l.fn.st l.fn.ls) l.slot.0 (tab l.i (λ j. Direction (l.bit + j) (field l.v j)))
