-- `settings::wire::wire` meets its contract where it is refused. Assumes nothing.
use Rattle.settings.proofs.Passed.{wire_refuses}
use Rattle.settings.proofs.wire.wire.Goals as goal

pub returns-in_err-check_wire : goal.returns-in_err-check_wire
returns-in_err-check_wire c = wire_refuses _ _ _ _ _ _ c.check_wire.ensures _ _ c.from_residual.ensures c.in_err-check_wire.was
