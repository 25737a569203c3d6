-- `settings::set` meets its contract where it is refused. Assumes nothing.
use Rattle.settings.proofs.Passed.{set_refuses}
use Rattle.settings.proofs.set.Goals as goal

pub returns-in_err-check_set : goal.returns-in_err-check_set
returns-in_err-check_set c = set_refuses _ _ _ _ c.check_set.ensures _ _ c.from_residual.ensures c.in_err-check_set.was
