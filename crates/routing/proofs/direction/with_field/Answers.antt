-- `routing::direction::with_field` meets its contract, at every place by one law. Assumes nothing.
use Rattle.std.proofs.Common.{◌-◌, ◌*◌, arith}
use Rattle.routing.specs.Direction.{with_field}
use Rattle.routing.proofs.Fields.{by_masks}
use Rattle.routing.proofs.direction.with_field.Goals as goal

pub returns : goal.returns
unfolding with_field
returns c = by_masks (28 - 4 * c.args.i) (4 * c.args.i) c.args.reg c.args.d (omega arith) c.ranges.reg.fits
