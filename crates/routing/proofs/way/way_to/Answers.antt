-- `routing::way::way_to` meets its contract: both numbers in the bits that the width compares. Assumes nothing.
use Rattle.std.proofs.Common.{◌≡◌}
use Rattle.names.specs.declared.NodeNumber.{NodeNumber}
use Rattle.tokens.specs.Header.{compared}
use Rattle.tokens.specs.declared.header.Width.{Width}
use Rattle.tokens.specs.declared.header.Width.TheVariants.{One, Three}
use Rattle.routing.specs.Way.{highest, way_to}
use Rattle.routing.proofs.Highest.{at_width}
use Rattle.routing.proofs.way.way_to.Goals as goal

narrowed : (w : Width) (n m : NodeNumber) → highest 16 (compared w n).0 (compared w m).0 ≡ way_to w n m
narrowed One n m = at_width 3 13 n.0 m.0
narrowed Three n m = at_width 16 0 n.0 m.0

pub returns : goal.returns
returns c =
    rw (c.highest_differing.ensures, c.compared-2.ensures, c.compared.ensures) (narrowed c.args.w c.args.number c.args.own)
