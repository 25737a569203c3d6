-- `probe::fast::Fast::says` meets its contract: where one of the four is no wire. Assumes nothing.
use Rattle.std.proofs.Common.{arith}
use Rattle.probe.specs.Fast.{fast}
use Rattle.probe.proofs.Fasts.{no_wire_unsaid}
use Rattle.probe.proofs.fast.FastLink.says.Goals.{then-a-gt4-via-then-a-gt4, then-a-gt4-via-else-a-gt4+then-b-gt4, then-a-gt4-via-else-a-gt4+else-b-gt4+then-c-gt4, then-a-gt4-via-else-a-gt4+else-b-gt4+else-c-gt4+then-d-gt4}
use Rattle.probe.proofs.fast.FastLink.says.Goals as goal

pub returns-then-a-gt4 : goal.returns-then-a-gt4
unfolding fast
returns-then-a-gt4 c =
    elim c.then-a-gt4.branch [
      | then-a-gt4-via-then-a-gt4 w ↦ no_wire_unsaid c.args.symbols.now 0 (omega arith) w.if-a-gt4.true
      | then-a-gt4-via-else-a-gt4+then-b-gt4 w ↦ no_wire_unsaid c.args.symbols.now 1 (omega arith) w.if-b-gt4.true
      | then-a-gt4-via-else-a-gt4+else-b-gt4+then-c-gt4 w ↦ no_wire_unsaid c.args.symbols.now 2 (omega arith) w.if-c-gt4.true
      | then-a-gt4-via-else-a-gt4+else-b-gt4+else-c-gt4+then-d-gt4 w ↦
          no_wire_unsaid c.args.symbols.now 3 (omega arith) w.if-d-gt4.true
    ]
