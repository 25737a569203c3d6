-- `probe::fast::control_one` meets its contract: END and PAUSE by the least of their forms. Assumes nothing.
use Rattle.probe.specs.Fast.{end_forms, pause_forms}
use Rattle.probe.proofs.Closings.{is_closed}
use Rattle.probe.proofs.fast.control_one.Goals as goal

pub returns-then-c-eq-END : goal.returns-then-c-eq-END
returns-then-c-eq-END c =
    rw c.if-c-eq-END.true
    (is_closed c.closed.result c.args.wires c.ending.result end_forms c.ending.ensures c.closed.ensures)

pub returns-then-c-eq-PAUSE : goal.returns-then-c-eq-PAUSE
returns-then-c-eq-PAUSE c =
    let closed = c.closed-then-c-eq-PAUSE in
    rw c.if-c-eq-PAUSE.true
    (is_closed closed.result c.args.wires c.pausing.result pause_forms c.pausing.ensures closed.ensures)
