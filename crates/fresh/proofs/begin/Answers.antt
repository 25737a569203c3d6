-- `fresh::begin` meets its contract: refused, or all three memories written. Assumes nothing.
use Rattle.cells.specs.World.{lent}
use Rattle.fresh.proofs.Passed.{fitting, start_refuses, start_goes_on}
use Rattle.fresh.proofs.begin.Goals as goal

pub returns-in_err-check_start : goal.returns-in_err-check_start
returns-in_err-check_start c = start_refuses _ _ _ c.check_start.ensures _ _ _ c.from_residual.ensures c.in_err-check_start.was

pub start_state-requires : goal.start_state-requires
start_state-requires c =
    let a = c.args in
    (fitting (lent a.st.now a.mem.now a.ls.now) a.nodes _ c.check_start.ensures c.in_ok-check_start.was).rest

pub returns : goal.returns
returns c =
    start_goes_on _ _ _ c.check_start.ensures _ _ _ _ c.in_ok-check_start.was c.start_state.ensures c.clear_tokens.ensures
    c.clear_tokens-2.ensures
