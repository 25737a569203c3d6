-- `ends::input::input` meets its contract where it is refused. Assumes nothing.
use Rattle.answers.specs.Out.{out}
use Rattle.answers.specs.Answered.{Token}
use Rattle.answers.proofs.Refusals.{hands_on}
use Rattle.cells.specs.View.{view}
use Rattle.ends.specs.Input.{input_rows, input_value, input_made, input}
use Rattle.ends.proofs.input.input.Goals as goal

pub returns-in_err-check_input : goal.returns-in_err-check_input
unfolding input
returns-in_err-check_input c =
    let a = c.args in
    let s = view a.st.now in
    hands_on (input_rows s a.slot.0 a.c a.wanted) s (out (Token (input_value s a.slot.0 a.c)) (input_made s a.slot.0 a.c)) _
    c.check_input.ensures _ _ c.from_residual.ensures c.in_err-check_input.was
