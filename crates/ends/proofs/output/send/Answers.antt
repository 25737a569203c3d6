-- `ends::output::send` meets its contract. Assumes nothing.
use Rattle.std.proofs.Common.{◌∙◌}
use Rattle.cells.specs.World.{world}
use Rattle.sound.proofs.Facts.{node_facts}
use Rattle.ends.specs.Needs.{with_lines}
use Rattle.ends.proofs.Possibles.{plan_possible}
use Rattle.ends.proofs.Sent.{token_refused, token_passes}
use Rattle.ends.proofs.output.send.Goals as goal

pub returns-in_err-check_token : goal.returns-in_err-check_token
returns-in_err-check_token c =
    let a = c.args in
    token_refused (world a.st.now a.mem.now) a.slot.0 a.c a.g a.x _ c.check_token.ensures _ _ c.from_residual.ensures
    c.in_err-check_token.was

pub plan_of-plan-requires : goal.plan_of-plan-requires
plan_of-plan-requires c =
    let a = c.args in
    (node_facts (with_lines (world a.st.now a.mem.now) c.requires.sure.lines) c.requires.sure.all a.slot.0 c.requires.node).0

pub carry-requires : goal.carry-requires
carry-requires c =
    let a = c.args in
    let possible = plan_possible (world a.st.now a.mem.now) a.slot.0 a.c c.word_of-word.result a.g c.requires in
    (c.requires.node, c.requires.end, rw c.plan_of-plan.ensures possible)

pub returns : goal.returns
returns c =
    let a = c.args in
    c.carry.ensures
    ∙ rw (c.plan_of-plan.ensures, c.word_of-word.ensures)
    (token_passes (world a.st.now a.mem.now) a.slot.0 a.c a.g a.x _ c.check_token.ensures c.in_ok-check_token.was)
