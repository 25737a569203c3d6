-- `probe::fast::symbols_say` meets its contract: the values that are added up. Assumes nothing.
use Rattle.std.proofs.Common.{ap, ◌∙◌, ne_eqb}
use Rattle.probe.specs.Fast.{control_said, symbols_say}
use Rattle.probe.specs.declared.sequence.Said.TheVariants.{Token}
use Rattle.probe.proofs.Fasts.{three_is, four_is}
use Rattle.probe.proofs.fast.symbols_say.Goals as goal

pub returns-in-false-false-false-false : goal.returns-in-false-false-false-false
unfolding symbols_say
returns-in-false-false-false-false c =
    let row = c.in-false-false-false-false in
    rw (ne_eqb _ _ row.is-0, ne_eqb _ _ row.is-1, ne_eqb _ _ row.is-2, ne_eqb _ _ row.is-3) (ap Token (four_is c.args.a c.args.b c.args.c c.args.d))

pub returns-in-true-false-false-false : goal.returns-in-true-false-false-false
unfolding symbols_say
returns-in-true-false-false-false c =
    let row = c.in-true-false-false-false in
    rw (row.is-0, ne_eqb _ _ row.is-1, ne_eqb _ _ row.is-2, ne_eqb _ _ row.is-3)
    (c.control_said.ensures ∙ ap control_said (three_is _ c.args.b c.args.c c.args.d))

pub returns-in-false-true-false-false : goal.returns-in-false-true-false-false
unfolding symbols_say
returns-in-false-true-false-false c =
    let row = c.in-false-true-false-false in
    rw (ne_eqb _ _ row.is-0, row.is-1, ne_eqb _ _ row.is-2, ne_eqb _ _ row.is-3)
    (c.control_said-in-false-true-false-false.ensures ∙ ap control_said (three_is _ c.args.a c.args.c c.args.d))

pub returns-in-false-false-true-false : goal.returns-in-false-false-true-false
unfolding symbols_say
returns-in-false-false-true-false c =
    let row = c.in-false-false-true-false in
    rw (ne_eqb _ _ row.is-0, ne_eqb _ _ row.is-1, row.is-2, ne_eqb _ _ row.is-3)
    (c.control_said-in-false-false-true-false.ensures ∙ ap control_said (three_is _ c.args.a c.args.b c.args.d))

pub returns-in-false-false-false-true : goal.returns-in-false-false-false-true
unfolding symbols_say
returns-in-false-false-false-true c =
    let row = c.in-false-false-false-true in
    rw (ne_eqb _ _ row.is-0, ne_eqb _ _ row.is-1, ne_eqb _ _ row.is-2, row.is-3)
    (c.control_said-in-false-false-false-true.ensures ∙ ap control_said (three_is _ c.args.a c.args.b c.args.c))
