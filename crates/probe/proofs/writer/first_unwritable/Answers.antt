-- `probe::writer::first_unwritable` meets its contract: the library's first place is the definition's. Assumes nothing.
use Rattle.std.proofs.Common.{not, rules, ◌∙◌}
use Rattle.std.proofs.lemmas.Iterator.{YieldsList-from_slice}
use Rattle.std.proofs.lemmas.Iterator.Search.{position_from_yields_List}
use Rattle.probe.specs.Form.{writable}
use Rattle.probe.proofs.Writing.{unwritable_is}
use Rattle.probe.proofs.writer.first_unwritable.Goals as goal

pub returns : goal.returns
returns g c =
    let F = g.L.Link.form in
    position_from_yields_List (λ w. not (writable F w)) _ _ _ c.position.ensures.ran
    (YieldsList-from_slice c.args.tokens.now c.iter.ensures.rest) (λ x b q k. search rules)
    ∙ unwritable_is F c.args.tokens.now
