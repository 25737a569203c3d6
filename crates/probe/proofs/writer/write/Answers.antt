-- `probe::writer::write` meets its contract: a word that has no form, and what is measured. Assumes nothing.
use Rattle.std.proofs.Common.{◌≡◌, Some, None, Ok, arith, sym, ap, ◌∙◌}
use Rattle.std.proofs.lemmas.Result.{err_from_is_err_and}
use Rattle.probe.specs.Form.{transitions}
use Rattle.probe.specs.Calls.{out}
use Rattle.probe.specs.declared.answer.Refusal.TheVariants.{NoSuch}
use Rattle.probe.proofs.Writing.{delivered_short, delivered_whole, measured_fits, measured_over, wrote_none}
use Rattle.probe.proofs.writer.write.Goals as goal

pub returns-in_err-count : goal.returns-in_err-count
returns-in_err-count g c =
    let F = g.L.Link.form in
    let ys = transitions F c.args.tokens.now in
    let refused = err_from_is_err_and c.from_residual.result c.from_residual.ensures.1 in
    let none : c.measure.result ≡ None = grind arith in
    let same = rw none at c.in_err-count.ensures.value in
    let what : c.in_err-count.field-0.0 ≡ NoSuch = cc in
    rw (refused.1, refused.2, what)
    (delivered_short ys c.args.buffer.now (measured_over _ _ (sym c.measure.ensures ∙ none))
    ∙ wrote_none F c.args.tokens.now c.args.buffer.now c.in_default.ensures)

pub returns : goal.returns
returns g c =
    let F = g.L.Link.form in
    let ys = transitions F c.args.tokens.now in
    let some : c.measure.result ≡ Some c.in_ok-count.count = grind arith in
    let fits = measured_fits _ _ c.in_ok-count.count (sym c.measure.ensures ∙ some) in
    ap (out (Ok c.in_ok-count.count)) c.fill.ensures
    ∙ delivered_whole ys c.args.buffer.now _ fits.0 fits.1
    ∙ wrote_none F c.args.tokens.now c.args.buffer.now c.in_default.ensures
