-- `cells::record::Record::at` meets its contract where words are missing: there is no record. Assumes nothing.
use Rattle.std.proofs.Common.{sym, ap, ◌∙◌}
use Rattle.cells.proofs.Tables.{words_missing}
use Rattle.cells.proofs.record.Record.at.Goals as goal

pub returns : goal.returns
returns g c =
    let a = c.args in
    let kind = g.Self.Record in
    let short = rw (c.words-w.ensures, c.KIND.ensures, c.KIND-2.ensures) at c.if-w-KIND.false in
    c.none.ensures
    ∙ ap kind.of_words (sym (words_missing kind.KIND kind.laws.within a.st.now a.slot.0 a.i short))
    ∙ kind.laws.reads a.st.now a.slot.0 a.i
