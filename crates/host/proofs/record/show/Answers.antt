-- `host::record::show` meets its contract: a record's words fill a buffer that has their number. Assumes nothing.
use Rattle.std.proofs.Common.{◌≡◌, length, sym, ap, ◌∙◌}
use Rattle.cells.specs.View.{view}
use Rattle.host.proofs.Shows.{shows_nothing, shows_record}
use Rattle.host.proofs.record.show.Goals as goal

pub returns-then-out-KIND : goal.returns-then-out-KIND
returns-then-out-KIND g c =
    let kind = g.R.Record in
    let k = kind.entry (view c.args.st.now) c.args.slot c.args.i in
    let other = rw (c.KIND.ensures, ← (kind.laws.sized k)) at c.if-out-KIND.true in
    shows_nothing (kind.to_words k) c.args.out.now other

pub returns : goal.returns
returns g c =
    let kind = g.R.Record in
    let k = kind.entry (view c.args.st.now) c.args.slot c.args.i in
    let fits : length c.args.out.now ≡ length (kind.to_words k) =
    c.if-out-KIND.false ∙ ap (λ m. m.size) c.KIND.ensures ∙ sym (kind.laws.sized k) in
    shows_record (kind.to_words k) c.args.out.now c.write.new.w fits (c.write.ensures.words ∙ ap kind.to_words c.at.ensures)
