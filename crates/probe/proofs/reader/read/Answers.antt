-- `probe::reader::read` meets its contract: what is answered, from what the capture was found to be. Assumes nothing.
use Rattle.std.proofs.Common.{Ok, sym, ap, ◌∙◌}
use Rattle.std.proofs.lemmas.Result.{err_from_is_err_and}
use Rattle.probe.specs.Form.{tokens}
use Rattle.probe.specs.Calls.{out}
use Rattle.probe.proofs.Writing.{delivered_short, delivered_whole}
use Rattle.probe.proofs.Reading.{read_gives, whole_long}
use Rattle.probe.proofs.reader.read.Goals as goal

pub returns-in_err-count : goal.returns-in_err-count
returns-in_err-count g c =
    let refused = err_from_is_err_and c.from_residual.result c.from_residual.ensures.1 in
    rw (refused.1, refused.2) (read_gives g.L.Link.form c.args.capture.now c.args.buffer.now _ c.in_err-count.ensures)

pub returns-then-buffer-count : goal.returns-then-buffer-count
returns-then-buffer-count g c =
    let F = g.L.Link.form in
    let long = whole_long F c.args.capture.now c.in_ok-count.count (sym c.in_ok-count.ensures) in
    delivered_short (tokens F c.args.capture.now) c.args.buffer.now (rw long at c.if-buffer-count.true)
    ∙ read_gives F c.args.capture.now c.args.buffer.now _ c.in_ok-count.ensures

pub unload-requires : goal.unload-requires
unload-requires g c =
    let long = whole_long g.L.Link.form c.args.capture.now c.in_ok-count.count (sym c.in_ok-count.ensures) in
    rw long at c.if-buffer-count.false

pub returns : goal.returns
returns g c =
    let F = g.L.Link.form in
    let long = whole_long F c.args.capture.now c.in_ok-count.count (sym c.in_ok-count.ensures) in
    ap (out (Ok c.in_ok-count.count)) c.unload.ensures
    ∙ delivered_whole (tokens F c.args.capture.now) c.args.buffer.now _ long (rw long at c.if-buffer-count.false)
    ∙ read_gives F c.args.capture.now c.args.buffer.now _ c.in_ok-count.ensures
