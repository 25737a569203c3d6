-- `probe::reader::judge` meets its contract: what the i-th sequence says is counted, and it has a meaning. Assumes nothing.
use Rattle.std.proofs.Common.{arith, refl, sym, ap, ◌∙◌, add-zero}
use Rattle.std.specs.Iterator.Adapters.{enumerate_count}
use Rattle.probe.specs.Form.{meaningless}
use Rattle.probe.proofs.Reading.{left_all, said_here, in_whole, all_read, gathered_none, gathered_few, judging_more, judged_bad, judged_cut, judged_whole}
use Rattle.probe.proofs.reader.judge.Goals as goal

pub loop-i-init : goal.loop-i-init
loop-i-init g c =
    let items = c.enumerate-i-items.ensures in
    let chunks = c.chunks_exact.ensures in
    rw (c.into_iter-i-iterator.ensures.into_iter_gives, items.source, items.count) (record {
      left = left_all g.L.Link.form c.args.capture.now _ _ (rw (chunks.size, c.WIDTH-width.ensures) g.met.L.Link.wide) (chunks.size ∙ c.WIDTH-width.ensures ∙ g.met.L.Link.width_is) chunks.rest;
      count = rw gathered_none;
      sound = λ j h. absurd (omega arith);
    })

pub overflow_add-count : goal.overflow_add-count
overflow_add-count g c =
    let steps = c.in-Some.ensures.steps in
    let few = gathered_few g.L.Link.form c.args.capture.now (enumerate_count c.loop-i.i-iterator) in
    omega (arith, few, c.loop-i.invariant.count, steps.1, steps.3)

pub loop-i-preserved-in-Token : goal.loop-i-preserved-in-Token
loop-i-preserved-in-Token g c =
    let steps = c.in-Some.ensures.steps in
    rw (steps.2, steps.0.0)
    (judging_more g.L.Link.form c.args.capture.now _ _ _ _ _ _ c.loop-i.invariant steps.0.1.0 steps.0.1.1 _
    (sym c.in-Token.is ∙ c.says.ensures) refl)

pub loop-i-preserved : goal.loop-i-preserved
loop-i-preserved g c =
    let steps = c.in-Some.ensures.steps in
    let more =
    judging_more g.L.Link.form c.args.capture.now _ _ _ _ _ _ c.loop-i.invariant steps.0.1.0 steps.0.1.1 _
    (sym c.in-Return.is ∙ c.says.ensures) refl in
    rw (steps.2, steps.0.0) (rw add-zero at more)

pub returns-in-Nothing : goal.returns-in-Nothing
returns-in-Nothing g c =
    let F = g.L.Link.form in
    let steps = c.in-Some.ensures.steps in
    let left = c.loop-i.invariant.left in
    let here = said_here F c.args.capture.now _ _ _ left _ _ steps.0.1.0 steps.0.1.1 in
    rw (steps.1, c.WIDTH-width.ensures, g.met.L.Link.width_is)
    (judged_bad F c.args.capture.now _ c.loop-i.invariant.sound
    (in_whole F c.args.capture.now _ _ _ left _ _ steps.0.1.0 steps.0.1.1) (ap meaningless (sym here ∙ sym c.says.ensures ∙ c.in-Nothing.is)))

pub returns-then-capture-width-ne0 : goal.returns-then-capture-width-ne0
returns-then-capture-width-ne0 g c =
    let F = g.L.Link.form in
    let all = all_read F c.args.capture.now _ _ _ c.loop-i.invariant.left c.in-None.ensures.steps.0.1.0 in
    judged_cut F c.args.capture.now _ c.loop-i.invariant.sound all
    (rw (c.WIDTH-width.ensures, g.met.L.Link.width_is) at c.if-capture-width-ne0.true)

pub returns : goal.returns
returns g c =
    let F = g.L.Link.form in
    let all = all_read F c.args.capture.now _ _ _ c.loop-i.invariant.left c.in-None.ensures.steps.0.1.0 in
    judged_whole F c.args.capture.now _ c.loop-i.invariant.sound all _ c.loop-i.invariant.count
    (rw (c.WIDTH-width.ensures, g.met.L.Link.width_is) at c.if-capture-width-ne0.false)
