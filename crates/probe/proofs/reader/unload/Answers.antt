-- `probe::reader::unload` meets its contract: the buffer has room for what the i-th sequence says. Assumes nothing.
use Rattle.std.proofs.Common.{◌≡◌, ◌+◌, [], ◌∷◌, ◌++◌, length, length-append, sym, ◌∙◌}
use Rattle.probe.proofs.Reading.{left_all, all_read, gathered_none, no_token, has_room, unloading_token, unloading_none}
use Rattle.probe.proofs.reader.unload.Goals as goal

pub loop-symbols-init : goal.loop-symbols-init
loop-symbols-init g c =
    let chunks = c.chunks_exact-symbols-items.ensures in
    rw (c.into_iter-symbols-iterator.ensures.into_iter_gives) (record {
      left = left_all g.L.Link.form c.args.capture.now _ _ (rw (chunks.size, c.WIDTH.ensures) g.met.L.Link.wide) (chunks.size ∙ c.WIDTH.ensures ∙ g.met.L.Link.width_is) chunks.rest;
      count = rw gathered_none;
      laid = rw gathered_none;
    })

pub bounds-buffer-at : goal.bounds-buffer-at
bounds-buffer-at g c =
    let steps = c.in-Some.ensures.steps in
    (has_room g.L.Link.form c.args.capture.now _ _ _ _ _ _ _ _ c.loop-symbols.invariant steps.1.0 steps.1.1 c.in-Token.word
    (sym c.in-Token.is ∙ c.says.ensures) c.requires).0

pub loop-symbols-preserved-in-Token : goal.loop-symbols-preserved-in-Token
loop-symbols-preserved-in-Token g c =
    let steps = c.in-Some.ensures.steps in
    let more : length (c.loop-symbols.yielded ++ (c.in-Some.symbols ∷ [])) ≡ length c.loop-symbols.yielded + 1 = length-append _ _ in
    let said = sym c.in-Token.is ∙ c.says.ensures in
    let room =
    has_room g.L.Link.form c.args.capture.now _ _ _ _ _ _ _ _ c.loop-symbols.invariant steps.1.0 steps.1.1 c.in-Token.word said c.requires in
    rw (more, steps.0)
    (unloading_token g.L.Link.form c.args.capture.now _ _ _ _ _ _ _ _ c.loop-symbols.invariant steps.1.0 steps.1.1 c.in-Token.word said
    room.1)

pub loop-symbols-preserved : goal.loop-symbols-preserved
loop-symbols-preserved g c =
    let steps = c.in-Some.ensures.steps in
    let more : length (c.loop-symbols.yielded ++ (c.in-Some.symbols ∷ [])) ≡ length c.loop-symbols.yielded + 1 = length-append _ _ in
    let none = no_token _ c.in_default.not-Token in
    rw (more, steps.0)
    (unloading_none g.L.Link.form c.args.capture.now _ _ _ _ _ _ _ _ c.loop-symbols.invariant steps.1.0 steps.1.1 (rw (← c.says.ensures) none))

pub returns : goal.returns
returns g c =
    let u = c.loop-symbols.invariant in
    let all = all_read g.L.Link.form c.args.capture.now _ _ _ u.left c.in-None.ensures.steps.1.0 in
    rw (← all) u.laid
