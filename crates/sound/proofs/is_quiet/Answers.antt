-- `sound::is_quiet` meets its contract. Assumes nothing.
use Rattle.std.proofs.Common.{rules}
use Rattle.cells.specs.Memories.{world_of}
use Rattle.sound.specs.Questions.{answer_at, everywhere}
use Rattle.sound.specs.Sound.{quiet}
use Rattle.sound.specs.declared.questions.Question.TheVariants.{QuietPort, QuietEnd, QuietLine}
use Rattle.sound.proofs.is_quiet.Goals as goal

pub returns : goal.returns
unfolding quiet everywhere
returns c =
    let w = world_of c.args.m.now in
    rw (c.at_every_place.ensures (answer_at QuietPort w) (λ slot i r e. search rules))
    (rw (c.at_every_place-ends.ensures (answer_at QuietEnd w) (λ slot i r e. search rules))
    (rw (c.at_every_place-lines.ensures (answer_at QuietLine w) (λ slot i r e. search rules))))
