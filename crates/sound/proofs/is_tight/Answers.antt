-- `sound::is_tight` meets its contract. Assumes nothing.
use Rattle.std.proofs.Common.{rules}
use Rattle.cells.specs.Memories.{world_of}
use Rattle.sound.specs.Questions.{answer_at, everywhere}
use Rattle.sound.specs.Sound.{tight}
use Rattle.sound.specs.declared.questions.Question.TheVariants.{Tied, Sends, Replied}
use Rattle.sound.proofs.is_tight.Goals as goal

pub returns : goal.returns
unfolding tight everywhere
returns c =
    let w = world_of c.args.m.now in
    rw (c.at_every_place.ensures (answer_at Tied w) (λ slot i r e. search rules))
    (rw (c.at_every_place-sent.ensures (answer_at Sends w) (λ slot i r e. search rules))
    (rw (c.at_every_place-answered.ensures (answer_at Replied w) (λ slot i r e. search rules))))
