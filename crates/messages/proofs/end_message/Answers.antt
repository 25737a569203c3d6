-- `messages::end_message` meets its contract: what the unit has heard is told, and obeyed. Assumes nothing.
use Rattle.std.proofs.Common.{ap, ◌∙◌}
use Rattle.cells.specs.declared.unit.Unit.{Unit}
use Rattle.messages.specs.Heard.{message_of}
use Rattle.messages.specs.Ended.{ended}
use Rattle.messages.proofs.end_message.Goals as goal

pub returns : goal.returns
unfolding ended
returns c =
    rw (← (c.message_of-m.ensures ∙ ap (λ (k : Unit). message_of k.hearing c.args.word) c.at-k.ensures)) c.obey.ensures
