-- `settings::made::make` meets its contract. Assumes nothing.
use Rattle.settings.proofs.Settled.{hello_room}
use Rattle.settings.proofs.made.make.Goals as goal

pub hello-requires : goal.hello-requires
hello-requires c =
    let l = rw c.in-Hello.is at c.requires.1 in
    let ready = c.requires.2 _ _ c.requires.0 l in
    (ready.line, hello_room _ _ _ ready (rw c.in-Hello.is at c.requires.3))
