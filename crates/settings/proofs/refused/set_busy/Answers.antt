-- `settings::refused::set_busy` meets its contract. Assumes nothing.
use Rattle.settings.proofs.Settled.{both_lines}
use Rattle.settings.proofs.refused.set_busy.Goals as goal

pub hello_busy-requires : goal.hello_busy-requires
hello_busy-requires c = let l = rw c.in-Hello.is at c.requires.1 in both_lines _ c.requires.2 _ _ c.requires.0 l
