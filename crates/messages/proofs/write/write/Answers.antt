-- `messages::write::write` meets its contract: what stands at no known address sets nothing. Assumes nothing.
use Rattle.std.proofs.Common.{refl}
use Rattle.messages.specs.Write.{written}
use Rattle.messages.proofs.write.write.Goals as goal

pub returns-in-Unknown : goal.returns-in-Unknown
unfolding written
returns-in-Unknown c = rw c.in-Unknown.is (refl, refl)
