-- `grammar::stage::of_one` meets its contract. Assumes nothing.
use Rattle.std.proofs.Common.{◌≡◌, ◌<◌, false, refl, arith}
use Rattle.grammar.specs.Stage.{of_one}
use Rattle.grammar.proofs.Nexts.{low, one, past_one}
use Rattle.grammar.proofs.stage.of_one.Goals as goal

pub returns-in-512-to-767 : goal.returns-in-512-to-767
returns-in-512-to-767 c = rw (one c.args.word (omega arith) (omega arith))

pub returns-in_default : goal.returns-in_default
returns-in_default c = low (λ x. false ≡ of_one x) c.args.word (omega arith) refl refl refl

pub returns-in_default-2 : goal.returns-in_default-2
returns-in_default-2 c = past_one (λ x. false ≡ of_one x) c.args.word (omega arith) refl refl refl refl
