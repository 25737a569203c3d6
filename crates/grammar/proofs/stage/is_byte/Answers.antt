-- `grammar::stage::is_byte` meets its contract. Assumes nothing.
use Rattle.std.proofs.Common.{◌≡◌, true, false, refl, arith}
use Rattle.grammar.specs.Stage.{is_byte}
use Rattle.grammar.proofs.Nexts.{narrow, byte, past_byte}
use Rattle.grammar.proofs.stage.is_byte.Goals as goal

pub returns-in_default : goal.returns-in_default
returns-in_default c = narrow (λ x. false ≡ is_byte x) c.args.word (omega arith) refl refl refl refl

pub returns-in-1536-to-1791 : goal.returns-in-1536-to-1791
returns-in-1536-to-1791 c = byte (λ x. true ≡ is_byte x) c.args.word (omega arith) (omega arith) refl refl

pub returns-in_default-2 : goal.returns-in_default-2
returns-in_default-2 c = past_byte (λ x. false ≡ is_byte x) c.args.word (omega arith) refl refl
