-- `grammar::stage::is_last` meets its contract. Assumes nothing.
use Rattle.std.proofs.Common.{◌≡◌, false, refl, arith}
use Rattle.grammar.specs.Stage.{is_last}
use Rattle.grammar.proofs.Nexts.{narrow, channel, low_channel, no_channel, nothing, sink_last, unit_last}
use Rattle.grammar.proofs.stage.is_last.Goals as goal

pub returns-in-0-to-1535 : goal.returns-in-0-to-1535
returns-in-0-to-1535 c = narrow (λ x. false ≡ is_last x) c.args.word (omega arith) refl refl refl refl

pub returns-in-1536-to-1567 : goal.returns-in-1536-to-1567
returns-in-1536-to-1567 c = let w = c.args.word in rw (channel w (omega arith) (low_channel w (omega arith)))

pub returns-in-1568-to-1790 : goal.returns-in-1568-to-1790
returns-in-1568-to-1790 c = rw (no_channel c.args.word (omega arith) (omega arith))

pub returns-in-1791 : goal.returns-in-1791
returns-in-1791 c = let e : c.args.word ≡ 0x6FF = omega arith in rw e sink_last

pub returns-in-1792-to-1986 : goal.returns-in-1792-to-1986
returns-in-1792-to-1986 c = rw (nothing c.args.word (omega arith) (λ e. omega arith))

pub returns-in-1987 : goal.returns-in-1987
returns-in-1987 c = let e : c.args.word ≡ 0x7C3 = omega arith in rw e unit_last

pub returns-in-1988-to-65535 : goal.returns-in-1988-to-65535
returns-in-1988-to-65535 c = rw (nothing c.args.word (omega arith) (λ e. omega arith))
