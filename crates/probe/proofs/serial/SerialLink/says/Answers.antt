-- `probe::serial::Serial::says` meets its contract: the bits so far, and what they come to. Assumes nothing.
use Rattle.std.proofs.Common.{arith}
use Rattle.probe.proofs.Serials.{sofar_none, sofar_next, no_bit, odd_end, even_end}
use Rattle.probe.specs.Serial.{serial}
use Rattle.probe.proofs.serial.SerialLink.says.Goals as goal

pub loop-symbol-init : goal.loop-symbol-init
loop-symbol-init c = sofar_none c.args.symbols.now

pub returns-then-symbol-gt1 : goal.returns-then-symbol-gt1
unfolding serial
returns-then-symbol-gt1 c =
    let l = c.loop-symbol in
    no_bit c.args.symbols.now _ _ _ l.invariant (omega arith) c.if-symbol-gt1.true

pub loop-symbol-preserved : goal.loop-symbol-preserved
loop-symbol-preserved c =
    let l = c.loop-symbol in
    sofar_next c.args.symbols.now _ _ _ l.invariant (omega arith) c.if-symbol-gt1.false

pub returns-then-odd : goal.returns-then-odd
unfolding serial
returns-then-odd c =
    let l = c.loop-symbol in
    odd_end c.args.symbols.now _ _ _ l.invariant (omega arith) c.if-odd.true

pub returns : goal.returns
unfolding serial
returns c =
    let l = c.loop-symbol in
    even_end c.args.symbols.now _ _ _ l.invariant (omega arith) c.if-odd.false
