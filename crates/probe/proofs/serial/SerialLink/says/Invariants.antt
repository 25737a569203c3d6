-- `probe::serial::Serial::says`: at each turn the bits so far. Assumes nothing.
use Rattle.probe.proofs.Serials.{Sofar}
use Rattle.probe.proofs.serial.SerialLink.says.Given as goal

abbrev pub invariant-loop-symbol : goal.invariant-loop-symbol
invariant-loop-symbol l = Sofar l.symbols l.symbol-index l.bits l.ones
