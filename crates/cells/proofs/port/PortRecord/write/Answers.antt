-- `cells::port::PortRecord::write` meets its contract: every word is stored, and each circuit in its own words. Assumes nothing.
use Rattle.laws.proofs.Row.{listed}
use Rattle.cells.specs.Layout.{port}
use Rattle.cells.proofs.port.PortRecord.write.Goals as goal

pub returns-clause-words : goal.returns-clause-words
returns-clause-words c = rw (c.write-2.ensures, c.write.ensures, listed port.size c.args.w.now 0 c.requires)
