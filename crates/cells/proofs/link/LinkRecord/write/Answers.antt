-- `cells::link::LinkRecord::write` meets its contract: every word is stored, and each circuit in its own words. Assumes nothing.
use Rattle.laws.proofs.Row.{listed}
use Rattle.cells.specs.Layout.{link}
use Rattle.cells.proofs.link.LinkRecord.write.Goals as goal

pub returns-clause-words : goal.returns-clause-words
returns-clause-words c = rw (c.write.ensures, listed link.size c.args.w.now 0 c.requires)
