-- `fresh::settle` meets its contract: a node more has its settings, until all have. Assumes nothing.
use Rattle.std.proofs.Common.{◌≡◌, ◌∙◌, length, arith}
use borrow.Author.Rules.{rules}
use Rattle.fresh.proofs.Settled.{settle_next}
use Rattle.fresh.proofs.settle.Goals as goal

pub loop-n-preserved : goal.loop-n-preserved
loop-n-preserved c =
    let l = c.loop-n in
    let q : length c.put.new.st ≡ length l.st = search rules in (
      l.invariant.0,
      omega arith,
      c.put.ensures ∙ rw (c.settings.ensures, l.invariant.2) (settle_next _ _),
      q ∙ l.invariant.3,
    )
