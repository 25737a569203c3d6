-- `fresh::boot_node` meets its contract: a link more is enabled, until all four are. Assumes nothing.
use Rattle.std.proofs.Common.{◌≡◌, ◌∙◌, length, arith}
use borrow.Author.Rules.{rules}
use Rattle.fresh.proofs.Links.{boot_next}
use Rattle.fresh.proofs.boot_node.Goals as goal

pub loop-l-preserved : goal.loop-l-preserved
loop-l-preserved c =
    let l = c.loop-l in
    let q : length c.put.new.st ≡ length l.st = search rules in (
      omega (arith, l.invariant.0),
      omega arith,
      c.put.ensures ∙ rw (c.enabled_link.ensures, l.invariant.2) (boot_next _ l.l _ l.invariant.0 (omega arith)),
      q ∙ l.invariant.3,
    )
