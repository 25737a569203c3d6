-- `line_clauses::reached::reached` meets its contract. Assumes nothing.
use Rattle.std.proofs.Common.{◌∙◌}
use borrow.Author.Tests.{lt-ltb, le-ltb}
use Rattle.line_clauses.specs.Lines.{reached}
use Rattle.line_clauses.proofs.reached.reached.Goals as goal

pub returns-then-p-lt-LINKS : goal.returns-then-p-lt-LINKS
unfolding reached
returns-then-p-lt-LINKS c =
    rw (lt-ltb _ _ c.if-p-lt-LINKS.true) (c.reached_from.ensures ∙ rw (c.far_at-f.ensures, c.back-s.ensures))

pub returns : goal.returns
unfolding reached
returns c = rw (le-ltb _ _ c.if-p-lt-LINKS.false, c.back-s.ensures)
