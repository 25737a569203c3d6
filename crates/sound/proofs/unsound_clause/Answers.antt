-- `sound::unsound_clause` meets its contract. Assumes nothing.
use Rattle.std.proofs.Common.{sym, ◌∙◌}
use Rattle.sound.specs.Sound.{unsound_clause}
use Rattle.sound.proofs.unsound_clause.Goals as goal

pub returns-then-shaped : goal.returns-then-shaped
unfolding unsound_clause
returns-then-shaped c = rw (sym c.shaped.ensures ∙ c.if-shaped.true, c.clause_after.ensures)

pub returns : goal.returns
unfolding unsound_clause
returns c = rw (sym c.shaped.ensures ∙ c.if-shaped.false)
