-- `fresh::start_state` meets its contract: the words cleared, the nodes settled, and the links enabled or not. Assumes nothing.
use Rattle.std.proofs.Common.{rules, ◌∙◌}
use Rattle.fresh.proofs.Settled.{ready, settled, settled_nodes}
use Rattle.fresh.proofs.start_state.Goals as goal

pub settle-requires : goal.settle-requires
settle-requires c = ready _ _ c.requires (search rules)

pub returns-in-Fresh : goal.returns-in-Fresh
returns-in-Fresh c =
    let boards = settled_nodes _ _ c.requires (search rules) _ c.settle.ensures in
    c.boot.ensures ∙ rw (c.in-Fresh.is, boards)

pub returns-in-Blank : goal.returns-in-Blank
returns-in-Blank c = settled _ _ c.requires (search rules) _ c.settle.ensures ∙ rw c.in-Blank.is
