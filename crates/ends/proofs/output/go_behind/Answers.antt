-- `ends::output::go_behind` meets its contract. Assumes nothing.
use Rattle.ends.proofs.Carried.{ready_behind, behind_gives}
use Rattle.ends.proofs.output.go_behind.Goals as goal

pub go_by-requires : goal.go_by-requires
go_by-requires c = let h = c.requires in (ready_behind _ _ _ _ _ _ c.push.ensures h.1.node, h.0, h.1.port)

pub returns : goal.returns
returns c = behind_gives _ _ _ _ _ _ _ _ c.push.ensures c.go_by.ensures
