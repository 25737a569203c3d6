-- `travel::grant::consider` meets its contract. Assumes nothing.
use Rattle.cells.specs.World.{lined}
use Rattle.travel.proofs.Due.{due_room, due_fits}
use Rattle.travel.proofs.grant.consider.Goals as goal

pub issue-requires : goal.issue-requires
issue-requires c =
    let a = c.args in
    let w = lined a.st.now a.ls.now in (
      c.requires.here,
      due_room w a.slot.0 a.k _ c.grant_due-g.ensures c.if-g-eq0.false,
      due_fits w a.slot.0 a.k _ c.grant_due-g.ensures c.requires.fits,
    )
