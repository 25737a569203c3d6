-- `moves::take::take` meets its contract. Assumes nothing.
use Rattle.cells.specs.World.{world}
use Rattle.travel.proofs.Lent.{holds_lent}
use Rattle.moves.proofs.Takes.{up_after, took_gives}
use Rattle.moves.proofs.take.take.Goals as goal

pub pop-word-requires : goal.pop-word-requires
pop-word-requires c =
    let a = c.args in holds_lent (world a.st.now a.mem.now) a.ls.now a.slot.0 a.p 1 c.requires.holds

pub grant_up-requires : goal.grant_up-requires
grant_up-requires c =
    let a = c.args in up_after (world a.st.now a.mem.now) _ _ a.ls.now a.slot.0 a.p c.pop-word.ensures.1 c.requires.up

pub returns : goal.returns
returns c =
    let a = c.args in
    let e = c.pop-word.ensures in
    (e.0, took_gives (world a.st.now a.mem.now) _ _ a.ls.now a.slot.0 a.p e.1 _ _ c.grant_up.ensures)
