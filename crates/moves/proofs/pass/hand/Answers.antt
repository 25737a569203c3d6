-- `moves::pass::hand` meets its contract. Assumes nothing.
use Rattle.std.proofs.Common.{ℕ, ◌∙◌}
use Rattle.acts.specs.Acts.{first_at, handed}
use Rattle.acts.proofs.Doors.{handed_nodes, door}
use Rattle.cells.specs.View.{Net, view}
use Rattle.cells.specs.World.{lent}
use Rattle.moves.specs.Moves.{closes_channel}
use Rattle.moves.proofs.After.{node_after, given_after, after_took}
use Rattle.moves.proofs.pass.hand.Goals as goal

pub give-requires : goal.give-requires
give-requires c =
    let a = c.args in
    let w = lent a.st.now a.mem.now a.ls.now in
    let e = c.take-word.ensures in (
      node_after w _ a.slot.0 a.p e.1 c.requires.2.holds.node,
      given_after w _ a.slot.0 a.p e.1 a.c _ e.0 c.requires.1,
    )

pub close_channel-requires : goal.close_channel-requires
close_channel-requires c =
    let a = c.args in
    let w = lent a.st.now a.mem.now a.ls.now in
    let h = c.requires.2.holds in
    rw (c.give.ensures, handed_nodes _ a.slot.0 a.c c.take-word.result) (
      node_after w _ a.slot.0 a.p c.take-word.ensures.1 h.node,
      h.port,
      door (view a.st.now) a.slot.0 a.c (first_at w a.slot.0 a.p) c.requires.1,
      c.requires.0,
    )

pub returns : goal.returns
returns c =
    let a = c.args in
    let n = a.slot.0 in
    let after : Net → ℕ → Net = λ s x. closes_channel (handed s n a.c x) n a.p a.c a.t x in
    after_took (lent a.st.now a.mem.now a.ls.now) _ n a.p c.take-word.ensures.1 _ _ after c.take-word.ensures.0
    (c.close_channel.ensures ∙ rw c.give.ensures)
