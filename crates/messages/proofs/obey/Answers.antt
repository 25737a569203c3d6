-- `messages::obey` meets its contract: its Sets touch no port, and its reply touches no line. Assumes nothing.
use Rattle.std.proofs.Common.{sym, subst}
use Rattle.cells.specs.View.{view}
use Rattle.cells.specs.World.{World, world, lined}
use Rattle.settings.proofs.Leaves.{Leaves}
use Rattle.settings.proofs.Lent.{settled_lent}
use Rattle.messages.proofs.Writes.{write_leaves}
use Rattle.messages.proofs.Replies.{room_leaves}
use Rattle.messages.proofs.Lent.{wrong_lent, read_lent, write_lent}
use Rattle.messages.proofs.obey.Goals as goal

pub write-done-requires : goal.write-done-requires
write-done-requires c =
    let a = c.args in
    (c.requires.room.node, settled_lent (lined a.st.now a.ls.now) a.mem.now c.requires.settled)

pub send-requires-in-Write : goal.send-requires-in-Write
send-requires-in-Write c =
    let a = c.args in
    let w = lined a.st.now a.ls.now in
    let left = subst (λ (z : World). Leaves w z) (sym c.write-done.ensures.1) (write_leaves w a.slot.0 _) in
    room_leaves a.mem.now a.ls.now left c.requires.room

pub returns-in-Wrong : goal.returns-in-Wrong
returns-in-Wrong c =
    let a = c.args in
    wrong_lent a.ls.now a.slot.0 (world a.st.now a.mem.now) _ _ c.in-Wrong.is c.send.ensures

pub returns-in-Read : goal.returns-in-Read
returns-in-Read c =
    let a = c.args in
    read_lent a.ls.now a.slot.0 (world a.st.now a.mem.now) _ _ _ c.in-Read.is c.read-v.ensures c.send-in-Read.ensures

pub returns-in-Write : goal.returns-in-Write
returns-in-Write c =
    let a = c.args in
    write_lent (view a.st.now) a.mem.now a.ls.now a.slot.0 _ _ _ _ _ c.in-Write.is c.write-done.ensures c.verdict.ensures
    c.send-in-Write.ensures
