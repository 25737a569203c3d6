-- `ends::output::fill` meets its contract: a header leaves room for the token behind it. Assumes nothing.
use Rattle.cells.specs.World.{world}
use Rattle.ends.proofs.Carried.{room_header}
use Rattle.ends.proofs.output.fill.Goals as goal

pub push-requires : goal.push-requires
push-requires c =
    let a = c.args in
    room_header (world a.st.now a.mem.now) _ a.slot.0 a.p a.h c.requires c.push_header.ensures
