-- `cells::record::Record::put` meets its contract: the words of one record are others, and they are read back. Assumes nothing.
use Rattle.std.proofs.Common.{◌≡◌, ◌+◌, ◌≤◌, length, arith}
use Rattle.cells.specs.Layout.{begins}
use Rattle.cells.specs.View.{view}
use Rattle.cells.proofs.Tables.{in_state}
use Rattle.cells.proofs.Puts.{record_put}
use Rattle.cells.proofs.record.Record.put.Goals as goal
use Rattle.cells.proofs.record.Record.put.Goals.{After-KIND-2}
use Rattle.cells.proofs.record.Record.put.Given.{Over}

module _ (g : Over) (c : After-KIND-2 g) where
  begins_there : c.begins-a.result ≡ begins g.Self.Record.KIND c.args.slot.0 c.args.i
  begins_there = rw c.KIND.ensures at c.begins-a.ensures

  -- the record ends within the state
  ends : c.begins-a.result + c.KIND-2.result.size ≤ length c.args.st.now
  unfolding view
  ends =
      let kind = g.Self.Record in
      rw (begins_there, c.KIND-2.ensures)
      (in_state kind.KIND kind.laws.within c.args.st.now c.args.slot.0 c.args.i c.requires.0 c.requires.1)

pub begins-a-requires : goal.begins-a-requires
unfolding view
begins-a-requires g c = rw c.KIND.ensures (g.Self.Record.laws.within, c.requires.1, omega (arith, c.requires.0))

pub overflow_add-e : goal.overflow_add-e
overflow_add-e g c = omega (arith, ends g (goal.at.overflow_add-e g c).After-KIND-2)

pub offset_bounds-st-a : goal.offset_bounds-st-a
offset_bounds-st-a g c = omega (arith, ends g (goal.at.offset_bounds-st-a g c).After-KIND-2)

pub slice_bounds-write-end : goal.slice_bounds-write-end
slice_bounds-write-end g c = omega (arith, ends g (goal.at.slice_bounds-write-end g c).After-KIND-2)

pub returns : goal.returns
unfolding view
returns g c =
    let a = c.args in
    let there = begins_there g (goal.at.returns g c).After-KIND-2 in
    let to : c.begins-a.result + c.KIND-2.result.size ≡ c.begins-a.result + g.Self.Record.KIND.size = rw c.KIND-2.ensures in
    record_put g.Self.Record.laws a.st.now _ a.slot.0 a.i _ _ a.k c.requires.0 c.requires.1 there to c.write.ensures.words
    c.write.ensures.back
