-- `travel::arrive::step_to` meets its contract. Assumes nothing.
use Rattle.std.proofs.Common.{arith}
use borrow.Author.Tests.{ne_eqb}
use Rattle.cells.specs.World.{lined, lent}
use Rattle.travel.proofs.Lent.{there_lent, taken_lent}
use Rattle.travel.proofs.Arrivals.{moved}
use Rattle.travel.proofs.arrive.step_to.Goals as goal

pub take-word-requires : goal.take-word-requires
take-word-requires c =
    let a = c.args in
    let some = rw c.at-x.ensures at c.if-x-eq0.false in
    (there_lent (lined a.st.now a.ls.now) a.mem.now a.a.0 a.l (c.requires (omega (arith, some))).0, omega (arith, some))

pub arrive-requires : goal.arrive-requires
arrive-requires c =
    let a = c.args in
    let some = rw c.at-x.ensures at c.if-x-eq0.false in
    let e = taken_lent _ _ a.mem.now a.a.0 a.l c.take-word.ensures.1 in
    rw (e, c.take-word.ensures.0) (c.requires (omega (arith, some))).1

pub returns : goal.returns
returns c =
    let a = c.args in
    let some = ne_eqb _ 0 (rw c.at-x.ensures at c.if-x-eq0.false) in
    let e = taken_lent (lined a.st.now a.ls.now) _ a.mem.now a.a.0 a.l c.take-word.ensures.1 in
    moved (lent a.st.now a.mem.now a.ls.now) a.a.0 a.l a.b a.k some _ _ e c.take-word.ensures.0 _ _ c.arrive.ensures
