-- `switch::step` meets its contract. Assumes nothing.
use Rattle.std.proofs.Common.{sym, ◌∙◌}
use Prim.Native.Nat.{zero-le}
use Rattle.cells.specs.View.{view}
use Rattle.cells.specs.World.{world, lent}
use Rattle.sound.proofs.Facts.{node_facts}
use Rattle.travel.proofs.Lent.{holds_lent}
use Rattle.switch.proofs.Possibles.{holds, plan_possible}
use Rattle.switch.proofs.Stepped.{port_there, plan_lent, not_there, stepped}
use Rattle.switch.proofs.step.Goals as goal

pub returns-then-not-port_at : goal.returns-then-not-port_at
returns-then-not-port_at c =
    let a = c.args in
    let w = lent a.st.now a.mem.now a.ls.now in
    not_there w a.slot.0 a.p (sym c.port_at.ensures ∙ c.if-not-port_at.true)

pub plan_of-plan-requires : goal.plan_of-plan-requires
plan_of-plan-requires c =
    let a = c.args in
    let n = a.slot.0 in
    let w = lent a.st.now a.mem.now a.ls.now in
    let z = port_there (view a.st.now) n a.p (sym c.port_at.ensures ∙ c.if-not-port_at.false) in
    let there = holds w c.requires n a.p z.0 z.1 0 zero-le in
    ((node_facts w c.requires n z.0).0, holds_lent (world a.st.now a.mem.now) a.ls.now n a.p 0 there)

pub perform-requires : goal.perform-requires
perform-requires c =
    let a = c.args in
    let n = a.slot.0 in
    let z = port_there (view a.st.now) n a.p (sym c.port_at.ensures ∙ c.if-not-port_at.false) in
    let possible = plan_possible (lent a.st.now a.mem.now a.ls.now) c.requires n a.p z.0 z.1 in
    let plan = c.plan_of-plan.ensures ∙ sym (plan_lent (world a.st.now a.mem.now) a.ls.now n a.p) in
    (z.0, z.1, rw plan possible)

pub returns : goal.returns
returns c =
    let a = c.args in
    let n = a.slot.0 in
    let there = sym c.port_at.ensures ∙ c.if-not-port_at.false in
    let plan = c.plan_of-plan.ensures ∙ sym (plan_lent (world a.st.now a.mem.now) a.ls.now n a.p) in
    (rw plan at c.perform.ensures) ∙ stepped (lent a.st.now a.mem.now a.ls.now) n a.p there
