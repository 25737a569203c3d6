-- `travel::arrive::arrive` meets its contract. Assumes nothing.
use Rattle.std.proofs.Common.{sym, ◌∙◌}
use Rattle.cells.specs.World.{world, lined}
use Rattle.travel.specs.Travel.{greets}
use Rattle.travel.proofs.Lent.{grants_lent, considered_lent, room_lent}
use Rattle.travel.proofs.Arrivals.{token_may, credit_may, token_grants, token_arrives}
use Rattle.travel.proofs.arrive.arrive.Goals as goal

pub consider-requires : goal.consider-requires
consider-requires c =
    let a = c.args in
    let greeting = sym c.is_hello.ensures ∙ c.if-is_hello.true in
    rw c.hello_in.ensures (
    grants_lent (greets (lined a.st.now a.ls.now) a.a.0 a.l a.b.0 a.k) a.mem.now a.b.0 a.k
    (c.requires.hello greeting))

pub returns-then-is_hello : goal.returns-then-is_hello
returns-then-is_hello c =
    let a = c.args in
    rw (← c.is_hello.ensures, c.if-is_hello.true) (
    rw c.hello_in.ensures at (considered_lent _ _ a.mem.now a.b.0 a.k _ c.consider.ensures))

pub token_in-requires : goal.token_in-requires
token_in-requires c =
    let a = c.args in
    let may = token_may c.requires c.is_hello.ensures c.if-is_hello.false c.credit_of-g.ensures in
    (room_lent (world a.st.now a.mem.now) a.ls.now a.b.0 a.k 1 (may c.if-g-eq0.true).0, c.requires.link.1)

pub consider-requires-then-g-eq0 : goal.consider-requires-then-g-eq0
consider-requires-then-g-eq0 c =
    let a = c.args in
    let may = token_may c.requires c.is_hello.ensures c.if-is_hello.false c.credit_of-g.ensures in
    token_grants (world a.st.now a.mem.now) _ _ a.ls.now a.b.0 a.k a.word c.token_in.ensures (may c.if-g-eq0.true).1

pub returns-then-g-eq0 : goal.returns-then-g-eq0
returns-then-g-eq0 c =
    let a = c.args in
    rw (← c.is_hello.ensures, c.if-is_hello.false, ← c.credit_of-g.ensures, c.if-g-eq0.true) (
    token_arrives (world a.st.now a.mem.now) _ _ a.ls.now a.b.0 a.k a.word c.token_in.ensures
    _ _ _ c.consider-then-g-eq0.ensures)

pub credit_in-requires : goal.credit_in-requires
credit_in-requires c =
    let fits = credit_may c.requires c.is_hello.ensures c.if-is_hello.false c.credit_of-g.ensures in
    (c.requires.node.1, c.requires.link.1, fits)
