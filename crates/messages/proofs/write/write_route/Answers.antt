-- `messages::write::write_route` meets its contract: a network that is refused leaves the direction as it was, and one that isn't passes
-- behind the direction too. Assumes nothing.
use Rattle.std.proofs.Common.{◌/◌, ◌%◌, sym, ◌∙◌, subst, arith}
use Rattle.cells.specs.World.{World, lined}
use Rattle.settings.specs.Needs.{Settled}
use Rattle.settings.specs.declared.Setting.TheVariants.{LinkDirection, Network}
use Rattle.settings.proofs.Settled.{still_settled}
use Rattle.messages.proofs.Writes.{route_refused, route_made, refused_by, passes_by}
use Rattle.messages.proofs.write.write_route.Goals as goal

pub returns-then-is_err : goal.returns-then-is_err
returns-then-is_err c =
    let a = c.args in
    let w = lined a.st.now a.ls.now in
    let x = Network a.l (a.v / 16 % 4) in
    route_refused w a.slot.0 a.l (a.v / 256 % 16) (a.v / 16 % 4) (omega arith)
    (refused_by w a.slot.0 x _ c.check_set.ensures (sym c.is_err.ensures.value ∙ c.if-is_err.true))

pub tried-requires-2 : goal.tried-requires-2
tried-requires-2 c =
    let a = c.args in
    subst (λ (z : World). Settled z) (sym c.tried.ensures.1)
    (still_settled (lined a.st.now a.ls.now) a.slot.0 c.requires (LinkDirection a.l (a.v / 256 % 16)))

pub returns : goal.returns
returns c =
    let a = c.args in
    let w = lined a.st.now a.ls.now in
    let x = Network a.l (a.v / 16 % 4) in
    route_made w a.slot.0 a.l (a.v / 256 % 16) (a.v / 16 % 4) (omega arith) _
    (passes_by w a.slot.0 x _ c.check_set.ensures (sym c.is_err.ensures.value ∙ c.if-is_err.false))
    c.tried.ensures.1
    c.tried-2.ensures.0
    c.tried-2.ensures.1
