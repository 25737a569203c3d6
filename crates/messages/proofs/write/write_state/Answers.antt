-- `messages::write::write_state` meets its contract: HELLO is refused on a link that the same write disables, and while a credit or a HELLO
-- is on a line of its cable. Assumes nothing.
use Prim.{Unit as Nothing}
use Rattle.std.specs.Prelude.{Result}
use Rattle.std.proofs.Common.{ℕ, ◌≡◌, ◌/◌, ◌%◌, sym, ap, ◌∙◌, subst, arith}
use Rattle.names.specs.declared.no.No.{No as Why}
use Rattle.answers.specs.Rows.{checked}
use Rattle.cells.specs.World.{World, lined}
use Rattle.settings.specs.Set.{set_rows, set_call}
use Rattle.settings.specs.Needs.{Settled}
use Rattle.settings.specs.declared.Setting.TheVariants.{Enable}
use Rattle.settings.proofs.Settled.{still_settled}
use Rattle.messages.proofs.Writes.{some_bit, one_bit, refused_by, passes_by}
use Rattle.messages.proofs.Writes.{hello_refused, enable_refused, hello_waits, hello_made}
use Rattle.messages.proofs.write.write_state.Goals as goal

-- whether it is refused to enable a link, known that the bit is 1
of_one_lem : (w : World) (n l : ℕ) {b : ℕ} {r : Result Nothing Why} → b ≡ 1 → r ≡ checked (set_rows w n (Enable l b))
    → r ≡ checked (set_rows w n (Enable l 1))
of_one_lem w n l q e = e ∙ ap (λ (i : ℕ). checked (set_rows w n (Enable l i))) q

pub returns-then-enable-eq0 : goal.returns-then-enable-eq0
returns-then-enable-eq0 c =
    let a = c.args in
    rw (one_bit (a.v / 16777216 % 2) (omega arith) c.if-hello-eq0.false, c.if-enable-eq0.true)
    (hello_refused (lined a.st.now a.ls.now) a.slot.0 a.l)

pub returns-then-is_err : goal.returns-then-is_err
returns-then-is_err c =
    let a = c.args in
    let w = lined a.st.now a.ls.now in
    let q = some_bit (a.v / 2147483648 % 2) (omega arith) c.if-enable-eq0.false in
    rw (one_bit (a.v / 16777216 % 2) (omega arith) c.if-hello-eq0.false, q)
    (enable_refused w a.slot.0 a.l
    (refused_by w a.slot.0 (Enable a.l 1) _ (of_one_lem w a.slot.0 a.l q c.check_set.ensures) (sym c.is_err.ensures.value ∙ c.if-is_err.true)))

pub returns-then-cable_signalled : goal.returns-then-cable_signalled
returns-then-cable_signalled c =
    let a = c.args in
    let w = lined a.st.now a.ls.now in
    let q = some_bit (a.v / 2147483648 % 2) (omega arith) c.if-enable-eq0.false in
    rw (one_bit (a.v / 16777216 % 2) (omega arith) c.if-hello-eq0.false, q)
    (hello_waits w a.slot.0 a.l
    (passes_by w a.slot.0 (Enable a.l 1) _ (of_one_lem w a.slot.0 a.l q c.check_set.ensures) (sym c.is_err.ensures.value ∙ c.if-is_err.false))
    (sym c.cable_signalled.ensures ∙ c.if-cable_signalled.true))

pub tried-requires-2 : goal.tried-requires-2
tried-requires-2 c =
    let a = c.args in
    subst (λ (z : World). Settled z) (sym c.tried.ensures.1)
    (still_settled (lined a.st.now a.ls.now) a.slot.0 c.requires (Enable a.l (a.v / 2147483648 % 2)))

pub returns : goal.returns
returns c =
    let a = c.args in
    let w = lined a.st.now a.ls.now in
    let q = some_bit (a.v / 2147483648 % 2) (omega arith) c.if-enable-eq0.false in
    rw (one_bit (a.v / 16777216 % 2) (omega arith) c.if-hello-eq0.false, q)
    (hello_made w a.slot.0 a.l
    (passes_by w a.slot.0 (Enable a.l 1) _ (of_one_lem w a.slot.0 a.l q c.check_set.ensures) (sym c.is_err.ensures.value ∙ c.if-is_err.false))
    (sym c.cable_signalled.ensures ∙ c.if-cable_signalled.false)
    _
    (c.tried.ensures.1 ∙ ap (λ (i : ℕ). (set_call w a.slot.0 (Enable a.l i)).next) q)
    c.tried-2.ensures.0
    c.tried-2.ensures.1)
