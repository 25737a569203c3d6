-- `messages::write::write_directions` meets its contract: each entry is one more Set, which no state refuses. Assumes nothing.
use Rattle.std.proofs.Common.{ℕ, ◌≡◌, ◌+◌, sym, ap, ◌∙◌, subst, arith}
use Rattle.laws.specs.Row.{tab}
use Rattle.routing.specs.Direction.{field}
use Rattle.cells.specs.World.{World, lined}
use Rattle.settings.specs.Needs.{Settled}
use Rattle.settings.specs.declared.Setting.TheVariants.{Direction}
use Rattle.messages.specs.Write.{made_all}
use Rattle.messages.proofs.Writes.{all_settled, made_more, plus_one, entries}
use Rattle.messages.proofs.write.write_directions.Goals as goal

pub tried-requires : goal.tried-requires
tried-requires c =
    let a = c.args in
    subst (λ (z : World). Settled z) (sym c.loop-i.invariant)
    (all_settled (tab c.loop-i.i (λ j. Direction (a.bit + j) (field a.v j))) (lined a.st.now a.ls.now) a.slot.0 c.requires.2)

pub loop-i-preserved : goal.loop-i-preserved
loop-i-preserved c =
    let a = c.args in
    let l = c.loop-i in
    c.tried.ensures.1
    ∙ rw (l.invariant, c.field.ensures) (made_more l.i (λ j. Direction (a.bit + j) (field a.v j)) _ _)
    ∙ ap (λ (k : ℕ). made_all (lined a.st.now a.ls.now) a.slot.0 (tab k (λ j. Direction (a.bit + j) (field a.v j)))) (plus_one l.i)

pub returns : goal.returns
returns c =
    let a = c.args in
    let l = c.loop-i in
    let w = lined a.st.now a.ls.now in
    let q : l.i ≡ 8 = omega arith in
    entries w a.slot.0 c.requires.0 a.bit a.v c.requires.1
    (l.invariant ∙ ap (λ (k : ℕ). made_all w a.slot.0 (tab k (λ j. Direction (a.bit + j) (field a.v j)))) q)
