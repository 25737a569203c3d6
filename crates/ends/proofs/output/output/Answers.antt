-- `ends::output::output` meets its contract. Assumes nothing.
use Rattle.std.proofs.Common.{◌≡◌, ℕ, List, sym, ap, ◌∙◌}
use Rattle.cells.specs.View.{view, whole_end}
use Rattle.cells.specs.World.{world}
use Rattle.cells.specs.declared.end.End.{End}
use Rattle.ends.specs.Plan.{destination_of}
use Rattle.ends.proofs.Possibles.{fits_here, sends_here}
use Rattle.ends.proofs.Sent.{not_there, unaimed, sends_on_lem, is_unaimed, is_aimed_lem}
use Rattle.ends.proofs.output.output.Goals as goal

-- its destination, as it was read
aim_read : (st : List ℕ) (n c : ℕ) {k : End} → k ≡ whole_end (view st) n c → destination_of k.aim ≡ destination_of ((view st).ends.aims n c)
aim_read st n c e = ap (λ (k : End). destination_of k.aim) e

pub returns-then-not-end_at : goal.returns-then-not-end_at
returns-then-not-end_at c =
    let a = c.args in
    not_there (world a.st.now a.mem.now) a.slot.0 a.c a.x (sym c.end_at.ensures ∙ c.if-not-end_at.true)

pub destination_of-requires : goal.destination_of-requires
destination_of-requires c =
    let a = c.args in
    let there = sym c.end_at.ensures ∙ c.if-not-end_at.false in
    rw c.at-k.ensures (fits_here (world a.st.now a.mem.now) a.slot.0 a.c c.requires there)

pub returns-in_default : goal.returns-in_default
returns-in_default c =
    let a = c.args in
    let there = sym c.end_at.ensures ∙ c.if-not-end_at.false in
    let read = c.destination_of.ensures ∙ aim_read a.st.now a.slot.0 a.c c.at-k.ensures in
    let none = is_unaimed ((view a.st.now).ends.aims a.slot.0 a.c) (sym read ∙ c.in_default.is) in
    unaimed (world a.st.now a.mem.now) a.slot.0 a.c a.x there none

pub send-requires : goal.send-requires
send-requires c =
    let a = c.args in
    let there = sym c.end_at.ensures ∙ c.if-not-end_at.false in
    let read = c.destination_of.ensures ∙ aim_read a.st.now a.slot.0 a.c c.at-k.ensures in
    sends_here (world a.st.now a.mem.now) a.slot.0 a.c c.requires there _
    (is_aimed_lem ((view a.st.now).ends.aims a.slot.0 a.c) _ (sym read ∙ c.in-Some.is))

pub returns : goal.returns
returns c =
    let a = c.args in
    let there = sym c.end_at.ensures ∙ c.if-not-end_at.false in
    let read = c.destination_of.ensures ∙ aim_read a.st.now a.slot.0 a.c c.at-k.ensures in
    let q = is_aimed_lem ((view a.st.now).ends.aims a.slot.0 a.c) _ (sym read ∙ c.in-Some.is) in
    sends_on_lem (world a.st.now a.mem.now) a.slot.0 a.c a.x _ _ there q.0 q.1 c.send.ensures
