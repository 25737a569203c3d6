-- `bench::line` meets its contract. Assumes nothing.
use Rattle.std.proofs.Common.{◌≡◌, ℕ, ◌<◌, true, false, refl, sym, ◌∙◌, Option}
use Rattle.laws.proofs.All.{also, below}
use Rattle.names.specs.declared.no.No.TheVariants.{NoSuch}
use Rattle.names.specs.Size.{links}
use Rattle.answers.specs.Out.{Out, out, attempt}
use Rattle.answers.specs.Answered.{No}
use Rattle.cells.specs.View.{view}
use Rattle.cells.specs.World.{World, lent}
use Rattle.settings.specs.Wire.{link_at}
use Rattle.travel.specs.Travel.{line_came, line_stepped}
use Rattle.switch.proofs.Arrivals.{line_possible}
use Rattle.bench.specs.Calls.{Line, line_rows, came_answer}
use Rattle.bench.proofs.Lifted.{found_sound, refused_unsound, on_world}
use Rattle.bench.proofs.line.Goals as goal

module _ (w : World) (n l : ℕ) where
  link_there_lem : link_at w.net n l ≡ true → (n < w.net.nodes) × (l < links)
  link_there_lem e = (also (below n w.net.nodes) (below l links)).sure e

  no_link : (o : Out World) → link_at w.net n l ≡ false → out (No NoSuch) w ≡ attempt (line_rows w.net n l) w o
  no_link o e = rw e

  -- what came off the line, and what that leaves, is the call's own answer
  came : (z : World) (a : Option ℕ) → link_at w.net n l ≡ true → a ≡ line_came w n l → z ≡ line_stepped w n l
      → out (came_answer a) z ≡ attempt (line_rows w.net n l) w (out (came_answer (line_came w n l)) (line_stepped w n l))
  came z a there answered left = rw (there, answered, left)

pub returns-in_err-check_sound : goal.returns-in_err-check_sound
returns-in_err-check_sound c =
    let a = c.args in
    refused_unsound (lent a.st.now a.mem.now a.ls.now) (Line a.slot a.l) (line_rows (view a.st.now) a.slot.0 a.l) refl _ c.check_sound.ensures _ _ c.from_residual.ensures
    c.in_err-check_sound.was

pub returns-then-not-link_at : goal.returns-then-not-link_at
returns-then-not-link_at c =
    let a = c.args in
    let w = lent a.st.now a.mem.now a.ls.now in
    on_world w (Line a.slot a.l) (line_rows (view a.st.now) a.slot.0 a.l) refl
    (found_sound (lent a.st.now a.mem.now a.ls.now) _ c.check_sound.ensures c.in_ok-check_sound.was) _
    (no_link w a.slot.0 a.l _ (sym c.link_at.ensures ∙ c.if-not-link_at.true))

pub line_step-requires : goal.line_step-requires
line_step-requires c =
    let a = c.args in
    let w = lent a.st.now a.mem.now a.ls.now in
    let z = link_there_lem w a.slot.0 a.l (sym c.link_at.ensures ∙ c.if-not-link_at.false) in
    line_possible w (found_sound (lent a.st.now a.mem.now a.ls.now) _ c.check_sound.ensures c.in_ok-check_sound.was) a.slot.0 a.l z.0 z.1

pub returns-in-None : goal.returns-in-None
returns-in-None c =
    let a = c.args in
    let w = lent a.st.now a.mem.now a.ls.now in
    on_world w (Line a.slot a.l) (line_rows (view a.st.now) a.slot.0 a.l) refl
    (found_sound (lent a.st.now a.mem.now a.ls.now) _ c.check_sound.ensures c.in_ok-check_sound.was) _
    (rw c.in-None.is at
    (came w a.slot.0 a.l _ c.line_step.result (sym c.link_at.ensures ∙ c.if-not-link_at.false)
    c.line_step.ensures.0 c.line_step.ensures.1))

pub returns-in-Some : goal.returns-in-Some
returns-in-Some c =
    let a = c.args in
    let w = lent a.st.now a.mem.now a.ls.now in
    on_world w (Line a.slot a.l) (line_rows (view a.st.now) a.slot.0 a.l) refl
    (found_sound (lent a.st.now a.mem.now a.ls.now) _ c.check_sound.ensures c.in_ok-check_sound.was) _
    (rw c.in-Some.is at
    (came w a.slot.0 a.l _ c.line_step.result (sym c.link_at.ensures ∙ c.if-not-link_at.false)
    c.line_step.ensures.0 c.line_step.ensures.1))
