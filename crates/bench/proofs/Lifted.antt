-- What a public call does that tests the state first, and then makes the call on a state that is known to be sound. Assumes nothing.
use Prim.{Unit, tt}
use mathlib.Core.Path.{◌≡◌, refl, sym, ap, ◌∙◌}
use mathlib.Core.Bool.{true}
use mathlib.Core.List.{List, [], ◌∷◌}
use borrow.Author.Tests.{not-false}
use Rattle.std.specs.Prelude.{Result, Ok, Err, IsErr, is_ok}
use Rattle.std.specs.Result.{IsErrAnd}
use Rattle.laws.proofs.Order.{by_test, clash}
use Rattle.names.specs.declared.no.No.{No as Why}
use Rattle.answers.specs.Rows.{Row, checked}
use Rattle.answers.proofs.Refusals.{by_check, all_clear, hands_on}
use Rattle.answers.specs.Out.{Out, out, attempt}
use Rattle.answers.specs.Answered.{Answered}
use Rattle.cells.specs.View.{Net}
use Rattle.cells.specs.World.{World}
use Rattle.acts.specs.Acts.{with_net}
use Rattle.sound.specs.Sound.{sound}
use Rattle.bench.specs.Calls.{Call, unsound, rows, made, apply}

-- what comes of a call on the state alone, as it is on the world: token memory as it was
abbrev pub lifted : World → Out Net → Out World
lifted w o = out o.answer (with_net w o.next)

-- the test of the state has let pass
pub found_sound : (w : World) (r : Result Unit Why) → r ≡ checked (unsound w ∷ []) → r ≡ Ok tt → sound w ≡ true
found_sound w r e h = not-false (sound w) (all_clear (unsound w ∷ []) (sym e ∙ h)).0

-- a call whose first row is Unsound, and whose others are rs
module _ (w : World) (c : Call) (rs : List Row) (q : rows w c ≡ (unsound w ∷ rs)) where
  pub refused_unsound : (r : Result Unit Why) → r ≡ checked (unsound w ∷ []) → (a : Answered) (k : Why)
      → IsErr a × IsErrAnd a (λ j. j ≡ k)
      → r ≡ Err k
      → out a w ≡ apply w c
  unfolding apply
  refused_unsound r e a k p h =
      by_test (sound w)
      (λ t.
      let ok : checked (unsound w ∷ []) ≡ Ok tt = rw t refl in clash (sym (ap (λ (y : Result Unit Why). is_ok y) (sym h ∙ e ∙ ok))))
      (λ f. hands_on (unsound w ∷ []) w (made w c) r e a k p h ∙ rw (q, f))

  -- .. is on a sound state what the others say
  pub on_world : sound w ≡ true → (o : Out World) → o ≡ attempt rs w (made w c) → o ≡ apply w c
  unfolding apply
  on_world e o h = rw (q, e) h

  -- .. also where the state alone was lent
  pub on_net : sound w ≡ true → (done : Out Net) → made w c ≡ lifted w done → (o : Out Net) → o ≡ attempt rs w.net done → lifted w o ≡ apply w c
  on_net e done m o h =
      on_world e (lifted w o)
      (ap (lifted w) h
      ∙ by_check (checked rs) (λ f. rw (m, f)) (λ k f. rw f))
