-- What a start leaves is sound, tight and quiet. Assumes nothing.
use Prim.Native.Nat.{ℕ, ◌≤◌}
use mathlib.Core.Path.{◌≡◌, ap, sym, ◌∙◌}
use mathlib.Core.Bool.{true}
use borrow.Author.Tests.{eq-eqb, not-false}
use Rattle.laws.proofs.All.{also, at_most}
use Rattle.names.specs.Size.{nodes}
use Rattle.names.specs.No.{passes}
use Rattle.answers.specs.Answer.{number_of}
use Rattle.answers.specs.Out.{Out, out}
use Rattle.answers.specs.Answered.{Done}
use Rattle.answers.proofs.Refusals.{clear}
use Rattle.cells.specs.World.{World}
use Rattle.fresh.specs.Fresh.{leaves_on, start_of}
use Rattle.fresh.specs.declared.Start.{Start}
use Rattle.sound.specs.Sound.{sound, tight, quiet}
use Rattle.sound.proofs.Start.{start_sound, start_tight, start_quiet}
use Rattle.bench.specs.Calls.{Begin, rows, apply}
use Rattle.bench.proofs.Applied.{numbered, accepted}

module _ (w : World) (s : Start) (n : ℕ) (ok : number_of (apply w (Begin s n)).answer ≡ passes) where
  -- the whole of all three memories
  pub started : apply w (Begin s n) ≡ out Done (start_of s n)
  unfolding apply
  started = rw (clear (rows w (Begin s n)) (sym (numbered w (Begin s n)) ∙ ok))

  ranged : (1 ≤ n) × (n ≤ nodes)
  ranged =
      let p = (accepted w (Begin s n)).sure (eq-eqb (number_of (apply w (Begin s n)).answer) passes ok) in
      (also (at_most 1 n) (at_most n nodes)).sure (not-false _ p.0)

  pub started_sound : sound (apply w (Begin s n)).next ≡ true
  started_sound = ap (λ (o : Out World). sound o.next) started ∙ start_sound (leaves_on s n) n ranged.0 ranged.1

  pub started_tight : tight (apply w (Begin s n)).next ≡ true
  started_tight = ap (λ (o : Out World). tight o.next) started ∙ start_tight (leaves_on s n) n ranged.0 ranged.1

  pub started_quiet : quiet (apply w (Begin s n)).next ≡ true
  started_quiet = ap (λ (o : Out World). quiet o.next) started ∙ start_quiet (leaves_on s n) n ranged.0 ranged.1
