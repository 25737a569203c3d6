-- What comes of a call, on the other side. Assumes nothing.
use Prim.Native.Nat.{ℕ}
use mathlib.Core.Path.{◌≡◌, ap, ◌∙◌}
use Rattle.answers.specs.Answer.{answer_number}
use Rattle.answers.specs.Out.{Out, out}
use Rattle.answers.specs.Answered.{Answered}
use Rattle.cells.specs.World.{World}
use Rattle.host.specs.Crossed.{crossing, crossed}

-- the answer's number with the memories as they are left crosses for what the call makes
pub crosses : {r : ℕ} {a : Answered} {w : World} {o : Out World} → r ≡ answer_number a → out a w ≡ o → crossing r w ≡ crossed o
crosses {w = w} number made = ap (λ (n : ℕ). crossing n w) number ∙ ap crossed made
