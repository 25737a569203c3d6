-- What crosses of a call of the probe. Assumes nothing.
use Prim.Native.Nat.{ℕ}
use mathlib.Core.Path.{◌≡◌, ap}
use mathlib.Core.List.{List}
use Rattle.probe.specs.Answer.{Answer, answer_number, answer_value}
use Rattle.probe.specs.Calls.{Out, out}
use Rattle.host.specs.Crossed.{probing, probed}

-- the number of its answer, what that bears, and the buffer
pub crosses_probe : (n v : ℕ) (a : Answer) (b : List ℕ) (o : Out)
    → n ≡ answer_number a
    → v ≡ answer_value a
    → out a b ≡ o
    → probing n v b ≡ probed o
crosses_probe n v a b o e d h = rw (e, d) (ap probed h)
