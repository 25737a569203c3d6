-- Where cables lead. Assumes nothing.
use Prim.Native.Nat.{ℕ}
use mathlib.Core.Path.{◌≡◌, ap}
use Rattle.names.specs.declared.Slot.{Slot}
use Rattle.cells.specs.World.{At}

-- two far ends that are one are of one slot, and of one link
pub same_far : {a b : Slot} {i j : ℕ} → At a i ≡ At b j → (a ≡ b) × (i ≡ j)
same_far {a} {b} {i} {j} e =
    let q : ◌≡◌ {A = Slot × ℕ} (a, i) (b, j) = cc in (ap (λ (p : Slot × ℕ). p.0) q, ap (λ (p : Slot × ℕ). p.1) q)
