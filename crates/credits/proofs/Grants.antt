-- A grant is one of four, and never more than the far buffer has room for. Assumes nothing.
use Prim.Native.Nat.{ℕ, ◌+◌, ◌≤◌}
use mathlib.Core.Path.{◌≡◌}
use native.Mathlib.Omega.{arith}
use lib.Dec.{ltb, leb}
use borrow.Author.Tests.{leb-true, le-ltb}
use Rattle.laws.proofs.Order.{by_test}
use Rattle.ports.specs.Queue.{capacity}
use Rattle.credits.specs.Grant.{room_of, covered, grant_of, Granted, none, eight, sixteen, all}

-- what holds of the four grants that a room covers holds of the one given
by_room : (P : ℕ → Type 0) (room : ℕ) → (64 ≤ room → P 64) → (16 ≤ room → P 16) → (8 ≤ room → P 8) → P 0 → P (covered room)
by_room P room a b c d =
    by_test (leb 64 room)
    (λ e. rw e (a (leb-true 64 room e)))
    (λ e. by_test (leb 16 room)
    (λ f. rw (e, f) (b (leb-true 16 room f)))
    (λ f. by_test (leb 8 room) (λ g. rw (e, f, g) (c (leb-true 8 room g))) (λ g. rw (e, f, g) d)))

covered_within : (room : ℕ) → covered room ≤ room
covered_within room = by_room (λ g. g ≤ room) room (λ h. h) (λ h. h) (λ h. h) (omega arith)

pub granted : (credit held : ℕ) → Granted (grant_of credit held)
unfolding grant_of
granted credit held =
    by_test (ltb credit 8)
    (λ e. rw e (by_room Granted (room_of credit held) (λ h. all) (λ h. sixteen) (λ h. eight) none))
    (λ e. rw e none)

-- the far buffer can hold all that was held and all that credit allows
pub grant_within : (credit held : ℕ) → credit + held ≤ capacity → grant_of credit held + credit + held ≤ capacity
unfolding grant_of
grant_within credit held h =
    by_test (ltb credit 8)
    (λ e. rw e (omega (arith, covered_within (room_of credit held))))
    (λ e. rw e (omega arith))

-- "Credit 8: none"
pub enough : (credit held : ℕ) → 8 ≤ credit → grant_of credit held ≡ 0
unfolding grant_of
enough credit held h = rw (le-ltb credit 8 h)

-- no grant is above the largest
pub most : (credit held : ℕ) → grant_of credit held ≤ 64
most credit held = at_most (granted credit held)
  where
    at_most : {g : ℕ} → Granted g → g ≤ 64
    at_most none = omega arith
    at_most eight = omega arith
    at_most sixteen = omega arith
    at_most all = omega arith
