-- Addresses and what stands there. Assumes nothing.
use Prim.Native.Nat.{ℕ, ◌+◌, ◌-◌, ◌<◌, ◌≤◌}
use mathlib.Core.Path.{◌≡◌, sym, ◌∙◌}
use mathlib.Core.Bool.{true, false}
use mathlib.Core.Logic.{◌⊎◌, inr, ⊎_elim}
use native.Mathlib.Omega.{arith}
use lib.Dec.{leb}
use borrow.Author.Tests.{ne_eqb, lt-ltb, le-ltb, le-leb, lt-leb}
use Rattle.laws.specs.Pick.{pick}
use Rattle.laws.proofs.All.{and_false}
use Rattle.messages.specs.Register.{link_in, in_row, register_of}
use Rattle.messages.specs.declared.register.Register.TheVariants.{Unknown, Route, State}

-- an address in a row of eight registers, and outside
in_row_lem : (first a : ℕ) → first ≤ a → a < first + 8 → in_row first a ≡ true
in_row_lem first a h k = rw (le-leb first a h, lt-ltb a (first + 8) k)

off_row : (first a : ℕ) → (a < first) ⊎ (first + 8 ≤ a) → in_row first a ≡ false
off_row first a =
    ⊎_elim (λ h. rw (lt-leb first a h)) (λ h. rw (le-ltb a (first + 8) h) (and_false (leb first a)))

-- an address that is none of the four single ones
pub record Other (a : ℕ) : Type 0 where
  no_width : a ≡ 0x04 → ⊥
  no_number : a ≡ 0x05 → ⊥
  no_low : a ≡ 0x0C → ⊥
  no_high : a ≡ 0x0D → ⊥

pub low : (a : ℕ) → a < 0x04 → Other a
low a h =
    record { no_width = λ e. omega arith; no_number = λ e. omega arith; no_low = λ e. omega arith; no_high = λ e. omega arith }

pub between : (a : ℕ) → 0x05 < a → a < 0x0C → Other a
between a h k =
    record { no_width = λ e. omega arith; no_number = λ e. omega arith; no_low = λ e. omega arith; no_high = λ e. omega arith }

pub high : (a : ℕ) → 0x0D < a → Other a
high a h =
    record { no_width = λ e. omega arith; no_number = λ e. omega arith; no_low = λ e. omega arith; no_high = λ e. omega arith }

rows_only : (a : ℕ) → Other a → register_of a ≡ pick (in_row 0x20 a) (Route (link_in (a - 0x20))) (pick (in_row 0x80 a) (State (link_in (a - 0x80))) Unknown)
rows_only a h =
    rw (ne_eqb a 0x04 h.no_width, ne_eqb a 0x05 h.no_number, ne_eqb a 0x0C h.no_low, ne_eqb a 0x0D h.no_high)

pub unknown : (a : ℕ) → Other a → (a < 0x20) ⊎ (0x28 ≤ a) → (a < 0x80) ⊎ (0x88 ≤ a) → Unknown ≡ register_of a
unknown a h k j = sym (rows_only a h ∙ rw (off_row 0x20 a k, off_row 0x80 a j))

pub route : (a l : ℕ) → 0x20 ≤ a → a < 0x28 → l ≡ link_in (a - 0x20) → Route l ≡ register_of a
route a l h k e = sym (rows_only a (high a (omega arith)) ∙ rw (in_row_lem 0x20 a h k, e))

pub state : (a l : ℕ) → 0x80 ≤ a → a < 0x88 → l ≡ link_in (a - 0x80) → State l ≡ register_of a
state a l h k e = sym (rows_only a (high a (omega arith)) ∙ rw (off_row 0x20 a (inr (omega arith)), in_row_lem 0x80 a h k, e))
