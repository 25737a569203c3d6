-- What a look at a record leaves in a caller's buffer. Assumes nothing.
use Prim.Native.Nat.{ℕ}
use mathlib.Core.Path.{◌≡◌}
use mathlib.Core.Bool.{true, false}
use mathlib.Core.List.{List}
use lib.ListN.{length}
use borrow.Author.Tests.{eq-eqb, ne_eqb}
use Rattle.host.specs.Crossed.{shown, showing}

-- a buffer of another length is left as it is
pub shows_nothing : (words buffer : List ℕ) → (length buffer ≡ length words → ⊥) → shown false buffer ≡ showing words buffer
unfolding showing
shows_nothing words buffer other = rw (ne_eqb (length buffer) (length words) other)

pub shows_record : (words buffer left : List ℕ) → length buffer ≡ length words → left ≡ words → shown true left ≡ showing words buffer
unfolding showing
shows_record words buffer left fits same = rw (eq-eqb (length buffer) (length words) fits, same)
