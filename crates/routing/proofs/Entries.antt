-- A direction entry written is read back, and the other fifteen are as they were. Assumes nothing.
use Prim.Native.Nat.{ℕ, ◌*◌, ◌%◌, ◌<◌, ◌≤◌}
use mathlib.Core.Path.{◌≡◌}
use mathlib.Core.Logic.{inl, inr, ⊎_elim}
use native.Mathlib.Omega.{arith}
use lib.Dec.{ltb}
use borrow.Author.Tests.{ltb-true, ltb-false}
use Rattle.laws.proofs.Order.{by_test, order}
use Rattle.routing.specs.Direction.{field, with_field, entry_of, with_entry}
use Rattle.routing.specs.declared.direction.Directions.{Directions}
use Rattle.routing.proofs.Fields.{these, others}

field_same : (r i d : ℕ) → field (with_field r i d) i ≡ d % 16
unfolding field with_field
field_same r i d = these (4 * i) r d

field_other : (r i j d : ℕ) → (i ≡ j → ⊥) → field (with_field r i d) j ≡ field r j
unfolding field with_field
field_other r i j d ne =
    others (4 * i) (4 * j) r d (⊎_elim (λ l. inr (omega arith)) (λ l. inl (omega arith)) (order i j))

pub entry_same : (t : Directions) (b d : ℕ) → entry_of (with_entry t b d) b ≡ d % 16
unfolding entry_of with_entry
entry_same t b d =
    by_test (ltb b 8)
    (λ e. rw e (field_same t.first (b % 8) d))
    (λ e. rw e (field_same t.second (b % 8) d))

pub entry_other : (t : Directions) (b c d : ℕ) → b < 16 → c < 16 → (b ≡ c → ⊥) → entry_of (with_entry t b d) c ≡ entry_of t c
unfolding entry_of with_entry
entry_other t b c d x y ne =
    by_test (ltb b 8)
    (λ e. by_test (ltb c 8)
    (λ f.
    let l : b < 8 = ltb-true b 8 e in
    let m : c < 8 = ltb-true c 8 f in
    rw (e, f) (field_other t.first (b % 8) (c % 8) d (λ q. ne (omega arith))))
    (λ f. rw (e, f)))
    (λ e. by_test (ltb c 8)
    (λ f. rw (e, f))
    (λ f.
    let l : 8 ≤ b = ltb-false b 8 e in
    let m : 8 ≤ c = ltb-false c 8 f in
    rw (e, f) (field_other t.second (b % 8) (c % 8) d (λ q. ne (omega arith)))))
