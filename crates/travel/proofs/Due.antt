-- What a receiver grants: none where the count says so, what its count of 32 bits can take, and what its line has room for. Assumes
-- nothing.
use Prim.Native.Nat.{ℕ, ◌+◌, ◌^◌, ◌<◌, ◌≤◌}
use mathlib.Core.Path.{◌≡◌, refl, ap, ◌∙◌}
use mathlib.Core.Bool.{false}
use mathlib.Core.Logic.{⊎_elim}
use native.Mathlib.Omega.{arith}
use lib.Dec.{eqb, ltb}
use borrow.Author.Tests.{ltb-true}
use Rattle.laws.proofs.All.{also, equal}
use Rattle.laws.proofs.Order.{by_test, order}
use Rattle.names.specs.declared.Slot.{Slot}
use Rattle.lines.specs.Line.{line_capacity}
use Rattle.lines.specs.Load.{credit_word, is_hello, credit_of}
use Rattle.credits.specs.Grant.{grant_of, Granted, none, eight, sixteen, all}
use Rattle.credits.proofs.Grants.{most, enough}
use Rattle.cells.specs.World.{World, far_of, Far, Nowhere, At}
use Rattle.travel.specs.Travel.{load_from, may_grant, by_count, grant_to, grant_due}

module _ (w : World) (m k : ℕ) where
  pub none_due : (f : Far) → by_count w m k ≡ 0 → 0 ≡ grant_to w m k f
  none_due Nowhere e = refl
  none_due (At n l) e = by_test (may_grant w n.0 l) (λ t. rw (t, e)) (λ t. rw t)

  count_most : by_count w m k ≤ 64
  count_most =
      by_test (ltb (w.net.lines.rings m k).held line_capacity)
      (λ t. rw t (most (w.net.lines.issued m k) (w.net.ports.counters m k).held))
      (λ t. rw t (omega arith))

  to_most : (f : Far) → grant_to w m k f ≤ 64
  to_most Nowhere = omega arith
  to_most (At n l) = by_test (may_grant w n.0 l) (λ t. rw t count_most) (λ t. rw t (omega arith))

  -- where there is a grant the line back has room for it
  no_room : (f : Far) → ltb (w.net.lines.rings m k).held line_capacity ≡ false → grant_to w m k f ≡ 0
  no_room Nowhere e = refl
  no_room (At n l) e = by_test (may_grant w n.0 l) (λ t. rw (t, e)) (λ t. rw t)

  pub due_room : (g : ℕ) → g ≡ grant_due w m k → (g ≡ 0 → ⊥) → (w.net.lines.rings m k).held < line_capacity
  unfolding grant_due
  due_room g e some =
      by_test (ltb (w.net.lines.rings m k).held line_capacity)
      (ltb-true _ _)
      (λ t. absurd (some (e ∙ no_room (far_of (w.net.links.cables m k)) t)))

  pub due_fits : (g : ℕ) → g ≡ grant_due w m k → w.net.lines.issued m k + 64 < 2 ^ 32 → w.net.lines.issued m k + g < 2 ^ 32
  unfolding grant_due
  due_fits g e h = omega (arith, to_most (far_of (w.net.links.cables m k)))

  -- A GRANT THAT IS MADE is what the count says, and the count is below 8
  to_count : (f : Far) → (grant_to w m k f ≡ 0 → ⊥) → grant_to w m k f ≡ grant_of (w.net.lines.issued m k) (w.net.ports.counters m k).held
  to_count Nowhere some = absurd (some refl)
  to_count (At n l) some =
      by_test (may_grant w n.0 l)
      (λ t. by_test (ltb (w.net.lines.rings m k).held line_capacity) (λ u. rw (t, u)) (λ u. absurd (some (rw (t, u)))))
      (λ t. absurd (some (rw t)))

  pub due_count : (grant_due w m k ≡ 0 → ⊥) → grant_due w m k ≡ grant_of (w.net.lines.issued m k) (w.net.ports.counters m k).held
  unfolding grant_due
  due_count some = to_count (far_of (w.net.links.cables m k)) some

  pub due_low : (grant_due w m k ≡ 0 → ⊥) → w.net.lines.issued m k < 8
  due_low some =
      let i = w.net.lines.issued m k in
      ⊎_elim (λ b. b) (λ b. absurd (some (due_count some ∙ enough i (w.net.ports.counters m k).held b))) (order i 8)

  -- .. to a greeted link of which no HELLO is coming
  pub due_may : (n : Slot) (l : ℕ) → far_of (w.net.links.cables m k) ≡ At n l → (grant_due w m k ≡ 0 → ⊥)
      → ((w.net.links.flows n.0 l).greeted ≡ 1) × ((load_from w n.0 l).hellos ≡ 0)
  unfolding grant_due
  due_may n l e some =
      by_test (may_grant w n.0 l)
      (λ t. (also (equal (w.net.links.flows n.0 l).greeted 1) (equal (load_from w n.0 l).hellos 0)).sure t)
      (λ t. absurd (some (ap (grant_to w m k) e ∙ rw t)))

-- the word of a grant brings it: a credit, and no HELLO
pub word_is : {g : ℕ} → Granted g → (g ≡ 0 → ⊥)
    → (is_hello (credit_word g) ≡ false) × (eqb (credit_of (credit_word g)) 0 ≡ false) × (credit_of (credit_word g) ≡ g) × (8 ≤ g)
unfolding credit_of
word_is none some = absurd (some refl)
word_is eight some = (refl, refl, refl, omega arith)
word_is sixteen some = (refl, refl, refl, omega arith)
word_is all some = (refl, refl, refl, omega arith)
