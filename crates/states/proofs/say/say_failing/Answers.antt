-- `states::say::say_failing` ends: what is sought past a clause is none, or a clause past it. Assumes nothing.
use mathlib.Core.Logic.{◌⊎◌, ⊎_elim}
use native.Mathlib.Omega.{arith}
use borrow.Author.Tests.{ne_eqb}
use Rattle.std.proofs.Common.{◌≡◌, ℕ, ◌<◌}
use Rattle.cells.specs.World.{lent}
use Rattle.sound.proofs.Sounds.{next_past}
use Rattle.states.proofs.say.say_failing.Goals as goal
use Rattle.states.proofs.say.say_failing.Invariants.{left}

falls : (a b : ℕ) → (a ≡ 0 → ⊥) → a < 0x100000000 → (b ≡ 0) ⊎ (a < b) → left b < left a
falls a b n l h =
    rw (ne_eqb a 0 n) (⊎_elim (λ z. rw z (omega (arith, n))) (λ g. rw (ne_eqb b 0 (λ z. omega arith)) (omega arith)) h)

pub loop-clause-smaller : goal.loop-clause-smaller
loop-clause-smaller g c =
    let a = c.args in
    falls c.loop-clause.clause c.clause_after-clause-in-loop-clause.result c.loop-clause-test.true c.loop-clause.invariant
    (rw c.clause_after-clause-in-loop-clause.ensures (next_past (lent a.st.now a.mem.now a.ls.now) c.loop-clause.clause))
