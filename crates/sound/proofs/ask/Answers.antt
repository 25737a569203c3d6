-- `sound::ask` meets its contract. Assumes nothing.
use Rattle.std.proofs.Common.{◌≡◌, ℕ, Bool, true, false, ◌||◌, eqb, leb, rules}
use borrow.Author.Tests.{eq-eqb, ne_eqb}
use Rattle.cells.specs.World.{World}
use Rattle.cells.specs.Memories.{world_of}
use Rattle.sound.specs.Clauses.{Clause, clause, ask}
use Rattle.sound.specs.Tests.{holds_at, holds}
use Rattle.sound.proofs.ask.Goals as goal

module _ (k f : ℕ) (c : Clause) (w : World) where
  found : eqb f 0 ≡ false → f ≡ ask k f c w
  unfolding ask
  found e = rw e

  module _ {b : Bool} (none : eqb f 0 ≡ true) (asked : b ≡ holds c.test w) where
    passed : (leb c.number k || b) ≡ true → 0 ≡ ask k f c w
    unfolding ask
    passed e = rw (none, ← asked, e)

    failed : (leb c.number k || b) ≡ false → c.number ≡ ask k f c w
    unfolding ask
    failed e = rw (none, ← asked, e)

pub returns-then-not-found : goal.returns-then-not-found
returns-then-not-found c =
    let a = c.args in
    found a.after a.found (clause a.number a.t) (world_of a.m.now) (ne_eqb a.found 0 c.if-not-found.true)

pub returns-then-passes : goal.returns-then-passes
unfolding holds
returns-then-passes c =
    let a = c.args in
    let asked = c.at_every_place.ensures (holds_at a.t (world_of a.m.now)) (λ slot i r e. search rules) in
    passed a.after a.found (clause a.number a.t) (world_of a.m.now) (eq-eqb a.found 0 c.if-not-found.false)
    (rw c.places.ensures at asked) c.if-passes.true

pub returns : goal.returns
unfolding holds
returns c =
    let a = c.args in
    let asked = c.at_every_place.ensures (holds_at a.t (world_of a.m.now)) (λ slot i r e. search rules) in
    failed a.after a.found (clause a.number a.t) (world_of a.m.now) (eq-eqb a.found 0 c.if-not-found.false)
    (rw c.places.ensures at asked) c.if-passes.false
