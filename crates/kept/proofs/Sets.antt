-- Every Set that is not refused keeps all that is kept, and so does what a switch message writes. Assumes nothing.
use Prim.Native.Nat.{ℕ, ◌<◌}
use mathlib.Core.Path.{◌≡◌}
use mathlib.Core.Bool.{true, false}
use mathlib.Core.List.{List, [], ◌∷◌}
use native.Mathlib.Omega.{arith}
use lib.Dec.{eqb}
use borrow.Author.Tests.{eqb-true, ltb-true, not-false}
use Rattle.laws.proofs.All.{also, either, as_is, below, equal}
use Rattle.laws.proofs.Order.{by_test, clash}
use Rattle.names.specs.Size.{links, directions, networks}
use Rattle.answers.specs.Rows.{Row, Passes, checked}
use Rattle.answers.specs.Out.{Out, attempt}
use Rattle.answers.proofs.Refusals.{by_check, all_clear}
use Rattle.cells.specs.World.{World}
use Rattle.clauses.specs.Cables.{enabled}
use Rattle.settings.specs.Set.{link_there, in_range, set_busy, set_rows, set_made, set_call}
use Rattle.settings.specs.declared.Setting.{Setting}
use Rattle.settings.specs.declared.Setting.TheVariants.{Number, Width, Direction, LinkDirection, Network, Enable, Hello}
use Rattle.messages.specs.Write.{accepted, made_all, written}
use Rattle.kept.specs.Kept.{NodeOk, Kept}
use Rattle.kept.proofs.Ends.{sixteen_bits}
use Rattle.kept.proofs.Links.{keep_own, keep_helloed, keep_directed, keep_network, keep_enabled, keep_disabled}

-- a Set that is not refused
module _ (w : World) (k : Kept w) (n : ℕ) (hn : n < w.net.nodes) where
  node_ok : NodeOk (w.net.own n 0)
  node_ok = k.nodes n 0 hn (omega arith)

  pub keep_made : (x : Setting) → link_there x ≡ true → in_range x ≡ true → set_busy w n x ≡ false → Kept (set_made w n x)
  keep_made (Number v) h r b = keep_own w k n _ (sixteen_bits v r, node_ok.1)
  keep_made (Width v) h r b = keep_own w k n _ (node_ok.0, (either (equal v 1) (equal v 3)).sure r)
  keep_made (Direction bit v) h r b = keep_own w k n _ node_ok
  keep_made (LinkDirection l v) h r b = keep_directed w k n l hn (ltb-true l links h) v (ltb-true v directions r)
  keep_made (Network l v) h r b = keep_network w k n l hn (ltb-true l links h) v (ltb-true v networks r)
  keep_made (Enable l v) h r b =
      let hl = ltb-true l links h in
      by_test (eqb v 0)
      (λ e. rw e (keep_disabled w k n l hn hl (rw e at b)))
      (λ e. rw e (keep_enabled w k n l hn hl))
  keep_made (Hello l) h r b =
      by_test (enabled w.net n l)
      (λ on. keep_helloed w k n l hn (ltb-true l links h) (eqb-true (w.net.links.setups n l).enabled 1 on) (rw on at b))
      (λ off. clash (rw off at b))

-- A CALL, refused or made, keeps what is kept where what it makes does
pub attempted : {S : Type 0} (P : S → Type 0) (rs : List Row) (s : S) (done : Out S) → P s → (Passes rs → P done.next)
    → P (attempt rs s done).next
attempted P rs s done old new =
    by_check (checked rs) (λ e. rw e (new (all_clear rs e))) (λ k e. rw e old)

pub keep_set : (w : World) → Kept w → (n : ℕ) (x : Setting) → Kept (set_call w n x).next
unfolding set_call
keep_set w k n x =
    attempted (λ (z : World). Kept z) (set_rows w n x) w _ k
    (λ p.
    let there = (also (below n w.net.nodes) (as_is (link_there x))).sure (not-false _ p.0) in
    keep_made w k n there.0 x there.1 (not-false _ p.1.0) p.1.1.0)

-- WHAT A MESSAGE WRITES: its Sets one by one, or nothing
keep_all : (xs : List Setting) (w : World) → Kept w → (n : ℕ) → Kept (made_all w n xs)
keep_all [] w k n = k
keep_all (x ∷ xs) w k n = keep_all xs (set_call w n x).next (keep_set w k n x) n

pub keep_written : (w : World) → Kept w → (n : ℕ) (xs : List Setting) → Kept (written w n xs)
unfolding written
keep_written w k n xs = by_test (accepted w n xs) (λ e. rw e (keep_all xs w k n)) (λ e. rw e k)
