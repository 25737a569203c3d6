-- "No candidate: the circuit is discarded, cause NoRoute. Candidates, all in use outward: it waits. Otherwise the lowest-numbered free one
-- is taken." (document 01, "Routing"): the plan of a route, with what holds of the links for each. Assumes nothing.
use Prim.Native.Nat.{ℕ, ◌<◌, ◌≤◌}
use mathlib.Core.Path.{◌≡◌}
use mathlib.Core.Bool.{Bool, true}
use native.Mathlib.Omega.{arith}
use lib.Dec.{ltb}
use borrow.Author.Tests.{ltb-true, ltb-false}
use Rattle.laws.specs.All.{first, NoneBelow}
use Rattle.laws.proofs.All.{first_least, first_passes}
use Rattle.laws.proofs.Order.{by_test}
use Rattle.names.specs.Size.{links}
use Rattle.circuits.specs.declared.Cause.TheVariants.{NoRoute}
use Rattle.cells.specs.View.{Net}
use Rattle.plans.specs.Plan.{candidate, free_candidate, route_plan}
use Rattle.plans.specs.declared.Plan.{Plan}
use Rattle.plans.specs.declared.Plan.TheVariants.{OpenOut, Wait, Refuse}

module _ (s : Net) (n d v : ℕ) where
  -- each plan with what it says of the links: one of the three holds, and it is the plan's
  pub data Routed : Plan → Type 0 where
    opens : (l : ℕ) → l < links → free_candidate s n d v l ≡ true → NoneBelow (free_candidate s n d v) l → Routed (OpenOut l)
    waits : (l : ℕ) → l < links → candidate s n d v l ≡ true → NoneBelow (free_candidate s n d v) links → Routed Wait
    discards : NoneBelow (candidate s n d v) links → Routed (Refuse NoRoute)

  -- a search that found nothing has seen all links
  none : (f : ℕ → Bool) → links ≤ first links f → NoneBelow f links
  none f h k l = first_least f links k (omega arith)

  pub routed : Routed (route_plan s n d v)
  routed =
      let free = free_candidate s n d v in
      let any = candidate s n d v in
      by_test (ltb (first links free) links)
      (λ e.
      let h = ltb-true (first links free) links e in
      rw e (opens (first links free) h (first_passes free links h) (first_least free links)))
      (λ e. rw e (by_test (ltb (first links any) links)
      (λ f.
      let h = ltb-true (first links any) links f in
      rw f (waits (first links any) h (first_passes any links h) (none free (ltb-false (first links free) links e))))
      (λ f. rw f (discards (none any (ltb-false (first links any) links f))))))
