-- `plans::read::lowest_tile` meets its contract: what `find` answers is the first that is free. Assumes nothing.
use Rattle.std.proofs.Common.{◌≡◌, true, false, refl, arith, rules, tests}
use Rattle.std.proofs.lemmas.Iterator.{first_from_Range}
use Rattle.laws.proofs.All.{lowest_place}
use Rattle.names.specs.Size.{tile_links}
use Rattle.cells.specs.View.{view}
use Rattle.plans.specs.Plan.{tile_free}
use Rattle.plans.proofs.read.lowest_tile.Goals as goal

pub returns : goal.returns
returns c =
    let free = tile_free (view c.args.st.now) c.args.slot.0 in
    lowest_place free free 0 tile_links _ (λ j l. absurd (omega arith)) (λ i a l. refl)
    (first_from_Range _ _ _ _ (λ i. free i ≡ true) (λ i. free i ≡ false) c.find.ensures.ran
    (λ x q k. search (rules, tests)) (λ x q k. search (rules, tests)))
