-- `plans::read::lowest_link` meets its contract: what `find` answers is the first that suits. Assumes nothing.
use Rattle.std.proofs.Common.{◌≡◌, ℕ, Bool, true, false, refl, arith, rules, tests}
use Rattle.std.proofs.lemmas.Iterator.{first_from_Range}
use Rattle.laws.specs.Pick.{pick}
use Rattle.laws.proofs.All.{lowest_place}
use Rattle.names.specs.Size.{links}
use Rattle.cells.specs.View.{Net, view}
use Rattle.plans.specs.Plan.{candidate, free_candidate}
use Rattle.plans.proofs.read.lowest_link.Goals as goal

-- the test at a link, as the code makes it
at_link : (s : Net) (n d v l : ℕ) (free : Bool)
    → pick free (free_candidate s n d v) (candidate s n d v) l ≡ pick free (free_candidate s n d v l) (candidate s n d v l)
at_link s n d v l true = refl
at_link s n d v l false = refl

pub returns : goal.returns
returns c =
    let a = c.args in
    let s = view a.st.now in
    let suits = λ (l : ℕ). pick a.free (free_candidate s a.slot.0 a.d a.v l) (candidate s a.slot.0 a.d a.v l) in
    lowest_place _ suits 0 links _ (λ j l. absurd (omega arith)) (λ i m l. at_link s a.slot.0 a.d a.v i a.free)
    (first_from_Range _ _ _ _ (λ i. suits i ≡ true) (λ i. suits i ≡ false) c.find.ensures.ran
    (λ x q k. search (rules, tests)) (λ x q k. search (rules, tests)))
