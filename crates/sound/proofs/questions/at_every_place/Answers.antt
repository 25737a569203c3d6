-- `sound::questions::at_every_place` meets its contract: the chain asks on each node. Assumes nothing.
use Rattle.std.proofs.Common.{◌≡◌, true, false, ℕ, Bool, rules, sym, arith}
use Rattle.std.proofs.lemmas.Iterator.{cases_from_all, YieldsList-from_range}
use Rattle.laws.specs.All.{all, every}
use Rattle.laws.proofs.Chains.{of_range}
use Rattle.sound.specs.Questions.{Answers}
use Rattle.sound.proofs.questions.at_every_place.Goals as goal

pub returns : goal.returns
unfolding every
returns g c =
    let nodes = c.count.result in
    let places = c.args.places in
    -- what a call of `on_node` says
    let On : ℕ → Bool → Type 0 =
    λ n r. (f : ℕ → ℕ → Bool) → Answers (λ slot i b. goal.F-post g c.args.holds slot i b) f → r ≡ all places (f n) in
    λ f h. rw (← c.count.ensures)
    (of_range (λ n. all places (f n)) nodes _
    (cases_from_all _ _ _ (λ n. all places (f n) ≡ true) (λ n. all places (f n) ≡ false) c.all.ensures.ran
    (YieldsList-from_range 0 nodes nodes (cc) (omega arith))
    (λ n q k. (search rules, let one : On n true = search rules in sym (one f h)))
    (λ n q k. let one : On n false = search rules in sym (one f h))))
