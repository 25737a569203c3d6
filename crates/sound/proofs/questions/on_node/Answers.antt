-- `sound::questions::on_node` meets its contract: the chain asks at each place. Assumes nothing.
use Rattle.std.proofs.Common.{◌≡◌, true, false, rules, sym, arith}
use Rattle.std.proofs.lemmas.Iterator.{cases_from_all, YieldsList-from_range}
use Rattle.laws.proofs.Chains.{of_range}
use Rattle.sound.proofs.questions.on_node.Goals as goal

pub returns : goal.returns
returns g c =
    let n = c.args.slot.0 in
    λ f h. of_range (f n) c.args.places _
    (cases_from_all _ _ _ (λ i. f n i ≡ true) (λ i. f n i ≡ false) c.all.ensures.ran
    (YieldsList-from_range 0 c.args.places c.args.places (cc) (omega arith)) (λ i q k. (search rules, sym (h c.args.slot i true (search rules)))) (λ i q k. sym (h c.args.slot i false (search rules))))
