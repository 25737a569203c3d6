-- `grammar::port::threes` meets its contract. Assumes nothing.
use Rattle.std.proofs.Common.{rules, tests, ℕ, ◌∙◌}
use Rattle.std.proofs.lemmas.Iterator.Consumers.{count_from_yields_List, YieldsList-from_first, YieldsList-at}
use Rattle.std.proofs.lemmas.Iterator.Search.{YieldsList-from_take_while}
use Rattle.std.proofs.lemmas.List.Folds.{length-prefix_len}
use Rattle.tokens.specs.Shape.{shape_of}
use Rattle.grammar.specs.Stage.{of_three}
use Rattle.grammar.proofs.Walks.{threes_front}
use Rattle.grammar.proofs.port.threes.Goals as goal

pub returns : goal.returns
returns c =
    let q = c.args.words.now in
    count_from_yields_List c.take_while.result _ c.count.ensures.ran
    (YieldsList-from_take_while _ (λ (w : ℕ). of_three (shape_of w))
    (YieldsList-at c.take_while.ensures.source (YieldsList-from_first (λ x. x) (λ rest. rest) q c.iter.ensures.0))
    c.take_while.ensures.closure c.take_while.ensures.done (λ w b f k. search (rules, tests)))
    ∙ length-prefix_len (λ (w : ℕ). of_three (shape_of w)) q
    ∙ threes_front q
