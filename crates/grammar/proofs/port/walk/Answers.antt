-- `grammar::port::walk` meets its contract. Assumes nothing.
use Rattle.std.proofs.Common.{rules, tests, ℕ, ◌∙◌}
use Rattle.std.proofs.lemmas.Iterator.Consumers.{fold_from_yields_List, YieldsList-from_first}
use Rattle.tokens.specs.Shape.{shape_of}
use Rattle.grammar.specs.Stage.{next_stage}
use Rattle.grammar.specs.declared.stage.Stage.{Stage}
use Rattle.grammar.proofs.Walks.{walk_fold}
use Rattle.grammar.proofs.port.walk.Goals as goal

pub returns : goal.returns
returns c =
    let a = c.args in
    fold_from_yields_List _ (λ (t : Stage) (w : ℕ). next_stage t (shape_of w)) a.s c.fold.result c.fold.ensures.ran
    (YieldsList-from_first (λ x. x) (λ rest. rest) a.words.now c.iter.ensures.0)
    (λ t w u q k. search (rules, tests))
    ∙ walk_fold a.s a.words.now
