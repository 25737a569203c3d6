-- `line_clauses::reached::walk_line` meets its contract. Assumes nothing.
use Rattle.std.proofs.Common.{rules, tests, ℕ, ◌∙◌, ap}
use Rattle.std.proofs.lemmas.Iterator.Consumers.{fold_from_yields_List, YieldsList-from_first, YieldsList-from_filter, YieldsList-at}
use Rattle.std.specs.List.{filter}
use Rattle.tokens.specs.Shape.{shape_of}
use Rattle.lines.specs.Line.{line_place, on_line}
use Rattle.lines.specs.Load.{is_token}
use Rattle.grammar.specs.Stage.{next_stage}
use Rattle.grammar.specs.Walk.{walk}
use Rattle.grammar.specs.declared.stage.Stage.{Stage}
use Rattle.grammar.proofs.Walks.{walk_fold}
use Rattle.line_clauses.proofs.Walks.{tokens_left}
use Rattle.line_clauses.proofs.reached.walk_line.Goals as goal

pub returns : goal.returns
returns c =
    let a = c.args in
    let q = on_line a.c a.ls.now (line_place a.slot.0 a.l) in
    fold_from_yields_List _ (λ (t : Stage) (w : ℕ). next_stage t (shape_of w)) a.s c.fold.result c.fold.ensures.ran
    (YieldsList-from_filter _ is_token
    (YieldsList-at c.filter.ensures.source (YieldsList-from_first (λ x. x) (λ rest. rest) q c.words_on.ensures))
    c.filter.ensures.closure (λ w b f k. search (rules, tests)))
    (λ t w u f k. search (rules, tests))
    ∙ walk_fold a.s (filter is_token q)
    ∙ ap (walk a.s) (tokens_left q)
