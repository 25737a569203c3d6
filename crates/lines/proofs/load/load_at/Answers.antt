-- `lines::load::load_at` meets its contract: at each turn what is still in front of what it has is the whole line. Assumes nothing.
use Rattle.std.proofs.Common.{◌≡◌, ℕ, ◌+◌, ◌-◌, List, [], ◌∷◌, ◌++◌, length, arith, ap, sym, ◌∙◌, length-append}
use Rattle.std.specs.Iterator.Adapters.{rev_source}
use Rattle.lines.specs.Line.{line_capacity, line_place, on_line}
use Rattle.lines.proofs.Loads.{in_front, in_front_none, in_front_last, on_line_long, within_none, within_before, within_more}
use Rattle.lines.proofs.load.load_at.Goals as goal

pub loop-word-init : goal.loop-word-init
loop-word-init c =
    let a = c.args in
    let all : rev_source c.into_iter-word-iterator.result ≡ on_line a.c a.lines.now (line_place a.slot.0 a.l) =
    ap rev_source c.into_iter-word-iterator.ensures.into_iter_gives ∙ c.rev-word-items.ensures.source ∙ c.words_on.ensures in
    rw all (on_line_long a.c a.lines.now (line_place a.slot.0 a.l) c.requires.0, in_front_none _, within_none _)

pub loop-word-preserved : goal.loop-word-preserved
loop-word-preserved c =
    let l = c.loop-word in
    let word = c.in-Some.word in
    let rest = rev_source c.next.new.self in
    let now : rev_source l.word-iterator ≡ rest ++ (word ∷ []) = c.in-Some.ensures.steps in
    let long : length (rev_source l.word-iterator) ≡ length rest + 1 = ap length now ∙ length-append rest (word ∷ []) in
    let front = sym (ap (λ (q : List ℕ). in_front q l.k) now ∙ in_front_last rest word l.k) ∙ l.invariant.1 in
    let more = within_before (line_capacity - length (rev_source l.word-iterator)) word l.k (omega arith) l.invariant.2 in (
      omega (arith, long, l.invariant.0),
      ap (in_front rest) c.before-k.ensures ∙ front,
      rw c.before-k.ensures (within_more _ _ _ (omega (arith, long, l.invariant.0)) more),
    )
