-- `clauses::contents::legal_words` meets its contract: the chain asks of each word that is held. Assumes nothing.
use Rattle.std.proofs.Common.{ℕ, List, ◌<◌, ◌≡◌, ◌∙◌, true, false, rules, length, take, arith}
use Rattle.std.proofs.lemmas.Iterator.{cases_from_all, YieldsList-from_slice, YieldsList-from_take}
use Rattle.std.proofs.lemmas.List.{length-take, length-take-le, get_or-take}
use lib.Dec.{ltb}
use lib.ListN.{get_or}
use borrow.Author.Tests.{ltb-true, ltb-false}
use Rattle.laws.proofs.Chains.{of_items}
use Rattle.laws.proofs.Order.{by_test}
use Rattle.clauses.specs.Contents.{legal_word, filled}
use Rattle.clauses.proofs.contents.legal_words.Goals as goal

-- the words that the chain takes are those that are held
long : (held : ℕ) (words : List ℕ) → length (take held words) ≡ filled (length words) held
long held words =
    by_test (ltb held (length words))
    (λ e. let l = ltb-true held (length words) e in rw e (length-take-le held words (omega arith)))
    (λ e. let l = ltb-false held (length words) e in rw e (length-take held words ∙ omega arith))

within : (size held k : ℕ) → k < filled size held → k < held
within size held k =
    by_test (ltb held size) (λ e. rw e (λ h. h)) (λ e. let l = ltb-false held size e in rw e (λ h. omega arith))

pub returns : goal.returns
returns c =
    let a = c.args in
    of_items (legal_word a.ends) (λ j. legal_word a.ends (get_or a.words.now j 0)) (take a.held a.words.now)
    (filled (length a.words.now) a.held) _ (long a.held a.words.now)
    (λ k h. rw (get_or-take a.held a.words.now k 0 (within (length a.words.now) a.held k h)))
    (cases_from_all _ _ _ (λ x. legal_word a.ends x ≡ true) (λ x. legal_word a.ends x ≡ false) c.all.ensures.ran
    (YieldsList-from_take a.held (YieldsList-from_slice a.words.now cc) cc) (λ x q k. search rules) (λ x q k. search rules))
