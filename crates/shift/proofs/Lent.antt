-- What a host has of a list, word for word: whatever meets the contract of `host::list::tarvelgyo_steps` (st, mem, ls and rs were lent;
-- zt, nem, ks, qs and the number r came back) is the same Steps made one by one, or nothing at all. Assumes nothing.
use Prim.Native.Nat.{ℕ}
use mathlib.Core.Path.{◌≡◌, sym, ap, ◌∙◌}
use mathlib.Core.List.{List, map}
use lib.ListN.{length}
use borrow.Author.Tests.{eq-eqb, ne_eqb}
use Rattle.names.specs.declared.no.No.TheVariants.{NoSuch}
use Rattle.answers.specs.Answer.{answer_number}
use Rattle.answers.specs.Answered.{No, Done}
use Rattle.cells.specs.World.{lent}
use Rattle.cells.proofs.Whole.{whole_state}
use Rattle.bench.specs.declared.StepRecord.{StepRecord}
use Rattle.bench.specs.Calls.{apply}
use Rattle.bench.specs.Runs.{run, steps_of}
use Rattle.bench.proofs.Lists.{left_by_steps, results_by_steps}
use Rattle.shift.specs.Lists.{Listed, listed, list_made}

-- "show that two results meeting it are equal" (document 01): number, every word of the state, of token memory, of lines and of the results
pub one_list : (l : Listed) (r q : ℕ) (st zt mem nem ls ks rs qs : List ℕ)
    → listed r (lent st mem ls) rs ≡ l
    → listed q (lent zt nem ks) qs ≡ l
    → (r ≡ q) × (st ≡ zt) × (mem ≡ nem) × (ls ≡ ks) × (rs ≡ qs)
one_list l r q st zt mem nem ls ks rs qs a b =
    let e : listed r (lent st mem ls) rs ≡ listed q (lent zt nem ks) qs = a ∙ sym b in (
      ap (λ (x : Listed). x.number) e,
      whole_state st zt (ap (λ (x : Listed). x.after.next.net) e),
      ap (λ (x : Listed). x.after.next.memory) e,
      ap (λ (x : Listed). x.after.next.line_memory) e,
      ap (λ (x : Listed). x.after.results) e,
    )

module _ (st mem ls rs zt nem ks qs : List ℕ) (xs : List StepRecord) (r : ℕ)
    (e : listed r (lent zt nem ks) qs ≡ list_made (lent st mem ls) rs xs) where
  -- with a place for each record: Done, and what `run` over the Steps answers and leaves
  pub made_one_by_one : length rs ≡ length xs
      → (r ≡ answer_number Done)
      × (lent zt nem ks ≡ (run (lent st mem ls) (steps_of xs)).last)
      × (qs ≡ map answer_number (run (lent st mem ls) (steps_of xs)).answers)
  unfolding list_made apply
  made_one_by_one fits =
      let d = rw (eq-eqb (length rs) (length xs) fits) at e in (
        ap (λ (x : Listed). x.number) d,
        ap (λ (x : Listed). x.after.next) d ∙ left_by_steps xs (lent st mem ls),
        ap (λ (x : Listed). x.after.results) d ∙ ap (map answer_number) (results_by_steps xs (lent st mem ls)),
      )

  -- "a results buffer of another length than the list is NoSuch, and nothing is done": every lent word is as it was
  pub list_as_lent : (length rs ≡ length xs → ⊥) → (r ≡ answer_number (No NoSuch)) × (zt ≡ st) × (nem ≡ mem) × (ks ≡ ls) × (qs ≡ rs)
  unfolding list_made apply
  list_as_lent other =
      let d = rw (ne_eqb (length rs) (length xs) other) at e in (
        ap (λ (x : Listed). x.number) d,
        whole_state zt st (ap (λ (x : Listed). x.after.next.net) d),
        ap (λ (x : Listed). x.after.next.memory) d,
        ap (λ (x : Listed). x.after.next.line_memory) d,
        ap (λ (x : Listed). x.after.results) d,
      )
