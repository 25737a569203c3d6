-- A LIST OF STEPS, over the memories that a host lends: "one call that takes a list of step records lent by the host, each a slot and a
-- port, does them in order and writes one result per record, as the same steps made one by one" (document 02, Ask 1). The call itself is
-- `Steps` of bench/specs/Calls.antt; here are the words of its results.
use Rattle.std.specs.Prelude.{ℕ, List, map, eqb, length, set}
use Rattle.laws.specs.Pick.{pick}
use Rattle.answers.specs.Answer.{answer_number}
use Rattle.cells.specs.World.{World}
use Rattle.bench.specs.declared.StepRecord.{StepRecord}
use Rattle.bench.specs.Calls.{Step, Steps, results, apply}

-- what is left: state and token memory, and the words of the results
pub record Left : Type 0 where
  pub next : World
  pub results : List ℕ

abbrev pub left : World → List ℕ → Left
left w rs = record { next = w; results = rs }

-- one record: its Step is made, and the answer's number stands at its place
unfoldable pub one_step : Left → ℕ → ℕ → ℕ → Left
one_step k i slot port =
    let o = apply k.next (Step (record { 0 = slot }) port) in
    left o.next (set k.results i (answer_number o.answer))

-- what comes of the call: its own answer's number, and what is left
pub record Listed : Type 0 where
  pub number : ℕ
  pub after : Left

abbrev pub listed : ℕ → World → List ℕ → Listed
listed n w rs = record { number = n; after = left w rs }

-- the call, with the results lent: each word is its record's answer; those of another length keep every word
unfoldable pub list_made : World → List ℕ → List StepRecord → Listed
list_made w rs xs =
    let o = apply w (Steps (length rs) xs) in
    listed (answer_number o.answer) o.next (pick (eqb (length rs) (length xs)) (map answer_number (results w xs)) rs)
