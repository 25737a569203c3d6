-- What stands for an enum, and for a record, on the other side.
use Rattle.std.specs.Prelude.{ℕ, Bool, true, false, List, eqb, length, Option, Some, None}
use Rattle.laws.specs.Pick.{pick}
use Rattle.names.specs.declared.Slot.{Slot}
use Rattle.answers.specs.Out.{Out}
use Rattle.answers.specs.Answer.{packed, answer_number}
use Rattle.cells.specs.World.{World}
use Rattle.probe.specs.Answer as Probe
use Rattle.probe.specs.Calls as Calls

-- a slot is a plain number on the other side
abbrev pub slot : ℕ → Slot
slot n = record { 0 = n }

-- what comes of a call: its answer's number, and all three memories
pub record Crossing : Type 0 where
  pub number : ℕ
  pub next : World

abbrev pub crossing : ℕ → World → Crossing
crossing n w = record { number = n; next = w }

abbrev pub crossed : Out World → Crossing
crossed o = crossing (answer_number o.answer) o.next

-- what a look at a token finds: its word, if there is one
abbrev pub seen_number : Option ℕ → ℕ
seen_number None = packed 0 0
seen_number (Some word) = packed 1 word

-- what a look at a record leaves: its answer, and the caller's buffer
pub record Shown : Type 0 where
  pub answer : Bool
  pub buffer : List ℕ

abbrev pub shown : Bool → List ℕ → Shown
shown answer buffer = record { answer = answer; buffer = buffer }

-- a record's words are shown in a buffer that has exactly their number, and any other buffer is left as it is
unfoldable pub showing : List ℕ → List ℕ → Shown
showing words buffer = pick (eqb (length buffer) (length words)) (shown true words) (shown false buffer)

-- what comes of a call of the probe: its answer's number, what that bears, and the caller's buffer
pub record Probing : Type 0 where
  pub number : ℕ
  pub value : ℕ
  pub buffer : List ℕ

abbrev pub probing : ℕ → ℕ → List ℕ → Probing
probing n v b = record { number = n; value = v; buffer = b }

abbrev pub probed : Calls.Out → Probing
probed o = probing (Probe.answer_number o.answer) (Probe.answer_value o.answer) o.buffer
