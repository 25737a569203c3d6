-- The published statement of every call: which rows refuse it, what it makes where none does, and `apply`, which is both. A contract of
-- the bench is one equation with `apply`, for all arguments and any memories lent.
use Rattle.std.specs.Prelude.{ℕ, not, List, [], ◌∷◌, eqb, length}
use Rattle.std.specs.Prelude.{Option, Some, None}
use Rattle.names.specs.declared.no.No.TheVariants.{Unsound, NoSuch}
use Rattle.names.specs.declared.Slot.{Slot}
use Rattle.answers.specs.Rows.{Row, refused_if}
use Rattle.answers.specs.Out.{Out, out, attempt}
use Rattle.answers.specs.Answered.{Answered, Done}
use Rattle.answers.specs.Answered as Answers
use Rattle.cells.specs.View.{Net}
use Rattle.cells.specs.World.{World}
use Rattle.fresh.specs.Fresh.{start_rows, start_of}
use Rattle.fresh.specs.declared.Start.{Start}
use Rattle.settings.specs.Wire.{link_at, wire_rows, wired}
use Rattle.settings.specs.Set.{set_rows, set_answer, set_made}
use Rattle.settings.specs.declared.Setting.{Setting}
use Rattle.acts.specs.Acts.{with_net}
use Rattle.ends.specs.Aim.{aim_rows, aim_made}
use Rattle.ends.specs.Output.{output_rows, output_made}
use Rattle.ends.specs.Input.{input_rows, input_value, input_made}
use Rattle.ends.specs.declared.Token.{Token}
use Rattle.ends.specs.declared.Wanted.{Wanted}
use Rattle.ends.specs.declared.aim.Goal.{Goal}
use Rattle.switch.specs.Step.{step_rows, step_made}
use Rattle.travel.specs.Travel.{line_came, line_stepped}
use Rattle.sound.specs.Sound.{sound}
use Rattle.bench.specs.declared.StepRecord.{StepRecord}

-- the calls, with arguments of any size
pub data Call : Type 0 where
  -- Fresh or blank (document 02, Ask 7), of so many nodes
  Begin : Start → ℕ → Call
  -- slot and link of one end and of the other
  Wire : Slot → ℕ → Slot → ℕ → Call
  Set : Slot → Setting → Call
  -- slot and channel-end; destination and network, token, or the kind that is asked for
  Aim : Slot → ℕ → Goal → ℕ → Call
  Output : Slot → ℕ → Token → Call
  Input : Slot → ℕ → Wanted → Call
  -- slot and port
  Step : Slot → ℕ → Call
  -- slot and link: the line that starts there
  Line : Slot → ℕ → Call
  -- how many results there is room for, and the list's records
  Steps : ℕ → List StepRecord → Call

-- "1 Unsound: memory of the wrong length, or (not Fresh) state that fails the list"; "Fresh" is either start
abbrev pub unsound : World → Row
unsound w = refused_if (not (sound w)) Unsound

-- A LIST OF STEPS (document 02, Ask 1). One record's Step, with its own refusals: "Unsound is each record's own"
abbrev pub step_by : World → StepRecord → Out World
step_by w x = attempt (unsound w ∷ step_rows w.net x.slot x.port) w (step_made w x.slot x.port)

-- "does them in order ..; a refused record stops nothing. The list may be empty."
abbrev pub stepped : World → List StepRecord → World
stepped w [] = w
stepped w (x ∷ xs) = stepped (step_by w x).next xs

-- ".. and writes one result per record": what the single Step answers
abbrev pub results : World → List StepRecord → List Answered
results w [] = []
results w (x ∷ xs) = (step_by w x).answer ∷ results (step_by w x).next xs

-- A LINE STEP (document 02, Ask 4): "Moved, with any grant, or Idle"
abbrev pub came_answer : Option ℕ → Answered
came_answer None = Answers.Idle
came_answer (Some g) = Answers.Arrived g

abbrev pub line_rows : Net → ℕ → ℕ → List Row
line_rows s n l = refused_if (not (link_at s n l)) NoSuch ∷ []

-- when a call is refused, in the order of "Numbers for no" (a start has its own). A list, for its results' length alone: "first, a results
-- buffer of another length than the list is NoSuch, and nothing is done"
abbrev pub rows : World → Call → List Row
rows w (Begin s n) = start_rows w n
rows w (Wire a l b k) = unsound w ∷ wire_rows w.net a.0 l b.0 k
rows w (Set a x) = unsound w ∷ set_rows w a.0 x
rows w (Aim a c g v) = unsound w ∷ aim_rows w.net a.0 c g v
rows w (Output a c x) = unsound w ∷ output_rows w.net a.0 c x
rows w (Input a c k) = unsound w ∷ input_rows w.net a.0 c k
rows w (Step a p) = unsound w ∷ step_rows w.net a.0 p
rows w (Line a l) = unsound w ∷ line_rows w.net a.0 l
rows w (Steps n xs) = refused_if (not (eqb n (length xs))) NoSuch ∷ []

-- what a call makes that is not refused
abbrev pub made : World → Call → Out World
made w (Begin s n) = out Done (start_of s n)
made w (Wire a l b k) = out Done (with_net w (wired w.net a.0 l b.0 k))
made w (Set a x) = out (set_answer x) (set_made w a.0 x)
made w (Aim a c g v) = out Done (with_net w (aim_made w.net a.0 c g v))
made w (Output a c x) = out Done (output_made w a.0 c x)
made w (Input a c k) = out (Answers.Token (input_value w.net a.0 c)) (with_net w (input_made w.net a.0 c))
made w (Step a p) = step_made w a.0 p
made w (Line a l) = out (came_answer (line_came w a.0 l)) (line_stepped w a.0 l)
made w (Steps n xs) = out Done (stepped w xs)

-- "A refused call returns its number and leaves the state as it was"
unfoldable pub apply : World → Call → Out World
apply w c = attempt (rows w c) w (made w c)
