-- A list of steps, record by record: what each Step keeps, the list keeps. Assumes nothing.
use mathlib.Core.List.{List, [], ◌∷◌}
use Rattle.answers.specs.Rows.{Passes}
use Rattle.cells.specs.World.{World}
use Rattle.switch.specs.Step.{step_rows, step_made}
use Rattle.kept.proofs.Sets.{attempted}
use Rattle.bench.specs.declared.StepRecord.{StepRecord}
use Rattle.bench.specs.Calls.{unsound, step_by, stepped}

-- one record: refused, and the world is as it was, or made
pub step_made_lem : (P : World → Type 0) (w : World) (x : StepRecord) → P w
    → (Passes (unsound w ∷ step_rows w.net x.slot x.port) → P (step_made w x.slot x.port).next)
    → P (step_by w x).next
step_made_lem P w x h made = attempted P (unsound w ∷ step_rows w.net x.slot x.port) w (step_made w x.slot x.port) h made

-- every record
pub stepped_keeps : (P : World → Type 0) → ((w : World) (x : StepRecord) → P w → P (step_by w x).next) → (xs : List StepRecord) (w : World)
    → P w
    → P (stepped w xs)
stepped_keeps P one [] w h = h
stepped_keeps P one (x ∷ xs) w h = stepped_keeps P one xs (step_by w x).next (one w x h)
