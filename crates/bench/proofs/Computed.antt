-- How a run of calls is computed. On a state that has the invariant the row Unsound refuses nothing, so that no call of a run has the Sound
-- list to compute. Assumes nothing.
use Prim.Native.Nat.{ℕ}
use mathlib.Core.Path.{◌≡◌, refl, ap, ◌∙◌}
use mathlib.Core.Bool.{true}
use mathlib.Core.List.{List, [], ◌∷◌, map}
use lib.Dec.{leb}
use borrow.Author.Tests.{leb-true}
use Rattle.names.specs.Size.{nodes}
use Rattle.answers.specs.Rows.{Row}
use Rattle.answers.specs.Out.{Out, attempt}
use Rattle.answers.specs.Answered.{Answered}
use Rattle.cells.specs.World.{World}
use Rattle.fresh.specs.Fresh.{start_rows, start_of}
use Rattle.fresh.specs.declared.Start.{Start}
use Rattle.kept.proofs.Calls.{start_kept}
use Rattle.settings.specs.Wire.{wire_rows}
use Rattle.settings.specs.Set.{set_rows}
use Rattle.ends.specs.Aim.{aim_rows}
use Rattle.ends.specs.Output.{output_rows}
use Rattle.ends.specs.Input.{input_rows}
use Rattle.switch.specs.Step.{step_rows}
use Rattle.kept.specs.Kept.{Kept}
use Rattle.kept.proofs.Parts.{kept_sound}
use Rattle.bench.specs.Calls.{Call, Begin, Wire, Set, Aim, Output, Input, Step, Line, Steps, line_rows, rows, made, apply}
use Rattle.bench.specs.Runs.{run}
use Rattle.bench.proofs.Lasts.{call_keeps}

-- the rows of a call but for Unsound
abbrev pub others : World → Call → List Row
others w (Begin s n) = start_rows w n
others w (Wire a l b k) = wire_rows w.net a.0 l b.0 k
others w (Set a x) = set_rows w a.0 x
others w (Aim a c g v) = aim_rows w.net a.0 c g v
others w (Output a c x) = output_rows w.net a.0 c x
others w (Input a c k) = input_rows w.net a.0 c k
others w (Step a p) = step_rows w.net a.0 p
others w (Line a l) = line_rows w.net a.0 l
others w (Steps n xs) = rows w (Steps n xs)

abbrev pub applied : World → Call → Out World
applied w c = attempt (others w c) w (made w c)

pub sound_row : (w : World) → Kept w → (c : Call) → apply w c ≡ applied w c
unfolding apply
sound_row w k (Begin s n) = refl
sound_row w k (Wire a l b j) = rw (kept_sound w k).0
sound_row w k (Set a x) = rw (kept_sound w k).0
sound_row w k (Aim a c g v) = rw (kept_sound w k).0
sound_row w k (Output a c x) = rw (kept_sound w k).0
sound_row w k (Input a c x) = rw (kept_sound w k).0
sound_row w k (Step a p) = rw (kept_sound w k).0
sound_row w k (Line a l) = rw (kept_sound w k).0
sound_row w k (Steps n xs) = refl

-- the answers of a run, without that row
abbrev pub answers_of : World → List Call → List Answered
answers_of w [] = []
answers_of w (c ∷ cs) = let o = applied w c in o.answer ∷ answers_of o.next cs

run_answers : (cs : List Call) (w : World) → Kept w → (run w cs).answers ≡ answers_of w cs
run_answers [] w k = refl
run_answers (c ∷ cs) w k =
    ap {B = List Answered} (λ rest. (apply w c).answer ∷ rest) (run_answers cs (apply w c).next (call_keeps w k c))
    ∙ ap (λ (o : Out World). o.answer ∷ answers_of o.next cs) (sound_row w k c)

-- A SCRIPT: calls, each with its answer
abbrev pub Script : Type 0
Script = List (Call × Answered)

abbrev pub calls : Script → List Call
calls s = map (λ x. x.0) s

abbrev pub answers : Script → List Answered
answers s = map (λ x. x.1) s

-- so many boards answer so, from that start on
abbrev pub Runs : Start → ℕ → Script → Type 0
Runs x n s = (run (start_of x n) (calls s)).answers ≡ answers s

-- by tests on the number of boards, which compute
pub begun_kept : (x : Start) (n : ℕ) → leb 1 n ≡ true → leb n nodes ≡ true → Kept (start_of x n)
begun_kept x n some few = start_kept x n (leb-true 1 n some) (leb-true n nodes few)

pub runs : (x : Start) (n : ℕ) (s : Script) → leb 1 n ≡ true → leb n nodes ≡ true → answers_of (start_of x n) (calls s) ≡ answers s
    → Runs x n s
runs x n s some few computed = run_answers (calls s) (start_of x n) (begun_kept x n some few) ∙ computed
