-- "Aim: a channel-end's destination (number with channel 0..31 or 255, or number's control unit) and network." (document 01, "Calls")
use Rattle.std.specs.Prelude.{ℕ, Bool, not, ◌&&◌, List, [], ◌∷◌, ltb}
use Rattle.names.specs.Size.{networks}
use Rattle.names.specs.Number.{is_number}
use Rattle.names.specs.declared.no.No.TheVariants.{NoSuch, Value, Open}
use Rattle.tokens.specs.Shape.{legal_channel}
use Rattle.answers.specs.Rows.{Row, refused_if}
use Rattle.answers.specs.Out.{Out, out, attempt}
use Rattle.answers.specs.Answered.{Done}
use Rattle.cells.specs.View.{Net, with_aim}
use Rattle.cells.specs.declared.end.Aim.{Aim}
use Rattle.ends.specs.Ends.{end_at, is_open}
use Rattle.ends.specs.declared.aim.Goal.{Goal}
use Rattle.ends.specs.declared.aim.Goal.TheVariants.{Channel, Unit}

-- "Value: a setting out of range, channel 32..254"
abbrev pub goal_ranged : Goal → Bool
goal_ranged (Channel m c) = is_number m && legal_channel c
goal_ranged (Unit m) = is_number m

-- "Open: Aim between its opening Output and that circuit's END or PAUSE"
abbrev pub aim_rows : Net → ℕ → ℕ → Goal → ℕ → List Row
aim_rows s n c g v =
    refused_if (not (end_at s n c)) NoSuch ∷ refused_if (not (goal_ranged g && ltb v networks)) Value ∷ refused_if (is_open s n c) Open ∷ []

abbrev pub aimed_at : Goal → ℕ → Aim
aimed_at (Channel m c) v = record { kind = 1; number = m; channel = c; network = v }
aimed_at (Unit m) v = record { kind = 2; number = m; channel = 0; network = v }

abbrev pub aim_made : Net → ℕ → ℕ → Goal → ℕ → Net
aim_made s n c g v = with_aim s n c (aimed_at g v)

unfoldable pub aim : Net → ℕ → ℕ → Goal → ℕ → Out Net
aim s n c g v = attempt (aim_rows s n c g v) s (out Done (aim_made s n c g v))
