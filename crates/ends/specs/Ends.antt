-- Channel-ends, as calls name them.
use Rattle.std.specs.Prelude.{ℕ, Bool, not, ◌&&◌, eqb, ltb}
use Rattle.names.specs.Size.{ends}
use Rattle.cells.specs.View.{Net}

-- "channel-end (0..31) not present" is NoSuch
abbrev pub end_at : Net → ℕ → ℕ → Bool
end_at s n c = ltb n s.nodes && ltb c ends

-- "between its opening Output and that circuit's END or PAUSE"
abbrev pub is_open : Net → ℕ → ℕ → Bool
is_open s n c = not (eqb (s.ends.sendings n c).kind 0)
