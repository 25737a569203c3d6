-- A line's queue, on its own stretch of the lines' memory: a port's laws at another capacity. Assumes nothing.
use Prim.Native.Nat.{ℕ, ◌+◌, ◌<◌, ◌≤◌}
use mathlib.Core.Path.{◌≡◌}
use mathlib.Core.List.{List, [], ◌∷◌, ◌++◌}
use lib.ListN.{length, set}
use Rattle.laws.specs.Table.{Off}
use Rattle.names.specs.Size.{links}
use Rattle.ports.specs.Ring.{put_counters}
use Rattle.ports.specs.declared.Counters.{Counters}
use Rattle.ports.proofs.Stretches as Stretches
use Rattle.lines.specs.Line.{line_capacity, LineFair, off_counters, line_place, on_memory, off_memory, first_off, on_line}

module _ (c : Counters) (m : List ℕ) where
  pub put_last : (a x : ℕ) → a + line_capacity ≤ length m → c.held < line_capacity
      → on_line (put_counters c) (on_memory c m a x) a ≡ on_line c m a ++ (x ∷ [])
  put_last = Stretches.put_here line_capacity c m

  pub off_first : (a : ℕ) → LineFair c → 0 < c.held → on_line c m a ≡ first_off c m a ∷ on_line (off_counters c) (off_memory c m a) a
  off_first = Stretches.take_here line_capacity c m

  -- a store into one line's stretch leaves every other line's
  pub other_line : (n l n' l' j v : ℕ) → l < links → l' < links → j < line_capacity → Off n l n' l'
      → on_line c (set m (line_place n l + j) v) (line_place n' l') ≡ on_line c m (line_place n' l')
  other_line = Stretches.other_queue links line_capacity c m
