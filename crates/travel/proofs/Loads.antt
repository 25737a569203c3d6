-- What is on each line, and how much, after one thing is put on a line or taken off it. Assumes nothing.
use Prim.Native.Nat.{ℕ, ◌+◌, ◌%◌, ◌<◌}
use mathlib.Core.Path.{◌≡◌, sym, ap, ◌∙◌}
use mathlib.Core.List.{List, [], ◌∷◌, ◌++◌}
use native.Mathlib.Nat.{mod-lt}
use native.Mathlib.Omega.{arith}
use lib.ListN.{set}
use Rattle.laws.specs.Table.{upd, Off}
use Rattle.laws.proofs.Table.{upd_same, upd_miss}
use Rattle.names.specs.Size.{links}
use Rattle.ports.specs.Ring.{put_counters, stretch, ring}
use Rattle.ports.specs.declared.Counters.{Counters}
use Rattle.lines.specs.Line.{line_capacity, off_counters, line_place, on_memory, off_memory, on_line}
use Rattle.lines.specs.Load.{before, load_of}
use Rattle.ports.proofs.Rings.{ring_long}
use Rattle.lines.proofs.Ends.{things, how_many}
use Rattle.lines.proofs.Queues.{put_last, off_first, other_line}
use Rattle.cells.specs.World.{World, line_from}
use Rattle.travel.specs.Travel.{load_from, put_on, first_on, taken_off}
use Rattle.travel.specs.Needs.{LineThere}

-- a line after its counters and the memory are written
line_here : (rings : ℕ → ℕ → Counters) (n l : ℕ) (c : Counters) (m : List ℕ)
    → on_line (upd rings n l c n l) m (line_place n l) ≡ on_line c m (line_place n l)
line_here rings n l c m = ap (λ (k : Counters). on_line k m (line_place n l)) (upd_same rings n l c)

-- .. and another, where one word of the first's stretch is written
line_away : (rings : ℕ → ℕ → Counters) (n l : ℕ) (c : Counters) (m : List ℕ) (i v a j : ℕ) → l < links → j < links → i < line_capacity
    → Off n l a j
    → on_line (upd rings n l c a j) (set m (line_place n l + i) v) (line_place a j) ≡ on_line (rings a j) m (line_place a j)
line_away rings n l c m i v a j hl hj hi o =
    ap (λ (k : Counters). on_line k (set m (line_place n l + i) v) (line_place a j)) (upd_miss rings n l c a j o)
    ∙ other_line (rings a j) m n l a j i v hl hj hi o

-- nothing is on a line where its counters say so
pub line_none : (w : World) (n l : ℕ) → (w.net.lines.rings n l).held ≡ 0 → line_from w n l ≡ []
unfolding ring
line_none w n l e = rw e

module _ (w : World) (n l : ℕ) (z : LineThere w n l) where
  abbrev counters : Counters
  counters = w.net.lines.rings n l

  -- as many things are on it as its counters say
  pub load_held : counters.held ≡ things (load_from w n l)
  load_held =
      sym (ring_long line_capacity (stretch line_capacity w.line_memory (line_place n l)) counters.head counters.held)
      ∙ how_many (line_from w n l)

  -- PUT ON: behind what is on it; the other lines are as they were
  pub put_line : (x : ℕ) → counters.held < line_capacity → line_from (put_on w n l x) n l ≡ line_from w n l ++ (x ∷ [])
  unfolding put_on
  put_line x h =
      line_here w.net.lines.rings n l (put_counters counters) (on_memory counters w.line_memory (line_place n l) x)
      ∙ put_last counters w.line_memory (line_place n l) x z.reaches h

  pub put_line_away : (x a j : ℕ) → j < links → Off n l a j → line_from (put_on w n l x) a j ≡ line_from w a j
  unfolding put_on
  put_line_away x a j hj o =
      line_away w.net.lines.rings n l (put_counters counters) w.line_memory ((counters.head + counters.held) % line_capacity) x a j
      z.link hj (mod-lt (counters.head + counters.held) (omega arith)) o

  pub put_load : (x : ℕ) → counters.held < line_capacity → load_from (put_on w n l x) n l ≡ load_of (line_from w n l ++ (x ∷ []))
  put_load x h = ap load_of (put_line x h)

  pub put_load_away : (x a j : ℕ) → j < links → Off n l a j → load_from (put_on w n l x) a j ≡ load_from w a j
  put_load_away x a j hj o = ap load_of (put_line_away x a j hj o)

  -- TAKEN OFF: its first
  pub off_line : 0 < counters.held → line_from w n l ≡ first_on w n l ∷ line_from (taken_off w n l) n l
  unfolding taken_off
  off_line h =
      off_first counters w.line_memory (line_place n l) z.fair h
      ∙ ap (λ (q : List ℕ). first_on w n l ∷ q)
      (sym (line_here w.net.lines.rings n l (off_counters counters) (off_memory counters w.line_memory (line_place n l))))

  pub off_line_away : (a j : ℕ) → j < links → Off n l a j → line_from (taken_off w n l) a j ≡ line_from w a j
  unfolding taken_off
  off_line_away a j hj o =
      line_away w.net.lines.rings n l (off_counters counters) w.line_memory counters.head 0 a j z.link hj z.fair.head_in o

  pub off_load : 0 < counters.held → load_from w n l ≡ before (first_on w n l) (load_from (taken_off w n l) n l)
  off_load h = ap load_of (off_line h)

  pub off_load_away : (a j : ℕ) → j < links → Off n l a j → load_from (taken_off w n l) a j ≡ load_from w a j
  off_load_away a j hj o = ap load_of (off_line_away a j hj o)
