-- "Each direction of a cable becomes a line of up to 66 tokens in order, in a second lent memory of nodes × 8 × 66 words" (document 02,
-- Ask 4). A line is a queue of that capacity; the one that starts at a link has its own stretch of that memory.
use Rattle.std.specs.Prelude.{ℕ, ◌+◌, ◌%◌, List, get_or}
use Rattle.names.specs.Size.{links}
use Rattle.ports.specs.declared.Counters.{Counters}
use Rattle.ports.specs.Ring as Ring

abbrev pub line_capacity : ℕ
line_capacity = 66

-- counters that a line can have
abbrev pub LineFair : Counters → Type 0
LineFair c = Ring.Fair line_capacity c

-- the counters after one thing is taken off its far end (putting is `put_counters`, of any capacity)
abbrev pub off_counters : Counters → Counters
off_counters c = Ring.take_counters line_capacity c

-- where the stretch of the line that starts at link l of node n begins
abbrev pub line_place : ℕ → ℕ → ℕ
line_place n l = Ring.place links line_capacity n l

-- the whole memory after one thing is put on the line whose stretch begins at a, and after its first is taken off
abbrev pub on_memory : Counters → List ℕ → ℕ → ℕ → List ℕ
on_memory c m a x = Ring.put_memory line_capacity c m a x

abbrev pub off_memory : Counters → List ℕ → ℕ → List ℕ
off_memory c m a = Ring.take_memory c m a

abbrev pub first_off : Counters → List ℕ → ℕ → ℕ
first_off c m a = Ring.first_of c m a

-- the i-th on it, the first to arrive at 0
abbrev pub word_on : Counters → List ℕ → ℕ → ℕ → ℕ
word_on c m a i = get_or m (a + (c.head + i) % line_capacity) 0

-- what is on that line, the first to arrive first
abbrev pub on_line : Counters → List ℕ → ℕ → List ℕ
on_line c m a = Ring.held line_capacity c m a
