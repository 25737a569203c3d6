-- What a look shows, for any state and any memory.
use Rattle.std.specs.Prelude.{ℕ, ◌+◌, ◌*◌, ◌/◌, ◌%◌, ◌&&◌, List, ltb, length, get_or, Option, Some, None}
use Rattle.laws.specs.Pick.{pick}
use Rattle.names.specs.Size.{links, ports, end_buffer}
use Rattle.ports.specs.Queue.{capacity}
use Rattle.ports.specs.Ring.{place}
use Rattle.ports.specs.declared.Counters.{Counters}
use Rattle.lines.specs.Line.{line_capacity}
use Rattle.routing.specs.Direction.{entry_of}
use Rattle.cells.specs.View.{Net}
use Rattle.cells.specs.World.{World}

-- a node's direction entry for a bit
abbrev pub direction : Net → ℕ → ℕ → ℕ
direction s n b = entry_of (s.own n 0).directions b

-- the i-th word of queue q of node n, oldest first, wherever in its ring it begins, if a memory that has `many` such queues for each node has
-- that one and it holds so many
unfoldable pub held_at : ℕ → ℕ → Counters → List ℕ → ℕ → ℕ → ℕ → Option ℕ
held_at many cap c m n q i =
    pick
    (ltb n (length m / (many * cap)) && (ltb q many && (ltb i c.held && ltb i cap)))
    (Some (get_or m (place many cap n q + (c.head % cap + i) % cap) 0))
    None

-- the i-th token held in port p of node n, oldest first, if the memory has that port and it holds so many
abbrev pub port_token : World → ℕ → ℕ → ℕ → Option ℕ
port_token w n p i = held_at ports capacity (w.net.ports.counters n p) w.memory n p i

-- the i-th on the line that starts at link l of node n, the first to arrive first, if the memory has that line and so many are on it
abbrev pub line_token : World → ℕ → ℕ → ℕ → Option ℕ
line_token w n l i = held_at links line_capacity (w.net.lines.rings n l) w.line_memory n l i

-- the word of the i-th token held in a channel-end, oldest first, if it holds so many
unfoldable pub end_token : Net → ℕ → ℕ → ℕ → Option ℕ
end_token s n c i =
    pick (ltb i end_buffer && ltb i (s.ends.buffers n c).held) (Some (get_or (s.ends.buffers n c).tokens i 0)) None
