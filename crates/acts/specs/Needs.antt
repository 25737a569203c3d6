-- What the acts ask of the state that they are made on. Calls have it from a sound state (`plan_possible` of ends and of switch), and each
-- act from what the one before left.
use Rattle.std.specs.Prelude.{ℕ, ◌+◌, ◌<◌, ◌≤◌, ◌≡◌, true, ◌⊎◌, length}
use Rattle.names.specs.Size.{ports, ends, end_buffer, sink, numbers}
use Rattle.tokens.specs.Word.{is_pause}
use Rattle.ports.specs.Queue.{capacity, Fair}
use Rattle.ports.specs.Memory.{place}
use Rattle.cells.specs.View.{Net}
use Rattle.cells.specs.World.{World}
use Rattle.cells.specs.declared.end.Buffer.{Buffer}

-- a node's number has 16 bits
abbrev pub NumberFits : Net → ℕ → Type 0
NumberFits s n = (s.own n 0).number < numbers

-- port p of node n is there and can take k more tokens
pub record Room (w : World) (n p k : ℕ) : Type 0 where
  pub node : n < w.net.nodes
  pub port : p < ports
  pub fair : Fair (w.net.ports.counters n p)
  pub room : (w.net.ports.counters n p).held + k ≤ capacity
  pub reaches : place n p + capacity ≤ length w.memory

-- port p of node n is there and holds k tokens at least
pub record Holds (w : World) (n p k : ℕ) : Type 0 where
  pub node : n < w.net.nodes
  pub port : p < ports
  pub fair : Fair (w.net.ports.counters n p)
  pub held : k ≤ (w.net.ports.counters n p).held
  pub reaches : place n p + capacity ≤ length w.memory

-- a channel-end has room for what it keeps of a token
abbrev pub Keeps : Buffer → ℕ → Type 0
Keeps k t = (is_pause t ≡ true) ⊎ (k.held < end_buffer)

-- the sink, or a channel-end that is there
abbrev pub Door : ℕ → Type 0
Door c = (c ≡ sink) ⊎ (c < ends)

-- .. that has room for a token
abbrev pub Given : Net → ℕ → ℕ → ℕ → Type 0
Given s n c t = (c ≡ sink) ⊎ ((c < ends) × Keeps (s.ends.buffers n c) t)
