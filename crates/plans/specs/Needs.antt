-- What planning a Step asks of the state. Step has it from a sound state (`holds` in switch/proofs/Possibles.antt, `node_facts`).
use Rattle.std.specs.Prelude.{ℕ}
use Rattle.cells.specs.World.{World}
use Rattle.acts.specs.Needs.{NumberFits, Holds}

-- the node's number can be compared, and port p holds k tokens at least
abbrev pub Reads : World → ℕ → ℕ → ℕ → Type 0
Reads w n p k = NumberFits w.net n × Holds w n p k
