-- The world that a host's three memories are, to one who looks at them.
use Rattle.cells.specs.World.{World, lent}
use Rattle.cells.specs.declared.memories.Memories.{Memories}

abbrev pub world_of : Memories → World
world_of m = lent m.state.now m.tokens.now m.lines.now
