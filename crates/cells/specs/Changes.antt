-- A record with one part changed.
use Rattle.std.specs.Prelude.{ℕ}
use Rattle.routing.specs.declared.direction.Directions.{Directions}
use Rattle.cells.specs.declared.node.Node.{Node}
use Rattle.cells.specs.declared.link.Setup.{Setup}
use Rattle.cells.specs.declared.link.Flow.{Flow}

abbrev pub numbered_as : Node → ℕ → Node
numbered_as k v = record { number = v; width = k.width; directions = k.directions }

abbrev pub width_as : Node → ℕ → Node
width_as k v = record { number = k.number; width = v; directions = k.directions }

abbrev pub directions_as : Node → Directions → Node
directions_as k d = record { number = k.number; width = k.width; directions = d }

abbrev pub enabled_as : Setup → ℕ → Setup
enabled_as k v = record { enabled = v; direction = k.direction; network = k.network }

abbrev pub directed_to : Setup → ℕ → Setup
directed_to k v = record { enabled = k.enabled; direction = v; network = k.network }

abbrev pub network_as : Setup → ℕ → Setup
network_as k v = record { enabled = k.enabled; direction = k.direction; network = v }

abbrev pub credit_as : Flow → ℕ → Flow
credit_as k v = record { greeted = k.greeted; credit = v }

abbrev pub greeted_as : Flow → ℕ → Flow
greeted_as k v = record { greeted = v; credit = k.credit }
