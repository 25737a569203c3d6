-- The records of the state, each as its words in order and back: first the words of its own, then those of its circuits.
use Rattle.std.specs.Prelude.{ℕ, ◌+◌, List, [], ◌∷◌, ◌++◌, get_or}
use Rattle.laws.specs.Row.{tab, row}
use Rattle.names.specs.Size.{end_buffer, unit_buffer}
use Rattle.circuits.specs.Circuit.{circuit_words, to_circuit, from_circuit}
use Rattle.cells.specs.declared.node.Node.{Node}
use Rattle.cells.specs.declared.link.Link.{Link}
use Rattle.cells.specs.declared.port.Port.{Port}
use Rattle.cells.specs.declared.tile.Tile.{Tile}
use Rattle.cells.specs.declared.end.End.{End}
use Rattle.cells.specs.declared.unit.Unit.{Unit}
use Rattle.cells.specs.declared.line.Line.{Line}

-- a node's own settings
abbrev pub node_own : ℕ
node_own = 4

abbrev pub to_node : List ℕ → Node
to_node r =
    record {
      number = get_or r 0 0;
      width = get_or r 1 0;
      directions = record { first = get_or r 2 0; second = get_or r 3 0 };
    }

abbrev pub from_node : Node → List ℕ
from_node k = k.number ∷ k.width ∷ k.directions.first ∷ k.directions.second ∷ []

-- one end of a cable
abbrev pub link_own : ℕ
link_own = 8

abbrev pub to_link : List ℕ → Link
to_link r =
    record {
      cable = record { wired = get_or r 0 0; far_slot = get_or r 1 0; far_link = get_or r 2 0 };
      setup = record { enabled = get_or r 3 0; direction = get_or r 4 0; network = get_or r 5 0 };
      flow = record { greeted = get_or r 6 0; credit = get_or r 7 0 };
      user = to_circuit (row circuit_words link_own r);
    }

abbrev pub from_link : Link → List ℕ
from_link k =
    k.cable.wired ∷ k.cable.far_slot ∷ k.cable.far_link
    ∷ k.setup.enabled ∷ k.setup.direction ∷ k.setup.network
    ∷ k.flow.greeted ∷ k.flow.credit
    ∷ from_circuit k.user

-- a port
abbrev pub port_own : ℕ
port_own = 4

abbrev pub to_port : List ℕ → Port
to_port r =
    record {
      counters = record { head = get_or r 0 0; held = get_or r 1 0 };
      leg = record { circuit = to_circuit (row circuit_words port_own r); tile = get_or r 2 0 };
      network = get_or r 3 0;
      sender = to_circuit (row circuit_words (port_own + circuit_words) r);
    }

abbrev pub from_port : Port → List ℕ
from_port k =
    k.counters.head ∷ k.counters.held ∷ k.leg.tile ∷ k.network
    ∷ from_circuit k.leg.circuit ++ from_circuit k.sender

-- a link from the switch to the tile: its circuit alone
abbrev pub to_tile : List ℕ → Tile
to_tile r = record { user = to_circuit (row circuit_words 0 r) }

abbrev pub from_tile : Tile → List ℕ
from_tile k = from_circuit k.user

-- a channel-end
abbrev pub end_own : ℕ
end_own = 5 + end_buffer

abbrev pub to_end : List ℕ → End
to_end r =
    record {
      aim = record { kind = get_or r 0 0; number = get_or r 1 0; channel = get_or r 2 0; network = get_or r 3 0 };
      sending = to_circuit (row circuit_words end_own r);
      claim = to_circuit (row circuit_words (end_own + circuit_words) r);
      buffer = record { held = get_or r 4 0; tokens = tab end_buffer (λ i. get_or r (5 + i) 0) };
    }

abbrev pub from_end : End → List ℕ
from_end k =
    k.aim.kind ∷ k.aim.number ∷ k.aim.channel ∷ k.aim.network ∷ k.buffer.held
    ∷ tab end_buffer (λ i. get_or k.buffer.tokens i 0) ++ (from_circuit k.sending ++ from_circuit k.claim)

-- a control unit
abbrev pub unit_own : ℕ
unit_own = 1 + unit_buffer

abbrev pub to_unit : List ℕ → Unit
to_unit r =
    record {
      serves = to_circuit (row circuit_words unit_own r);
      hearing = record { heard = get_or r 0 0; tokens = tab unit_buffer (λ i. get_or r (1 + i) 0) };
    }

abbrev pub from_unit : Unit → List ℕ
from_unit k = k.hearing.heard ∷ tab unit_buffer (λ i. get_or k.hearing.tokens i 0) ++ from_circuit k.serves

-- the line that starts at a link, and what that link has issued and not yet received
abbrev pub line_own : ℕ
line_own = 3

abbrev pub to_line : List ℕ → Line
to_line r = record { ring = record { head = get_or r 0 0; held = get_or r 1 0 }; issued = get_or r 2 0 }

abbrev pub from_line : Line → List ℕ
from_line k = k.ring.head ∷ k.ring.held ∷ k.issued ∷ []
