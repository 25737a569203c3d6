-- What a start gives. "all nodes number 0, width three, directions 0, links unwired, disabled, network 0; channel-ends unaimed; every
-- token word 0." (document 01, "Calls"), but for a set of links that are enabled (document 02, Ask 7): every record is all zeros, but for
-- the width and those links' setups.
use Rattle.std.specs.Prelude.{ℕ, Bool, false, ◌&&◌, [], ltb, replicate}
use Rattle.laws.specs.Pick.{pick}
use Rattle.cells.specs.Records.{to_node, to_link, to_port, to_tile, to_end, to_unit, to_line}
use Rattle.cells.specs.View.{Net, LinkTables, PortTables, EndTables, UnitTables, LineTables}
use Rattle.cells.specs.World.{World, token_words, line_words}
use Rattle.cells.specs.declared.node.Node.{Node}
use Rattle.cells.specs.declared.link.Link.{Link}

abbrev pub start_node : Node
start_node = record { number = 0; width = 3; directions = record { first = 0; second = 0 } }

-- a link, enabled or not: unwired, in direction 0 and network 0, ungreeted, with no credit, used by nobody
abbrev pub start_link : Bool → Link
start_link on =
    record {
      cable = (to_link []).cable;
      setup = record { enabled = pick on 1 0; direction = 0; network = 0 };
      flow = (to_link []).flow;
      user = (to_link []).user;
    }

-- links of which those in the set are enabled
abbrev pub start_links : (ℕ → ℕ → Bool) → LinkTables
start_links on =
    record {
      cables = λ m i. (start_link (on m i)).cable;
      setups = λ m i. (start_link (on m i)).setup;
      flows = λ m i. (start_link (on m i)).flow;
      users = λ m i. (start_link (on m i)).user;
    }

-- tables of zeros
abbrev pub no_ports : PortTables
no_ports =
    record {
      counters = λ m i. (to_port []).counters;
      legs = λ m i. (to_port []).leg;
      networks = λ m i. (to_port []).network;
      senders = λ m i. (to_port []).sender;
    }

abbrev pub no_ends : EndTables
no_ends =
    record {
      aims = λ m i. (to_end []).aim;
      sendings = λ m i. (to_end []).sending;
      claims = λ m i. (to_end []).claim;
      buffers = λ m i. (to_end []).buffer;
    }

abbrev pub no_units : UnitTables
no_units = record { serving = λ m i. (to_unit []).serves; hearings = λ m i. (to_unit []).hearing }

abbrev pub no_lines : LineTables
no_lines = record { rings = λ m i. (to_line []).ring; issued = λ m i. (to_line []).issued }

-- n nodes, of which the first k have their settings, and the links in the set are enabled; all other words are 0
abbrev pub start_to : ℕ → (ℕ → ℕ → Bool) → ℕ → Net
start_to k on n =
    record {
      nodes = n;
      own = λ m i. pick (ltb m k && ltb i 1) start_node (to_node []);
      links = start_links on;
      ports = no_ports;
      tiles = λ m i. to_tile [];
      ends = no_ends;
      units = no_units;
      lines = no_lines;
      rest = [];
    }

abbrev pub start_net : (ℕ → ℕ → Bool) → ℕ → Net
start_net on n = start_to n on n

abbrev pub start_world : (ℕ → ℕ → Bool) → ℕ → World
start_world on n = record { net = start_net on n; memory = replicate (token_words n) 0; line_memory = replicate (line_words n) 0 }

-- no link is enabled
abbrev pub none_on : ℕ → ℕ → Bool
none_on m i = false
