-- The state as tables by node and place, and one entry of one table changed. A record's parts that different clauses and acts speak of
-- are tables of their own: an act on one leaves every other table as it was, by computing. The view is raw: numbers as they stand.
-- `whole_state` shows that it leaves no word out, whatever the length.
use Rattle.std.specs.Prelude.{ℕ, ◌*◌, List, drop}
use Rattle.laws.specs.Table.{upd}
use Rattle.circuits.specs.declared.Circuit.{Circuit}
use Rattle.ports.specs.declared.Counters.{Counters}
use Rattle.cells.specs.Layout.{stride, nodes_in, table, node, link, port, tile, end, unit, line}
use Rattle.cells.specs.Records.{to_node, to_link, to_port, to_tile, to_end, to_unit, to_line}
use Rattle.cells.specs.declared.node.Node.{Node}
use Rattle.cells.specs.declared.link.Link.{Link}
use Rattle.cells.specs.declared.link.Cable.{Cable}
use Rattle.cells.specs.declared.link.Setup.{Setup}
use Rattle.cells.specs.declared.link.Flow.{Flow}
use Rattle.cells.specs.declared.port.Port.{Port}
use Rattle.cells.specs.declared.port.Leg.{Leg}
use Rattle.cells.specs.declared.tile.Tile.{Tile}
use Rattle.cells.specs.declared.end.End.{End}
use Rattle.cells.specs.declared.end.Aim.{Aim}
use Rattle.cells.specs.declared.end.Buffer.{Buffer}
use Rattle.cells.specs.declared.unit.Unit.{Unit}
use Rattle.cells.specs.declared.unit.Hearing.{Hearing}
use Rattle.cells.specs.declared.line.Line.{Line}

pub record LinkTables : Type 0 where
  pub cables : ℕ → ℕ → Cable
  pub setups : ℕ → ℕ → Setup
  pub flows : ℕ → ℕ → Flow
  pub users : ℕ → ℕ → Circuit

pub record PortTables : Type 0 where
  pub counters : ℕ → ℕ → Counters
  pub legs : ℕ → ℕ → Leg
  pub networks : ℕ → ℕ → ℕ
  pub senders : ℕ → ℕ → Circuit

pub record EndTables : Type 0 where
  pub aims : ℕ → ℕ → Aim
  pub sendings : ℕ → ℕ → Circuit
  pub claims : ℕ → ℕ → Circuit
  pub buffers : ℕ → ℕ → Buffer

pub record UnitTables : Type 0 where
  pub serving : ℕ → ℕ → Circuit
  pub hearings : ℕ → ℕ → Hearing

pub record LineTables : Type 0 where
  pub rings : ℕ → ℕ → Counters
  pub issued : ℕ → ℕ → ℕ

-- one record a node stands at place 0
pub record Net : Type 0 where
  pub nodes : ℕ
  pub own : ℕ → ℕ → Node
  pub links : LinkTables
  pub ports : PortTables
  pub tiles : ℕ → ℕ → Tile
  pub ends : EndTables
  pub units : UnitTables
  pub lines : LineTables
  -- words past the last whole node: none in a state of the right length
  pub rest : List ℕ

-- The tables that words are

abbrev pub link_tables : List ℕ → LinkTables
link_tables ws =
    record {
      cables = table link (λ r. (to_link r).cable) ws;
      setups = table link (λ r. (to_link r).setup) ws;
      flows = table link (λ r. (to_link r).flow) ws;
      users = table link (λ r. (to_link r).user) ws;
    }

abbrev pub port_tables : List ℕ → PortTables
port_tables ws =
    record {
      counters = table port (λ r. (to_port r).counters) ws;
      legs = table port (λ r. (to_port r).leg) ws;
      networks = table port (λ r. (to_port r).network) ws;
      senders = table port (λ r. (to_port r).sender) ws;
    }

abbrev pub end_tables : List ℕ → EndTables
end_tables ws =
    record {
      aims = table end (λ r. (to_end r).aim) ws;
      sendings = table end (λ r. (to_end r).sending) ws;
      claims = table end (λ r. (to_end r).claim) ws;
      buffers = table end (λ r. (to_end r).buffer) ws;
    }

abbrev pub unit_tables : List ℕ → UnitTables
unit_tables ws = record { serving = table unit (λ r. (to_unit r).serves) ws; hearings = table unit (λ r. (to_unit r).hearing) ws }

abbrev pub line_tables : List ℕ → LineTables
line_tables ws = record { rings = table line (λ r. (to_line r).ring) ws; issued = table line (λ r. (to_line r).issued) ws }

unfoldable pub view : List ℕ → Net
view ws =
    record {
      nodes = nodes_in ws;
      own = table node to_node ws;
      links = link_tables ws;
      ports = port_tables ws;
      tiles = table tile to_tile ws;
      ends = end_tables ws;
      units = unit_tables ws;
      lines = line_tables ws;
      rest = drop (nodes_in ws * stride) ws;
    }

-- The whole record of a place

abbrev pub whole_link : Net → ℕ → ℕ → Link
whole_link s n l =
    record { cable = s.links.cables n l; setup = s.links.setups n l; flow = s.links.flows n l; user = s.links.users n l }

abbrev pub whole_port : Net → ℕ → ℕ → Port
whole_port s n p =
    record {
      counters = s.ports.counters n p;
      leg = s.ports.legs n p;
      network = s.ports.networks n p;
      sender = s.ports.senders n p;
    }

abbrev pub whole_end : Net → ℕ → ℕ → End
whole_end s n c =
    record { aim = s.ends.aims n c; sending = s.ends.sendings n c; claim = s.ends.claims n c; buffer = s.ends.buffers n c }

abbrev pub whole_unit : Net → ℕ → Unit
whole_unit s n = record { serves = s.units.serving n 0; hearing = s.units.hearings n 0 }

abbrev pub whole_line : Net → ℕ → ℕ → Line
whole_line s n l = record { ring = s.lines.rings n l; issued = s.lines.issued n l }

-- One group of tables changed

abbrev pub with_node : Net → ℕ → Node → Net
with_node s n k =
    record {
      nodes = s.nodes;
      own = upd s.own n 0 k;
      links = s.links;
      ports = s.ports;
      tiles = s.tiles;
      ends = s.ends;
      units = s.units;
      lines = s.lines;
      rest = s.rest;
    }

abbrev pub with_links : Net → LinkTables → Net
with_links s x =
    record {
      nodes = s.nodes;
      own = s.own;
      links = x;
      ports = s.ports;
      tiles = s.tiles;
      ends = s.ends;
      units = s.units;
      lines = s.lines;
      rest = s.rest;
    }

abbrev pub with_ports : Net → PortTables → Net
with_ports s x =
    record {
      nodes = s.nodes;
      own = s.own;
      links = s.links;
      ports = x;
      tiles = s.tiles;
      ends = s.ends;
      units = s.units;
      lines = s.lines;
      rest = s.rest;
    }

abbrev pub with_tile : Net → ℕ → ℕ → Tile → Net
with_tile s n i k =
    record {
      nodes = s.nodes;
      own = s.own;
      links = s.links;
      ports = s.ports;
      tiles = upd s.tiles n i k;
      ends = s.ends;
      units = s.units;
      lines = s.lines;
      rest = s.rest;
    }

abbrev pub with_ends : Net → EndTables → Net
with_ends s x =
    record {
      nodes = s.nodes;
      own = s.own;
      links = s.links;
      ports = s.ports;
      tiles = s.tiles;
      ends = x;
      units = s.units;
      lines = s.lines;
      rest = s.rest;
    }

abbrev pub with_units : Net → UnitTables → Net
with_units s x =
    record {
      nodes = s.nodes;
      own = s.own;
      links = s.links;
      ports = s.ports;
      tiles = s.tiles;
      ends = s.ends;
      units = x;
      lines = s.lines;
      rest = s.rest;
    }

abbrev pub with_lines : Net → LineTables → Net
with_lines s x =
    record {
      nodes = s.nodes;
      own = s.own;
      links = s.links;
      ports = s.ports;
      tiles = s.tiles;
      ends = s.ends;
      units = s.units;
      lines = x;
      rest = s.rest;
    }

-- A whole record of a group written: its entry of each table

abbrev pub with_link : Net → ℕ → ℕ → Link → Net
with_link s n l k = let t = s.links in
    with_links s (record {
      cables = upd t.cables n l k.cable;
      setups = upd t.setups n l k.setup;
      flows = upd t.flows n l k.flow;
      users = upd t.users n l k.user;
    })

abbrev pub with_port : Net → ℕ → ℕ → Port → Net
with_port s n p k = let t = s.ports in
    with_ports s (record {
      counters = upd t.counters n p k.counters;
      legs = upd t.legs n p k.leg;
      networks = upd t.networks n p k.network;
      senders = upd t.senders n p k.sender;
    })

abbrev pub with_end : Net → ℕ → ℕ → End → Net
with_end s n c k = let t = s.ends in
    with_ends s (record {
      aims = upd t.aims n c k.aim;
      sendings = upd t.sendings n c k.sending;
      claims = upd t.claims n c k.claim;
      buffers = upd t.buffers n c k.buffer;
    })

abbrev pub with_unit : Net → ℕ → Unit → Net
with_unit s n k = let t = s.units in
    with_units s (record { serving = upd t.serving n 0 k.serves; hearings = upd t.hearings n 0 k.hearing })

abbrev pub with_line : Net → ℕ → ℕ → Line → Net
with_line s n l k = let t = s.lines in
    with_lines s (record { rings = upd t.rings n l k.ring; issued = upd t.issued n l k.issued })

-- One entry of one table of a group changed

abbrev pub with_cable : Net → ℕ → ℕ → Cable → Net
with_cable s n l x = let k = s.links in
    with_links s (record { cables = upd k.cables n l x; setups = k.setups; flows = k.flows; users = k.users })

abbrev pub with_setup : Net → ℕ → ℕ → Setup → Net
with_setup s n l x = let k = s.links in
    with_links s (record { cables = k.cables; setups = upd k.setups n l x; flows = k.flows; users = k.users })

abbrev pub with_flow : Net → ℕ → ℕ → Flow → Net
with_flow s n l x = let k = s.links in
    with_links s (record { cables = k.cables; setups = k.setups; flows = upd k.flows n l x; users = k.users })

abbrev pub with_user : Net → ℕ → ℕ → Circuit → Net
with_user s n l x = let k = s.links in
    with_links s (record { cables = k.cables; setups = k.setups; flows = k.flows; users = upd k.users n l x })

abbrev pub with_counters : Net → ℕ → ℕ → Counters → Net
with_counters s n p x = let k = s.ports in
    with_ports s (record { counters = upd k.counters n p x; legs = k.legs; networks = k.networks; senders = k.senders })

abbrev pub with_leg : Net → ℕ → ℕ → Leg → Net
with_leg s n p x = let k = s.ports in
    with_ports s (record { counters = k.counters; legs = upd k.legs n p x; networks = k.networks; senders = k.senders })

abbrev pub with_network : Net → ℕ → ℕ → ℕ → Net
with_network s n p x = let k = s.ports in
    with_ports s (record { counters = k.counters; legs = k.legs; networks = upd k.networks n p x; senders = k.senders })

abbrev pub with_sender : Net → ℕ → ℕ → Circuit → Net
with_sender s n p x = let k = s.ports in
    with_ports s (record { counters = k.counters; legs = k.legs; networks = k.networks; senders = upd k.senders n p x })

abbrev pub with_aim : Net → ℕ → ℕ → Aim → Net
with_aim s n c x = let k = s.ends in
    with_ends s (record { aims = upd k.aims n c x; sendings = k.sendings; claims = k.claims; buffers = k.buffers })

abbrev pub with_sending : Net → ℕ → ℕ → Circuit → Net
with_sending s n c x = let k = s.ends in
    with_ends s (record { aims = k.aims; sendings = upd k.sendings n c x; claims = k.claims; buffers = k.buffers })

abbrev pub with_claim : Net → ℕ → ℕ → Circuit → Net
with_claim s n c x = let k = s.ends in
    with_ends s (record { aims = k.aims; sendings = k.sendings; claims = upd k.claims n c x; buffers = k.buffers })

abbrev pub with_buffer : Net → ℕ → ℕ → Buffer → Net
with_buffer s n c x = let k = s.ends in
    with_ends s (record { aims = k.aims; sendings = k.sendings; claims = k.claims; buffers = upd k.buffers n c x })

abbrev pub with_serving : Net → ℕ → Circuit → Net
with_serving s n x = with_units s (record { serving = upd s.units.serving n 0 x; hearings = s.units.hearings })

abbrev pub with_hearing : Net → ℕ → Hearing → Net
with_hearing s n x = with_units s (record { serving = s.units.serving; hearings = upd s.units.hearings n 0 x })

abbrev pub with_ring : Net → ℕ → ℕ → Counters → Net
with_ring s n l x = with_lines s (record { rings = upd s.lines.rings n l x; issued = s.lines.issued })

abbrev pub with_issued : Net → ℕ → ℕ → ℕ → Net
with_issued s n l x = with_lines s (record { rings = s.lines.rings; issued = upd s.lines.issued n l x })
