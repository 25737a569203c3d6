-- "counts within their limits" (document 01, "Sound"), record by record: numbers, widths, directions, networks, credits, what is held,
-- and codes that mean something. What nothing reads now is not looked at: a destination while unaimed, a far end while unwired, the
-- network of a port that no circuit of a channel-end has taken, what an idle control unit heard last.
use Rattle.std.specs.Prelude.{ℕ, Bool, not, ◌&&◌, ◌||◌, eqb, ltb, leb}
use Rattle.names.specs.Size.{first_tile_port, reply_port, end_buffer, unit_buffer, networks, directions, numbers}
use Rattle.circuits.specs.Circuit.{legal_peer, legal_hop_kind}
use Rattle.circuits.specs.declared.Circuit.{Circuit}
use Rattle.ports.specs.Queue.{capacity}
use Rattle.tokens.specs.Shape.{legal_channel}
use Rattle.cells.specs.declared.node.Node.{Node}
use Rattle.cells.specs.declared.link.Link.{Link}
use Rattle.cells.specs.declared.port.Port.{Port}
use Rattle.cells.specs.declared.tile.Tile.{Tile}
use Rattle.cells.specs.declared.end.End.{End}
use Rattle.cells.specs.declared.end.Aim.{Aim}
use Rattle.cells.specs.declared.unit.Unit.{Unit}
use Rattle.cells.specs.declared.line.Line.{Line}
use Rattle.lines.specs.Line.{line_capacity}

-- 0 or 1
abbrev pub flag : ℕ → Bool
flag w = leb w 1

-- nobody, or a port
abbrev pub by_port : Circuit → Bool
by_port c = leb c.kind 1

-- nobody, or a channel-end
abbrev pub by_end : Circuit → Bool
by_end c = eqb c.kind 0 || eqb c.kind 2

-- number 0..65535, width one or three (a direction entry cannot leave 0..15)
abbrev pub node_counts : Node → Bool
node_counts k = ltb k.number numbers && (eqb k.width 1 || eqb k.width 3)

-- "credit of a link 0..64; network number 0..3; direction 0..15"
abbrev pub link_counts : Link → Bool
link_counts k =
    flag k.cable.wired
    && (flag k.setup.enabled
    && (ltb k.setup.direction directions
    && (ltb k.setup.network networks && (flag k.flow.greeted && (leb k.flow.credit capacity && by_port k.user)))))

-- "four links from the tile to the switch (ports 8..11)"
abbrev pub tile_port : ℕ → Bool
tile_port p = leb first_tile_port p && ltb p reply_port

-- no circuit, and no token
abbrev pub is_free : Port → Bool
is_free k = eqb k.leg.circuit.kind 0 && eqb k.counters.held 0

-- the network of the circuit that has taken a tile port; nothing reads that of another
abbrev pub port_network : ℕ → Port → Bool
port_network p k = (not (tile_port p) || is_free k) || ltb k.network networks

-- "port buffer 64 tokens"
abbrev pub port_counts : ℕ → Port → Bool
port_counts p k =
    ltb k.counters.head capacity
    && (leb k.counters.held capacity && (legal_hop_kind k.leg.circuit && (port_network p k && by_end k.sender)))

abbrev pub tile_counts : Tile → Bool
tile_counts k = by_port k.user

-- a destination: number, channel 0..31 or 255 (or a control unit), network
abbrev pub aim_counts : Aim → Bool
aim_counts k =
    eqb k.kind 0
    || (ltb k.number numbers && (ltb k.network networks && (eqb k.kind 2 || (eqb k.kind 1 && legal_channel k.channel))))

-- "channel-end input buffer 8 tokens"
abbrev pub end_counts : End → Bool
end_counts k = aim_counts k.aim && (legal_peer k.sending && (legal_peer k.claim && leb k.buffer.held end_buffer))

-- what a control unit has kept of a message, while it listens
abbrev pub unit_counts : Unit → Bool
unit_counts k = by_port k.serves && (eqb k.serves.kind 0 || leb k.hearing.heard unit_buffer)

-- "a line of up to 66 tokens" (document 02, Ask 4); what a receiver has issued is at most what its port can hold
abbrev pub line_counts : Line → Bool
line_counts k = ltb k.ring.head line_capacity && (leb k.ring.held line_capacity && leb k.issued capacity)
