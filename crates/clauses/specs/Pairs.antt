-- "a port's output names that port back and no other; .. each claim and open channel-end names one circuit that exists" (document 01,
-- "Sound"): what names something is named back by it. One clause, in both directions for each pair: ports and links, tile links, the
-- control unit, claims; channel-ends and the claims that they have; channel-ends and the ports that they send by.
use Rattle.std.specs.Prelude.{ℕ, Bool, true, false, not, ◌&&◌, ◌||◌, eqb, ltb, Option, Some, None}
use Rattle.laws.specs.Pick.{pick}
use Rattle.names.specs.Size.{links, ports, tile_links, ends, sink, reply_port}
use Rattle.circuits.specs.Circuit.{peer_of}
use Rattle.circuits.specs.declared.Peer.{Peer}
use Rattle.circuits.specs.declared.Peer.TheVariants.{Nobody, Port, End}
use Rattle.circuits.specs.declared.Hop.{Hop}
use Rattle.circuits.specs.declared.Hop.TheVariants.{Shut, Out, Channel, Unit, Dropped}
use Rattle.cells.specs.View.{Net, whole_port}
use Rattle.cells.specs.World.{hop}
use Rattle.clauses.specs.Counts.{tile_port, is_free}
use Rattle.clauses.specs.declared.pairs.Role.{Role}
use Rattle.clauses.specs.declared.pairs.Role.TheVariants.{PortLink, LinkPort, PortTile, TilePort, PortUnit, UnitPort, PortClaim}
use Rattle.clauses.specs.declared.pairs.Role.TheVariants.{ClaimPort, EndClaim, ClaimEnd, EndPort, PortEnd}

-- what is named
abbrev pub Named : Type 0
Named = Option ℕ

pattern abbrev pub Nothing : Named
Nothing = None

pattern abbrev pub One : ℕ → Named
One i = Some i

-- what a peer names: a port, a channel-end, or a channel-end that can be claimed (the sink cannot)
abbrev pub port_of : Peer → Named
port_of Nobody = Nothing
port_of (Port p) = One p
port_of (End e) = Nothing

abbrev pub end_of : Peer → Named
end_of Nobody = Nothing
end_of (Port p) = Nothing
end_of (End e) = One e

abbrev pub claimable : ℕ → Named
claimable c = pick (eqb c sink) Nothing (One c)

abbrev pub straight_to : Peer → Named
straight_to Nobody = Nothing
straight_to (Port p) = Nothing
straight_to (End c) = claimable c

-- what a hop names: a link, a tile link, the control unit, a claim
abbrev pub link_of : Hop → Named
link_of Shut = Nothing
link_of (Out l) = One l
link_of (Channel c t) = Nothing
link_of Unit = Nothing
link_of (Dropped c) = Nothing

abbrev pub tile_of : Hop → Named
tile_of Shut = Nothing
tile_of (Out l) = Nothing
tile_of (Channel c t) = One t
tile_of Unit = Nothing
tile_of (Dropped c) = Nothing

abbrev pub unit_of : Hop → Named
unit_of Shut = Nothing
unit_of (Out l) = Nothing
unit_of (Channel c t) = Nothing
unit_of Unit = One 0
unit_of (Dropped c) = Nothing

abbrev pub claim_of : Hop → Named
claim_of Shut = Nothing
claim_of (Out l) = Nothing
claim_of (Channel c t) = claimable c
claim_of Unit = Nothing
claim_of (Dropped k) = Nothing

-- what record i of node n names in each role
abbrev pub named_by : Role → Net → ℕ → ℕ → Named
named_by PortLink s n i = link_of (hop s n i)
named_by LinkPort s n i = port_of (peer_of (s.links.users n i))
named_by PortTile s n i = tile_of (hop s n i)
named_by TilePort s n i = port_of (peer_of (s.tiles n i).user)
named_by PortUnit s n i = unit_of (hop s n i)
named_by UnitPort s n i = port_of (peer_of (s.units.serving n 0))
named_by PortClaim s n i = claim_of (hop s n i)
named_by ClaimPort s n i = port_of (peer_of (s.ends.claims n i))
named_by EndClaim s n i = straight_to (peer_of (s.ends.sendings n i))
named_by ClaimEnd s n i = end_of (peer_of (s.ends.claims n i))
named_by EndPort s n i = port_of (peer_of (s.ends.sendings n i))
named_by PortEnd s n i = end_of (peer_of (s.ports.senders n i))

-- the other way round
abbrev pub backward : Role → Role
backward PortLink = LinkPort
backward LinkPort = PortLink
backward PortTile = TilePort
backward TilePort = PortTile
backward PortUnit = UnitPort
backward UnitPort = PortUnit
backward PortClaim = ClaimPort
backward ClaimPort = PortClaim
backward EndClaim = ClaimEnd
backward ClaimEnd = EndClaim
backward EndPort = PortEnd
backward PortEnd = EndPort

-- how many records a node has that play a role
abbrev pub players : Role → ℕ
players PortLink = ports
players LinkPort = links
players PortTile = ports
players TilePort = tile_links
players PortUnit = ports
players UnitPort = 1
players PortClaim = ports
players ClaimPort = ends
players EndClaim = ends
players ClaimEnd = ends
players EndPort = ends
players PortEnd = ports

abbrev pub is_named : Named → ℕ → Bool
is_named Nothing i = false
is_named (One j) i = eqb j i

-- j is there, and names i back
abbrev pub names_back : Role → Net → ℕ → ℕ → ℕ → Bool
names_back r s n i j = ltb j (players (backward r)) && is_named (named_by (backward r) s n j) i

abbrev pub on_named : Named → (ℕ → Bool) → Bool
on_named Nothing f = true
on_named (One j) f = f j

-- what is named names back
abbrev pub agrees : Role → Net → ℕ → ℕ → Bool
agrees r s n i = on_named (named_by r s n i) (names_back r s n i)

-- "The port is taken until its END or PAUSE has left it": it has a circuit, or holds a token
abbrev pub taken : Net → ℕ → ℕ → Bool
taken s n p = not (is_free (whole_port s n p))

-- an open channel-end is aimed, and goes by a tile port that is taken, or straight to a channel
abbrev pub open_by : Net → ℕ → Peer → Bool
open_by s n Nobody = true
open_by s n (Port p) = tile_port p && taken s n p
open_by s n (End c) = eqb c sink || ltb c ends

abbrev pub open_end : Net → ℕ → ℕ → Bool
open_end s n e =
    eqb (s.ends.sendings n e).kind 0 || (not (eqb (s.ends.aims n e).kind 0) && open_by s n (peer_of (s.ends.sendings n e)))

-- "port 12 is empty while the control unit serves a circuit"
abbrev pub silent : Net → ℕ → ℕ → Bool
silent s n i = eqb (s.units.serving n 0).kind 0 || eqb (s.ports.counters n reply_port).held 0
