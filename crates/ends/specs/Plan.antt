-- What an Output is to do (document 01, "Calls" and 9, 10 of "Numbers for no"): read off the state, with nothing changed.
use Rattle.std.specs.Prelude.{ℕ, Bool, ◌&&◌, eqb, leb, Option, Some, None}
use Rattle.laws.specs.Pick.{pick}
use Rattle.laws.specs.All.{first}
use Rattle.names.specs.Size.{reply_port}
use Rattle.circuits.specs.Circuit.{peer_of}
use Rattle.circuits.specs.declared.Peer.{Peer}
use Rattle.circuits.specs.declared.Peer.TheVariants as Peers
use Rattle.tokens.specs.Header.{header_of, is_narrow}
use Rattle.tokens.specs.declared.header.Target.{Target}
use Rattle.tokens.specs.declared.header.Target.TheVariants.{Channel, Unit}
use Rattle.routing.specs.Way.{way_to, Way, ThisNode, OtherNode}
use Rattle.ports.specs.Queue.{capacity}
use Rattle.cells.specs.View.{Net, whole_port}
use Rattle.cells.specs.declared.end.Aim.{Aim}
use Rattle.clauses.specs.Counts.{tile_port, is_free}
use Rattle.acts.specs.Acts.{width_at, number_at, channel_claimed, channel_full}
use Rattle.ends.specs.declared.plan.Plan.{Plan}
use Rattle.ends.specs.declared.plan.Plan.TheVariants.{Narrow, Full, Opens, Behind, Straight}

-- a channel-end's destination, if it is aimed
abbrev pub target_of : Aim → Target
target_of k = pick (eqb k.kind 1) (Channel (record { 0 = k.number }) k.channel) (Unit (record { 0 = k.number }))

abbrev pub destination_of : Aim → Option Target
destination_of k = pick (eqb k.kind 0) None (Some (target_of k))

-- "Otherwise the lowest free port 8..11 is taken"; the reply port, 12, where none is free
abbrev pub free_port : Net → ℕ → ℕ → Bool
free_port s n p = tile_port p && is_free (whole_port s n p)

abbrev pub lowest_free : Net → ℕ → ℕ
lowest_free s n = first reply_port (free_port s n)

abbrev pub port_plan : Net → ℕ → Plan
port_plan s n = pick (eqb (lowest_free s n) reply_port) Full (Opens (lowest_free s n))

-- "8 are held and the token is not PAUSE (the sink is never full)"
abbrev pub straight_plan : Net → ℕ → ℕ → ℕ → Plan
straight_plan s n d t = pick (channel_full s n d t) Full (Straight d)

-- "locally: another circuit claims the channel, or .."
abbrev pub local_plan : Net → ℕ → ℕ → ℕ → Plan
local_plan s n c t = pick (channel_claimed s n c) Full (straight_plan s n c t)

-- "If the destination matches this node at that width and is a channel, tokens go straight to that channel-end"
abbrev pub output_by_way : Net → ℕ → Way → ℕ → ℕ → Plan
output_by_way s n ThisNode c t = local_plan s n c t
output_by_way s n (OtherNode b) c t = port_plan s n

abbrev pub target_plan : Net → ℕ → Target → ℕ → Plan
target_plan s n (Channel m c) t = output_by_way s n (way_to (width_at s n) m (number_at s n)) c t
target_plan s n (Unit m) t = port_plan s n

-- "opening at one-byte width towards channel 255 or a control unit"
abbrev pub open_plan : Net → ℕ → Target → ℕ → Plan
open_plan s n g t = pick (is_narrow (header_of g (width_at s n))) Narrow (target_plan s n g t)

-- "the taken port holds 64"
abbrev pub behind_plan : Net → ℕ → ℕ → Plan
behind_plan s n p = pick (leb capacity (s.ports.counters n p).held) Full (Behind p)

-- "The first opens a circuit"; the others go on as it was opened, whatever settings change
abbrev pub by_peer : Net → ℕ → Peer → Target → ℕ → Plan
by_peer s n Peers.Nobody g t = open_plan s n g t
by_peer s n (Peers.Port p) g t = behind_plan s n p
by_peer s n (Peers.End d) g t = straight_plan s n d t

unfoldable pub output_plan : Net → ℕ → ℕ → Target → ℕ → Plan
output_plan s n c g t = by_peer s n (peer_of (s.ends.sendings n c)) g t
