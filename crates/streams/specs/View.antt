-- The real state seen as the moving parts that demand 3 speaks of: ports and links by their numbers, rings as lists, of a line its tokens.
use Rattle.std.specs.Prelude.{ℕ, ◌+◌, ◌*◌, ◌/◌, ◌%◌, List, [], ltb}
use Rattle.laws.specs.Pick.{pick}
use Rattle.names.specs.Size.{links, ports, ends}
use Rattle.circuits.specs.Circuit.{peer_of, hop_of}
use Rattle.circuits.specs.declared.Circuit.{Circuit}
use Rattle.circuits.specs.declared.Hop.{Hop}
use Rattle.circuits.specs.declared.Hop.TheVariants as Hops
use Rattle.circuits.specs.declared.Peer.{Peer}
use Rattle.circuits.specs.declared.Peer.TheVariants as Peers
use Rattle.lines.specs.Load.{tokens_of}
use Rattle.cells.specs.World.{World, far_of, queue, line_from, Far}
use Rattle.cells.specs.declared.link.Cable.{Cable}
use Rattle.cells.specs.World as Fars
use Rattle.cells.specs.declared.port.Leg.{Leg}
use Rattle.streams.specs.Model.{port_no, doors_each, ToChannel, ToUnit, Out, Shut, Via, Into, Drops}
use Rattle.streams.specs.Model.{Use, Nobody, By, Sender, Closed, Through, Direct, Moving}

-- k places a node: the place of a number, and the number of a place
abbrev pub flat : {A : Type 0} → ℕ → (ℕ → ℕ → A) → ℕ → A
flat k f j = f (j / k) (j % k)

abbrev pub nth : ℕ → ℕ → ℕ → ℕ
nth k n i = n * k + i

-- ONE ENTRY OF EACH TABLE
abbrev pub out_by : ℕ → Hop → Out
out_by n Hops.Shut = Shut
out_by n (Hops.Out l) = Via (port_no n l)
out_by n (Hops.Channel c t) = Into (ToChannel c)
out_by n Hops.Unit = Into ToUnit
out_by n (Hops.Dropped x) = Drops x

abbrev pub out_of : ℕ → Leg → Out
out_of n k = out_by n (hop_of k.circuit k.tile)

abbrev pub use_by : ℕ → Peer → Use
use_by n Peers.Nobody = Nobody
use_by n (Peers.Port p) = By (port_no n p)
use_by n (Peers.End e) = Nobody

abbrev pub sender_by : ℕ → Peer → Sender
sender_by n Peers.Nobody = Closed
sender_by n (Peers.Port p) = Through (port_no n p)
sender_by n (Peers.End c) = Direct c

abbrev pub far_end : Far → Use
far_end Fars.Nowhere = Nobody
far_end (Fars.At m k) = By (port_no m.0 k)

-- a port that no cable can come to has no user, no cable and no line, and a door that is no channel-end has no circuit between calls
abbrev pub use_of : ℕ → ℕ → Circuit → Use
use_of n l c = pick (ltb l links) (use_by n (peer_of c)) Nobody

abbrev pub cable_of : ℕ → Cable → Use
cable_of l k = pick (ltb l links) (far_end (far_of k)) Nobody

abbrev pub sender_of : ℕ → ℕ → Circuit → Sender
sender_of n e c = pick (ltb e ends) (sender_by n (peer_of c)) Closed

-- THE VIEW
abbrev pub outs : (ℕ → ℕ → Leg) → ℕ → Out
outs legs = flat ports (λ n p. out_of n (legs n p))

abbrev pub users_of : (ℕ → ℕ → Circuit) → ℕ → Use
users_of users = flat ports (λ n l. use_of n l (users n l))

abbrev pub busy_of : (ℕ → ℕ → Circuit) → ℕ → Sender
busy_of sendings = flat doors_each (λ n e. sender_of n e (sendings n e))

abbrev pub cables_of : (ℕ → ℕ → Cable) → ℕ → Use
cables_of cables = flat ports (λ n l. cable_of l (cables n l))

abbrev pub queues : World → ℕ → List ℕ
queues w = flat ports (queue w)

-- credits and HELLOs are no tokens
abbrev pub lines_of : World → ℕ → List ℕ
lines_of w = flat ports (λ n l. pick (ltb l links) (tokens_of (line_from w n l)) [])

abbrev pub moving : World → Moving
moving w =
    record {
      queue = queues w;
      out = outs w.net.ports.legs;
      user = users_of w.net.links.users;
      busy = busy_of w.net.ends.sendings;
      cable = cables_of w.net.links.cables;
      line = lines_of w;
    }
