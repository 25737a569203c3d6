-- The acts that calls are composed of, each on one record of the state and at most one word of token memory.
use Rattle.std.specs.Prelude.{ℕ, ◌+◌, ◌%◌, Bool, not, ◌&&◌, List, [], ◌∷◌, eqb, leb, get_or, set}
use Rattle.laws.specs.Pick.{pick}
use Rattle.names.specs.Size.{end_buffer, sink}
use Rattle.names.specs.declared.NodeNumber.{NodeNumber}
use Rattle.circuits.specs.Circuit.{of_peer, of_hop, tile_taken}
use Rattle.circuits.specs.declared.Peer.{Peer}
use Rattle.circuits.specs.declared.Peer.TheVariants.{Nobody}
use Rattle.circuits.specs.declared.Hop.{Hop}
use Rattle.circuits.specs.declared.Hop.TheVariants.{Shut}
use Rattle.tokens.specs.Word.{closes, is_pause}
use Rattle.tokens.specs.declared.header.Width.{Width}
use Rattle.tokens.specs.declared.header.Width.TheVariants.{One, Three}
use Rattle.ports.specs.Queue.{capacity, put_counters, take_counters}
use Rattle.ports.specs.Memory.{place, put_memory, take_memory, first_of}
use Rattle.cells.specs.View.{Net, with_counters, with_leg, with_network, with_sender, with_user, with_tile}
use Rattle.cells.specs.View.{with_sending, with_claim, with_buffer}
use Rattle.cells.specs.World.{World}
use Rattle.cells.specs.declared.port.Leg.{Leg}
use Rattle.cells.specs.declared.end.Buffer.{Buffer}

-- the state changed, and every word of both memories as it was
abbrev pub with_net : World → Net → World
with_net w s = record { net = s; memory = w.memory; line_memory = w.line_memory }

-- the state and the token memory changed, and the lines as they were
abbrev pub with_store : World → Net → List ℕ → World
with_store w s m = record { net = s; memory = m; line_memory = w.line_memory }

-- the width and the number that a node has at this moment
abbrev pub width_at : Net → ℕ → Width
width_at s n = pick (eqb (s.own n 0).width 1) One Three

abbrev pub number_at : Net → ℕ → NodeNumber
number_at s n = record { 0 = (s.own n 0).number }

-- a token is put into a port, behind those held
unfoldable pub pushed : World → ℕ → ℕ → ℕ → World
pushed w n p t =
    record {
      net = with_counters w.net n p (put_counters (w.net.ports.counters n p));
      memory = put_memory (w.net.ports.counters n p) w.memory (place n p) t;
      line_memory = w.line_memory;
    }

-- tokens are put into a port, one after the other
abbrev pub pushed_all : World → ℕ → ℕ → List ℕ → World
pushed_all w n p [] = w
pushed_all w n p (t ∷ ts) = pushed_all (pushed w n p t) n p ts

-- the i-th token of a port, oldest first
abbrev pub word_at : World → ℕ → ℕ → ℕ → ℕ
word_at w n p i = get_or w.memory (place n p + ((w.net.ports.counters n p).head + i) % capacity) 0

-- the oldest token of a port is taken
abbrev pub first_at : World → ℕ → ℕ → ℕ
first_at w n p = first_of (w.net.ports.counters n p) w.memory (place n p)

unfoldable pub popped : World → ℕ → ℕ → World
popped w n p =
    record {
      net = with_counters w.net n p (take_counters (w.net.ports.counters n p));
      memory = take_memory (w.net.ports.counters n p) w.memory (place n p);
      line_memory = w.line_memory;
    }

-- a port's circuit goes this way
abbrev pub leg_of : Hop → Leg
leg_of h = record { circuit = of_hop h; tile = tile_taken h }

abbrev pub hopped : Net → ℕ → ℕ → Hop → Net
hopped s n p h = with_leg s n p (leg_of h)

-- a port has no circuit any more; while it is free its network is 0
abbrev pub network_left : Net → ℕ → ℕ → ℕ
network_left s n p = pick (eqb (s.ports.counters n p).held 0) 0 (s.ports.networks n p)

abbrev pub shut : Net → ℕ → ℕ → Net
shut s n p = with_network (with_leg s n p (leg_of Shut)) n p (network_left s n p)

-- the network of the circuit that has taken a port
abbrev pub networked : Net → ℕ → ℕ → ℕ → Net
networked s n p v = with_network s n p v

-- who uses a link outward, and a tile link
abbrev pub linked_to : Net → ℕ → ℕ → Peer → Net
linked_to s n l x = with_user s n l (of_peer x)

abbrev pub tiled_to : Net → ℕ → ℕ → Peer → Net
tiled_to s n t x = with_tile s n t (record { user = of_peer x })

-- whose open circuit goes by a port, and where a channel-end's open circuit goes
abbrev pub sent_by : Net → ℕ → ℕ → Peer → Net
sent_by s n p x = with_sender s n p (of_peer x)

abbrev pub sends_to : Net → ℕ → ℕ → Peer → Net
sends_to s n c x = with_sending s n c (of_peer x)

-- "until END or PAUSE": who has a circuit after a token, nobody where the token closes it
abbrev pub until_closed : ℕ → Peer → Peer
until_closed t x = pick (closes t) Nobody x

-- who claims a channel: "the sink never is"
abbrev pub claimed_by : Net → ℕ → ℕ → Peer → Net
claimed_by s n c x = pick (eqb c sink) s (with_claim s n c (of_peer x))

abbrev pub channel_claimed : Net → ℕ → ℕ → Bool
channel_claimed s n c = not (eqb c sink) && not (eqb (s.ends.claims n c).kind 0)

-- "8 are held, unless it is PAUSE or the channel is the sink"
abbrev pub channel_full : Net → ℕ → ℕ → ℕ → Bool
channel_full s n c t = not (eqb c sink) && (leb end_buffer (s.ends.buffers n c).held && not (is_pause t))

-- "PAUSE is never stored in a channel-end; END is."
abbrev pub buffer_after : Buffer → ℕ → Buffer
buffer_after k t = pick (is_pause t) k (record { held = k.held + 1; tokens = set k.tokens k.held t })

-- a channel is handed a token: "Channel 255 is the sink: it takes and forgets"
abbrev pub handed : Net → ℕ → ℕ → ℕ → Net
handed s n c t = pick (eqb c sink) s (with_buffer s n c (buffer_after (s.ends.buffers n c) t))
