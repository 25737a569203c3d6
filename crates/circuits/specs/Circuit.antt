-- A circuit's two words, and the enums that they say. A kind past the last is read as none; the Sound list refuses it.
use Rattle.std.specs.Prelude.{ℕ, Bool, List, [], ◌∷◌, eqb, leb, get_or}
use Rattle.laws.specs.Pick.{pick}
use Rattle.circuits.specs.declared.Circuit.{Circuit}
use Rattle.circuits.specs.declared.Cause.{Cause}
use Rattle.circuits.specs.declared.Cause.TheVariants.{Split, NoRoute}
use Rattle.circuits.specs.declared.Peer.{Peer}
use Rattle.circuits.specs.declared.Peer.TheVariants.{Nobody, Port, End}
use Rattle.circuits.specs.declared.Hop.{Hop}
use Rattle.circuits.specs.declared.Hop.TheVariants.{Shut, Out, Channel, Unit, Dropped}

abbrev pub circuit : ℕ → ℕ → Circuit
circuit k i = record { kind = k; index = i }

-- kinds of a peer: 0 nobody, 1 a port, 2 a channel-end
abbrev pub peer_of : Circuit → Peer
peer_of c = pick (eqb c.kind 1) (Port c.index) (pick (eqb c.kind 2) (End c.index) Nobody)

abbrev pub of_peer : Peer → Circuit
of_peer Nobody = circuit 0 0
of_peer (Port p) = circuit 1 p
of_peer (End e) = circuit 2 e

abbrev pub legal_peer : Circuit → Bool
legal_peer c = leb c.kind 2

-- kinds of a hop: 0 none, 1 outward, 2 to a channel, 3 to the control unit, 4 and 5 dropped, with the cause
abbrev pub hop_of : Circuit → ℕ → Hop
hop_of c tile =
    pick (eqb c.kind 1) (Out c.index)
    (pick (eqb c.kind 2) (Channel c.index tile)
    (pick (eqb c.kind 3) Unit (pick (eqb c.kind 4) (Dropped Split) (pick (eqb c.kind 5) (Dropped NoRoute) Shut))))

abbrev pub of_cause : Cause → Circuit
of_cause Split = circuit 4 0
of_cause NoRoute = circuit 5 0

abbrev pub of_hop : Hop → Circuit
of_hop Shut = circuit 0 0
of_hop (Out l) = circuit 1 l
of_hop (Channel c t) = circuit 2 c
of_hop Unit = circuit 3 0
of_hop (Dropped c) = of_cause c

abbrev pub tile_taken : Hop → ℕ
tile_taken Shut = 0
tile_taken (Out l) = 0
tile_taken (Channel c t) = t
tile_taken Unit = 0
tile_taken (Dropped c) = 0

abbrev pub legal_hop_kind : Circuit → Bool
legal_hop_kind c = leb c.kind 5

-- a circuit's words in order, and back
abbrev pub circuit_words : ℕ
circuit_words = 2

abbrev pub to_circuit : List ℕ → Circuit
to_circuit r = record { kind = get_or r 0 0; index = get_or r 1 0 }

abbrev pub from_circuit : Circuit → List ℕ
from_circuit c = c.kind ∷ c.index ∷ []
