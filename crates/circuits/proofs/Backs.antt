-- What was written as words is read back. Assumes nothing.
use mathlib.Core.Path.{◌≡◌, refl}
use Rattle.circuits.specs.Circuit.{peer_of, of_peer, hop_of, of_hop, of_cause, tile_taken}
use Rattle.circuits.specs.declared.Cause.{Cause}
use Rattle.circuits.specs.declared.Cause.TheVariants.{Split, NoRoute}
use Rattle.circuits.specs.declared.Peer.{Peer}
use Rattle.circuits.specs.declared.Peer.TheVariants.{Nobody, Port, End}
use Rattle.circuits.specs.declared.Hop.{Hop}
use Rattle.circuits.specs.declared.Hop.TheVariants.{Shut, Out, Channel, Unit, Dropped}

pub peer_back : (p : Peer) → peer_of (of_peer p) ≡ p
peer_back Nobody = refl
peer_back (Port p) = refl
peer_back (End e) = refl

cause_back : (c : Cause) → hop_of (of_cause c) 0 ≡ Dropped c
cause_back Split = refl
cause_back NoRoute = refl

pub hop_back : (h : Hop) → hop_of (of_hop h) (tile_taken h) ≡ h
hop_back Shut = refl
hop_back (Out l) = refl
hop_back (Channel c t) = refl
hop_back Unit = refl
hop_back (Dropped c) = cause_back c
