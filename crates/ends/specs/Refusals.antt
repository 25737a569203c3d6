-- 9 and 10 of "Numbers for no" (document 01) for an Output, each in the words and the order of its row, and not by way of the plan.
-- `narrow_plan` and `full_plan` in ends/proofs/Refusals.antt: of a sound state they say when the plan is Narrow and when it is Full.
use Rattle.std.specs.Prelude.{ℕ, Bool, not, ◌&&◌, ◌||◌, eqb}
use Rattle.laws.specs.All.{all}
use Rattle.names.specs.Size.{reply_port, end_buffer, sink}
use Rattle.circuits.specs.Circuit.{peer_of}
use Rattle.circuits.specs.declared.Peer.{Peer}
use Rattle.circuits.specs.declared.Peer.TheVariants as Peers
use Rattle.tokens.specs.Word.{is_pause}
use Rattle.tokens.specs.Header.{narrow}
use Rattle.tokens.specs.declared.header.Target.{Target}
use Rattle.tokens.specs.declared.header.Target.TheVariants.{Channel, Unit}
use Rattle.routing.specs.Way.{way_to, Way, ThisNode, OtherNode}
use Rattle.ports.specs.Queue.{capacity}
use Rattle.cells.specs.View.{Net}
use Rattle.acts.specs.Acts.{width_at, number_at}
use Rattle.ends.specs.Ends.{is_open}
use Rattle.ends.specs.Plan.{target_of, free_port}

-- 9 Narrow: "opening at one-byte width towards channel 255 or a control unit"
unfoldable pub opens_narrow : Net → ℕ → ℕ → Bool
opens_narrow s n c = not (is_open s n c) && narrow (width_at s n) (target_of (s.ends.aims n c))

-- how a token goes: by a port that has yet to be taken, by the port that its circuit has taken, or locally to a channel
pub data Going : Type 0 where
  ByFree : Going
  ByTaken : ℕ → Going
  Locally : ℕ → Going

-- "If the destination matches this node at that width and is a channel, tokens go straight to that channel-end .. Otherwise the lowest free
-- port 8..11 is taken"
abbrev pub matching : Way → ℕ → Going
matching ThisNode d = Locally d
matching (OtherNode b) d = ByFree

abbrev pub first_goes : Net → ℕ → Target → Going
first_goes s n (Channel m d) = matching (way_to (width_at s n) m (number_at s n)) d
first_goes s n (Unit m) = ByFree

-- "The first opens a circuit"; the others go as it was opened
abbrev pub goes_as : Peer → Going → Going
goes_as Peers.Nobody g = g
goes_as (Peers.Port p) g = ByTaken p
goes_as (Peers.End d) g = Locally d

abbrev pub going : Net → ℕ → ℕ → Going
going s n c = goes_as (peer_of (s.ends.sendings n c)) (first_goes s n (target_of (s.ends.aims n c)))

-- "another circuit claims the channel": a circuit, and not that of channel-end c itself
abbrev pub claimed_by_other : Net → ℕ → ℕ → ℕ → Bool
claimed_by_other s n c d =
    not (eqb (s.ends.claims n d).kind 0) && not (eqb (s.ends.claims n d).kind 2 && eqb (s.ends.claims n d).index c)

-- 10 Full: "no port 8..11 free; the taken port holds 64; locally: another circuit claims the channel, or 8 are held and the token is not
-- PAUSE (the sink is never full)"
abbrev pub full_by : Net → ℕ → ℕ → ℕ → Going → Bool
full_by s n c t ByFree = all reply_port (λ p. not (free_port s n p))
full_by s n c t (ByTaken p) = eqb (s.ports.counters n p).held capacity
full_by s n c t (Locally d) =
    not (eqb d sink) && (claimed_by_other s n c d || (eqb (s.ends.buffers n d).held end_buffer && not (is_pause t)))

unfoldable pub full : Net → ℕ → ℕ → ℕ → Bool
full s n c t = full_by s n c t (going s n c)
