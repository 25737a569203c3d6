-- What a Step does with one token, or with one circuit of a port (document 01, "What a Step does"): the acts, one after the other.
use Rattle.std.specs.Prelude.{ℕ, ltb}
use Rattle.laws.specs.Pick.{pick}
use Rattle.names.specs.Size.{links}
use Rattle.circuits.specs.Circuit.{of_peer}
use Rattle.circuits.specs.declared.Peer.TheVariants as Peers
use Rattle.circuits.specs.declared.Hop.TheVariants as Hops
use Rattle.tokens.specs.Word.{closes}
use Rattle.tokens.specs.declared.header.Width.{Width}
use Rattle.tokens.specs.declared.header.Width.TheVariants.{One, Three}
use Rattle.cells.specs.View.{Net, with_serving, with_hearing}
use Rattle.cells.specs.World.{World}
use Rattle.acts.specs.Acts.{with_net, width_at, first_at, popped, hopped, shut, linked_to, tiled_to, claimed_by, handed}
use Rattle.travel.specs.Travel.{grants_back, sends_on}

-- "considers a grant .. at each arrival and taking" (document 02, Ask 4): at a port that a link feeds
abbrev pub grants_up : World → ℕ → ℕ → World
grants_up w n p = pick (ltb p links) (grants_back w n p) w

-- a token is taken, and a grant considered for it
unfoldable pub took : World → ℕ → ℕ → World
took w n p = grants_up (popped w n p) n p

-- "the header is removed"
abbrev pub stripped : World → ℕ → ℕ → Width → World
stripped w n p One = took w n p
stripped w n p Three = took (took (took w n p) n p) n p

-- "another node's .. Opened with the link; header tokens stay"
abbrev pub opens_out : Net → ℕ → ℕ → ℕ → Net
opens_out s n p l = linked_to (hopped s n p (Hops.Out l)) n l (Peers.Port p)

-- "this node's channel .. Opened"
abbrev pub opens_channel : Net → ℕ → ℕ → ℕ → ℕ → Net
opens_channel s n p c t =
    claimed_by (tiled_to (hopped s n p (Hops.Channel c t)) n t (Peers.Port p)) n c (Peers.Port p)

-- the control unit serves this port, and has heard nothing of its message
abbrev pub serves : Net → ℕ → ℕ → Net
serves s n p =
    with_hearing (with_serving s n (of_peer (Peers.Port p))) n (record { heard = 0; tokens = (s.units.hearings n 0).tokens })

abbrev pub opens_unit : Net → ℕ → ℕ → Net
opens_unit s n p = serves (hopped s n p Hops.Unit) n p

-- "Opened and the header is removed", "Opened, header removed": as many tokens as this switch's headers have
abbrev pub lands_channel : World → ℕ → ℕ → ℕ → ℕ → World
lands_channel w n p c t = stripped (with_net w (opens_channel w.net n p c t)) n p (width_at w.net n)

abbrev pub lands_unit : World → ℕ → ℕ → World
lands_unit w n p = stripped (with_net w (opens_unit w.net n p)) n p (width_at w.net n)

-- "END and PAUSE close the hop": what it held is free
abbrev pub closes_out : Net → ℕ → ℕ → ℕ → ℕ → Net
closes_out s n p l x = pick (closes x) (linked_to (shut s n p) n l Peers.Nobody) s

abbrev pub closes_channel : Net → ℕ → ℕ → ℕ → ℕ → ℕ → Net
closes_channel s n p c t x = pick (closes x) (claimed_by (tiled_to (shut s n p) n t Peers.Nobody) n c Peers.Nobody) s

abbrev pub serves_nobody : Net → ℕ → Net
serves_nobody s n = with_serving s n (of_peer Peers.Nobody)

abbrev pub closes_unit : Net → ℕ → ℕ → Net
closes_unit s n p = serves_nobody (shut s n p) n

abbrev pub closes_dropped : Net → ℕ → ℕ → ℕ → Net
closes_dropped s n p x = pick (closes x) (shut s n p) s

-- "Outward: .. Moved": taken and considered first, so that a credit stands before the token where both go on one line
abbrev pub moves_out : World → ℕ → ℕ → ℕ → World
moves_out w n p l =
    sends_on (with_net (took w n p) (closes_out (took w n p).net n p l (first_at w n p))) n l (first_at w n p)

-- "To a channel: .. Moved"
abbrev pub hands : World → ℕ → ℕ → ℕ → ℕ → World
hands w n p c t =
    with_net (took w n p) (closes_channel (handed (took w n p).net n c (first_at w n p)) n p c t (first_at w n p))

-- "Refused circuits: Dropped, with the cause."
abbrev pub drops : World → ℕ → ℕ → World
drops w n p = with_net (took w n p) (closes_dropped (took w n p).net n p (first_at w n p))
