-- What every call keeps: Sound (document 01) and the ties by which it lasts, by parts. A part is said over the tables that it reads
-- and no others, so that a call that writes another table keeps it as it was. `kept_sound` and `sound_kept` in proofs/Parts.antt: the
-- parts together are `sound` and `tight`.
use Prim.{Unit}
use Rattle.std.specs.Prelude.{ℕ, ◌<◌, ◌≤◌, ◌≡◌, true, false, ◌⊎◌, get_or}
use Rattle.names.specs.Size.{links, first_tile_port, reply_port, ports, tile_links, ends, end_buffer, unit_buffer, sink}
use Rattle.names.specs.Size.{networks, directions, numbers}
use Rattle.names.specs.declared.Slot.{Slot}
use Rattle.circuits.specs.Circuit.{peer_of, hop_of}
use Rattle.circuits.specs.declared.Circuit.{Circuit}
use Rattle.circuits.specs.declared.Peer.{Peer}
use Rattle.circuits.specs.declared.Peer.TheVariants.{Nobody, Port, End}
use Rattle.ports.specs.Queue.{Fair}
use Rattle.ports.specs.declared.Counters.{Counters}
use Rattle.lines.specs.Line.{LineFair}
use Rattle.grammar.specs.Stage.{is_bad, crossed}
use Rattle.grammar.specs.Walk.{walk, front_of, back_of}
use Rattle.grammar.specs.declared.stage.Stage.{Stage}
use Rattle.grammar.specs.declared.stage.Stage.TheVariants.{Fresh, Body}
use Rattle.cells.specs.World.{World, shaped, far_of, hop, queue, At}
use Rattle.cells.specs.declared.node.Node.{Node}
use Rattle.cells.specs.declared.link.Cable.{Cable}
use Rattle.cells.specs.declared.link.Setup.{Setup}
use Rattle.cells.specs.declared.link.Flow.{Flow}
use Rattle.cells.specs.declared.port.Leg.{Leg}
use Rattle.cells.specs.declared.tile.Tile.{Tile}
use Rattle.cells.specs.declared.end.Aim.{Aim}
use Rattle.cells.specs.declared.end.Buffer.{Buffer}
use Rattle.cells.specs.declared.unit.Hearing.{Hearing}
use Rattle.clauses.specs.Contents.{legal_word}
use Rattle.clauses.specs.Pairs.{port_of, end_of, straight_to, link_of, tile_of, unit_of, claim_of, Named, One}
use Rattle.clauses.proofs.Meanings.{AimFacts}
use Rattle.line_clauses.specs.Lines.{coming}
use Rattle.travel.specs.Accounts.{InOrder}

-- P holds at every place of N nodes with k places each
abbrev pub All : ℕ → ℕ → (ℕ → ℕ → Type 0) → Type 0
All N k P = (n i : ℕ) → n < N → i < k → P n i

-- COUNTS, a table each ("counts within their limits")

abbrev pub NodeOk : Node → Type 0
NodeOk k = (k.number < numbers) × ((k.width ≡ 1) ⊎ (k.width ≡ 3))

abbrev pub SetupOk : Setup → Type 0
SetupOk k = (k.enabled ≤ 1) × (k.direction < directions) × (k.network < networks)

-- nobody, or a port
abbrev pub PortOk : Circuit → Type 0
PortOk c = c.kind ≤ 1

-- nobody, or a channel-end
abbrev pub EndOk : Circuit → Type 0
EndOk c = (c.kind ≡ 0) ⊎ (c.kind ≡ 2)

-- nobody, a port or a channel-end
abbrev pub PeerOk : Circuit → Type 0
PeerOk c = c.kind ≤ 2

abbrev pub LegOk : Leg → Type 0
LegOk k = k.circuit.kind ≤ 5

-- "four links from the tile to the switch (ports 8..11)"
abbrev pub TilePort : ℕ → Type 0
TilePort p = (first_tile_port ≤ p) × (p < reply_port)

abbrev pub Free : Leg → Counters → Type 0
Free k c = (k.circuit.kind ≡ 0) × (c.held ≡ 0)

-- the network of the circuit that has taken a tile port
abbrev pub NetworkOk : ℕ → Leg → Counters → ℕ → Type 0
NetworkOk p k c v = ((TilePort p → ⊥) ⊎ Free k c) ⊎ (v < networks)

abbrev pub AimOk : Aim → Type 0
AimOk k = (k.kind ≡ 0) ⊎ AimFacts k

-- "channel-end input buffer 8 tokens", each legal, END too
abbrev pub BufferOk : Buffer → Type 0
BufferOk k = (k.held ≤ end_buffer) × ((i : ℕ) → i < k.held → legal_word true (get_or k.tokens i 0) ≡ true)

-- what a control unit has heard while it serves a circuit: at most eleven tokens, none of which ends a message
abbrev pub HearingOk : Circuit → Hearing → Type 0
HearingOk c k = (c.kind ≡ 0) ⊎ ((k.heard ≤ unit_buffer) × ((i : ℕ) → i < k.heard → legal_word false (get_or k.tokens i 0) ≡ true))

-- CABLES AND CREDITS

-- "cables agree at both ends": the far end is there, is another, and leads back
pub record Joined (N : ℕ) (cables : ℕ → ℕ → Cable) (n l : ℕ) (m : Slot) (k : ℕ) : Type 0 where
  pub node : m.0 < N
  pub link : k < links
  pub other : (m.0 ≡ n) × (k ≡ l) → ⊥
  pub back : far_of (cables m.0 k) ≡ At (record { 0 = n }) l

pub record Cabled (N : ℕ) (cables : ℕ → ℕ → Cable) : Type 0 where
  pub flags : All N links (λ n l. (cables n l).wired ≤ 1)
  pub agree : All N links (λ n l. (m : Slot) (k : ℕ) → far_of (cables n l) ≡ At m k → Joined N cables n l m k)

-- a far end that is there and enabled
pub record Hears (setups : ℕ → ℕ → Setup) (k : Cable) : Type 0 where
  pub slot : Slot
  pub link : ℕ
  pub leads : far_of k ≡ At slot link
  pub enabled : (setups slot.0 link).enabled ≡ 1

-- "greeted only where wired with both ends enabled"
abbrev pub Greeted : ℕ → (ℕ → ℕ → Cable) → (ℕ → ℕ → Setup) → (ℕ → ℕ → Flow) → Type 0
Greeted N cables setups flows =
    All N links (λ n l. (flows n l).greeted ≡ 1 → ((setups n l).enabled ≡ 1) × Hears setups (cables n l))

-- a line is in use only where both ends are enabled
abbrev pub Between : ℕ → (ℕ → ℕ → Cable) → (ℕ → ℕ → Setup) → (ℕ → ℕ → Counters) → Type 0
Between N cables setups rings =
    All N links (λ n l. ((rings n l).held ≡ 0) ⊎ (((setups n l).enabled ≡ 1) × Hears setups (cables n l)))

-- WHO NAMES WHOM ("names that port back and no other")

-- what an entry of the first table names is there, and names it back
abbrev pub Half : {A B : Type 0} → ℕ → ℕ → ℕ → (A → Named) → (B → Named) → (ℕ → ℕ → A) → (ℕ → ℕ → B) → Type 0
Half N a b f g x y = (n i : ℕ) → n < N → i < a → (j : ℕ) → f (x n i) ≡ One j → (j < b) × (g (y n j) ≡ One i)

-- both ways
pub record Pair {A B : Type 0} (N a b : ℕ) (f : A → Named) (g : B → Named) (x : ℕ → ℕ → A) (y : ℕ → ℕ → B) : Type 0 where
  pub out : Half N a b f g x y
  pub back : Half N b a g f y x

-- what the records name
abbrev pub leg_link : Leg → Named
leg_link k = link_of (hop_of k.circuit k.tile)

abbrev pub leg_tile : Leg → Named
leg_tile k = tile_of (hop_of k.circuit k.tile)

abbrev pub leg_unit : Leg → Named
leg_unit k = unit_of (hop_of k.circuit k.tile)

abbrev pub leg_claim : Leg → Named
leg_claim k = claim_of (hop_of k.circuit k.tile)

abbrev pub port_in : Circuit → Named
port_in c = port_of (peer_of c)

abbrev pub end_in : Circuit → Named
end_in c = end_of (peer_of c)

abbrev pub claim_in : Circuit → Named
claim_in c = straight_to (peer_of c)

abbrev pub tile_user : Tile → Named
tile_user k = port_in k.user

-- an open channel-end is aimed
abbrev pub Aimed : ℕ → (ℕ → ℕ → Circuit) → (ℕ → ℕ → Aim) → Type 0
Aimed N sendings aims = All N ends (λ n e. ((sendings n e).kind ≡ 0) ⊎ ((aims n e).kind ≡ 0 → ⊥))

-- .. and goes by a tile port, or straight to a channel (that its port is taken follows from `sends`)
abbrev pub GoesBy : Peer → Type 0
GoesBy Nobody = Unit
GoesBy (Port p) = TilePort p
GoesBy (End c) = (c ≡ sink) ⊎ (c < ends)

-- "port 12 is empty while the control unit serves a circuit"
abbrev pub Silent : ℕ → (ℕ → ℕ → Circuit) → (ℕ → ℕ → Counters) → Type 0
Silent N serving counters = (n : ℕ) → n < N → ((serving n 0).kind ≡ 0) ⊎ ((counters n reply_port).held ≡ 0)

-- WHERE PORTS BEGIN AND END ("tokens and headers are legal; a port with no circuit is empty or starts with a header, ..")

-- where the walk over a port's tokens begins, and where it ends
abbrev pub front_at : World → ℕ → ℕ → Stage
front_at w n p = front_of (hop w.net n p) (queue w n p)

abbrev pub back_at : World → ℕ → ℕ → Stage
back_at w n p = back_of (hop w.net n p) (queue w n p)

-- where a port ends once what is on its way to it (`coming`) has come
abbrev pub reached_at : World → ℕ → ℕ → Stage
reached_at w n p = walk (back_at w n p) (coming w n p)

abbrev pub Walks : ℕ → (ℕ → ℕ → Stage) → Type 0
Walks N reached = All N ports (λ n p. is_bad (reached n p) ≡ false)

-- THE TIES

-- what a link has carried: as much as has left the port that uses it, or nothing unfinished
abbrev pub carried : Peer → (ℕ → Stage) → Stage
carried Nobody front = Fresh
carried (Port p) front = crossed (front p)
carried (End e) front = Fresh

-- fed: over a cable the far port ends where the circuit that is sent to it has come to
abbrev pub Fed : ℕ → (ℕ → ℕ → Cable) → (ℕ → ℕ → Circuit) → (ℕ → ℕ → Stage) → (ℕ → ℕ → Stage) → Type 0
Fed N cables users front reached =
    All N links (λ n l. (m : Slot) (k : ℕ) → far_of (cables n l) ≡ At m k → reached m.0 k ≡ carried (peer_of (users n l)) (front n))

-- unfed: an unwired link's port ends with a circuit's end
abbrev pub Unfed : ℕ → (ℕ → ℕ → Cable) → (ℕ → ℕ → Stage) → Type 0
Unfed N cables reached = All N links (λ n l. ((cables n l).wired ≡ 1) ⊎ (reached n l ≡ Fresh))

-- unsent: of what leaves by an unwired link nothing has left yet
abbrev pub Unsent : ℕ → (ℕ → ℕ → Cable) → (ℕ → ℕ → Circuit) → (ℕ → ℕ → Stage) → Type 0
Unsent N cables users front = All N links (λ n l. ((cables n l).wired ≡ 1) ⊎ (carried (peer_of (users n l)) (front n) ≡ Fresh))

-- what hangs on how much links have carried, over a cable or with none
pub record Carries (N : ℕ) (cables : ℕ → ℕ → Cable) (users : ℕ → ℕ → Circuit) (front reached : ℕ → ℕ → Stage) : Type 0 where
  pub fed : Fed N cables users front reached
  pub unsent : Unsent N cables users front

-- idle: a disabled link is used by nobody
abbrev pub Idle : ℕ → (ℕ → ℕ → Setup) → (ℕ → ℕ → Circuit) → Type 0
Idle N setups users = All N links (λ n l. ((setups n l).enabled ≡ 1) ⊎ ((users n l).kind ≡ 0))

-- sends: the port of an open channel-end ends past a header, without END or PAUSE
abbrev pub Sends : ℕ → (ℕ → ℕ → Circuit) → (ℕ → ℕ → Stage) → Type 0
Sends N sendings back = All N ends (λ n e. (p : ℕ) → peer_of (sendings n e) ≡ Port p → back n p ≡ Body)

-- replied: port 12 ends with a circuit's end
abbrev pub Replied : ℕ → (ℕ → ℕ → Stage) → Type 0
Replied N back = (n : ℕ) → n < N → back n reply_port ≡ Fresh

-- what hangs on where ports end, and not on how they come there
pub record Ends (N : ℕ) (cables : ℕ → ℕ → Cable) (sendings : ℕ → ℕ → Circuit) (back reached : ℕ → ℕ → Stage) : Type 0 where
  pub walks : Walks N reached
  pub unfed : Unfed N cables reached
  pub sends : Sends N sendings back
  pub replied : Replied N back

-- THE WHOLE

pub record Kept (w : World) : Type 0 where
  pub shape : shaped w ≡ true
  pub nodes : All w.net.nodes 1 (λ n i. NodeOk (w.net.own n i))
  pub cabled : Cabled w.net.nodes w.net.links.cables
  pub setups : All w.net.nodes links (λ n l. SetupOk (w.net.links.setups n l))
  pub users : All w.net.nodes links (λ n l. PortOk (w.net.links.users n l))
  pub greeted : Greeted w.net.nodes w.net.links.cables w.net.links.setups w.net.links.flows
  pub accounts : InOrder w
  pub counters : All w.net.nodes ports (λ n p. Fair (w.net.ports.counters n p))
  pub legs : All w.net.nodes ports (λ n p. LegOk (w.net.ports.legs n p))
  pub networks : All w.net.nodes ports
      (λ n p. NetworkOk p (w.net.ports.legs n p) (w.net.ports.counters n p) (w.net.ports.networks n p))
  pub senders : All w.net.nodes ports (λ n p. EndOk (w.net.ports.senders n p))
  pub tiles : All w.net.nodes tile_links (λ n t. PortOk (w.net.tiles n t).user)
  pub aims : All w.net.nodes ends (λ n e. AimOk (w.net.ends.aims n e))
  pub sendings : All w.net.nodes ends (λ n e. PeerOk (w.net.ends.sendings n e))
  pub claims : All w.net.nodes ends (λ n e. PeerOk (w.net.ends.claims n e))
  pub buffers : All w.net.nodes ends (λ n e. BufferOk (w.net.ends.buffers n e))
  pub serving : All w.net.nodes 1 (λ n i. PortOk (w.net.units.serving n i))
  pub hearings : All w.net.nodes 1 (λ n i. HearingOk (w.net.units.serving n i) (w.net.units.hearings n i))
  pub port_link : Pair w.net.nodes ports links leg_link port_in w.net.ports.legs w.net.links.users
  pub port_tile : Pair w.net.nodes ports tile_links leg_tile tile_user w.net.ports.legs w.net.tiles
  pub port_unit : Pair w.net.nodes ports 1 leg_unit port_in w.net.ports.legs w.net.units.serving
  pub port_claim : Pair w.net.nodes ports ends leg_claim port_in w.net.ports.legs w.net.ends.claims
  pub end_claim : Pair w.net.nodes ends ends claim_in end_in w.net.ends.sendings w.net.ends.claims
  pub end_port : Pair w.net.nodes ends ports port_in end_in w.net.ends.sendings w.net.ports.senders
  pub aimed : Aimed w.net.nodes w.net.ends.sendings w.net.ends.aims
  pub goes : All w.net.nodes ends (λ n e. GoesBy (peer_of (w.net.ends.sendings n e)))
  pub lines : All w.net.nodes links (λ n l. LineFair (w.net.lines.rings n l))
  pub between : Between w.net.nodes w.net.links.cables w.net.links.setups w.net.lines.rings
  pub silent : Silent w.net.nodes w.net.units.serving w.net.ports.counters
  pub backs : Ends w.net.nodes w.net.links.cables w.net.ends.sendings (back_at w) (reached_at w)
  pub idle : Idle w.net.nodes w.net.links.setups w.net.links.users
  pub carries : Carries w.net.nodes w.net.links.cables w.net.links.users (front_at w) (reached_at w)
