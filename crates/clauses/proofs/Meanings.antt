-- What each test of the Sound list means, both ways: what a sound state hands to a call, and what a call has to show to leave it sound.
-- One test is not here: what a port may hold, `tokens_hold` in Spoken.antt. Assumes nothing.
use Prim.Native.Nat.{ℕ, ◌<◌, ◌≤◌}
use mathlib.Core.Bool.{Bool, true, false, not}
use mathlib.Core.List.{List}
use mathlib.Core.Logic.{◌⊎◌, inl, inr, ⊎_elim}
use mathlib.Core.Path.{◌≡◌, refl, sym, ap, ◌∙◌, subst}
use native.Mathlib.Decide.{ℕ_discrete}
use native.Mathlib.Omega.{arith}
use lib.Dec.{eqb, ltb}
use lib.ListN.{length, get_or}
use borrow.Author.Tests.{ltb-true, ltb-false, not-true, eqb-false, ne_eqb}
use Rattle.laws.specs.All.{Means}
use Rattle.laws.proofs.All.{also, either, denied, as_is, same_as, below, at_most, equal, each}
use Rattle.laws.proofs.Order.{by_test, never, clash}
use Rattle.names.specs.Size.{links, ends, sink, first_tile_port, reply_port, end_buffer, unit_buffer, networks, directions, numbers}
use Rattle.names.specs.declared.Slot.{Slot}
use Rattle.ports.specs.Queue.{capacity}
use Rattle.tokens.specs.Control.{end, pause}
use Rattle.tokens.specs.Word.{control_word, closes}
use Rattle.tokens.specs.Shape.{legal_channel, shape_of}
use Rattle.tokens.specs.Shape.{Body}
use Rattle.circuits.specs.Circuit.{peer_of}
use Rattle.circuits.specs.declared.Peer.{Peer}
use Rattle.circuits.specs.declared.Peer.TheVariants as Peers
use Rattle.circuits.specs.declared.Hop.{Hop}
use Rattle.circuits.specs.declared.Hop.TheVariants as Hops
use Rattle.cells.specs.View.{Net, view, whole_port}
use Rattle.cells.specs.World.{far_of, hop, Far, Nowhere, At}
use Rattle.cells.specs.declared.node.Node.{Node}
use Rattle.cells.specs.declared.link.Link.{Link}
use Rattle.cells.specs.declared.link.Cable.{Cable}
use Rattle.cells.specs.declared.port.Port.{Port}
use Rattle.cells.specs.declared.tile.Tile.{Tile}
use Rattle.cells.specs.declared.line.Line.{Line}
use Rattle.lines.specs.Line.{line_capacity}
use Rattle.cells.specs.declared.end.End.{End}
use Rattle.cells.specs.declared.end.Aim.{Aim}
use Rattle.cells.specs.declared.unit.Unit.{Unit}
use Rattle.cells.specs.declared.unit.Hearing.{Hearing}
use Rattle.cells.proofs.Fars.{same_far}
use Rattle.clauses.specs.Counts.{node_counts, link_counts, tile_port, is_free, port_counts, tile_counts, aim_counts, end_counts, unit_counts}
use Rattle.clauses.specs.Counts.{line_counts}
use Rattle.clauses.specs.Cables.{on_far, leads_to, cable, credited, greeted, enabled}
use Rattle.clauses.specs.Contents.{legal_word, filled, legal_words, held_tokens, heard_tokens}
use Rattle.clauses.specs.Pairs.{port_of, end_of, claimable, straight_to, link_of, tile_of, unit_of, claim_of}
use Rattle.clauses.specs.Pairs.{named_by, backward, players, is_named, on_named, agrees, open_by, open_end, silent, Named, Nothing, One}
use Rattle.clauses.specs.Sentences.{Plain}
use Rattle.clauses.specs.declared.pairs.Role.{Role}
use Rattle.clauses.specs.declared.pairs.Role.TheVariants as Roles
use Rattle.clauses.proofs.Spoken.{closing, plain_word, plain_open}

-- Counts

pub node_counts_lem : (k : Node) → Means (node_counts k) ((k.number < numbers) × ((k.width ≡ 1) ⊎ (k.width ≡ 3)))
node_counts_lem k = also (below k.number numbers) (either (equal k.width 1) (equal k.width 3))

pub record LinkFacts (k : Link) : Type 0 where
  pub wired : k.cable.wired ≤ 1
  pub enabled : k.setup.enabled ≤ 1
  pub direction : k.setup.direction < directions
  pub network : k.setup.network < networks
  pub greeted : k.flow.greeted ≤ 1
  pub credit : k.flow.credit ≤ capacity
  pub user : k.user.kind ≤ 1

pub link_counts_lem : (k : Link) → Means (link_counts k) (LinkFacts k)
link_counts_lem k =
    same_as
    (λ z. record {
      wired = z.0;
      enabled = z.1.0;
      direction = z.1.1.0;
      network = z.1.1.1.0;
      greeted = z.1.1.1.1.0;
      credit = z.1.1.1.1.1.0;
      user = z.1.1.1.1.1.1;
    })
    (λ f. (f.wired, (f.enabled, (f.direction, (f.network, (f.greeted, (f.credit, f.user)))))))
    (also (at_most _ _) (also (at_most _ _) (also (below _ _) (also (below _ _) (also (at_most _ _) (also (at_most _ _) (at_most _ _)))))))

pub record PortFacts (p : ℕ) (k : Port) : Type 0 where
  pub head : k.counters.head < capacity
  pub held : k.counters.held ≤ capacity
  pub kind : k.leg.circuit.kind ≤ 5
  pub network : ((tile_port p ≡ true → ⊥) ⊎ (is_free k ≡ true)) ⊎ (k.network < networks)
  pub sender : (k.sender.kind ≡ 0) ⊎ (k.sender.kind ≡ 2)

pub port_counts_lem : (p : ℕ) (k : Port) → Means (port_counts p k) (PortFacts p k)
port_counts_lem p k =
    same_as
    (λ z. record { head = z.0; held = z.1.0; kind = z.1.1.0; network = z.1.1.1.0; sender = z.1.1.1.1 })
    (λ f. (f.head, (f.held, (f.kind, (f.network, f.sender)))))
    (also (below _ _) (also (at_most _ _) (also (at_most _ _)
    (also (either (either (denied (as_is (tile_port p))) (as_is (is_free k))) (below _ _)) (either (equal _ _) (equal _ _))))))

-- "four links from the tile to the switch (ports 8..11)", and "The port is taken until its END or PAUSE has left it"
pub tile_port_lem : (p : ℕ) → Means (tile_port p) ((first_tile_port ≤ p) × (p < reply_port))
tile_port_lem p = also (at_most _ _) (below _ _)

pub free : (k : Port) → Means (is_free k) ((k.leg.circuit.kind ≡ 0) × (k.counters.held ≡ 0))
free k = also (equal _ _) (equal _ _)

pub tile_counts_lem : (k : Tile) → Means (tile_counts k) (k.user.kind ≤ 1)
tile_counts_lem k = at_most _ _

-- a line's counters, and what may be issued
pub record LineFacts (k : Line) : Type 0 where
  pub head : k.ring.head < line_capacity
  pub held : k.ring.held ≤ line_capacity
  pub issued : k.issued ≤ capacity

pub line_counts_lem : (k : Line) → Means (line_counts k) (LineFacts k)
line_counts_lem k =
    same_as
    (λ z. record { head = z.0; held = z.1.0; issued = z.1.1 })
    (λ z. (z.head, (z.held, z.issued)))
    (also (below _ _) (also (at_most _ _) (at_most _ _)))

-- a destination that is there
pub record AimFacts (k : Aim) : Type 0 where
  pub number : k.number < numbers
  pub network : k.network < networks
  pub place : (k.kind ≡ 2) ⊎ ((k.kind ≡ 1) × (legal_channel k.channel ≡ true))

aim_counts_lem : (k : Aim) → Means (aim_counts k) ((k.kind ≡ 0) ⊎ AimFacts k)
aim_counts_lem k =
    either (equal _ _)
    (same_as
    (λ z. record { number = z.0; network = z.1.0; place = z.1.1 })
    (λ f. (f.number, (f.network, f.place)))
    (also (below _ _) (also (below _ _) (either (equal _ _) (also (equal _ _) (as_is (legal_channel k.channel)))))))

pub record EndFacts (k : End) : Type 0 where
  pub aim : (k.aim.kind ≡ 0) ⊎ AimFacts k.aim
  pub sending : k.sending.kind ≤ 2
  pub claim : k.claim.kind ≤ 2
  pub held : k.buffer.held ≤ end_buffer

pub end_counts_lem : (k : End) → Means (end_counts k) (EndFacts k)
end_counts_lem k =
    same_as
    (λ z. record { aim = z.0; sending = z.1.0; claim = z.1.1.0; held = z.1.1.1 })
    (λ f. (f.aim, (f.sending, (f.claim, f.held))))
    (also (aim_counts_lem k.aim) (also (at_most _ _) (also (at_most _ _) (at_most _ _))))

pub unit_counts_lem : (k : Unit) → Means (unit_counts k) ((k.serves.kind ≤ 1) × ((k.serves.kind ≡ 0) ⊎ (k.hearing.heard ≤ unit_buffer)))
unit_counts_lem k = also (at_most _ _) (either (equal _ _) (at_most _ _))

-- Cables and credits

pub on_far_lem : {P : Slot → ℕ → Type 0} (c : Far) (f : ℕ → ℕ → Bool) → ((m : Slot) (k : ℕ) → Means (f m.0 k) (P m k))
    → Means (on_far c true f) ((m : Slot) (k : ℕ) → c ≡ At m k → P m k)
on_far_lem Nowhere f m = record { sure = λ h p k e. never (cc); back = λ h. refl }
on_far_lem {P} (At a b) f m =
    record {
      sure = λ h p k e. let d : a ≡ p = (same_far e).0 in let g : b ≡ k = (same_far e).1 in subst (λ x. P x k) d (subst (λ y. P a y) g ((m a b).sure h));
      back = λ h. (m a b).back (h a b refl);
    }

leads_to_lem : (c : Far) (n l : ℕ) → Means (leads_to c n l) (c ≡ At (record { 0 = n }) l)
leads_to_lem Nowhere n l = record { sure = λ h. clash (sym h); back = λ h. never (cc) }
leads_to_lem (At m k) n l =
    same_as
    (λ z. let a = z.0 in let b = z.1 in λ i. At (record { 0 = a i }) (b i))
    (λ e. (ap (λ (x : Slot). x.0) (same_far e).0, (same_far e).1))
    (also (equal m.0 n) (equal k l))

-- the far end of a cable: there, another, and leading back
pub record Joined (s : Net) (n l : ℕ) (m : Slot) (k : ℕ) : Type 0 where
  pub node : m.0 < s.nodes
  pub link : k < links
  pub other : (m.0 ≡ n) × (k ≡ l) → ⊥
  pub back : far_of (s.links.cables m.0 k) ≡ At (record { 0 = n }) l

pub cables : (s : Net) (n l : ℕ) → Means (cable s n l) ((m : Slot) (k : ℕ) → far_of (s.links.cables n l) ≡ At m k → Joined s n l m k)
cables s n l =
    on_far_lem {P = λ m k. Joined s n l m k} (far_of (s.links.cables n l)) _
    (λ m k. same_as
    (λ z. record { node = z.0; link = z.1.0; other = z.1.1.0; back = z.1.1.1 })
    (λ j. (j.node, (j.link, (j.other, j.back))))
    (also (below _ _) (also (below _ _) (also (denied (also (equal _ _) (equal _ _))) (leads_to_lem (far_of (s.links.cables m.0 k)) n l)))))

pub credits : (s : Net) (n l : ℕ) → Means (credited s n l) (((s.links.flows n l).credit ≡ 0) ⊎ ((s.links.flows n l).greeted ≡ 1))
credits s n l = either (equal _ _) (equal _ _)

-- a far end that is there and enabled
pub record Hears (s : Net) (k : Cable) : Type 0 where
  pub slot : Slot
  pub link : ℕ
  pub leads : far_of k ≡ At slot link
  pub enabled : (s.links.setups slot.0 link).enabled ≡ 1

pub far_enabled_lem : (s : Net) (k : Cable) (c : Far) → far_of k ≡ c → Means (on_far c false (enabled s)) (Hears s k)
far_enabled_lem s k Nowhere e = record { sure = λ h. clash (sym h); back = λ z. let q = z.leads in never (cc) }
far_enabled_lem s k (At m j) e =
    record {
      sure = λ h. record { slot = m; link = j; leads = e; enabled = (equal _ 1).sure h };
      back = λ z.
          let q : At m j ≡ At z.slot z.link = sym e ∙ z.leads in
          let d : m ≡ z.slot = (same_far q).0 in
          let g : j ≡ z.link = (same_far q).1 in
          (equal _ 1).back
          (ap (λ (x : Slot). (s.links.setups x.0 j).enabled) d
          ∙ ap (λ (y : ℕ). (s.links.setups z.slot.0 y).enabled) g
          ∙ z.enabled);
    }

pub greetings : (s : Net) (n l : ℕ)
    → Means (greeted s n l)
    (((s.links.flows n l).greeted ≡ 1 → ⊥) ⊎ (((s.links.setups n l).enabled ≡ 1) × Hears s (s.links.cables n l)))
greetings s n l = either (denied (equal _ _)) (also (equal _ _) (far_enabled_lem s (s.links.cables n l) (far_of (s.links.cables n l)) refl))

-- What names something is named back by it

is_named_lem : (x : Named) (i : ℕ) → Means (is_named x i) (x ≡ One i)
is_named_lem Nothing i = record { sure = λ h. clash (sym h); back = λ h. never (cc) }
is_named_lem (One j) i = same_as (λ e. ap One e) (λ e. cc) (equal j i)

on_named_lem : {P : ℕ → Type 0} (x : Named) (f : ℕ → Bool) → ((j : ℕ) → Means (f j) (P j)) → Means (on_named x f) ((j : ℕ) → x ≡ One j → P j)
on_named_lem Nothing f m = record { sure = λ h j e. never (cc); back = λ h. refl }
on_named_lem {P} (One a) f m = record { sure = λ h j e. let d : a ≡ j = cc in subst P d ((m a).sure h); back = λ h. (m a).back (h a refl) }

pub pairs : (r : Role) (s : Net) (n i : ℕ)
    → Means (agrees r s n i) ((j : ℕ) → named_by r s n i ≡ One j → (j < players (backward r)) × (named_by (backward r) s n j ≡ One i))
pairs r s n i =
    on_named_lem {P = λ j. (j < players (backward r)) × (named_by (backward r) s n j ≡ One i)} (named_by r s n i) _
    (λ j. also (below _ _) (is_named_lem (named_by (backward r) s n j) i))

-- What record i of node n names in each role, as its words say it: a port by its hop, the others by whom they are used, served or sent.
-- The sink is named by nobody.
pub record ToTile (h : Hop) (t : ℕ) : Type 0 where
  pub channel : ℕ
  pub goes : h ≡ Hops.Channel channel t

pub record ToChannel (h : Hop) (c : ℕ) : Type 0 where
  pub tile : ℕ
  pub goes : h ≡ Hops.Channel c tile
  pub claimed : c ≡ sink → ⊥

abbrev pub Names : Role → Net → ℕ → ℕ → ℕ → Type 0
Names Roles.PortLink s n p l = hop s n p ≡ Hops.Out l
Names Roles.LinkPort s n l p = peer_of (s.links.users n l) ≡ Peers.Port p
Names Roles.PortTile s n p t = ToTile (hop s n p) t
Names Roles.TilePort s n t p = peer_of (s.tiles n t).user ≡ Peers.Port p
Names Roles.PortUnit s n p i = (hop s n p ≡ Hops.Unit) × (i ≡ 0)
Names Roles.UnitPort s n i p = peer_of (s.units.serving n 0) ≡ Peers.Port p
Names Roles.PortClaim s n p c = ToChannel (hop s n p) c
Names Roles.ClaimPort s n c p = peer_of (s.ends.claims n c) ≡ Peers.Port p
Names Roles.EndClaim s n e c = (peer_of (s.ends.sendings n e) ≡ Peers.End c) × (c ≡ sink → ⊥)
Names Roles.ClaimEnd s n c e = peer_of (s.ends.claims n c) ≡ Peers.End e
Names Roles.EndPort s n e p = peer_of (s.ends.sendings n e) ≡ Peers.Port p
Names Roles.PortEnd s n p e = peer_of (s.ports.senders n p) ≡ Peers.End e

port_of_lem : (x : Peer) (j : ℕ) → port_of x ≡ One j → x ≡ Peers.Port j
port_of_lem Peers.Nobody j e = never (cc)
port_of_lem (Peers.Port p) j e = ap Peers.Port (cc)
port_of_lem (Peers.End c) j e = never (cc)

end_of_lem : (x : Peer) (j : ℕ) → end_of x ≡ One j → x ≡ Peers.End j
end_of_lem Peers.Nobody j e = never (cc)
end_of_lem (Peers.Port p) j e = never (cc)
end_of_lem (Peers.End c) j e = ap Peers.End (cc)

claim_is : (c j : ℕ) → claimable c ≡ One j → (c ≡ j) × (j ≡ sink → ⊥)
claim_is c j e =
    by_test (eqb c sink)
    (λ f. let q : Nothing ≡ One j = rw f at e in never (cc))
    (λ f. let q : One c ≡ One j = rw f at e in let d : c ≡ j = cc in (d, λ z. eqb-false c sink f (d ∙ z)))

claim_made : (c : ℕ) → (c ≡ sink → ⊥) → claimable c ≡ One c
claim_made c h = rw (ne_eqb c sink h)

straight_to_lem : (x : Peer) (j : ℕ) → straight_to x ≡ One j → (x ≡ Peers.End j) × (j ≡ sink → ⊥)
straight_to_lem Peers.Nobody j e = never (cc)
straight_to_lem (Peers.Port p) j e = never (cc)
straight_to_lem (Peers.End c) j e = let z = claim_is c j e in (ap Peers.End z.0, z.1)

link_of_lem : (h : Hop) (j : ℕ) → link_of h ≡ One j → h ≡ Hops.Out j
link_of_lem Hops.Shut j e = never (cc)
link_of_lem (Hops.Out l) j e = ap Hops.Out (cc)
link_of_lem (Hops.Channel c t) j e = never (cc)
link_of_lem Hops.Unit j e = never (cc)
link_of_lem (Hops.Dropped c) j e = never (cc)

tile_of_lem : (h : Hop) (j : ℕ) → tile_of h ≡ One j → ToTile h j
tile_of_lem Hops.Shut j e = never (cc)
tile_of_lem (Hops.Out l) j e = never (cc)
tile_of_lem (Hops.Channel c t) j e = record { channel = c; goes = ap (Hops.Channel c) (cc) }
tile_of_lem Hops.Unit j e = never (cc)
tile_of_lem (Hops.Dropped c) j e = never (cc)

unit_of_lem : (h : Hop) (j : ℕ) → unit_of h ≡ One j → (h ≡ Hops.Unit) × (j ≡ 0)
unit_of_lem Hops.Shut j e = never (cc)
unit_of_lem (Hops.Out l) j e = never (cc)
unit_of_lem (Hops.Channel c t) j e = never (cc)
unit_of_lem Hops.Unit j e = (refl, cc)
unit_of_lem (Hops.Dropped c) j e = never (cc)

claim_of_lem : (h : Hop) (j : ℕ) → claim_of h ≡ One j → ToChannel h j
claim_of_lem Hops.Shut j e = never (cc)
claim_of_lem (Hops.Out l) j e = never (cc)
claim_of_lem (Hops.Channel c t) j e =
    let z = claim_is c j e in record { tile = t; goes = ap (λ (x : ℕ). Hops.Channel x t) z.0; claimed = z.1 }
claim_of_lem Hops.Unit j e = never (cc)
claim_of_lem (Hops.Dropped c) j e = never (cc)

named : (r : Role) (s : Net) (n i j : ℕ) → named_by r s n i ≡ One j → Names r s n i j
named Roles.PortLink s n i j e = link_of_lem (hop s n i) j e
named Roles.LinkPort s n i j e = port_of_lem (peer_of (s.links.users n i)) j e
named Roles.PortTile s n i j e = tile_of_lem (hop s n i) j e
named Roles.TilePort s n i j e = port_of_lem (peer_of (s.tiles n i).user) j e
named Roles.PortUnit s n i j e = unit_of_lem (hop s n i) j e
named Roles.UnitPort s n i j e = port_of_lem (peer_of (s.units.serving n 0)) j e
named Roles.PortClaim s n i j e = claim_of_lem (hop s n i) j e
named Roles.ClaimPort s n i j e = port_of_lem (peer_of (s.ends.claims n i)) j e
named Roles.EndClaim s n i j e = straight_to_lem (peer_of (s.ends.sendings n i)) j e
named Roles.ClaimEnd s n i j e = end_of_lem (peer_of (s.ends.claims n i)) j e
named Roles.EndPort s n i j e = port_of_lem (peer_of (s.ends.sendings n i)) j e
named Roles.PortEnd s n i j e = end_of_lem (peer_of (s.ports.senders n i)) j e

names : (r : Role) (s : Net) (n i j : ℕ) → Names r s n i j → named_by r s n i ≡ One j
names Roles.PortLink s n i j e = ap link_of e
names Roles.LinkPort s n i j e = ap port_of e
names Roles.PortTile s n i j e = ap tile_of e.goes
names Roles.TilePort s n i j e = ap port_of e
names Roles.PortUnit s n i j e = ap unit_of e.0 ∙ ap One (sym e.1)
names Roles.UnitPort s n i j e = ap port_of e
names Roles.PortClaim s n i j e = ap claim_of e.goes ∙ claim_made j e.claimed
names Roles.ClaimPort s n i j e = ap port_of e
names Roles.EndClaim s n i j e = ap straight_to e.0 ∙ claim_made j e.1
names Roles.ClaimEnd s n i j e = ap end_of e
names Roles.EndPort s n i j e = ap port_of e
names Roles.PortEnd s n i j e = ap end_of e

-- "a port's output names that port back and no other; each claim and open channel-end names one circuit that exists", row by row
pub each_names_back : (r : Role) (s : Net) (n i : ℕ)
    → Means (agrees r s n i) ((j : ℕ) → Names r s n i j → (j < players (backward r)) × Names (backward r) s n j i)
each_names_back r s n i =
    same_as
    (λ f j e. let z = f j (names r s n i j e) in (z.0, named (backward r) s n j i z.1))
    (λ f j e. let z = f j (named r s n i j e) in (z.0, names (backward r) s n j i z.1))
    (pairs r s n i)

-- a port 8..11 that has a circuit, or holds a token
abbrev pub ByPort : Net → ℕ → ℕ → Type 0
ByPort s n p = ((first_tile_port ≤ p) × (p < reply_port)) × (((s.ports.legs n p).circuit.kind ≡ 0) × ((s.ports.counters n p).held ≡ 0) → ⊥)

-- an open channel-end is aimed, and goes by such a port, or straight to a channel
pub record Opened (s : Net) (n e : ℕ) : Type 0 where
  pub aimed : (s.ends.aims n e).kind ≡ 0 → ⊥
  pub by_port_lem : (p : ℕ) → peer_of (s.ends.sendings n e) ≡ Peers.Port p → ByPort s n p
  pub straight : (c : ℕ) → peer_of (s.ends.sendings n e) ≡ Peers.End c → (c ≡ sink) ⊎ (c < ends)

abbrev Goes : Net → ℕ → Peer → Type 0
Goes s n x = ((p : ℕ) → x ≡ Peers.Port p → ByPort s n p) × ((c : ℕ) → x ≡ Peers.End c → (c ≡ sink) ⊎ (c < ends))

open_by_lem : (s : Net) (n : ℕ) (x : Peer) → Means (open_by s n x) (Goes s n x)
open_by_lem s n Peers.Nobody = record { sure = λ h. (λ p e. never (cc), λ c e. never (cc)); back = λ h. refl }
open_by_lem s n (Peers.Port a) =
    same_as
    (λ z. (λ p e. let d : a ≡ p = cc in subst (ByPort s n) d z, λ c e. never (cc)))
    (λ g. g.0 a refl)
    (also (tile_port_lem a) (denied (free (whole_port s n a))))
open_by_lem s n (Peers.End a) =
    same_as
    (λ z. (λ p e. never (cc), λ c e. let d : a ≡ c = cc in subst (λ (x : ℕ). (x ≡ sink) ⊎ (x < ends)) d z))
    (λ g. g.1 a refl)
    (either (equal a sink) (below a ends))

pub open_ends : (s : Net) (n e : ℕ) → Means (open_end s n e) (((s.ends.sendings n e).kind ≡ 0) ⊎ Opened s n e)
open_ends s n e =
    either (equal _ _)
    (same_as
    (λ z. record { aimed = z.0; by_port_lem = z.1.0; straight = z.1.1 })
    (λ o. (o.aimed, (o.by_port_lem, o.straight)))
    (also (denied (equal _ _)) (open_by_lem s n (peer_of (s.ends.sendings n e)))))

pub silences : (s : Net) (n i : ℕ) → Means (silent s n i) (((s.units.serving n 0).kind ≡ 0) ⊎ ((s.ports.counters n reply_port).held ≡ 0))
silences s n i = either (equal _ _) (equal _ _)

-- What channel-ends and control units hold

-- a channel-end and a control unit of a state have as many words as they can hold tokens
pub end_words : (ws : List ℕ) (n c : ℕ) → length ((view ws).ends.buffers n c).tokens ≡ end_buffer
unfolding view
end_words ws n c = refl

pub unit_words : (ws : List ℕ) (n : ℕ) → length ((view ws).units.hearings n 0).tokens ≡ unit_buffer
unfolding view
unit_words ws n = refl

pub filled_within : (size held : ℕ) → filled size held ≤ size
filled_within size held =
    by_test (ltb held size) (λ e. let l = ltb-true held size e in rw e (omega arith)) (λ e. rw e (omega arith))

-- where no more are held than there is room for, each that is held counts
pub filled_all : (size held i : ℕ) → held ≤ size → i < held → i < filled size held
filled_all size held i a b =
    by_test (ltb held size) (λ e. rw e b) (λ e. let l = ltb-false held size e in rw e (omega arith))

legal_words_lem : (ends : Bool) (size held : ℕ) (words : List ℕ)
    → Means (legal_words ends size held words) ((i : ℕ) → i < filled size held → legal_word ends (get_or words i 0) ≡ true)
legal_words_lem ends size held words =
    each {P = λ i. legal_word ends (get_or words i 0) ≡ true} (filled size held) (λ i. legal_word ends (get_or words i 0)) (λ i. as_is _)

pub helds : (s : Net) (n c : ℕ)
    → let k = s.ends.buffers n c in
    Means (held_tokens s n c) ((i : ℕ) → i < filled end_buffer k.held → legal_word true (get_or k.tokens i 0) ≡ true)
helds s n c = let k = s.ends.buffers n c in legal_words_lem true end_buffer k.held k.tokens

abbrev pub HeardLegal : Hearing → Type 0
HeardLegal k = (i : ℕ) → i < filled unit_buffer k.heard → legal_word false (get_or k.tokens i 0) ≡ true

pub heards : (s : Net) (n i : ℕ) → Means (heard_tokens s n i) (((s.units.serving n 0).kind ≡ 0) ⊎ HeardLegal (s.units.hearings n 0))
heards s n i = let k = s.units.hearings n 0 in either (equal _ 0) (legal_words_lem false unit_buffer k.heard k.tokens)

-- a token that a control unit keeps is one that stands past a header and closes nothing
pub plain : (t : ℕ) → legal_word false t ≡ true → shape_of t ≡ Body
unfolding shape_of closes
plain t e =
    let kept = also (as_is (not (eqb t (control_word pause)))) (as_is (not (eqb t (control_word end)))) in
    let z = (also (as_is (ltb t 0x1C2)) kept).sure e in
    rw (not-true (eqb t (control_word end)) z.1.1, not-true (eqb t (control_word pause)) z.1.0, z.0)

-- The same without the test of one token: a plain token, and in a channel-end END too

filled_means : (size held i : ℕ) → i < filled size held → (i < held) × (i < size)
filled_means size held i =
    by_test (ltb held size)
    (λ e. let l = ltb-true held size e in rw e (λ h. (h, omega arith)))
    (λ e. let l = ltb-false held size e in rw e (λ h. (omega arith, h)))

filled_made : (size held i : ℕ) → i < held → i < size → i < filled size held
filled_made size held i a b = by_test (ltb held size) (λ e. rw e a) (λ e. rw e b)

kept_token : (t : ℕ) → Means (legal_word false t) (Plain t)
kept_token t =
    same_as
    (λ z. plain_word t (not_closing t z.1.1 z.1.0) z.0)
    (λ k. let z = plain_open t k in
    (z.1, (λ e. clash (sym ((closing t).back (inr e)) ∙ z.0), λ e. clash (sym ((closing t).back (inl e)) ∙ z.0))))
    (also (below t 0x1C2) (also (denied (equal t (control_word pause))) (denied (equal t (control_word end)))))
  where
    not_closing : (t : ℕ) → (t ≡ control_word end → ⊥) → (t ≡ control_word pause → ⊥) → closes t ≡ false
    not_closing t a b = by_test (closes t) (λ e. absurd (⊎_elim a b ((closing t).sure e))) (λ e. e)

-- what a channel-end may hold
abbrev pub Held : ℕ → Type 0
Held t = Plain t ⊎ (t ≡ control_word end)

-- any but END is kept by both or by neither
but_end : (t : ℕ) → (t ≡ control_word end → ⊥) → legal_word true t ≡ legal_word false t
but_end t h = rw (ne_eqb t (control_word end) h)

held_token : (t : ℕ) → Means (legal_word true t) (Held t)
held_token t =
    elim (ℕ_discrete t (control_word end)) [
      | yes e ↦ record { sure = λ h. inr e; back = λ k. rw e }
      | no e ↦ record {
        sure = λ h. inl ((kept_token t).sure (sym (but_end t e) ∙ h));
        back = λ k. ⊎_elim (λ p. but_end t e ∙ (kept_token t).back p) (λ q. absurd (e q)) k;
      }
    ]

module _ (s : Net) (n c : ℕ) where
  pub held_tokens_lem : let k = s.ends.buffers n c in
      Means (held_tokens s n c) ((i : ℕ) → i < k.held → i < end_buffer → Held (get_or k.tokens i 0))
  held_tokens_lem =
      let k = s.ends.buffers n c in
      same_as
      (λ f i a b. (held_token (get_or k.tokens i 0)).sure (f i (filled_made end_buffer k.held i a b)))
      (λ f i l. let z = filled_means end_buffer k.held i l in (held_token (get_or k.tokens i 0)).back (f i z.0 z.1))
      (helds s n c)

  pub heard_tokens_lem : let k = s.units.hearings n 0 in
      Means (heard_tokens s n c)
      (((s.units.serving n 0).kind ≡ 0) ⊎ ((i : ℕ) → i < k.heard → i < unit_buffer → Plain (get_or k.tokens i 0)))
  heard_tokens_lem =
      let k = s.units.hearings n 0 in
      either (equal _ 0)
      (same_as
      (λ f i a b. (kept_token (get_or k.tokens i 0)).sure (f i (filled_made unit_buffer k.heard i a b)))
      (λ f i l. let z = filled_means unit_buffer k.heard i l in (kept_token (get_or k.tokens i 0)).back (f i z.0 z.1))
      (legal_words_lem false unit_buffer k.heard k.tokens))
