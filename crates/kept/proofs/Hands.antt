-- A token that is handed to a channel keeps all that is kept: its tile link and its claim are free where it closes the circuit. Assumes
-- nothing.
use Prim.Native.Nat.{ℕ, ◌<◌}
use mathlib.Core.Path.{◌≡◌, refl, sym, ap, ◌∙◌, subst}
use mathlib.Core.Bool.{Bool, true, false}
use mathlib.Core.Logic.{⊎_elim}
use native.Mathlib.Omega.{arith}
use lib.Dec.{eqb}
use borrow.Author.Tests.{eqb-false}
use Rattle.laws.specs.Pick.{pick}
use Rattle.laws.specs.Table.{upd}
use Rattle.laws.proofs.Table.{upd_own}
use Rattle.laws.proofs.Order.{by_test, never}
use Rattle.names.specs.Size.{ports, ends, sink}
use Rattle.circuits.specs.Circuit.{peer_of, of_peer}
use Rattle.circuits.specs.declared.Circuit.{Circuit}
use Rattle.circuits.specs.declared.Hop.{Hop}
use Rattle.circuits.specs.declared.Hop.TheVariants.{Shut, Channel}
use Rattle.circuits.specs.declared.Peer.{Peer}
use Rattle.circuits.specs.declared.Peer.TheVariants.{Nobody, Port, End}
use Rattle.tokens.specs.Word.{closes}
use Rattle.cells.specs.View.{Net, with_ends, with_tile, with_claim, with_buffer}
use Rattle.cells.specs.World.{World, shaped, hop}
use Rattle.cells.specs.declared.tile.Tile.{Tile}
use Rattle.cells.specs.declared.end.Buffer.{Buffer}
use Rattle.clauses.specs.Pairs.{port_of, end_of, link_of, tile_of, unit_of, claim_of, Named, Nothing, One}
use Rattle.acts.specs.Acts.{with_net, first_at, leg_of, shut, tiled_to, buffer_after}
use Rattle.acts.specs.Needs.{Holds, Keeps, Given}
use Rattle.moves.specs.Moves.{took, hands}
use Rattle.kept.specs.Kept.{All, PortOk, PeerOk, BufferOk, Pair, leg_claim, port_in, end_in, claim_in, Kept}
use Rattle.kept.proofs.Tables.{all_upd, keeps_none, pair_second, pair_leave}
use Rattle.kept.proofs.Stages.{carries_away}
use Rattle.kept.proofs.Walks.{past_small}
use Rattle.kept.proofs.Ends.{buffer_after_lem}
use Rattle.kept.proofs.Leaves.{token_taken, taken_is, shut_if, shut_if_lem, left, Left, pair_left, leaves}

abbrev no_tile : Tile
no_tile = record { user = of_peer Nobody }

-- what a channel's circuit holds is free if b holds, else as it was: its tile link, and its claim
abbrev freed : Bool → Net → ℕ → ℕ → ℕ → Net
freed b s n p t = with_tile (shut_if b s n p) n t (pick b no_tile (s.tiles n t))

abbrev unclaimed : Bool → Net → ℕ → ℕ → ℕ → ℕ → Net
unclaimed b s n p c t = with_claim (freed b s n p t) n c (pick b (of_peer Nobody) (s.ends.claims n c))

freed_is : (b : Bool) (s : Net) (n p t : ℕ) → pick b (tiled_to (shut s n p) n t Nobody) s ≡ freed b s n p t
freed_is true s n p t = refl
freed_is false s n p t = shut_if_lem false s n p ∙ rw (upd_own s.tiles n t)

unclaimed_is : (b : Bool) (s : Net) (n p c t : ℕ)
    → pick b (with_claim (tiled_to (shut s n p) n t Nobody) n c (of_peer Nobody)) s ≡ unclaimed b s n p c t
unclaimed_is true s n p c t = refl
unclaimed_is false s n p c t = freed_is false s n p t ∙ rw (upd_own s.ends.claims n c)

-- who is claimed by a port is claimed by no channel-end
not_end : (x : Peer) (p : ℕ) → port_of x ≡ One p → end_of x ≡ Nothing
not_end Nobody p e = refl
not_end (Port q) p e = refl
not_end (End q) p e = never (cc)

either_is : {A : Type 0} (P : A → Type 0) (b : Bool) (x y : A) → P x → P y → P (pick b x y)
either_is P true x y h k = h
either_is P false x y h k = k

module _ (w : World) (k : Kept w) (n p c t : ℕ) (r : Holds w n p 1) (e : hop w.net n p ≡ Channel c t) where
  abbrev closing : Bool
  closing = closes (first_at w n p)

  lf : Left w n p
  lf = leaves w k n p r (λ shut. never (let z : Shut ≡ Channel c t = sym shut ∙ e in cc))

  -- what the port's circuit names
  named : (f : Hop → Named) (x : Named) → f (Channel c t) ≡ x → f (hop w.net n p) ≡ x
  named f x h = ap f e ∙ h

  -- the token is past its header
  small : first_at w n p < 0x1C2
  small = past_small (first_at w n p) (rw e at lf.good)

  -- whatever becomes of claims and of what channel-ends hold
  keep_claims : (claims : ℕ → ℕ → Circuit) (buffers : ℕ → ℕ → Buffer)
      → All w.net.nodes ends (λ m i. PeerOk (claims m i))
      → All w.net.nodes ends (λ m i. BufferOk (buffers m i))
      → Pair w.net.nodes ports ends leg_claim port_in (left w n p).net.ports.legs claims
      → Pair w.net.nodes ends ends claim_in end_in w.net.ends.sendings claims
      → let t' = w.net.ends in
      Kept (with_net (took w n p) (with_ends (freed closing (token_taken w n p) n p t)
      (record { aims = t'.aims; sendings = t'.sendings; claims = claims; buffers = buffers })))
  unfolding shaped
  keep_claims claims buffers hc hb pc pe =
      let tile = k.port_tile.out n p r.node r.port t (named tile_of (One t) refl) in
      let old = k.tiles n t r.node tile.0 in
      record {
        shape = lf.shape;
        nodes = k.nodes;
        cabled = k.cabled;
        setups = k.setups;
        users = k.users;
        greeted = k.greeted;
        accounts = lf.accounts;
        counters = lf.counters;
        legs = lf.legs;
        networks = lf.networks;
        senders = k.senders;
        tiles = all_upd w.net.tiles n t _ (λ (x : Tile). PortOk x.user) k.tiles
            (either_is (λ (x : Tile). PortOk x.user) closing no_tile (w.net.tiles n t) (omega arith) old);
        aims = k.aims;
        sendings = k.sendings;
        claims = hc;
        buffers = hb;
        serving = k.serving;
        hearings = k.hearings;
        port_link = pair_left w n p k.port_link refl (named link_of Nothing refl);
        port_tile = pair_leave k.port_tile closing n p t (leg_of Shut) no_tile r.node r.port (named tile_of (One t) refl) refl refl;
        port_unit = pair_left w n p k.port_unit refl (named unit_of Nothing refl);
        port_claim = pc;
        end_claim = pe;
        end_port = k.end_port;
        aimed = k.aimed;
        goes = k.goes;
        lines = lf.lines;
        between = lf.between;
        silent = lf.silent;
        backs = lf.backs;
        idle = k.idle;
        carries = carries_away n p k.port_link (named link_of Nothing refl) lf.off lf.reached k.cabled k.carries;
      }

  -- to the sink, which takes and forgets
  keep_sunk : eqb c sink ≡ true → Kept (with_net (took w n p) (freed closing (token_taken w n p) n p t))
  keep_sunk sunk =
      keep_claims w.net.ends.claims w.net.ends.buffers k.claims k.buffers
      (pair_left w n p k.port_claim refl (named claim_of Nothing (rw sunk)))
      k.end_claim

  -- to a channel-end, which keeps it
  keep_kept : eqb c sink ≡ false → Keeps (w.net.ends.buffers n c) (first_at w n p)
      → Kept (with_net (took w n p)
      (unclaimed closing (with_buffer (token_taken w n p) n c (buffer_after (w.net.ends.buffers n c) (first_at w n p))) n p c t))
  keep_kept there room =
      let t' = w.net.ends in
      let claim = pick closing (of_peer Nobody) (t'.claims n c) in
      let one : claim_of (hop w.net n p) ≡ One c = named claim_of (One c) (rw there) in
      let back = k.port_claim.out n p r.node r.port c one in
      let none = not_end (peer_of (t'.claims n c)) p back.1 in
      keep_claims (upd t'.claims n c claim) (upd t'.buffers n c (buffer_after (t'.buffers n c) (first_at w n p)))
      (all_upd t'.claims n c claim (λ (x : Circuit). PeerOk x) k.claims
      (either_is (λ (x : Circuit). PeerOk x) closing (of_peer Nobody) (t'.claims n c) (omega arith) (k.claims n c r.node back.0)))
      (all_upd t'.buffers n c _ (λ (x : Buffer). BufferOk x) k.buffers
      (buffer_after_lem (t'.buffers n c) (first_at w n p) (k.buffers n c r.node back.0) room small))
      (pair_leave k.port_claim closing n p c (leg_of Shut) (of_peer Nobody) r.node r.port one refl refl)
      (pair_second k.end_claim n c claim (keeps_none end_in closing (of_peer Nobody) (t'.claims n c) refl none))

  pub keep_hands : Given w.net n c (first_at w n p) → Kept (hands w n p c t)
  keep_hands given =
      let x = first_at w n p in
      by_test (eqb c sink)
      (λ sunk. rw sunk (subst (λ (s : Net). Kept (with_net (took w n p) s))
      (sym (ap (λ (s : Net). pick closing (tiled_to (shut s n p) n t Nobody) s) (taken_is w n p)
      ∙ freed_is closing (token_taken w n p) n p t))
      (keep_sunk sunk)))
      (λ there. rw there (subst (λ (s : Net). Kept (with_net (took w n p) s))
      (sym (ap (λ (s : Net). let y = with_buffer s n c (buffer_after (s.ends.buffers n c) x) in
      pick closing (with_claim (tiled_to (shut y n p) n t Nobody) n c (of_peer Nobody)) y) (taken_is w n p)
      ∙ unclaimed_is closing (with_buffer (token_taken w n p) n c (buffer_after (w.net.ends.buffers n c) x)) n p c t))
      (keep_kept there (⊎_elim (λ s. absurd (eqb-false c sink there s)) (λ h. h.1) given))))
