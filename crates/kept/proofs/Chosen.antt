-- What an Output has found that is not refused for its token, whatever its plan: with each plan all that holds of the state. One walk
-- through the plan, for all who ask what an Output does. Assumes nothing.
use Prim.{tt}
use Prim.Native.Nat.{ℕ, ◌<◌}
use mathlib.Core.Path.{◌≡◌, refl, sym, ◌∙◌}
use mathlib.Core.Bool.{Bool, true, false}
use mathlib.Core.Logic.{inl, inr, ⊎_elim}
use native.Mathlib.Omega.{arith}
use lib.Dec.{eqb, leb}
use borrow.Author.Tests.{eqb-true, eqb-false, leb-false}
use Rattle.laws.proofs.All.{first_passes, first_found}
use Rattle.laws.proofs.Order.{by_test, never}
use Rattle.names.specs.Size.{reply_port}
use Rattle.names.specs.declared.NodeNumber.{NodeNumber}
use Rattle.circuits.specs.Circuit.{peer_of}
use Rattle.circuits.specs.declared.Peer.{Peer}
use Rattle.circuits.specs.declared.Peer.TheVariants as Peers
use Rattle.tokens.specs.Header.{header_of, is_narrow, legal_target}
use Rattle.tokens.specs.declared.header.Target.{Target}
use Rattle.tokens.specs.declared.header.Target.TheVariants.{Channel, Unit}
use Rattle.tokens.proofs.Channels.{legal_channel_lem}
use Rattle.routing.specs.Way.{way_to, Way, ThisNode, OtherNode}
use Rattle.ports.specs.Queue.{capacity}
use Rattle.cells.specs.World.{World}
use Rattle.acts.specs.Acts.{width_at, number_at, channel_claimed, channel_full}
use Rattle.acts.specs.Needs.{Door, Given}
use Rattle.acts.proofs.Doors.{given_room}
use Rattle.ends.specs.Plan.{target_of, free_port, lowest_free, port_plan, local_plan, output_by_way, target_plan, open_plan}
use Rattle.ends.specs.Plan.{by_peer, output_plan}
use Rattle.ends.specs.declared.plan.Plan.{Plan}
use Rattle.ends.specs.declared.plan.Plan.TheVariants.{Narrow, Full, Opens, Behind, Straight}
use Rattle.kept.specs.Kept.{GoesBy, Kept}
use Rattle.kept.proofs.Ends.{Sender}

-- AN OUTPUT'S PLAN AND WHAT IT FOUND. First tokens: the channel-end has no circuit, and the header of its destination is not narrow
pub record First (w : World) (n c : ℕ) : Type 0 where
  pub shut : peer_of (w.net.ends.sendings n c) ≡ Peers.Nobody
  pub wide : is_narrow (header_of (target_of (w.net.ends.aims n c)) (width_at w.net n)) ≡ false

-- the destination is no channel of this node
abbrev pub Away : World → ℕ → Target → Type 0
Away w n (Channel m d) = way_to (width_at w.net n) m (number_at w.net n) ≡ ThisNode → ⊥
Away w n (Unit m) = Prim.Unit

module _ (w : World) (n c t : ℕ) where
  pub data Found : Plan → Type 0 where
    narrow : Found Narrow
    full : Found Full
    opens : First w n c → Away w n (target_of (w.net.ends.aims n c)) → free_port w.net n (lowest_free w.net n) ≡ true
        → Found (Opens (lowest_free w.net n))
    behind : (p : ℕ) → peer_of (w.net.ends.sendings n c) ≡ Peers.Port p → (w.net.ports.counters n p).held < capacity → Found (Behind p)
    starts : First w n c → (m : NodeNumber) (d : ℕ) → target_of (w.net.ends.aims n c) ≡ Channel m d
        → way_to (width_at w.net n) m (number_at w.net n) ≡ ThisNode
        → channel_claimed w.net n d ≡ false
        → Given w.net n d t
        → Found (Straight d)
    goes_on : (d : ℕ) → peer_of (w.net.ends.sendings n c) ≡ Peers.End d → Given w.net n d t → Found (Straight d)

module _ (w : World) (k : Kept w) (n c t : ℕ) (s : Sender w.net n c) where
  abbrev target : Target
  target = target_of (w.net.ends.aims n c)

  -- BY A PORT
  found_port : First w n c → Away w n target → Found w n c t (port_plan w.net n)
  found_port z away =
      by_test (eqb (lowest_free w.net n) reply_port)
      (λ e. rw e full)
      (λ e. rw e (opens z away (first_passes free reply_port (first_found free reply_port (eqb-false _ _ e)))))
    where
      free : ℕ → Bool
      free = free_port w.net n

  -- STRAIGHT
  found_claim : First w n c → (m : NodeNumber) (d : ℕ) → target ≡ Channel m d
      → way_to (width_at w.net n) m (number_at w.net n) ≡ ThisNode
      → Door d
      → Found w n c t (local_plan w.net n d t)
  found_claim z m d named here door =
      by_test (channel_claimed w.net n d)
      (λ e. rw e full)
      (λ e. rw e (by_test (channel_full w.net n d t)
      (λ f. rw f full)
      (λ f. rw f (starts z m d named here e (given_room w.net n d t door f)))))

  -- THE FIRST TOKEN
  found_way : First w n c → (m : NodeNumber) (d : ℕ) → target ≡ Channel m d → Door d
      → (y : Way)
      → way_to (width_at w.net n) m (number_at w.net n) ≡ y
      → Found w n c t (output_by_way w.net n y d t)
  found_way z m d named door ThisNode here = found_claim z m d named here door
  found_way z m d named door (OtherNode b) other =
      found_port z (rw named (λ here. never (let x : ThisNode ≡ OtherNode b = sym here ∙ other in cc)))

  found_target : First w n c → (g : Target) → target ≡ g → legal_target g ≡ true → Found w n c t (target_plan w.net n g t)
  found_target z (Channel m d) named legal =
      found_way z m d named (⊎_elim (λ h. inr (omega arith)) (λ h. inl h) ((legal_channel_lem d).sure legal))
      (way_to (width_at w.net n) m (number_at w.net n)) refl
  found_target z (Unit m) named legal = found_port z (rw named tt)

  legal : legal_target target ≡ true
  legal =
      let facts = ⊎_elim (λ e. absurd (s.aimed e)) (λ f. f) (k.aims n c s.node s.end) in
      by_test (eqb (w.net.ends.aims n c).kind 1)
      (λ e. rw e (⊎_elim (λ z. absurd (omega (arith, eqb-true (w.net.ends.aims n c).kind 1 e, z))) (λ z. z.1) facts.place))
      (λ e. rw e)

  found_opening : peer_of (w.net.ends.sendings n c) ≡ Peers.Nobody → Found w n c t (open_plan w.net n target t)
  found_opening shut =
      by_test (is_narrow (header_of target (width_at w.net n)))
      (λ e. rw e narrow)
      (λ e. rw e (found_target (record { shut = shut; wide = e }) target refl legal))

  -- THE OTHERS
  found_peer : (x : Peer) → peer_of (w.net.ends.sendings n c) ≡ x → Found w n c t (by_peer w.net n x target t)
  found_peer Peers.Nobody e = found_opening e
  found_peer (Peers.Port p) e =
      by_test (leb capacity (w.net.ports.counters n p).held)
      (λ f. rw f full)
      (λ f. rw f (behind p e (leb-false capacity (w.net.ports.counters n p).held f)))
  found_peer (Peers.End d) e =
      by_test (channel_full w.net n d t)
      (λ f. rw f full)
      (λ f. rw f (goes_on d e (given_room w.net n d t there f)))
    where
      there : Door d
      there = let z : GoesBy (Peers.End d) = rw e at (k.goes n c s.node s.end) in z

  pub output_found : Found w n c t (output_plan w.net n c target t)
  unfolding output_plan
  output_found = found_peer (peer_of (w.net.ends.sendings n c)) refl
