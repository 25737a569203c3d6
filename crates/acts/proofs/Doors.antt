-- A channel that is handed a token, or claimed. Assumes nothing.
use Prim.Native.Nat.{ℕ}
use mathlib.Core.Path.{◌≡◌}
use mathlib.Core.Bool.{false, not, ◌&&◌}
use mathlib.Core.Logic.{inl, inr, ⊎_elim}
use native.Mathlib.Omega.{arith}
use lib.Dec.{eqb, leb}
use borrow.Author.Tests.{eqb-true, leb-false}
use Rattle.laws.proofs.Order.{by_test, clash}
use Rattle.names.specs.Size.{end_buffer, sink}
use Rattle.circuits.specs.declared.Peer.{Peer}
use Rattle.tokens.specs.Word.{is_pause}
use Rattle.cells.specs.View.{Net}
use Rattle.acts.specs.Acts.{claimed_by, channel_full, handed}
use Rattle.acts.specs.Needs.{Keeps, Door, Given}

module _ (s : Net) (n c : ℕ) where
  pub handed_nodes : (t : ℕ) → (handed s n c t).nodes ≡ s.nodes
  handed_nodes t = by_test (eqb c sink) (λ e. rw e) (λ e. rw e)

  pub claimed_nodes : (x : Peer) → (claimed_by s n c x).nodes ≡ s.nodes
  claimed_nodes x = by_test (eqb c sink) (λ e. rw e) (λ e. rw e)

  pub door : (t : ℕ) → Given s n c t → Door c
  door t g = ⊎_elim (λ e. inl e) (λ h. inr h.0) g

  -- a channel that is not full has room for what it keeps
  pub given_room : (t : ℕ) → Door c → channel_full s n c t ≡ false → Given s n c t
  given_room t d f =
      by_test (eqb c sink)
      (λ k. inl (eqb-true c sink k))
      (λ k. ⊎_elim (λ e. inl e) (λ h. inr (h, keeps (rw k at f))) d)
    where
      keeps : (leb end_buffer (s.ends.buffers n c).held && not (is_pause t)) ≡ false → Keeps (s.ends.buffers n c) t
      keeps e =
          by_test (is_pause t)
          (λ q. inl q)
          (λ q. inr (by_test (leb end_buffer (s.ends.buffers n c).held)
          (λ r. clash (rw (r, q) at e))
          (λ r. omega (arith, leb-false end_buffer (s.ends.buffers n c).held r))))
