-- The test of a port's contents with its line behind is the paper's sentence, both ways. Assumes nothing.
use Prim.Native.Nat.{ℕ, ◌<◌}
use mathlib.Core.Path.{◌≡◌, refl, sym, ap, ◌∙◌, subst}
use mathlib.Core.Bool.{true, false}
use lib.Dec.{ltb}
use borrow.Author.Tests.{ltb-true, lt-ltb, not-true}
use Rattle.laws.specs.All.{Means}
use Rattle.laws.proofs.Order.{by_test, never, clash}
use Rattle.names.specs.Size.{links}
use Rattle.names.specs.declared.Slot.{Slot}
use Rattle.grammar.specs.Stage.{is_bad}
use Rattle.grammar.specs.Walk.{walk, back_of}
use Rattle.grammar.specs.declared.stage.Stage.{Stage}
use Rattle.grammar.proofs.Walks.{good_from}
use Rattle.cells.specs.World.{World, far_of, hop, queue, line_from, Far, Nowhere, At}
use Rattle.cells.proofs.Fars.{same_far}
use Rattle.clauses.specs.Contents.{ready, back}
use Rattle.clauses.specs.Sentences.{Holds}
use Rattle.clauses.proofs.Readies.{Ready, is_ready, made_ready}
use Rattle.clauses.proofs.Spoken.{tokens_hold}
use Rattle.line_clauses.specs.Lines.{line_ready, coming_from, coming, reached_from, reached, holds_over}
use Rattle.line_clauses.proofs.Readies.{LineReady, readies}

module _ (w : World) where
  -- the line from a far end, if there is one, can be read
  abbrev Comes : Far → Type 0
  Comes f = (m : Slot) (k : ℕ) → f ≡ At m k → line_ready w m.0 k ≡ true

  from_walk : (s : Stage) (f : Far) → Comes f → reached_from w s f ≡ walk s (coming_from (λ a j. line_from w a j) f)
  from_walk s Nowhere h = refl
  from_walk s (At m k) h = rw (h m k refl)

  from_comes : (s : Stage) (f : Far) → is_bad (reached_from w s f) ≡ false → Comes f
  from_comes s Nowhere e m k q = never (cc)
  from_comes s (At m k) e m' k' q =
      let a : m ≡ m' = (same_far q).0 in
      let b : k ≡ k' = (same_far q).1 in
      by_test (line_ready w m.0 k)
      (λ r. subst (λ (x : Slot). line_ready w x.0 k' ≡ true) a (subst (λ (y : ℕ). line_ready w m.0 y ≡ true) b r))
      (λ r. clash (rw r at e))

  module _ (n p : ℕ) where
    -- a port whose tokens can be read, and the line to it
    pub record Reads : Type 0 where
      pub port : ready w n p ≡ true
      pub line : p < links → Comes (far_of (w.net.links.cables n p))

    back_reads : is_bad (back w n p) ≡ false → ready w n p ≡ true
    back_reads e = by_test (ready w n p) (λ r. r) (λ r. clash (rw r at e))

    -- where a port's tokens end once those that are coming have come
    pub reached_walk : Reads → reached w n p ≡ walk (back_of (hop w.net n p) (queue w n p)) (coming w n p)
    unfolding reached
    reached_walk r =
        by_test (ltb p links)
        (λ e. rw (e, from_walk (back w n p) (far_of (w.net.links.cables n p)) (r.line (ltb-true p links e)), r.port))
        (λ e. rw (e, r.port))

    reached_reads : is_bad (reached w n p) ≡ false → Reads
    unfolding reached
    reached_reads g =
        by_test (ltb p links)
        (λ e. let f = far_of (w.net.links.cables n p) in
        let h : is_bad (reached_from w (back w n p) f) ≡ false = rw e at g in
        let come = from_comes (back w n p) f h in
        let whole = ap is_bad (sym (from_walk (back w n p) f come)) ∙ h in
        record { port = back_reads (good_from (back w n p) (coming_from (λ a j. line_from w a j) f) whole); line = λ l. come })
        (λ e. record { port = back_reads (rw e at g); line = λ l. clash (sym (lt-ltb p links l) ∙ e) })

    -- the tokens lie in a ring of the memory, those on the line to it in one of its own, and they are what the sentence says
    pub record PortHolds : Type 0 where
      pub port : Ready w n p
      pub line : p < links → (m : Slot) (k : ℕ) → far_of (w.net.links.cables n p) ≡ At m k → LineReady w m.0 k
      pub holds : Holds (hop w.net n p) (queue w n p) (coming w n p)

    pub ports_hold : Means (holds_over w n p) PortHolds
    ports_hold =
        let m = tokens_hold (hop w.net n p) (queue w n p) (coming w n p) in
        record {
          sure = λ e.
              let r = reached_reads (not-true _ e) in
              record {
                port = is_ready w n p r.port;
                line = λ l k j q. (readies w k.0 j).sure (r.line l k j q);
                holds = m.sure (rw (reached_walk r) at e);
              };
          back = λ z.
              let r : Reads =
              record { port = made_ready w n p z.port; line = λ l k j q. (readies w k.0 j).back (z.line l k j q) } in
              rw (reached_walk r) (m.back z.holds);
        }
