-- What is on its way to a port: nothing or the tokens on one line, the same where lines have the same tokens, and where the port ends once
-- they have come. What may stand in a port is no HELLO and no credit. Assumes nothing.
use Prim.Native.Nat.{ℕ, ◌<◌, ◌≤◌}
use mathlib.Core.Path.{◌≡◌, refl, sym, ap, ◌∙◌}
use mathlib.Core.Bool.{true, false}
use mathlib.Core.List.{[]}
use native.Mathlib.Omega.{arith}
use lib.Dec.{eqb, ltb}
use borrow.Author.Tests.{eqb-true, ltb-true, ltb-false, le-ltb}
use Rattle.laws.specs.Table.{Off}
use Rattle.laws.proofs.Order.{by_test, clash}
use Rattle.names.specs.Size.{links, ports}
use Rattle.names.specs.declared.Slot.{Slot}
use Rattle.tokens.specs.Word.{closes}
use Rattle.tokens.specs.Shape.{shape_of}
use Rattle.tokens.specs.Shape as S
use Rattle.lines.specs.Load.{hello_word, credit_word, is_hello, credit_of, is_token, tokens_of}
use Rattle.grammar.specs.Stage.{is_bad, next_stage}
use Rattle.grammar.specs.Walk.{walk}
use Rattle.grammar.specs.declared.stage.Stage.{Stage}
use Rattle.grammar.specs.declared.stage.Stage.TheVariants.{Bad, Fresh, Body, OneDue, ThreeDue, TwoDue, LastDue}
use Rattle.grammar.proofs.Walks.{good_from}
use Rattle.cells.specs.World.{World, far_of, line_from, Far, Nowhere, At}
use Rattle.cells.specs.declared.link.Cable.{Cable}
use Rattle.cells.proofs.Fars.{same_far}
use Rattle.line_clauses.specs.Lines.{coming_from, coming}
use Rattle.travel.proofs.Tokens.{token_is}
use Rattle.kept.specs.Kept.{All, Cabled, Kept, back_at, reached_at}

-- WHAT MAY STAND IN A PORT is no HELLO and no credit
wrong : (s : Stage) → is_bad (next_stage s S.Wrong) ≡ true
wrong Bad = refl
wrong Fresh = refl
wrong Body = refl
wrong OneDue = refl
wrong ThreeDue = refl
wrong TwoDue = refl
wrong LastDue = refl

module _ (s : Stage) (x : ℕ) (good : is_bad (next_stage s (shape_of x)) ≡ false) where
  right : (y : ℕ) → shape_of y ≡ S.Wrong → eqb x y ≡ false
  right y e =
      by_test (eqb x y)
      (λ d. clash (sym (wrong s) ∙ sym (ap (λ c. is_bad (next_stage s c)) e)
      ∙ sym (ap (λ (v : ℕ). is_bad (next_stage s (shape_of v))) (eqb-true x y d)) ∙ good))
      (λ d. d)

  pub ported : (is_hello x ≡ false) × (eqb (credit_of x) 0 ≡ true)
  unfolding credit_of shape_of closes
  ported = (right hello_word refl, rw (right (credit_word 8) refl, right (credit_word 16) refl, right (credit_word 64) refl))

  pub ported_token : is_token x ≡ true
  ported_token = token_is x ported.0 ported.1

-- WHAT COMES TO A PORT
module _ (w : World) (n p : ℕ) where
  -- nothing, where no link feeds it
  pub coming_none : links ≤ p → coming w n p ≡ []
  coming_none h = rw (le-ltb p links h)

  pub reached_back : links ≤ p → reached_at w n p ≡ back_at w n p
  reached_back h = ap (walk (back_at w n p)) (coming_none h)

  -- .. or there is no cable
  pub coming_loose : far_of (w.net.links.cables n p) ≡ Nowhere → coming w n p ≡ []
  coming_loose e = by_test (ltb p links) (λ d. rw (d, e)) (λ d. rw d)

  -- else what is on the line
  pub coming_along : p < links → (m : Slot) (k : ℕ) → far_of (w.net.links.cables n p) ≡ At m k
      → coming w n p ≡ tokens_of (line_from w m.0 k)
  coming_along h m k e = by_test (ltb p links) (λ d. rw (d, e)) (λ d. absurd (omega (arith, ltb-false p links d)))

-- the same, where the same tokens are on every line
pub coming_same : (w z : World) → z.net.links.cables ≡ w.net.links.cables → Cabled w.net.nodes w.net.links.cables
    → ((a j : ℕ) → a < w.net.nodes → j < links → tokens_of (line_from z a j) ≡ tokens_of (line_from w a j))
    → All w.net.nodes ports (λ n p. coming z n p ≡ coming w n p)
coming_same w z c cabled same n p hn hp =
    by_test (ltb p links)
    (λ e. rw e
    (ap (λ (t : ℕ → ℕ → Cable). coming_from (λ a j. line_from z a j) (far_of (t n p))) c
    ∙ at_far (far_of (w.net.links.cables n p)) (λ m k d.
    let j = cabled.agree n p hn (ltb-true p links e) m k d in (j.node, j.link))))
    (λ e. rw e)
  where
    at_far : (f : Far) → ((m : Slot) (k : ℕ) → f ≡ At m k → (m.0 < w.net.nodes) × (k < links))
        → coming_from (λ a j. line_from z a j) f ≡ coming_from (λ a j. line_from w a j) f
    at_far Nowhere h = refl
    at_far (At m k) h = let there = h m k refl in same m.0 k there.0 there.1

-- .. where only the tokens on the line from one link are others: to every port but the one that it leads to
module _ (w z : World) (c : z.net.links.cables ≡ w.net.links.cables) (cabled : Cabled w.net.nodes w.net.links.cables)
    (n l : ℕ) (m : Slot) (k : ℕ) (hn : n < w.net.nodes) (hl : l < links) (leads : far_of (w.net.links.cables n l) ≡ At m k)
    (same : (a j : ℕ) → a < w.net.nodes → j < links → Off n l a j → tokens_of (line_from z a j) ≡ tokens_of (line_from w a j)) where
  pub coming_off : (a i : ℕ) → a < w.net.nodes → i < ports → Off m.0 k a i → coming z a i ≡ coming w a i
  coming_off a i ha hi o =
      by_test (ltb i links)
      (λ e. rw e
      (ap (λ (t : ℕ → ℕ → Cable). coming_from (λ b j. line_from z b j) (far_of (t a i))) c
      ∙ at_far (ltb-true i links e) (far_of (w.net.links.cables a i)) refl))
      (λ e. rw e)
    where
      at_far : i < links → (f : Far) → far_of (w.net.links.cables a i) ≡ f
          → coming_from (λ b j. line_from z b j) f ≡ coming_from (λ b j. line_from w b j) f
      at_far hl Nowhere e = refl
      at_far hl (At b h) e =
          let joined = cabled.agree a i ha hl b h e in
          same b.0 h joined.node joined.link (λ eb eh.
          let both : At m k ≡ At (record { 0 = a }) i = sym leads ∙ (rw (eb, eh) at joined.back) in
          let slot : m ≡ record { 0 = a } = (same_far both).0 in
          let link : k ≡ i = (same_far both).1 in
          o (ap (λ (s : Slot). s.0) (sym slot)) (sym link))

-- WHERE A PORT ENDS
pub reached_as : (w z : World) (n p : ℕ) → back_at z n p ≡ back_at w n p → coming z n p ≡ coming w n p → reached_at z n p ≡ reached_at w n p
reached_as w z n p b c = ap (λ (s : Stage). walk s (coming z n p)) b ∙ ap (walk (back_at w n p)) c

-- a walk that is bad stays so: what a port holds is good where all that comes to it is
pub good_back : (w : World) → Kept w → (n p : ℕ) → n < w.net.nodes → p < ports → is_bad (back_at w n p) ≡ false
good_back w k n p hn hp = good_from (back_at w n p) (coming w n p) (k.backs.walks n p hn hp)
