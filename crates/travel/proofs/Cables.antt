-- The accounts of all cables, where the two ends of one have changed: it is enough that these two are in order. Likewise where an end
-- without a cable has changed, where ports hold less, and where two ends are joined. Assumes nothing.
use Prim.Native.Nat.{ℕ, ◌<◌, ◌≤◌}
use mathlib.Core.Path.{◌≡◌, sym, ap, ◌∙◌}
use native.Mathlib.Omega.{arith}
use Rattle.laws.specs.Table.{Off}
use Rattle.laws.proofs.Table.{place}
use Rattle.names.specs.Size.{links}
use Rattle.names.specs.declared.Slot.{Slot}
use Rattle.cells.specs.World.{far_of, Nowhere, At}
use Rattle.cells.specs.declared.link.Cable as Wire
use Rattle.cells.proofs.Fars.{same_far}
use Rattle.travel.specs.Accounts.{End, Cable, Clean, Accounts}
use Rattle.travel.proofs.Accounts.{held_to, keep_taken, clean_side}

-- cables lead back, to a link that is there
abbrev pub Backs : ℕ → (ℕ → ℕ → Wire.Cable) → Type 0
Backs N cables =
    (n l : ℕ) → n < N → l < links → (m : Slot) (k : ℕ) → far_of (cables n l) ≡ At m k
    → (m.0 < N) × (k < links) × (far_of (cables m.0 k) ≡ At (record { 0 = n }) l)

slot_of : {a b : Slot} {i j : ℕ} → At a i ≡ At b j → a.0 ≡ b.0
slot_of e = ap (λ (s : Slot). s.0) (same_far e).0

link_of_lem : {a b : Slot} {i j : ℕ} → At a i ≡ At b j → i ≡ j
link_of_lem e = (same_far e).1

clash_far : {s : Slot} {i : ℕ} → Nowhere ≡ At s i → ⊥
clash_far d = let q : ◌≡◌ {A = ℕ} 0 1 = cc in omega arith

module _ {N : ℕ} {cables : ℕ → ℕ → Wire.Cable} {ends ends' : ℕ → ℕ → End} (back : Backs N cables) (z : Accounts N cables ends) (n l : ℕ)
    (m : Slot) (k : ℕ) (hn : n < N) (hl : l < links) (leads : far_of (cables n l) ≡ At m k)
    (same : (a j : ℕ) → j < links → Off n l a j → Off m.0 k a j → ends' a j ≡ ends a j) (now : Cable (ends' n l) (ends' m.0 k)) where
  -- who leads to one of the two ends is the other
  leads_here : (a j : ℕ) → a < N → j < links → (b : Slot) (i : ℕ) → far_of (cables a j) ≡ At b i → b.0 ≡ n → i ≡ l
      → (a ≡ m.0) × (j ≡ k)
  leads_here a j ha hj b i e eb ei =
      let there = (back a j ha hj b i e).2 in
      let moved : far_of (cables n l) ≡ At (record { 0 = a }) j = rw (← eb, ← ei) there in
      let both : At m k ≡ At (record { 0 = a }) j = sym leads ∙ moved in
      (sym (slot_of both), sym (link_of_lem both))

  leads_there : (a j : ℕ) → a < N → j < links → (b : Slot) (i : ℕ) → far_of (cables a j) ≡ At b i → b.0 ≡ m.0 → i ≡ k
      → (a ≡ n) × (j ≡ l)
  leads_there a j ha hj b i e eb ei =
      let there = (back a j ha hj b i e).2 in
      let moved : far_of (cables m.0 k) ≡ At (record { 0 = a }) j = rw (← eb, ← ei) there in
      let both : At (record { 0 = n }) l ≡ At (record { 0 = a }) j = sym (back n l hn hl m k leads).2 ∙ moved in
      (sym (slot_of both), sym (link_of_lem both))

  pub other_cables : Accounts N cables ends'
  other_cables =
      record {
        joined = λ a j ha hj b i e.
            place n l a j
            (λ ea ej.
            let both : At b i ≡ At m k = sym e ∙ rw (ea, ej) leads in
            rw (ea, ej, slot_of both, link_of_lem both) now.there)
            (λ here.
            place m.0 k a j
            (λ ea ej.
            let home : far_of (cables m.0 k) ≡ At (record { 0 = n }) l = (back n l hn hl m k leads).2 in
            let both : At b i ≡ At (record { 0 = n }) l = sym e ∙ rw (ea, ej) home in
            rw (ea, ej, slot_of both, link_of_lem both) now.back)
            (λ there.
            let far-here : Off n l b.0 i = λ eb ei. let o = leads_here a j ha hj b i e eb ei in there o.0 o.1 in
            let far_there : Off m.0 k b.0 i = λ eb ei. let o = leads_there a j ha hj b i e eb ei in here o.0 o.1 in
            rw (same a j hj here there, same b.0 i (back a j ha hj b i e).1 far-here far_there) (z.joined a j ha hj b i e)));
        alone = λ a j ha hj e.
            let here : Off n l a j = λ ea ej. let d : Nowhere ≡ At m k = sym e ∙ rw (ea, ej) leads in clash_far d in
            let there : Off m.0 k a j = λ ea ej.
            let d : Nowhere ≡ At (record { 0 = n }) l = sym e ∙ rw (ea, ej) (back n l hn hl m k leads).2 in clash_far d in
            rw (same a j hj here there) (z.alone a j ha hj e);
      }

-- .. where one end without a cable has changed, and owes nothing still
module _ {N : ℕ} {cables : ℕ → ℕ → Wire.Cable} {ends ends' : ℕ → ℕ → End} (back : Backs N cables) (z : Accounts N cables ends) where
  pub other_alone : (n l : ℕ) → far_of (cables n l) ≡ Nowhere
      → ((a j : ℕ) → j < links → Off n l a j → ends' a j ≡ ends a j)
      → Clean (ends' n l)
      → Accounts N cables ends'
  other_alone n l loose same now =
      record {
        joined = λ a j ha hj b i e.
            let far = back a j ha hj b i e in
            let here : Off n l a j = λ ea ej. let d : Nowhere ≡ At b i = sym loose ∙ (rw (ea, ej) at e) in clash_far d in
            let there : Off n l b.0 i = λ eb ei.
            let d : Nowhere ≡ At (record { 0 = a }) j = sym loose ∙ (rw (eb, ei) at far.2) in clash_far d in
            rw (same a j hj here, same b.0 i far.1 there) (z.joined a j ha hj b i e);
        alone = λ a j ha hj e.
            place n l a j (λ ea ej. rw (ea, ej) now) (λ o. rw (same a j hj o) (z.alone a j ha hj e));
      }

  -- .. and where none has
  pub same_cables : ((a j : ℕ) → j < links → ends' a j ≡ ends a j) → Accounts N cables ends'
  same_cables same =
      record {
        joined = λ a j ha hj b i e.
            rw (same a j hj, same b.0 i (back a j ha hj b i e).1) (z.joined a j ha hj b i e);
        alone = λ a j ha hj e. rw (same a j hj) (z.alone a j ha hj e);
      }

-- .. where ports hold less
pub less_held : {N : ℕ} {cables : ℕ → ℕ → Wire.Cable} {ends : ℕ → ℕ → End} (h : ℕ → ℕ → ℕ) → Accounts N cables ends
    → ((a j : ℕ) → h a j ≤ (ends a j).held)
    → Accounts N cables (λ a j. held_to (ends a j) (h a j))
less_held h z less =
    record {
      joined = λ a j ha hj b i e. keep_taken (h a j) (h b.0 i) (less b.0 i) (z.joined a j ha hj b i e);
      alone = λ a j ha hj e.
          let c = z.alone a j ha hj e in
          record {
            credit = c.credit;
            greeted = c.greeted;
            issued = c.issued;
            load = c.load;
            held = omega (arith, c.held, less a j);
          };
    }

-- .. and where two ends without a cable are joined by one: neither owes anything
pub two_joined : {N : ℕ} {cables cables' : ℕ → ℕ → Wire.Cable} {ends : ℕ → ℕ → End} → Accounts N cables ends
    → (n l : ℕ) (m : Slot) (k : ℕ) → Clean (ends n l) → Clean (ends m.0 k)
    → far_of (cables' n l) ≡ At m k
    → far_of (cables' m.0 k) ≡ At (record { 0 = n }) l
    → ((a j : ℕ) → Off n l a j → Off m.0 k a j → cables' a j ≡ cables a j)
    → Accounts N cables' ends
two_joined {cables = cables} {cables' = cables'} {ends = ends} z n l m k p q leads home same =
    record {
      joined = λ a j ha hj b i e.
          place n l a j
          (λ ea ej. let both : At b i ≡ At m k = sym e ∙ rw (ea, ej) leads in rw (ea, ej, slot_of both, link_of_lem both) (clean_side p q))
          (λ here. place m.0 k a j
          (λ ea ej.
          let both : At b i ≡ At (record { 0 = n }) l = sym e ∙ rw (ea, ej) home in
          rw (ea, ej, slot_of both, link_of_lem both) (clean_side q p))
          (λ there. z.joined a j ha hj b i (sym (ap far_of (same a j here there)) ∙ e)));
      alone = λ a j ha hj e.
          place n l a j
          (λ ea ej. rw (ea, ej) p)
          (λ here. place m.0 k a j
          (λ ea ej. rw (ea, ej) q)
          (λ there. z.alone a j ha hj (sym (ap far_of (same a j here there)) ∙ e)));
    }
