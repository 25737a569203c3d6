-- A queue of any capacity: put appends, and take removes the first. Assumes nothing.
use Prim.Native.Nat.{ℕ, zero, suc, ◌+◌, ◌-◌, ◌%◌, ◌<◌, ◌≤◌}
use mathlib.Core.Path.{◌≡◌, ◌∙◌, refl, ap, sym}
use mathlib.Core.Logic.{⊎_elim}
use mathlib.Core.List.{List, [], ◌∷◌, ◌++◌}
use native.Mathlib.Nat.{mod-lt, mod-eq_of_lt, mod-eq-sub-mod, mod-add-mod, mod-mod, suc-mod}
use native.Mathlib.Omega.{arith}
use native.Mathlib.Numerals.{add-one}
use lib.ListN.{length, set, get_or}
use lib.Seq.{get_or-set_same, get_or-set_other}
use Rattle.laws.proofs.Order.{order}
use Rattle.ports.specs.declared.Counters.{Counters}
use Rattle.ports.specs.Ring.{Fair, ring, contents, put_counters, put_words, take_counters, take_words, first_word}

-- less than a round further on lies another place
module _ (cap d : ℕ) (some : 0 < d) (less : d < cap) where
  further : (q : ℕ) → q < cap → (q + d) % cap ≡ q → ⊥
  further q l e =
      ⊎_elim
      (λ h. omega (arith, sym (mod-eq_of_lt h) ∙ e))
      (λ h. let b : q + d - cap < cap = omega arith in omega (arith, sym (mod-eq_of_lt b) ∙ sym (mod-eq-sub-mod h) ∙ e))
      (order (q + d) cap)

  further_round : (h : ℕ) → (h + d) % cap ≡ h % cap → ⊥
  further_round h e = further (h % cap) (mod-lt h (omega arith)) (mod-add-mod h cap d ∙ e)

module _ (cap : ℕ) where
  -- a store outside the ring's part leaves the part
  ring_other : (s : List ℕ) (j v h n : ℕ) → ((i : ℕ) → i < n → (h + i) % cap ≡ j → ⊥) → ring cap (set s j v) h n ≡ ring cap s h n
  unfolding ring
  ring_other s j v h zero f = refl
  ring_other s j v h (suc n) f =
      let e : get_or (set s j v) (h % cap) 0 ≡ get_or s (h % cap) 0 =
      get_or-set_other s j (h % cap) v 0 (λ q. f 0 (omega arith) (ap (λ (k : ℕ). k % cap) (omega arith) ∙ q)) in
      let r : ring cap (set s j v) (suc h) n ≡ ring cap s (suc h) n =
      ring_other s j v (suc h) n (λ i l q. f (suc i) (omega arith) (ap (λ (k : ℕ). k % cap) (omega arith) ∙ q)) in
      rw (e, r)

  -- it has as many words as it says
  pub ring_long : (s : List ℕ) (h n : ℕ) → length (ring cap s h n) ≡ n
  unfolding ring
  ring_long s h zero = refl
  ring_long s h (suc n) = ap suc (ring_long s (suc h) n)

  -- the start goes round
  ring_round : (s : List ℕ) (h k n : ℕ) → h % cap ≡ k % cap → ring cap s h n ≡ ring cap s k n
  unfolding ring
  ring_round s h k zero e = refl
  ring_round s h k (suc n) e =
      let next : suc h % cap ≡ suc k % cap = suc-mod h cap ∙ ap (λ (i : ℕ). suc i % cap) e ∙ sym (suc-mod k cap) in
      let r : ring cap s (suc h) n ≡ ring cap s (suc k) n = ring_round s (suc h) (suc k) n next in
      rw (e, r)

  -- a store behind the ring's part makes it longer
  ring_put : (s : List ℕ) (h n t : ℕ) → n < cap → length s ≡ cap → ring cap (set s ((h + n) % cap) t) h (suc n) ≡ ring cap s h n ++ (t ∷ [])
  unfolding ring
  ring_put s h zero t l e =
      let q : h + 0 ≡ h = omega arith in
      let i : h % cap < length s = rw e (mod-lt h l) in
      let g : get_or (set s (h % cap) t) (h % cap) 0 ≡ t = get_or-set_same s (h % cap) t 0 i in
      rw (q, g)
  ring_put s h (suc n) t l e =
      let j : h + suc n ≡ suc h + n = omega arith in
      let g : get_or (set s ((h + suc n) % cap) t) (h % cap) 0 ≡ get_or s (h % cap) 0 =
      get_or-set_other s ((h + suc n) % cap) (h % cap) t 0 (λ q. further_round cap (suc n) (omega arith) l h (sym q)) in
      let r : ring cap (set s ((suc h + n) % cap) t) (suc h) (suc n) ≡ ring cap s (suc h) n ++ (t ∷ []) =
      ring_put s (suc h) n t (omega arith) e in
      ap (λ (x : ℕ). x ∷ ring cap (set s ((h + suc n) % cap) t) (suc h) (suc n)) g
      ∙ ap (λ (x : List ℕ). get_or s (h % cap) 0 ∷ x) (ap (λ (k : ℕ). ring cap (set s (k % cap) t) (suc h) (suc n)) j ∙ r)

  pub put_appends : (p : Counters) (s : List ℕ) (t : ℕ) → p.held < cap → length s ≡ cap
      → contents cap (put_counters p) (put_words cap p s t) ≡ contents cap p s ++ (t ∷ [])
  put_appends p s t l e = rw add-one (ring_put s p.head p.held t l e)

  -- What a queue holds, as one goes over it: nothing, the oldest and the others, the others and the last
  pub held_none : (p : Counters) (s : List ℕ) → p.held ≡ 0 → contents cap p s ≡ []
  unfolding ring
  held_none p s e = rw e

  pub held_first : (p : Counters) (s : List ℕ) → Fair cap p → 0 < p.held → contents cap p s ≡ first_word p s ∷ contents cap (take_counters cap p) s
  unfolding ring
  held_first p s f l =
      let b : ℕ = p.head in
      let n : ℕ = p.held - 1 in
      let e : p.held ≡ suc n = omega arith in
      let h : b % cap ≡ b = mod-eq_of_lt f.head_in in
      let round : suc b % cap ≡ (b + 1) % cap % cap = ap (λ (k : ℕ). k % cap) (omega arith) ∙ sym (mod-mod (b + 1) cap) in
      ap (ring cap s b) e
      ∙ ap (λ (k : ℕ). get_or s k 0 ∷ ring cap s (suc b) n) h
      ∙ ap (λ (x : List ℕ). get_or s b 0 ∷ x) (ring_round s (suc b) ((b + 1) % cap) n round)

  ring_last : (s : List ℕ) (h n : ℕ) → ring cap s h (suc n) ≡ ring cap s h n ++ (get_or s ((h + n) % cap) 0 ∷ [])
  unfolding ring
  ring_last s h zero = let e : h + 0 ≡ h = omega arith in rw e
  ring_last s h (suc n) =
      let e : h + suc n ≡ suc h + n = omega arith in
      ap (λ (x : List ℕ). get_or s (h % cap) 0 ∷ x)
      (ring_last s (suc h) n ∙ ap (λ (k : ℕ). ring cap s (suc h) n ++ (get_or s (k % cap) 0 ∷ [])) (sym e))

  pub held_last : (p : Counters) (s : List ℕ) → 0 < p.held
      → contents cap p s ≡ ring cap s p.head (p.held - 1) ++ (get_or s ((p.head + (p.held - 1)) % cap) 0 ∷ [])
  held_last p s l = let e : p.held ≡ suc (p.held - 1) = omega arith in ap (ring cap s p.head) e ∙ ring_last s p.head (p.held - 1)

  pub take_removes : (p : Counters) (s : List ℕ) → Fair cap p → 0 < p.held
      → contents cap p s ≡ first_word p s ∷ contents cap (take_counters cap p) (take_words p s)
  take_removes p s f l =
      let b : ℕ = p.head in
      let n : ℕ = p.held - 1 in
      let sum : (i : ℕ) → (b + (1 + i)) % cap ≡ ((b + 1) % cap + i) % cap =
      λ i. ap (λ (k : ℕ). k % cap) (omega arith) ∙ sym (mod-add-mod (b + 1) cap i) in
      let past : (i : ℕ) → i < n → ((b + 1) % cap + i) % cap ≡ b → ⊥ =
      λ i q z. further cap (1 + i) (omega arith) (omega (arith, f.held_in)) b f.head_in (sum i ∙ z) in
      held_first p s f l ∙ ap (λ (x : List ℕ). first_word p s ∷ x) (sym (ring_other s b 0 ((b + 1) % cap) n past))

  -- The ring from its i-th on: all of it at first, then one word less, and none at last
  module _ (s : List ℕ) (h n : ℕ) where
    pub ring_start : ring cap s (h + 0) (n - 0) ≡ ring cap s h n
    ring_start = let p : h + 0 ≡ h = omega arith in let q : n - 0 ≡ n = omega arith in rw (p, q)

    pub ring_next : (i : ℕ) → i < n → ring cap s (h + i) (n - i) ≡ get_or s ((h + i) % cap) 0 ∷ ring cap s (h + (i + 1)) (n - (i + 1))
    unfolding ring
    ring_next i l =
        let p : n - i ≡ suc (n - (i + 1)) = omega arith in
        let q : suc (h + i) ≡ h + (i + 1) = omega arith in
        rw (p, q)

    pub ring_done : (i : ℕ) → n ≤ i → ring cap s (h + i) (n - i) ≡ []
    unfolding ring
    ring_done i l = let p : n - i ≡ 0 = omega arith in rw p
