-- A queue of any capacity on its own stretch of a whole memory: a put appends to what it holds, a take removes its first, and what lies
-- apart from its stretch stays. Assumes nothing.
use Prim.Native.Nat.{ℕ, ◌+◌, ◌*◌, ◌/◌, ◌%◌, ◌<◌, ◌≤◌}
use mathlib.Core.Path.{◌≡◌, ap, sym}
use mathlib.Core.Logic.{inl, inr, ⊎_elim}
use mathlib.Core.List.{List, [], ◌∷◌, ◌++◌}
use native.Mathlib.Decide.{ℕ_discrete}
use native.Mathlib.Nat.{mod-lt, mul_assoc, mul-le-mul_right, div-mul-le_self}
use native.Mathlib.Omega.{arith}
use lib.ListN.{length, set}
use Rattle.laws.specs.Row.{Apart}
use Rattle.laws.specs.Table.{Off}
use Rattle.laws.proofs.Order.{order, next}
use Rattle.laws.proofs.Row.{row_long, row_at, row_set, row_kept, same_set}
use Rattle.ports.specs.declared.Counters.{Counters}
use Rattle.ports.specs.Ring.{Fair, put_counters, take_counters, stretch, put_memory, take_memory, first_of, held, place}
use Rattle.ports.proofs.Rings.{put_appends, take_removes}

module _ (cap : ℕ) (p : Counters) (m : List ℕ) (a : ℕ) where
  pub put_here : (t : ℕ) → a + cap ≤ length m → p.held < cap
      → held cap (put_counters p) (put_memory cap p m a t) a ≡ held cap p m a ++ (t ∷ [])
  put_here t fits l =
      rw (row_set m a cap ((p.head + p.held) % cap) t (mod-lt (p.head + p.held) (omega arith)))
      (put_appends cap p (stretch cap m a) t l (row_long cap a m fits))

  pub take_here : Fair cap p → 0 < p.held → held cap p m a ≡ first_of p m a ∷ held cap (take_counters cap p) (take_memory p m a) a
  take_here f l =
      rw (row_set m a cap p.head 0 f.head_in, ← row_at cap a p.head m 0 f.head_in)
      (take_removes cap p (stretch cap m a) f l)

  -- a store among the s words from b on, which lie apart from the stretch
  pub elsewhere : (b s j v : ℕ) → j < s → Apart b (b + s) a cap → held cap p (set m (b + j) v) a ≡ held cap p m a
  elsewhere b s j v h o = rw (row_kept (same_set m b (b + s) (b + j) v (omega arith) (omega arith)) a cap o)

-- Two queues of a memory have two stretches, which do not meet
module _ (many n i n' i' : ℕ) (l : i < many) (l' : i' < many) where
  same_queue : n * many + i ≡ n' * many + i' → (n ≡ n') × (i ≡ i')
  same_queue e =
      elim (ℕ_discrete n n') [
        | yes q ↦ (q, let z : n * many ≡ n' * many = ap (λ (k : ℕ). k * many) q in omega arith)
        | no q ↦ absurd
            (⊎_elim (λ h. omega (arith, next n n' many h)) (λ h. omega (arith, next n' n many (omega arith))) (order n n'))
      ]

  pub places_apart : (cap : ℕ) → Off n i n' i' → Apart (place many cap n i) (place many cap n i + cap) (place many cap n' i') cap
  places_apart cap o =
      let x : ℕ = n * many + i in
      let y : ℕ = n' * many + i' in
      ⊎_elim
      (λ h. inr (next x y cap h))
      (λ h. elim (ℕ_discrete x y) [
        | yes e ↦ let z = same_queue e in absurd (o (sym z.0) (sym z.1))
        | no e ↦ inl (next y x cap (omega arith))
      ])
      (order x y)

-- so a store into one queue's stretch leaves what every other holds
pub other_queue : (many cap : ℕ) (p : Counters) (m : List ℕ) (n i n' i' j v : ℕ) → i < many → i' < many → j < cap → Off n i n' i'
    → held cap p (set m (place many cap n i + j) v) (place many cap n' i') ≡ held cap p m (place many cap n' i')
other_queue many cap p m n i n' i' j v l l' h o =
    elsewhere cap p m (place many cap n' i') (place many cap n i) cap j v h (places_apart many n i n' i' l l' cap o)

-- A queue that a memory of so many words has: its stretch lies within the memory
pub reaches : (many cap n q words : ℕ) → n < words / (many * cap) → q < many → place many cap n q + cap ≤ words
reaches many cap n q words hn hq =
    let x : ℕ = n * many + q in
    let here : x * cap + cap ≤ (n + 1) * many * cap = next x ((n + 1) * many) cap (omega (arith, next n (n + 1) many (omega arith))) in
    let past : (n + 1) * (many * cap) ≤ words / (many * cap) * (many * cap) = mul-le-mul_right (many * cap) (omega arith) in
    omega (arith, here, mul_assoc (n + 1) many cap, past, div-mul-le_self words (many * cap))
