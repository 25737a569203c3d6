-- A port's queue, at its capacity and on its own stretch of the token memory. Assumes nothing.
use Prim.Native.Nat.{ℕ, ◌+◌, ◌-◌, ◌%◌, ◌<◌, ◌≤◌}
use mathlib.Core.Path.{◌≡◌}
use mathlib.Core.List.{List, [], ◌∷◌, ◌++◌}
use lib.ListN.{length, get_or, set}
use Rattle.laws.specs.Table.{Off}
use Rattle.names.specs.Size.{ports}
use Rattle.ports.specs.declared.Counters.{Counters}
use Rattle.ports.specs.Queue.{capacity, Fair, ring, contents, put_counters, take_counters, take_words, first_word}
use Rattle.ports.specs.Memory.{place, put_memory, take_memory, first_of, held}
use Rattle.ports.proofs.Rings as Rings
use Rattle.ports.proofs.Stretches as Stretches

pub take_removes : (p : Counters) (s : List ℕ) → Fair p → 0 < p.held
    → contents p s ≡ first_word p s ∷ contents (take_counters p) (take_words p s)
take_removes = Rings.take_removes capacity

module _ (s : List ℕ) (h n : ℕ) where
  pub ring_start : ring s (h + 0) (n - 0) ≡ ring s h n
  ring_start = Rings.ring_start capacity s h n

  pub ring_next : (i : ℕ) → i < n → ring s (h + i) (n - i) ≡ get_or s ((h + i) % capacity) 0 ∷ ring s (h + (i + 1)) (n - (i + 1))
  ring_next = Rings.ring_next capacity s h n

  pub ring_done : (i : ℕ) → n ≤ i → ring s (h + i) (n - i) ≡ []
  ring_done = Rings.ring_done capacity s h n

module _ (p : Counters) (m : List ℕ) where
  pub put_here : (a t : ℕ) → a + capacity ≤ length m → p.held < capacity
      → held (put_counters p) (put_memory p m a t) a ≡ held p m a ++ (t ∷ [])
  put_here = Stretches.put_here capacity p m

  pub take_here : (a : ℕ) → Fair p → 0 < p.held → held p m a ≡ first_of p m a ∷ held (take_counters p) (take_memory p m a) a
  take_here = Stretches.take_here capacity p m

  -- a store into one port's stretch leaves every other port's
  pub elsewhere : (s q s' q' j v : ℕ) → q < ports → q' < ports → j < capacity → Off s q s' q'
      → held p (set m (place s q + j) v) (place s' q') ≡ held p m (place s' q')
  elsewhere = Stretches.other_queue ports capacity p m
