-- A queue of any capacity: counters over its own stretch of a memory, which is a ring of that many words. A port's queue (Queue.antt,
-- Memory.antt) is one of 64.
use Rattle.std.specs.Prelude.{ℕ, zero, suc, ◌+◌, ◌-◌, ◌*◌, ◌%◌, ◌^◌, ◌<◌, ◌≤◌, List, [], ◌∷◌, get_or, set}
use Rattle.laws.specs.Row.{row}
use Rattle.ports.specs.declared.Counters.{Counters}

-- the capacities for which counters of 32 bits go round
abbrev pub Serves : ℕ → Type 0
Serves cap = (0 < cap) × (cap + cap ≤ 2 ^ 32)

-- counters that such a queue can have
pub record Fair (cap : ℕ) (p : Counters) : Type 0 where
  pub head_in : p.head < cap
  pub held_in : p.held ≤ cap

abbrev pub empty_counters : Counters
empty_counters = record { head = 0; held = 0 }

-- a token is put behind those held
abbrev pub put_counters : Counters → Counters
put_counters p = record { head = p.head; held = p.held + 1 }

abbrev pub put_words : ℕ → Counters → List ℕ → ℕ → List ℕ
put_words cap p s t = set s ((p.head + p.held) % cap) t

-- the oldest is taken, and the word that it leaves is cleared
abbrev pub take_counters : ℕ → Counters → Counters
take_counters cap p = record { head = (p.head + 1) % cap; held = p.held - 1 }

abbrev pub take_words : Counters → List ℕ → List ℕ
take_words p s = set s p.head 0

abbrev pub first_word : Counters → List ℕ → ℕ
first_word p s = get_or s p.head 0

-- n words of the ring from h on
unfoldable pub ring : ℕ → List ℕ → ℕ → ℕ → List ℕ
ring cap s h zero = []
ring cap s h (suc n) = get_or s (h % cap) 0 ∷ ring cap s (suc h) n

-- what a queue holds, oldest first
abbrev pub contents : ℕ → Counters → List ℕ → List ℕ
contents cap p s = ring cap s p.head p.held

-- In a memory that has such a stretch for each of the `many` queues of each node: where the stretch of queue i of node n begins
abbrev pub place : ℕ → ℕ → ℕ → ℕ → ℕ
place many cap n i = (n * many + i) * cap

-- the words of the stretch that begins at a
abbrev pub stretch : ℕ → List ℕ → ℕ → List ℕ
stretch cap m a = row cap a m

-- the whole memory after a put, and after a take, of the queue whose stretch begins at a
abbrev pub put_memory : ℕ → Counters → List ℕ → ℕ → ℕ → List ℕ
put_memory cap p m a t = set m (a + (p.head + p.held) % cap) t

abbrev pub take_memory : Counters → List ℕ → ℕ → List ℕ
take_memory p m a = set m (a + p.head) 0

abbrev pub first_of : Counters → List ℕ → ℕ → ℕ
first_of p m a = get_or m (a + p.head) 0

-- what that queue holds, oldest first
abbrev pub held : ℕ → Counters → List ℕ → ℕ → List ℕ
held cap p m a = contents cap p (stretch cap m a)
