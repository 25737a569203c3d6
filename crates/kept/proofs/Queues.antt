-- A store into one port's queue: counters written twice, the queues of the other ports, and the shape of the world. Assumes nothing.
use Prim.Native.Nat.{ℕ, ◌+◌, ◌<◌}
use mathlib.Core.Path.{◌≡◌, sym, ap, ◌∙◌, fun_ext}
use lib.ListN.{length, set}
use Rattle.laws.specs.Table.{upd, Off}
use Rattle.laws.proofs.Table.{upd_hit, upd_miss, upd_all, upd_own}
use Rattle.names.specs.Size.{ports}
use Rattle.ports.specs.Queue.{capacity}
use Rattle.ports.specs.Memory.{place, held}
use Rattle.ports.specs.declared.Counters.{Counters}
use Rattle.ports.proofs.Ports.{elsewhere}
use Rattle.cells.specs.View.{Net, with_counters}
use Rattle.cells.specs.World.{World, shaped, queue}

-- an entry that is written twice is as it was written last
pub upd_upd : {A : Type 0} (f : ℕ → ℕ → A) (n i : ℕ) (a b : A) → upd (upd f n i a) n i b ≡ upd f n i b
upd_upd f n i a b =
    fun_ext (λ m. fun_ext (λ j. upd_all (λ c d x. x ≡ upd f n i b c d) (upd f n i a) n i b m j
    (λ d e. sym (upd_hit f n i b m j d e))
    (λ o. upd_miss f n i a m j o ∙ sym (upd_miss f n i b m j o))))

module _ (s : Net) (n p : ℕ) where
  pub counters_own : s ≡ with_counters s n p (s.ports.counters n p)
  counters_own = rw (upd_own s.ports.counters n p)

  pub counters_again : (a b : Counters) → with_counters (with_counters s n p a) n p b ≡ with_counters s n p b
  counters_again a b = rw (upd_upd s.ports.counters n p a b)

-- the shape hangs on the number of nodes, the words past the last and the lengths of both memories
pub shape_as : (w z : World) → z.net.nodes ≡ w.net.nodes → z.net.rest ≡ w.net.rest → length z.memory ≡ length w.memory
    → length z.line_memory ≡ length w.line_memory
    → shaped z ≡ shaped w
unfolding shaped
shape_as w z a b c d = rw (a, b, c, d)

-- a word stored into the stretch of port p, whose counters alone are changed: every other port holds what it held
pub stored_away : (w : World) (s : Net) (n p i v : ℕ) (c : Counters) → p < ports → i < capacity
    → s.ports.counters ≡ upd w.net.ports.counters n p c
    → (m j : ℕ) → j < ports → Off n p m j
    → queue (record { net = s; memory = set w.memory (place n p + i) v; line_memory = w.line_memory }) m j ≡ queue w m j
stored_away w s n p i v c hp hi e m j hj o =
    let k = w.net.ports.counters in
    ap (λ (t : ℕ → ℕ → Counters). held (t m j) (set w.memory (place n p + i) v) (place m j)) e
    ∙ ap (λ (q : Counters). held q (set w.memory (place n p + i) v) (place m j)) (upd_miss k n p c m j o)
    ∙ elsewhere (k m j) w.memory n p m j i v hp hj hi o
