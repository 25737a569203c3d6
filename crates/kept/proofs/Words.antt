-- A word kept behind those held: what holds of each of them, of the new one and of 0 holds of all. Assumes nothing.
use Prim.Native.Nat.{ℕ, ◌+◌, ◌<◌}
use mathlib.Core.List.{List}
use mathlib.Core.Logic.{⊎_elim}
use native.Mathlib.Decide.{ℕ_discrete}
use native.Mathlib.Omega.{arith}
use lib.ListN.{length, get_or, set, length-set, get_or-eq_default}
use lib.Seq.{get_or-set_same, get_or-set_other}
use Rattle.laws.proofs.Order.{order}

-- the word that is written, or what stands past the last
word_set : (P : ℕ → Type 0) (l : List ℕ) (i x : ℕ) → P x → P 0 → P (get_or (set l i x) i 0)
word_set P l i x h z =
    ⊎_elim (λ m. rw (get_or-set_same l i x 0 m) h)
    (λ m. rw (get_or-eq_default (set l i x) 0 {n = i} (rw (length-set l i x) m)) z)
    (order i (length l))

pub words_more : (P : ℕ → Type 0) (l : List ℕ) (k x : ℕ) → P x → P 0 → ((i : ℕ) → i < k → P (get_or l i 0))
    → (i : ℕ) → i < k + 1 → P (get_or (set l k x) i 0)
words_more P l k x h z old i m =
    elim (ℕ_discrete i k) [
      | yes d ↦ rw d (word_set P l k x h z)
      | no d ↦ rw (get_or-set_other l k i x 0 d) (old i (omega arith))
    ]
