-- "The host lends one token memory: nodes × 13 ports × 64 words of 16 bits, exactly. A call that stores a token works on one port's own
-- stretch of the lent token memory." (document 01, "Sizes")
use Rattle.std.specs.Prelude.{ℕ, List}
use Rattle.names.specs.Size.{ports}
use Rattle.ports.specs.declared.Counters.{Counters}
use Rattle.ports.specs.Queue.{capacity}
use Rattle.ports.specs.Ring as Ring
pub use Rattle.ports.specs.Ring.{take_memory, first_of}

-- where the stretch of a slot's port begins
abbrev pub place : ℕ → ℕ → ℕ
place slot port = Ring.place ports capacity slot port

-- the words of the stretch that begins at a, the whole memory after a put into its port, and what that port holds, oldest first
abbrev pub stretch : List ℕ → ℕ → List ℕ
stretch m a = Ring.stretch capacity m a

abbrev pub put_memory : Counters → List ℕ → ℕ → ℕ → List ℕ
put_memory p m a t = Ring.put_memory capacity p m a t

abbrev pub held : Counters → List ℕ → ℕ → List ℕ
held p m a = Ring.held capacity p m a
