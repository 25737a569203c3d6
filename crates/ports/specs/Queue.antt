-- "port buffer: 64 tokens; the capacity belongs to the port type, as do making an empty one, putting and taking" (document 01,
-- "Sizes"). A port is a queue of that capacity.
use Rattle.std.specs.Prelude.{ℕ, List}
use Rattle.ports.specs.declared.Counters.{Counters}
use Rattle.ports.specs.Ring as Ring
pub use Rattle.ports.specs.Ring.{empty_counters, put_counters, take_words, first_word}

abbrev pub capacity : ℕ
capacity = 64

abbrev pub Fair : Counters → Type 0
Fair p = Ring.Fair capacity p

abbrev pub put_words : Counters → List ℕ → ℕ → List ℕ
put_words p s t = Ring.put_words capacity p s t

abbrev pub take_counters : Counters → Counters
take_counters p = Ring.take_counters capacity p

abbrev pub ring : List ℕ → ℕ → ℕ → List ℕ
ring s h n = Ring.ring capacity s h n

abbrev pub contents : Counters → List ℕ → List ℕ
contents p s = Ring.contents capacity p s
