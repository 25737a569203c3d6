-- Headers: reading a made one gives its destination back, in the bits that the width compares; each of its words bears the mark and
-- the width; which destinations have none. Assumes nothing.
use Prim.{tt}
use mathlib.Core.Path.{◌≡◌, refl, sym, ◌∙◌}
use mathlib.Core.Bool.{true, false}
use Prim.Native.Nat.{ℕ, ◌<◌, ◌+◌, ◌*◌, ◌/◌, ◌%◌}
use native.Mathlib.Omega.{arith}
use lib.Dec.{ltb}
use borrow.Author.Tests.{lt-ltb, ltb-true, ne_eqb}
use Rattle.laws.specs.All.{Each}
use Rattle.laws.proofs.Order.{by_test}
use Rattle.names.specs.Size.{channels, sink, numbers}
use Rattle.names.specs.declared.NodeNumber.{NodeNumber}
use Rattle.names.specs.Number.{high_byte, low_byte, of_bytes}
use Rattle.names.proofs.Bytes.{of_bytes_back}
use Rattle.tokens.specs.Shape.{legal_channel}
use Rattle.tokens.specs.Word.{header_word, value_of, is_header, is_three, wide}
use Rattle.tokens.specs.Header.{header_of, words, Reads, read_one, read_three, compared, compared_target, Carried, narrow, is_narrow}
use Rattle.tokens.specs.Header.{legal_target}
use Rattle.tokens.specs.declared.header.Target.{Target}
use Rattle.tokens.specs.declared.header.Target.TheVariants.{Channel, Unit}
use Rattle.tokens.specs.declared.header.Width.{Width}
use Rattle.tokens.specs.declared.header.Width.TheVariants.{One, Three}
use Rattle.tokens.proofs.Words.{value_back, control_back, header_back, three_back}

module _ (n : NodeNumber) (fits : n.0 < numbers) where
  -- sixteen bits are all of a number
  whole : n ≡ compared Three n
  whole = let e : n.0 ≡ n.0 % numbers = omega arith in λ i. record { 0 = e i }

  -- the two number bytes of a three-byte header, read
  read_bytes : of_bytes (value_of (header_word (high_byte n) Three)) (value_of (header_word (low_byte n) Three)) ≡ compared Three n
  read_bytes =
      rw (value_back (high_byte n) false true true (omega arith), value_back (low_byte n) false true true (omega arith))
      (of_bytes_back n ∙ whole)

pub read_made : (w : Width) (t : Target) → Carried w t → Reads (header_of t w) (compared_target w t)
unfolding header_of read_one read_three
read_made One (Channel n c) (f, l) =
    let v : ℕ = n.0 % 8 * channels + c in
    let p : v / channels ≡ n.0 % 8 = omega arith in
    let q : v % channels ≡ c = omega arith in
    rw (lt-ltb c channels l, value_back v false true false (omega arith), p, q)
read_made One (Unit n) h = absurd h
read_made Three (Channel n c) (f, l) =
    rw (control_back c false true true l, value_back c false true true l, read_bytes n f)
read_made Three (Unit n) f = rw (read_bytes n f)

-- the mark and the width
abbrev Marked : Width → ℕ → Type 0
Marked w x = (is_header x ≡ true) × (is_three x ≡ wide w)

marked : (v : ℕ) (w : Width) → v < 256 → Marked w (header_word v w)
marked v w l = (header_back v false true (wide w) l, three_back v false true (wide w) l)

pub made_marked : (w : Width) (t : Target) → Carried w t → Each (Marked w) (words (header_of t w))
unfolding header_of
made_marked One (Channel n c) (f, l) = rw (lt-ltb c channels l) (marked ((compared One n).0 * channels + c) One (omega arith), tt)
made_marked One (Unit n) h = absurd h
made_marked Three (Channel n c) (f, l) =
    (marked (high_byte n) Three (omega arith), (marked (low_byte n) Three (omega arith), (marked c Three l, tt)))
made_marked Three (Unit n) f =
    (marked (high_byte n) Three (omega arith), (marked (low_byte n) Three (omega arith), ((refl, refl), tt)))

pub narrow_made : (w : Width) (t : Target) → legal_target t ≡ true → is_narrow (header_of t w) ≡ narrow w t
unfolding header_of legal_channel
narrow_made One (Channel n c) h =
    by_test (ltb c channels)
    (λ e. let l : c < channels = ltb-true c channels e in rw (e, ne_eqb c sink (λ q. omega arith)))
    (λ e. rw e (sym (rw e at h)))
narrow_made One (Unit n) h = refl
narrow_made Three (Channel n c) h = refl
narrow_made Three (Unit n) h = refl
