-- "tokens and headers are legal": a whole header of the sentence is what the header of some destination is made of, and every destination's
-- header is one. Assumes nothing.
use Prim.Native.Nat.{ℕ, ◌+◌, ◌*◌, ◌/◌, ◌%◌, ◌<◌}
use mathlib.Core.Path.{◌≡◌, refl, sym, ap, subst}
use mathlib.Core.Bool.{true}
use mathlib.Core.List.{List, [], ◌∷◌}
use mathlib.Core.Logic.{◌⊎◌, inl, inr}
use native.Mathlib.Omega.{arith}
use lib.Dec.{ltb}
use borrow.Author.Tests.{ltb-true, lt-ltb}
use Rattle.laws.proofs.Order.{by_test, never}
use Rattle.names.specs.Size.{channels, sink, numbers}
use Rattle.names.specs.Number.{high_byte, low_byte}
use Rattle.names.specs.declared.NodeNumber.{NodeNumber}
use Rattle.tokens.specs.Word.{header_word}
use Rattle.tokens.specs.Header.{header_of, words, compared}
use Rattle.tokens.specs.declared.header.Target.{Target}
use Rattle.tokens.specs.declared.header.Target.TheVariants.{Channel, Unit}
use Rattle.tokens.specs.declared.header.Width.{Width}
use Rattle.tokens.specs.declared.header.Width.TheVariants.{One, Three}
use Rattle.tokens.specs.declared.header.Header.TheVariants as H
use Rattle.clauses.specs.Sentences.{Byte, Last, Header, one, three}

-- a destination that Aim takes: a number of sixteen bits, a channel 0..31 or 255
abbrev pub Legal : Target → Type 0
Legal (Channel n c) = (n.0 < numbers) × ((c < channels) ⊎ (c ≡ sink))
Legal (Unit n) = n.0 < numbers

-- the words of its header at a width that can carry it
pub record Destined (h : List ℕ) : Type 0 where
  pub target : Target
  pub width : Width
  pub legal : Legal target
  pub carried : header_of target width ≡ H.Narrow → ⊥
  pub same : h ≡ words (header_of target width)

alike : {a b c x y z : ℕ} → a ≡ x → b ≡ y → c ≡ z → (a ∷ b ∷ c ∷ []) ≡ (x ∷ y ∷ z ∷ [])
alike e f g = λ i. e i ∷ f i ∷ g i ∷ []

narrow : (a : ℕ) → Byte One a → Destined (a ∷ [])
unfolding header_of
narrow a k =
    let v = k.value in
    let l = k.legal in
    let q = k.word in
    let t : ltb (v % 32) channels ≡ true = lt-ltb (v % 32) channels (omega arith) in
    let s : a ≡ header_word (v / 32 % 8 * channels + v % 32) One = omega arith in
    record {
      target = Channel (record { 0 = v / 32 }) (v % 32);
      width = One;
      legal = (omega arith, inl (omega arith));
      carried = λ e. let z : H.One (header_word (v / 32 % 8 * channels + v % 32) One) ≡ H.Narrow = rw t at e in never (cc);
      same = rw t (ap (λ (x : ℕ). x ∷ []) s);
    }

broad : (a b c : ℕ) → Byte Three a → Byte Three b → Last c → Destined (a ∷ b ∷ c ∷ [])
unfolding header_of
broad a b c k j (inl m) =
    let u = k.legal in
    let v = j.legal in
    let q = k.word in
    let r = j.word in
    let n = k.value * 256 + j.value in
    record {
      target = Channel (record { 0 = n }) m.channel;
      width = Three;
      legal = (omega arith, m.legal);
      carried = λ e. never (cc);
      same = alike {x = header_word (n / 256) Three} {y = header_word (n % 256) Three} (omega arith) (omega arith) m.word;
    }
broad a b c k j (inr m) =
    let u = k.legal in
    let v = j.legal in
    let q = k.word in
    let r = j.word in
    let n = k.value * 256 + j.value in
    record {
      target = Unit (record { 0 = n });
      width = Three;
      legal = omega arith;
      carried = λ e. never (cc);
      same = alike {x = header_word (n / 256) Three} {y = header_word (n % 256) Three} (omega arith) (omega arith) m;
    }

pub destined : {h : List ℕ} → Header h → Destined h
destined (one {a = a} k) = narrow a k
destined (three {a = a} {b = b} {c = c} k j m) = broad a b c k j m

-- the two number bytes
module _ (n : NodeNumber) (h : n.0 < numbers) where
  high : Byte Three (header_word (high_byte n) Three)
  high = record { value = n.0 / 256; legal = omega arith; word = refl }

  low : Byte Three (header_word (low_byte n) Three)
  low = record { value = n.0 % 256; legal = omega arith; word = refl }

made : (t : Target) (k : Width) → Legal t → (header_of t k ≡ H.Narrow → ⊥) → Header (words (header_of t k))
unfolding header_of
made (Channel n c) One l h =
    by_test (ltb c channels)
    (λ e. let z = ltb-true c channels e in
    rw e (one (record { value = (compared One n).0 * channels + c; legal = omega arith; word = refl })))
    (λ e. absurd (h (rw e)))
made (Channel n c) Three l h = three (high n l.0) (low n l.0) (inl (record { channel = c; legal = l.1; word = refl }))
made (Unit n) One l h = absurd (h refl)
made (Unit n) Three l h = three (high n l) (low n l) (inr refl)

pub has_header : {h : List ℕ} → Destined h → Header h
has_header d = subst Header (sym d.same) (made d.target d.width d.legal d.carried)
