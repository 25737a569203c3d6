-- Both forms have the two facts, computed at every token and, where the wires decide, at every state of them. Assumes nothing.
use Prim.Native.Nat.{ℕ, ◌*◌, ◌%◌, ◌<◌, ◌≤◌}
use mathlib.Core.Path.{◌≡◌, refl, ap}
use mathlib.Core.Bool.{Bool, true, false, ◌&&◌, ◌||◌}
use mathlib.Core.Logic.{inl, inr, ⊎_elim}
use mathlib.Core.List.{List}
use native.Mathlib.Decide.{ℕ_discrete}
use native.Mathlib.Omega.{arith}
use lib.Dec.{eqb}
use lib.ListN.{length, take, drop}
use borrow.Author.Tests.{eqb-true, ne_eqb, ltb-true, lt-ltb, le-ltb}
use Rattle.laws.specs.All.{all, first}
use Rattle.laws.proofs.All.{also, equal, as_is, either}
use Rattle.laws.proofs.Order.{order, never}
use Rattle.probe.specs.Wires.{changed, after, high}
use Rattle.probe.specs.Digits.{number, ones}
use Rattle.probe.specs.Form.{Form}
use Rattle.probe.specs.Serial.{serial, serial_one, serial_says}
use Rattle.probe.specs.Fast.{fast, fast_one, fast_says, link_value, special, least_of, returned, closing, control_said, symbols_say}
use Rattle.probe.specs.Calls.{form_of}
use Rattle.probe.specs.Facts.{Tells, Faithful}
use Rattle.probe.specs.declared.form.Mode.{Mode}
use Rattle.probe.specs.declared.form.Mode.TheVariants.{Serial, Fast}
use Rattle.probe.specs.declared.sequence.Said.{Said}
use Rattle.probe.specs.declared.sequence.Said.TheVariants.{Token, Return, Nothing}
use Rattle.probe.proofs.Reading.{wide}
use Rattle.probe.proofs.Tables.{at}

-- what a sequence says, as tests
abbrev is_token : Said → ℕ → Bool
is_token (Token u) t = eqb u t
is_token Return t = false
is_token Nothing t = false

abbrev is_return : Said → Bool
is_return (Token u) = false
is_return Return = true
is_return Nothing = false

is_token_lem : (s : Said) (t : ℕ) → is_token s t ≡ true → s ≡ Token t
is_token_lem (Token u) t e = ap Token (eqb-true u t e)
is_token_lem Return t e = never (cc)
is_token_lem Nothing t e = never (cc)

is_return_lem : (s : Said) → is_return s ≡ true → s ≡ Return
is_return_lem (Token u) e = never (cc)
is_return_lem Return e = refl
is_return_lem Nothing e = never (cc)

-- the facts as one test of a sequence
abbrev tells_test : Form → ℕ → List ℕ → Bool
tells_test F t q =
    (eqb (length q) F.width || (eqb (length q) (F.width * 2) && is_return (F.says (drop F.width q))))
    && is_token (F.says (take F.width q)) t

tested : (F : Form) (t : ℕ) (q : List ℕ) → tells_test F t q ≡ true → Tells F t q
tested F t q e =
    let says = as_is (is_token (F.says (take F.width q)) t) in
    let ends = as_is (is_return (F.says (drop F.width q))) in
    let m = (also (either (equal (length q) F.width) (also (equal (length q) (F.width * 2)) ends)) says).sure e in
    record {
      long = ⊎_elim (λ h. inl h) (λ h. inr (h.0, is_return_lem _ h.1)) m.0;
      said = is_token_lem _ t m.1;
    }

serial_tested : all 512 (λ t. tells_test serial t (serial_one t)) ≡ true
unfolding all number ones serial serial_one serial_says
serial_tested = refl

pub serial_faithful : Faithful serial
unfolding serial
serial_faithful =
    record {
      wide = wide Serial;
      tells = λ s t hs ht w. tested serial t (serial_one t) (at 512 (λ t. tells_test serial t (serial_one t)) serial_tested t ht);
    }

-- Fast: only END and PAUSE go by the wires
pub steady : (s t : ℕ) → t < 512 → (t ≡ 257 → ⊥) → (t ≡ 258 → ⊥) → fast_one s t ≡ fast_one 0 t
unfolding fast_one
steady s t h e p =
    ⊎_elim
    (λ (l : t < 256). rw (lt-ltb t 256 l))
    (λ (l : 256 ≤ t). rw (le-ltb t 256 l, ne_eqb (t % 256) 1 (λ q. e (omega arith)), ne_eqb (t % 256) 2 (λ q. p (omega arith))))
    (order t 256)

fast_tested : all 508 (λ t. tells_test fast t (fast_one 0 t)) ≡ true
unfolding all first changed after high number fast fast_one fast_says link_value special least_of returned closing control_said symbols_say
fast_tested = refl

closing_tested : all 32 (λ s. tells_test fast 257 (fast_one s 257) && tells_test fast 258 (fast_one s 258)) ≡ true
unfolding all first changed after high number fast fast_one fast_says link_value special least_of returned closing control_said symbols_say
closing_tested = refl

fast_tells : (s t : ℕ) → s < 32 → t < 512 → t < 508 → Tells fast t (fast_one s t)
fast_tells s t hs ht w =
    let ends = at 32 (λ s. tells_test fast 257 (fast_one s 257) && tells_test fast 258 (fast_one s 258)) closing_tested s hs in
    let two = (also (as_is (tells_test fast 257 (fast_one s 257))) (as_is (tells_test fast 258 (fast_one s 258)))).sure ends in
    elim (ℕ_discrete t 257) [
      | yes e ↦ rw e (tested fast 257 (fast_one s 257) two.0)
      | no e ↦ elim (ℕ_discrete t 258) [
        | yes p ↦ rw p (tested fast 258 (fast_one s 258) two.1)
        | no p ↦ rw (steady s t ht e p) (tested fast t (fast_one 0 t) (at 508 (λ t. tells_test fast t (fast_one 0 t)) fast_tested t w))
      ]
    ]

pub fast_faithful : Faithful fast
unfolding fast
fast_faithful = record { wide = wide Fast; tells = λ s t hs ht w. fast_tells s t hs ht (ltb-true t 508 w) }

pub faithful : (m : Mode) → Faithful (form_of m)
faithful Serial = serial_faithful
faithful Fast = fast_faithful
