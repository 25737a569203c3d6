-- Headers in a port: where the walk is once a whole one in front is opened or removed, where a header that is put takes it, and what a
-- token past a header does. Assumes nothing.
use Prim.Native.Nat.{ℕ, zero, suc, ◌+◌, ◌-◌, ◌*◌, ◌/◌, ◌%◌, ◌<◌, ◌≤◌}
use mathlib.Core.Path.{◌≡◌, refl, sym, ap, ◌∙◌}
use mathlib.Core.Bool.{true, false}
use mathlib.Core.List.{List, [], ◌∷◌, ◌++◌}
use mathlib.Core.Logic.{⊎_elim}
use native.Mathlib.Omega.{arith}
use lib.Dec.{ltb}
use lib.ListN.{length, drop}
use borrow.Author.Tests.{ltb-true, lt-ltb, eq-eqb, ne_eqb}
use Rattle.laws.specs.Pick.{pick}
use Rattle.laws.proofs.Order.{by_test, order, clash}
use Rattle.names.specs.Size.{channels, numbers}
use Rattle.names.specs.Number.{high_byte, low_byte}
use Rattle.names.specs.declared.NodeNumber.{NodeNumber}
use Rattle.tokens.specs.Word.{closes, header_word, unit_word, is_three}
use Rattle.tokens.specs.Shape.{Shape, shape_of}
use Rattle.tokens.specs.Shape as S
use Rattle.tokens.specs.Header.{compared, header_of, words, is_narrow, legal_target}
use Rattle.tokens.specs.declared.header.Target.{Target}
use Rattle.tokens.specs.declared.header.Target.TheVariants.{Channel, Unit}
use Rattle.tokens.specs.declared.header.Width.{Width}
use Rattle.tokens.specs.declared.header.Width.TheVariants.{One, Three}
use Rattle.tokens.specs.declared.header.Header.{Header}
use Rattle.tokens.specs.declared.header.Header.TheVariants as H
use Rattle.grammar.specs.Stage.{of_three, next_stage, due, is_bad, crossed}
use Rattle.grammar.specs.Walk.{walk, threes, lead}
use Rattle.grammar.specs.declared.stage.Stage.{Stage}
use Rattle.grammar.specs.declared.stage.Stage.TheVariants.{Fresh, Body, ThreeDue, TwoDue, LastDue}
use Rattle.grammar.proofs.Nexts as N
use Rattle.plans.specs.Plan.{marked_width, size_of, number_in}
use Rattle.grammar.proofs.Walks.{good_from}
use Rattle.kept.proofs.Walks.{none_due, one_less}

-- a whole header at the front, as a Step finds it
abbrev pub Whole : List ℕ → Type 0
Whole [] = ⊥
Whole (x ∷ q) = size_of (marked_width x) ≤ length (x ∷ q)

-- with k tokens of a header due, and k there or more, the first k are its, and the rest is past it
all_due : (k : ℕ) (q : List ℕ) → k ≤ length q → is_bad (walk (due k false) q) ≡ false
    → (threes q ≡ k) × (walk Body (drop k q) ≡ walk (due k false) q)
all_due zero q l h = ((none_due q h).0, refl)
all_due (suc k) [] l h = absurd (omega arith)
all_due (suc k) (x ∷ q) l h =
    let d = one_less k false (shape_of x) (good_from (next_stage (due (suc k) false) (shape_of x)) q h) in
    let r = all_due k q (omega arith) (rw d.1 at h) in
    (rw d.0 (ap suc r.0), rw d.1 r.1)

-- the first of three bytes
record First (c : Shape) : Type 0 where
  three : of_three c ≡ true
  fresh : next_stage Fresh c ≡ TwoDue
  sent : next_stage ThreeDue c ≡ TwoDue

-- what begins a circuit is a header of one byte, or the first of three, and its mark says which
begun : {P : Type 0} (x : ℕ) → is_bad (next_stage Fresh (shape_of x)) ≡ false → (is_three x ≡ false → shape_of x ≡ S.OneByte → P)
    → (is_three x ≡ true → First (shape_of x) → P)
    → P
begun {P} x h one three =
    ⊎_elim (λ l. one (ne_eqb (x / 1024 % 2) 1 (λ e. omega arith))
    (N.narrow (λ c. is_bad (next_stage Fresh c) ≡ false → c ≡ S.OneByte) x (omega arith) clash clash clash (λ b. refl) h))
    (λ l. ⊎_elim (λ m. clash (rw (N.gap x (omega arith) l m) at h))
    (λ m. ⊎_elim (λ r. three (eq-eqb (x / 1024 % 2) 1 (omega arith))
    (N.byte First x m r (record { three = refl; fresh = refl; sent = refl }) (record { three = refl; fresh = refl; sent = refl })))
    (λ r. N.past_byte (λ c. is_bad (next_stage Fresh c) ≡ false → P) x r clash clash h)
    (order x 0x700))
    (order x 0x600))
    (order x 0x300)

-- OPENED outward, or to be dropped
pub opened : (q : List ℕ) → Whole q → is_bad (walk Fresh q) ≡ false → (crossed (lead q) ≡ Fresh) × (walk (lead q) q ≡ walk Fresh q)
opened [] w h = absurd w
opened (x ∷ q) w h =
    begun x (good_from (next_stage Fresh (shape_of x)) q h)
    (λ t e. rw e (refl, refl))
    (λ t a. let d = all_due 2 q (omega (arith, rw t at w)) (rw a.fresh at h) in
    rw (a.three, d.0) (refl, ap (λ (s : Stage). walk s q) (a.sent ∙ sym a.fresh)))

-- LANDED: its header is removed
pub landed : (x : ℕ) (q : List ℕ) → Whole (x ∷ q) → is_bad (walk Fresh (x ∷ q)) ≡ false
    → walk Body (drop (size_of (marked_width x)) (x ∷ q)) ≡ walk Fresh (x ∷ q)
landed x q w h =
    begun x (good_from (next_stage Fresh (shape_of x)) q h)
    (λ t e. rw (t, e))
    (λ t a. rw (t, a.fresh) (all_due 2 q (omega (arith, rw t at w)) (rw a.fresh at h)).1)

-- MADE: the two number bytes of a header of three, and then q
number_walk : (n : NodeNumber) (q : List ℕ) → n.0 < numbers
    → walk Fresh (header_word (high_byte n) Three ∷ header_word (low_byte n) Three ∷ q) ≡ walk LastDue q
number_walk n q f =
    let a : next_stage Fresh (shape_of (header_word (high_byte n) Three)) ≡ TwoDue =
    N.byte (λ c. next_stage Fresh c ≡ TwoDue) (header_word (high_byte n) Three) (omega arith) (omega arith) refl refl in
    let b : next_stage TwoDue (shape_of (header_word (low_byte n) Three)) ≡ LastDue =
    N.byte (λ c. next_stage TwoDue c ≡ LastDue) (header_word (low_byte n) Three) (omega arith) (omega arith) refl refl in
    rw (a, b)

-- a header that its width can carry, and then r
pub header_walk : (g : Target) (w : Width) (r : List ℕ) → (number_in g).0 < numbers → legal_target g ≡ true → is_narrow (header_of g w) ≡ false
    → walk Fresh (words (header_of g w) ++ r) ≡ walk Body r
unfolding header_of
header_walk (Channel n c) One r f l b =
    by_test (ltb c channels)
    (λ e. let k : c < channels = ltb-true c channels e in
    rw (e, N.one (header_word ((compared One n).0 * channels + c) One) (omega arith) (omega arith)))
    (λ e. clash (rw e at b))
header_walk (Unit n) One r f l b = clash b
header_walk (Channel n c) Three r f l b =
    let same : header_word c Three - 0x600 ≡ c = omega arith in
    number_walk n (header_word c Three ∷ r) f ∙ rw (N.channel (header_word c Three) (omega arith) (rw same l))
header_walk (Unit n) Three r f l b = number_walk n (unit_word ∷ r) f ∙ rw (sym N.unit_last)

pub header_size : (g : Target) (w : Width) → length (words (header_of g w)) ≤ 3
header_size g w = size (header_of g w)
  where
    size : (h : Header) → length (words h) ≤ 3
    size H.Narrow = omega arith
    size (H.One a) = omega arith
    size (H.Three a b c) = omega arith

-- PAST A HEADER: data, and control that Output lets out
pub past_header_lem : (t : ℕ) → t < 0x1C2 → next_stage Body (shape_of t) ≡ pick (closes t) Fresh Body
unfolding shape_of
past_header_lem t l = by_test (closes t) (λ e. rw e) (λ e. rw (e, lt-ltb t 0x1C2 l))

pub body_good : (t : ℕ) → t < 0x1C2 → is_bad (next_stage Body (shape_of t)) ≡ false
body_good t l = rw (past_header_lem t l) (by_test (closes t) (λ e. rw e) (λ e. rw e))
