-- A circuit's header and what follows it: a made header has as many tokens as its width, none closes, the first tells the width, and a
-- switch of that width reads the destination in it; what has been handed, a token at a time, is the first so many of the whole. Assumes
-- nothing.
use Prim.{tt}
use Prim.Native.Nat.{ℕ, zero, suc, ◌+◌, ◌*◌, ◌%◌, ◌≤◌, ◌<◌}
use mathlib.Core.Path.{◌≡◌, refl, sym, ap, ◌∙◌}
use mathlib.Core.Bool.{false}
use mathlib.Core.List.{List, [], ◌∷◌, ◌++◌, append_assoc, append-nil}
use mathlib.Core.Logic.{inr}
use native.Mathlib.Omega.{arith}
use lib.ListN.{length, take, get_or}
use lib.Seq.{take-suc, length-take-le, drop-append-le, take_at, take-append_seam, take-append-add}
use borrow.Author.Tests.{lt-ltb}
use Rattle.laws.proofs.Order.{clash}
use Rattle.names.specs.Size.{channels, numbers}
use Rattle.names.specs.declared.NodeNumber.{NodeNumber}
use Rattle.names.specs.Number.{high_byte, low_byte}
use Rattle.tokens.specs.Word.{closes, is_three, wide, header_word, unit_word}
use Rattle.tokens.specs.Header.{compared, Carried, header_of, words, Reads, compared_target}
use Rattle.tokens.specs.declared.header.Width.{Width}
use Rattle.tokens.specs.declared.header.Width.TheVariants.{One, Three}
use Rattle.tokens.specs.declared.header.Header.{Header}
use Rattle.tokens.specs.declared.header.Target.{Target}
use Rattle.tokens.proofs.Words.{header_open, open_word}
use Rattle.tokens.proofs.Headers.{read_made, made_marked}
use Rattle.plans.specs.Plan.{size_of, number_in}
use Rattle.streams.specs.Model.{keeps, no_pause, body, Plain, place_of, encode, read_in}
use Rattle.tokens.specs.declared.header.Target.TheVariants as Targets
use Rattle.tokens.specs.declared.header.Header.TheVariants as H

-- HEADERS
pub size_pos : (w : Width) → 0 < size_of w
size_pos One = omega arith
size_pos Three = omega arith

unit_open : closes unit_word ≡ false
unit_open = open_word unit_word (inr (omega arith))

-- a header as a list that is not empty
pub record Encoded (w : Width) (d : Target) : Type 0 where
  pub t : ℕ
  pub ts : List ℕ
  pub is : encode w d ≡ t ∷ ts
  pub size : length (encode w d) ≡ size_of w
  pub plain : Plain (t ∷ ts)
  pub marked : is_three t ≡ wide w

pub encoded : (w : Width) (d : Target) → Carried w d → Encoded w d
unfolding header_of
encoded One (Targets.Channel n c) (f, l) =
    let e = lt-ltb c channels l in
    let m = rw e at (made_marked One (Targets.Channel n c) (f, l)) in
    let v : ℕ = (compared One n).0 * channels + c in
    record { t = header_word v One; ts = []; is = rw e; size = rw e; plain = (header_open v (omega arith) One, tt); marked = m.0.1 }
encoded One (Targets.Unit n) h = absurd h
encoded Three (Targets.Channel n c) (f, l) =
    let m = made_marked Three (Targets.Channel n c) (f, l) in
    record {
      t = _;
      ts = _ ∷ _ ∷ [];
      is = refl;
      size = refl;
      plain = (header_open (high_byte n) (omega arith) Three, (header_open (low_byte n) (omega arith) Three, (header_open c l Three, tt)));
      marked = m.0.1;
    }
encoded Three (Targets.Unit n) f =
    let m = made_marked Three (Targets.Unit n) f in
    record {
      t = _;
      ts = _ ∷ _ ∷ [];
      is = refl;
      size = refl;
      plain = (header_open (high_byte n) (omega arith) Three, (header_open (low_byte n) (omega arith) Three, (unit_open, tt)));
      marked = m.0.1;
    }

wide_same : (u w : Width) → wide u ≡ wide w → u ≡ w
wide_same One One e = refl
wide_same One Three e = clash (sym e)
wide_same Three One e = clash e
wide_same Three Three e = refl

-- a header in front, with the mark and the size of a width, is the one that was put there
pub same_header : (u w : Width) (d : Target) (more : List ℕ) (t : ℕ) (ts r : List ℕ)
    → Carried u d
    → encode u d ++ more ≡ (t ∷ ts) ++ r
    → is_three t ≡ wide w
    → length (t ∷ ts) ≡ size_of w
    → (u ≡ w) × (t ∷ ts ≡ encode u d)
same_header u w d more t ts r ca e mk sz =
    let en = encoded u d ca in
    let first : en.t ≡ t = let x : (en.t ∷ en.ts) ++ more ≡ (t ∷ ts) ++ r = rw en.is at e in cc in
    let uw : u ≡ w = wide_same u w (sym en.marked ∙ ap is_three first ∙ mk) in
    let len : length (encode u d) ≡ suc (length ts) = en.size ∙ ap size_of uw ∙ sym sz in
    let whole : take (suc (length ts)) (encode u d ++ more) ≡ encode u d = take_at (encode u d) more (suc (length ts)) len in
    (uw, sym (take-append_seam (t ∷ ts) r) ∙ ap (take (suc (length ts))) (sym e) ∙ whole)

-- reading words that are as many as the width has
read_words : (w : Width) (h : Header) (t : Target) → length (words h) ≡ size_of w → Reads h t → read_in w (words h) ≡ t
read_words w H.Narrow t l r = absurd r
read_words One (H.One a) t l r = r
read_words Three (H.One a) t l r = absurd (omega arith)
read_words One (H.Three a b c) t l r = absurd (omega arith)
read_words Three (H.Three a b c) t l r = r

compared_twice : (w : Width) (k : NodeNumber) → compared w (compared w k) ≡ compared w k
compared_twice One k = let e : k.0 % 8 % 8 ≡ k.0 % 8 = omega arith in λ i. record { 0 = e i }
compared_twice Three k = let e : k.0 % numbers % numbers ≡ k.0 % numbers = omega arith in λ i. record { 0 = e i }

same_place : (w : Width) (d : Target) → place_of (compared_target w d) ≡ place_of d
same_place w (Targets.Channel n c) = refl
same_place w (Targets.Unit n) = refl

same_number : (w : Width) (d : Target) → number_in (compared_target w d) ≡ compared w (number_in d)
same_number w (Targets.Channel n c) = refl
same_number w (Targets.Unit n) = refl

-- a header read back names the destination that it was made from
pub read_back : (w : Width) (d : Target) → Carried w d
    → (place_of (read_in w (encode w d)) ≡ place_of d) × (compared w (number_in (read_in w (encode w d))) ≡ compared w (number_in d))
read_back w d ca =
    let r : read_in w (encode w d) ≡ compared_target w d =
    read_words w (header_of d w) (compared_target w d) (encoded w d ca).size (read_made w d ca) in
    (ap place_of r ∙ same_place w d, ap (λ g. compared w (number_in g)) r ∙ ap (compared w) (same_number w d) ∙ compared_twice w (number_in d))

-- WHAT IS HANDED
pub no_pause_snoc : (s : List ℕ) (x : ℕ) → no_pause (s ++ (x ∷ [])) ≡ no_pause s ++ keeps x
no_pause_snoc [] x = append-nil (keeps x)
no_pause_snoc (t ∷ ts) x = rw (no_pause_snoc ts x, append_assoc (keeps t) (no_pause ts) (keeps x))

-- one more token taken from a circuit's stream
pub body_step : (k : ℕ) (s : List ℕ) (i x : ℕ) → k ≤ i → i < length s → get_or s i 0 ≡ x
    → body k (take (suc i) s) ≡ body k (take i s) ++ keeps x
body_step k s i x p h e =
    let q : k ≤ length (take i s) = rw (length-take-le i s (omega arith)) p in
    rw (take-suc s i 0 h, e, drop-append-le k (take i s) (x ∷ []) q, no_pause_snoc)

pub body_none : (k : ℕ) (s : List ℕ) → body k (take k s) ≡ []
body_none zero s = refl
body_none (suc k) [] = refl
body_none (suc k) (t ∷ ts) = body_none k ts

-- of a front of the stream, the body is a front of the body
no_pause_take : (i : ℕ) (s : List ℕ) → (m : ℕ) × (no_pause (take i s) ≡ take m (no_pause s))
no_pause_take zero s = (0, refl)
no_pause_take (suc i) [] = (0, refl)
no_pause_take (suc i) (x ∷ xs) =
    let (m, e) = no_pause_take i xs in
    (length (keeps x) + m, rw (take-append-add (keeps x) (no_pause xs) m, e))

pub body_take : (k i : ℕ) (s : List ℕ) → (m : ℕ) × (body k (take i s) ≡ take m (body k s))
body_take zero i s = no_pause_take i s
body_take (suc k) zero s = (0, refl)
body_take (suc k) (suc i) [] = (0, refl)
body_take (suc k) (suc i) (x ∷ xs) = body_take k i xs
