-- What a word is, by where it lies, and what it does past a header. Assumes nothing.
use Prim.Native.Nat.{ℕ, ◌-◌, ◌<◌, ◌≤◌}
use mathlib.Core.Path.{◌≡◌, refl}
use mathlib.Core.Bool.{true, false}
use mathlib.Core.Logic.{inl, inr, ⊎_elim}
use native.Mathlib.Decide.{ℕ_discrete}
use native.Mathlib.Omega.{arith}
use lib.Dec.{ltb, eqb}
use borrow.Author.Tests.{lt-ltb, le-ltb, ne_eqb}
use Rattle.laws.proofs.Order.{by_test, order}
use Rattle.tokens.specs.Control.{ssctrl}
use Rattle.tokens.specs.Word.{closes, control_word}
use Rattle.tokens.specs.Shape.{Shape, legal_channel, three_shape, shape_of}
use Rattle.tokens.specs.Shape as S
use Rattle.tokens.proofs.Channels.{legal_channel_lem, illegal_channel}
use Rattle.tokens.proofs.Words.{open_word, closing_word}
use Rattle.grammar.specs.Stage.{is_last, next_stage}
use Rattle.grammar.specs.declared.stage.Stage.TheVariants.{Bad, Fresh, Body}

-- below the marks of a header
pub low : (P : Shape → Type 0) (w : ℕ) → w < 0x200 → P S.Closing → P S.Body → P S.Wrong → P (shape_of w)
unfolding shape_of
low P w h a b c =
    by_test (closes w) (λ e. rw e a)
    (λ e. rw e (by_test (ltb w 0x1C2) (λ f. rw f b) (λ f. rw (f, lt-ltb w 0x200 h) c)))

pub plain : (w : ℕ) → w ≤ 0x100 → shape_of w ≡ S.Body
unfolding shape_of
plain w h = rw (open_word w (inl (omega arith)), lt-ltb w 0x1C2 (omega arith))

-- a header of one byte
module _ (w : ℕ) (h : 0x200 ≤ w) where
  past : (k : ℕ) → k ≤ 0x200 → ltb w k ≡ false
  past k l = le-ltb w k (omega arith)

  pub one : w < 0x300 → shape_of w ≡ S.OneByte
  unfolding shape_of
  one k = rw (open_word w (inr (omega arith)), past 0x1C2 (omega arith), past 0x200 (omega arith), lt-ltb w 0x300 k)

  -- marks that no token has
  pub gap : 0x300 ≤ w → w < 0x600 → shape_of w ≡ S.Wrong
  unfolding shape_of
  gap k l =
      rw (open_word w (inr (omega arith)), past 0x1C2 (omega arith), past 0x200 (omega arith), le-ltb w 0x300 k, lt-ltb w 0x600 l)

  -- a header of three bytes, its marks taken off
  pub wide : 0x600 ≤ w → shape_of w ≡ three_shape (w - 0x600)
  unfolding shape_of
  wide k =
      rw (open_word w (inr (omega arith)), past 0x1C2 (omega arith), past 0x200 (omega arith))
      (rw (le-ltb w 0x300 (omega arith), le-ltb w 0x600 k))

-- all that is no token of a header of three bytes, by its marks
pub narrow : (P : Shape → Type 0) (w : ℕ) → w < 0x600 → P S.Closing → P S.Body → P S.Wrong → P S.OneByte → P (shape_of w)
narrow P w h a b c d =
    ⊎_elim (λ l. low P w l a b c)
    (λ l. ⊎_elim (λ m. rw (one w l m) d) (λ m. rw (gap w l m h) c) (order w 0x300))
    (order w 0x200)

-- a byte of it is a channel too, or is none
pub byte : (P : Shape → Type 0) (w : ℕ) → 0x600 ≤ w → w < 0x700 → P S.Channel → P S.ThreeByte → P (shape_of w)
unfolding three_shape
byte P w h k a b =
    rw (wide w (omega arith) h)
    (by_test (legal_channel (w - 0x600)) (λ e. rw e a) (λ e. rw (e, lt-ltb (w - 0x600) 0x100 (omega arith)) b))

pub channel : (w : ℕ) → 0x600 ≤ w → legal_channel (w - 0x600) ≡ true → shape_of w ≡ S.Channel
unfolding three_shape
channel w h e = rw (wide w (omega arith) h, e)

pub no_channel : (w : ℕ) → 0x620 ≤ w → w < 0x6FF → shape_of w ≡ S.ThreeByte
unfolding three_shape
no_channel w h k =
    let none : legal_channel (w - 0x600) ≡ false = illegal_channel (w - 0x600) (omega arith) (λ e. omega arith) in
    rw (wide w (omega arith) (omega arith), none, lt-ltb (w - 0x600) 0x100 (omega arith))

-- past it SSCTRL alone is a token
pub nothing : (w : ℕ) → 0x700 ≤ w → (w ≡ 0x7C3 → ⊥) → shape_of w ≡ S.Wrong
unfolding three_shape
nothing w h n =
    let none : legal_channel (w - 0x600) ≡ false = illegal_channel (w - 0x600) (omega arith) (λ e. omega arith) in
    let unmarked : ltb (w - 0x600) 0x100 ≡ false = le-ltb (w - 0x600) 0x100 (omega arith) in
    rw (wide w (omega arith) (omega arith), none, unmarked, ne_eqb (w - 0x600) (control_word ssctrl) (λ e. n (omega arith)))

pub past_byte : (P : Shape → Type 0) (w : ℕ) → 0x700 ≤ w → P S.Wrong → P S.Unit → P (shape_of w)
unfolding shape_of three_shape legal_channel closes
past_byte P w h a b = elim (ℕ_discrete w 0x7C3) [ yes e ↦ rw e b | no e ↦ rw (nothing w h e) a ]

-- all that is past a header of one byte
pub past_one : (P : Shape → Type 0) (w : ℕ) → 0x300 ≤ w → P S.Wrong → P S.Channel → P S.ThreeByte → P S.Unit → P (shape_of w)
past_one P w h a b c d =
    ⊎_elim (λ l. rw (gap w (omega arith) h l) a)
    (λ l. ⊎_elim (λ m. byte P w l m b c) (λ m. past_byte P w m a d) (order w 0x700))
    (order w 0x600)

-- the last of a header: a channel, the sink, SSCTRL
pub low_channel : (w : ℕ) → w < 0x620 → legal_channel (w - 0x600) ≡ true
low_channel w h = (legal_channel_lem (w - 0x600)).back (inl (omega arith))

pub sink_last : true ≡ is_last (shape_of 0x6FF)
unfolding shape_of three_shape legal_channel closes
sink_last = refl

pub unit_last : true ≡ is_last (shape_of 0x7C3)
unfolding shape_of three_shape legal_channel closes
unit_last = refl

-- past a header: a token that closes nothing, END or PAUSE, a token of a header or none
pub stays : (w : ℕ) → closes w ≡ false → w < 0x1C2 → Body ≡ next_stage Body (shape_of w)
unfolding shape_of
stays w e h = rw (e, lt-ltb w 0x1C2 h)

pub closed : (w : ℕ) → 0x101 ≤ w → w ≤ 0x102 → Fresh ≡ next_stage Body (shape_of w)
unfolding shape_of
closed w h k = rw (closing_word w h k)

three_bad : (m : ℕ) → Bad ≡ next_stage Body (three_shape m)
unfolding three_shape
three_bad m =
    by_test (legal_channel m) (λ e. rw e)
    (λ e. rw e (by_test (ltb m 0x100) (λ f. rw f) (λ f. rw f (by_test (eqb m (control_word ssctrl)) (λ g. rw g) (λ g. rw g)))))

pub breaks : (w : ℕ) → 0x1C2 ≤ w → Bad ≡ next_stage Body (shape_of w)
unfolding shape_of
breaks w h =
    rw (open_word w (inr (omega arith)), le-ltb w 0x1C2 h)
    (by_test (ltb w 0x200) (λ e. rw e)
    (λ e. rw e (by_test (ltb w 0x300) (λ f. rw f) (λ f. rw f (by_test (ltb w 0x600) (λ g. rw g) (λ g. rw g (three_bad (w - 0x600))))))))
