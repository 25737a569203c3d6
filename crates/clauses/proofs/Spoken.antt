-- The paper's sentence on a port's contents, both ways: the walk over a port's tokens, and on over those that are coming to it, ends well
-- exactly where they are what the sentence says. Assumes nothing.
use Prim.{Unit}
use Prim.Native.Nat.{ℕ, zero, suc, ◌-◌, ◌<◌, ◌≤◌}
use mathlib.Core.Path.{◌≡◌, refl, sym, ap, ◌∙◌, subst}
use mathlib.Core.Bool.{Bool, true, false, not}
use mathlib.Core.List.{List, [], ◌∷◌, ◌++◌}
use mathlib.Core.Logic.{◌⊎◌, inl, inr, ⊎_elim}
use native.Mathlib.Omega.{arith}
use lib.Dec.{eqb, ltb}
use lib.ListN.{length}
use borrow.Author.Tests.{ltb-true, ltb-false, lt-ltb, eqb-true, ne_eqb, not-true}
use Rattle.laws.specs.All.{Means}
use Rattle.laws.specs.Pick.{pick}
use Rattle.laws.proofs.All.{either, equal}
use Rattle.laws.proofs.Order.{by_test, order, clash}
use Rattle.tokens.specs.Control.{end, pause, ssctrl}
use Rattle.tokens.specs.Word.{closes, control_word}
use Rattle.tokens.specs.Shape.{Shape, legal_channel, three_shape, shape_of}
use Rattle.tokens.specs.Shape as S
use Rattle.tokens.specs.declared.header.Width.TheVariants.{One, Three}
use Rattle.tokens.proofs.Words.{open_word}
use Rattle.tokens.proofs.Channels.{legal_channel_lem}
use Rattle.circuits.specs.declared.Hop.{Hop}
use Rattle.circuits.specs.declared.Hop.TheVariants as Hops
use Rattle.grammar.specs.Stage.{of_three, of_one, next_stage, due, is_bad}
use Rattle.grammar.specs.Walk.{walk, threes, begins_one, lead, back_of}
use Rattle.grammar.specs.declared.stage.Stage.{Stage}
use Rattle.grammar.specs.declared.stage.Stage.TheVariants as At
use Rattle.grammar.proofs.Nexts as Nexts
use Rattle.grammar.proofs.Walks.{walk_append, good_from}
use Rattle.clauses.specs.Sentences.{Plain, Closing, Byte, Last, Holds}
use Rattle.clauses.specs.Sentences.{Header, one, three, first, second, Rest, Body, none, more}
use Rattle.clauses.specs.Sentences.{Streams, empty, short, Onward, Led, led}
use Rattle.clauses.specs.Sentences as Say

-- What a word is, by its shape

abbrev Says : ℕ → Shape → Type 0
Says w S.Wrong = Unit
Says w S.Body = Plain w
Says w S.Closing = Closing w
Says w S.OneByte = Byte One w
Says w S.ThreeByte = Byte Three w
Says w S.Channel = Byte Three w × Last w
Says w S.Unit = Last w

by_pick : (P : Shape → Type 0) (b : Bool) (x y : Shape) → (b ≡ true → P x) → (b ≡ false → P y) → P (pick b x y)
by_pick P true x y f g = f refl
by_pick P false x y f g = g refl

pub closing : (w : ℕ) → Means (closes w) (Closing w)
unfolding closes
closing w = either (equal w (control_word end)) (equal w (control_word pause))

pub plain_word : (w : ℕ) → closes w ≡ false → w < 0x1C2 → Plain w
plain_word w e h =
    let closes-not : Closing w → ⊥ = λ k. clash (sym ((closing w).back k) ∙ e) in
    ⊎_elim (λ l. inl (record { value = w; legal = l; word = omega arith }))
    (λ l. inr (record {
      value = w - 256;
      legal = omega arith;
      no_end = λ q. closes-not (inl (omega arith));
      no_pause = λ q. closes-not (inr (omega arith));
      word = omega arith;
    }))
    (order w 256)

module _ (w : ℕ) (h : 0x600 ≤ w) where
  three_byte : w - 0x600 < 256 → Byte Three w
  three_byte l = record { value = w - 0x600; legal = l; word = omega arith }

  channel_byte : (w - 0x600 < 32) ⊎ (w - 0x600 ≡ 255) → Byte Three w × Last w
  channel_byte l =
      (three_byte (⊎_elim (λ k. omega arith) (λ k. omega arith) l), inl (record { channel = w - 0x600; legal = l; word = omega arith }))

  says_three : Says w (three_shape (w - 0x600))
  unfolding three_shape
  says_three =
      let m = w - 0x600 in
      by_pick (Says w) (legal_channel m) _ _ (λ e. channel_byte ((legal_channel_lem m).sure e))
      (λ e. by_pick (Says w) (ltb m 0x100) _ _ (λ f. three_byte (ltb-true m 0x100 f))
      (λ f. by_pick (Says w) (eqb m (control_word ssctrl)) _ _ (λ g. inr (omega (arith, eqb-true m (control_word ssctrl) g))) (λ g. tt)))

says : (w : ℕ) → Says w (shape_of w)
unfolding shape_of
says w =
    by_pick (Says w) (closes w) _ _ (closing w).sure
    (λ a. by_pick (Says w) (ltb w 0x1C2) _ _ (λ b. plain_word w a (ltb-true w 0x1C2 b))
    (λ b. by_pick (Says w) (ltb w 0x200) _ _ (λ c. tt)
    (λ c. by_pick (Says w) (ltb w 0x300) _ _ (λ d. one_byte (ltb-false w 0x200 c) (ltb-true w 0x300 d))
    (λ d. by_pick (Says w) (ltb w 0x600) _ _ (λ f. tt) (λ f. says_three w (ltb-false w 0x600 f))))))
  where
    one_byte : 0x200 ≤ w → w < 0x300 → Byte One w
    one_byte l k = record { value = w - 0x200; legal = omega arith; word = omega arith }

-- .. and back

-- a plain token closes nothing, and is none of the control tokens that Output refuses
pub plain_open : (w : ℕ) → Plain w → (closes w ≡ false) × (w < 0x1C2)
unfolding closes
plain_open w (inl d) = let q = d.word in (open_word w (inl (omega arith)), omega arith)
plain_open w (inr c) =
    let q = c.word in
    let a : (w ≡ control_word end) → ⊥ = λ e. c.no_end (omega arith) in
    let b : (w ≡ control_word pause) → ⊥ = λ e. c.no_pause (omega arith) in
    (rw (ne_eqb w (control_word end) a, ne_eqb w (control_word pause) b), omega arith)

plain_shape : (w : ℕ) → Plain w → shape_of w ≡ S.Body
unfolding shape_of
plain_shape w k = let z = plain_open w k in rw (z.0, lt-ltb w 0x1C2 z.1)

closing_shape : (w : ℕ) → Closing w → shape_of w ≡ S.Closing
unfolding shape_of
closing_shape w k = rw ((closing w).back k)

one_shape : (w : ℕ) → Byte One w → shape_of w ≡ S.OneByte
one_shape w b = let q = b.word in Nexts.one w (omega arith) (omega arith)

byte_shape : (P : Shape → Type 0) (w : ℕ) → Byte Three w → P S.Channel → P S.ThreeByte → P (shape_of w)
byte_shape P w b x y = let q = b.word in Nexts.byte P w (omega arith) (omega arith) x y

last_shape : (P : Shape → Type 0) (w : ℕ) → Last w → P S.Channel → P S.Unit → P (shape_of w)
unfolding shape_of three_shape legal_channel closes
last_shape P w (inl b) x y =
    let q = b.word in
    let e : w - 0x600 ≡ b.channel = omega arith in
    subst P (sym (Nexts.channel w (omega arith) (rw e ((legal_channel_lem b.channel).back b.legal)))) x
last_shape P w (inr e) x y = rw e y

-- A walk that ends well

-- what may stand where a header lacks its last token, its last two, or a one_byte header or all three
data OneMore : List ℕ → Type 0 where
  nothing : OneMore []
  last : {c : ℕ} {q : List ℕ} → Last c → Onward q → OneMore (c ∷ q)

data TwoMore : List ℕ → Type 0 where
  nothing : TwoMore []
  byte : {b : ℕ} {q : List ℕ} → Byte Three b → OneMore q → TwoMore (b ∷ q)

data ThreeMore : List ℕ → Type 0 where
  nothing : ThreeMore []
  byte : {a : ℕ} {q : List ℕ} → Byte Three a → TwoMore q → ThreeMore (a ∷ q)

data Narrow : List ℕ → Type 0 where
  nothing : Narrow []
  byte : {a : ℕ} {q : List ℕ} → Byte One a → Onward q → Narrow (a ∷ q)

-- what may stand from each stage on
abbrev Fits : Stage → List ℕ → Type 0
Fits At.Bad q = ⊥
Fits At.Fresh q = Streams q
Fits At.Body q = Onward q
Fits At.OneDue q = Narrow q
Fits At.ThreeDue q = ThreeMore q
Fits At.TwoDue q = TwoMore q
Fits At.LastDue q = OneMore q

headed : {h q : List ℕ} → Header h → Onward q → Streams (h ++ q)
headed h (Say.Onward.begun b) = Say.Streams.begun h b
headed h (Say.Onward.closed b c s) = Say.Streams.closed h b c s

begins : {a : ℕ} {q : List ℕ} → Byte Three a → TwoMore q → Streams (a ∷ q)
begins a nothing = short (first a)
begins a (byte b nothing) = short (second a b)
begins a (byte b (last c o)) = headed (three a b c) o

goes_on_lem : {w : ℕ} {q : List ℕ} → Plain w → Onward q → Onward (w ∷ q)
goes_on_lem p (Say.Onward.begun b) = Say.Onward.begun (more p b)
goes_on_lem p (Say.Onward.closed b c s) = Say.Onward.closed (more p b) c s

-- one word more in front
module _ (w : ℕ) (q : List ℕ) where
  at_fresh : (c : Shape) → Says w c → Fits (next_stage At.Fresh c) q → Streams (w ∷ q)
  at_fresh S.Wrong k f = absurd f
  at_fresh S.Body k f = absurd f
  at_fresh S.Closing k f = absurd f
  at_fresh S.OneByte k f = headed (one k) f
  at_fresh S.ThreeByte k f = begins k f
  at_fresh S.Channel k f = begins k.0 f
  at_fresh S.Unit k f = absurd f

  at_body : (c : Shape) → Says w c → Fits (next_stage At.Body c) q → Onward (w ∷ q)
  at_body S.Wrong k f = absurd f
  at_body S.Body k f = goes_on_lem k f
  at_body S.Closing k f = Say.Onward.closed none k f
  at_body S.OneByte k f = absurd f
  at_body S.ThreeByte k f = absurd f
  at_body S.Channel k f = absurd f
  at_body S.Unit k f = absurd f

  at_one : (c : Shape) → Says w c → Fits (next_stage At.OneDue c) q → Narrow (w ∷ q)
  at_one S.Wrong k f = absurd f
  at_one S.Body k f = absurd f
  at_one S.Closing k f = absurd f
  at_one S.OneByte k f = Narrow.byte k f
  at_one S.ThreeByte k f = absurd f
  at_one S.Channel k f = absurd f
  at_one S.Unit k f = absurd f

  at_three : (c : Shape) → Says w c → Fits (next_stage At.ThreeDue c) q → ThreeMore (w ∷ q)
  at_three S.Wrong k f = absurd f
  at_three S.Body k f = absurd f
  at_three S.Closing k f = absurd f
  at_three S.OneByte k f = absurd f
  at_three S.ThreeByte k f = ThreeMore.byte k f
  at_three S.Channel k f = ThreeMore.byte k.0 f
  at_three S.Unit k f = absurd f

  at_two : (c : Shape) → Says w c → Fits (next_stage At.TwoDue c) q → TwoMore (w ∷ q)
  at_two S.Wrong k f = absurd f
  at_two S.Body k f = absurd f
  at_two S.Closing k f = absurd f
  at_two S.OneByte k f = absurd f
  at_two S.ThreeByte k f = TwoMore.byte k f
  at_two S.Channel k f = TwoMore.byte k.0 f
  at_two S.Unit k f = absurd f

  at_last : (c : Shape) → Says w c → Fits (next_stage At.LastDue c) q → OneMore (w ∷ q)
  at_last S.Wrong k f = absurd f
  at_last S.Body k f = absurd f
  at_last S.Closing k f = absurd f
  at_last S.OneByte k f = absurd f
  at_last S.ThreeByte k f = absurd f
  at_last S.Channel k f = last k.1 f
  at_last S.Unit k f = last k f

  one_more : (s : Stage) → Fits (next_stage s (shape_of w)) q → Fits s (w ∷ q)
  one_more At.Bad f = f
  one_more At.Fresh f = at_fresh (shape_of w) (says w) f
  one_more At.Body f = at_body (shape_of w) (says w) f
  one_more At.OneDue f = at_one (shape_of w) (says w) f
  one_more At.ThreeDue f = at_three (shape_of w) (says w) f
  one_more At.TwoDue f = at_two (shape_of w) (says w) f
  one_more At.LastDue f = at_last (shape_of w) (says w) f

none_left : (s : Stage) → is_bad s ≡ false → Fits s []
none_left At.Bad e = clash e
none_left At.Fresh e = empty
none_left At.Body e = Say.Onward.begun none
none_left At.OneDue e = Narrow.nothing
none_left At.ThreeDue e = ThreeMore.nothing
none_left At.TwoDue e = TwoMore.nothing
none_left At.LastDue e = OneMore.nothing

fits : (q : List ℕ) (s : Stage) → is_bad (walk s q) ≡ false → Fits s q
fits [] s e = none_left s e
fits (w ∷ q) s e = one_more w q s (fits q (next_stage s (shape_of w)) e)

-- a circuit that is sent on, or dropped, with what is left of its header in front

threes_within : (q : List ℕ) → threes q ≤ length q
threes_within [] = omega arith
threes_within (w ∷ q) = let h = threes_within q in by_test (of_three (shape_of w)) (λ e. rw e (omega arith)) (λ e. rw e (omega arith))

-- .. in a port by itself
data Leading : List ℕ → Type 0 where
  leading : {h q : List ℕ} → Rest h → Onward q → Leading (h ++ q)

all_gone : Rest []
all_gone = record { gone = 0x200 ∷ []; header = one (record { value = 0; legal = omega arith; word = refl }) }

any_byte : Byte Three 0x600
any_byte = record { value = 0; legal = omega arith; word = refl }

past_it : {q : List ℕ} → Onward q → Leading q
past_it o = leading {h = []} all_gone o

nothing_held : Leading []
nothing_held = past_it (Say.Onward.begun none)

led_narrow : {q : List ℕ} → Narrow q → Leading q
led_narrow nothing = nothing_held
led_narrow (byte a o) = leading (record { gone = []; header = one a }) o

led_last : {q : List ℕ} → OneMore q → Leading q
led_last nothing = nothing_held
led_last (last c o) = leading (record { gone = 0x600 ∷ 0x600 ∷ []; header = three any_byte any_byte c }) o

led_two : {q : List ℕ} → TwoMore q → threes q ≡ 2 → Leading q
led_two nothing e = nothing_held
led_two (byte {b = b} k nothing) e = let h = threes_within (b ∷ []) in absurd (omega arith)
led_two (byte b (last c o)) e = leading (record { gone = 0x600 ∷ []; header = three any_byte b c }) o

led_three : {q : List ℕ} → ThreeMore q → threes q ≡ 3 → Leading q
led_three nothing e = nothing_held
led_three (byte {a = a} k nothing) e = let h = threes_within (a ∷ []) in absurd (omega arith)
led_three (byte {a = a} k (byte {b = b} l nothing)) e = let h = threes_within (a ∷ b ∷ []) in absurd (omega arith)
led_three (byte a (byte b (last c o))) e = leading (record { gone = []; header = three a b c }) o

leads : (q : List ℕ) (k : ℕ) (b : Bool) → threes q ≡ k → is_bad (walk (due k b) q) ≡ false → Leading q
leads q zero true e h = led_narrow (fits q At.OneDue h)
leads q zero false e h = past_it (fits q At.Body h)
leads q (suc zero) b e h = led_last (fits q At.LastDue h)
leads q (suc (suc zero)) b e h = led_two (fits q At.TwoDue h) e
leads q (suc (suc (suc zero))) b e h = led_three (fits q At.ThreeDue h) e
leads q (suc (suc (suc (suc k)))) b e h = absurd (fits q At.Bad h)

-- What the sentence says is walked over well

module _ (w : ℕ) where
  plain_next : Plain w → next_stage At.Body (shape_of w) ≡ At.Body
  plain_next k = rw (plain_shape w k)

  closing_next : Closing w → next_stage At.Body (shape_of w) ≡ At.Fresh
  closing_next k = rw (closing_shape w k)

  one_next : Byte One w → next_stage At.Fresh (shape_of w) ≡ At.Body
  one_next k = rw (one_shape w k)

  first_next : Byte Three w → next_stage At.Fresh (shape_of w) ≡ At.TwoDue
  first_next k = byte_shape (λ c. next_stage At.Fresh c ≡ At.TwoDue) w k refl refl

  third_next : Byte Three w → next_stage At.ThreeDue (shape_of w) ≡ At.TwoDue
  third_next k = byte_shape (λ c. next_stage At.ThreeDue c ≡ At.TwoDue) w k refl refl

  second_next : Byte Three w → next_stage At.TwoDue (shape_of w) ≡ At.LastDue
  second_next k = byte_shape (λ c. next_stage At.TwoDue c ≡ At.LastDue) w k refl refl

  last_next : Last w → next_stage At.LastDue (shape_of w) ≡ At.Body
  last_next k = last_shape (λ c. next_stage At.LastDue c ≡ At.Body) w k refl refl

  -- a token of a three-byte header in front is one more
  module _ (q : List ℕ) where
    byte_counts : Byte Three w → threes (w ∷ q) ≡ suc (threes q)
    byte_counts k = byte_shape (λ c. pick (of_three c) (suc (threes q)) 0 ≡ suc (threes q)) w k refl refl

    last_counts : Last w → threes (w ∷ q) ≡ suc (threes q)
    last_counts k = last_shape (λ c. pick (of_three c) (suc (threes q)) 0 ≡ suc (threes q)) w k refl refl

-- over a stage, a word and the words past it
over : {s t : Stage} (q : List ℕ) → s ≡ t → walk s q ≡ walk t q
over q e = ap (λ (s : Stage). walk s q) e

past_two : {b c : ℕ} (q : List ℕ) → Byte Three b → Last c → walk At.TwoDue (b ∷ c ∷ q) ≡ walk At.Body q
past_two {b} {c} q k l = over (c ∷ q) (second_next b k) ∙ over q (last_next c l)

past_header_lem : {h : List ℕ} (q : List ℕ) → Header h → walk At.Fresh (h ++ q) ≡ walk At.Body q
past_header_lem q (one {a = a} k) = over q (one_next a k)
past_header_lem q (three {a = a} {b = b} {c = c} k l m) = over (b ∷ c ∷ q) (first_next a k) ∙ past_two q l m

past_body : {b : List ℕ} (q : List ℕ) → Body b → walk At.Body (b ++ q) ≡ walk At.Body q
past_body q none = refl
past_body q (more {w = w} {q = r} k b) = over (r ++ q) (plain_next w k) ∙ past_body q b

body_good : {b : List ℕ} → Body b → is_bad (walk At.Body b) ≡ false
body_good none = refl
body_good (more {w = w} {q = r} k b) = ap is_bad (over r (plain_next w k)) ∙ body_good b

closed_good : {b : List ℕ} (w : ℕ) (q : List ℕ) → Body b → Closing w → is_bad (walk At.Fresh q) ≡ false
    → is_bad (walk At.Body (b ++ (w ∷ q))) ≡ false
closed_good w q b k e = ap is_bad (past_body (w ∷ q) b ∙ over q (closing_next w k)) ∙ e

streams_good : {q : List ℕ} → Streams q → is_bad (walk At.Fresh q) ≡ false
streams_good empty = refl
streams_good (short (first {a = a} k)) = ap is_bad (first_next a k)
streams_good (short (second {a = a} {b = b} k l)) = ap is_bad (over (b ∷ []) (first_next a k) ∙ second_next b l)
streams_good (Say.Streams.begun {b = b} h k) = ap is_bad (past_header_lem b h) ∙ body_good k
streams_good (Say.Streams.closed {b = b} {w = w} {q = q} h k c s) =
    ap is_bad (past_header_lem (b ++ (w ∷ q)) h) ∙ closed_good w q k c (streams_good s)

onward_good : {q : List ℕ} → Onward q → is_bad (walk At.Body q) ≡ false
onward_good (Say.Onward.begun b) = body_good b
onward_good (Say.Onward.closed {w = w} {q = q} b c s) = closed_good w q b c (streams_good s)

-- what can be left of a header
data Left : List ℕ → Type 0 where
  nothing : Left []
  narrow : {a : ℕ} → Byte One a → Left (a ∷ [])
  last : {c : ℕ} → Last c → Left (c ∷ [])
  two : {b c : ℕ} → Byte Three b → Last c → Left (b ∷ c ∷ [])
  whole : {a b c : ℕ} → Byte Three a → Byte Three b → Last c → Left (a ∷ b ∷ c ∷ [])

abbrev behind : List ℕ → List ℕ
behind [] = []
behind (w ∷ q) = q

shorter : {q : List ℕ} → Left q → Left (behind q)
shorter nothing = Left.nothing
shorter (narrow a) = Left.nothing
shorter (last c) = Left.nothing
shorter (two b c) = Left.last c
shorter (whole a b c) = two b c

of_header : {h : List ℕ} → Header h → Left h
of_header (one a) = narrow a
of_header (three a b c) = whole a b c

when_gone : (g : List ℕ) {q : List ℕ} → Left (g ++ q) → Left q
when_gone [] l = l
when_gone (w ∷ g) l = when_gone g (shorter l)

-- past a header no token of one stands in front
no_threes : {q : List ℕ} → Onward q → threes q ≡ 0
no_threes (Say.Onward.begun none) = refl
no_threes (Say.Onward.begun (more {w = w} k b)) = rw (plain_shape w k)
no_threes (Say.Onward.closed {w = w} none c s) = rw (closing_shape w c)
no_threes (Say.Onward.closed (more {w = w} k b) c s) = rw (plain_shape w k)

no_one : {q : List ℕ} → Onward q → begins_one q ≡ false
no_one (Say.Onward.begun none) = refl
no_one (Say.Onward.begun (more {w = w} k b)) = rw (plain_shape w k)
no_one (Say.Onward.closed {w = w} none c s) = rw (closing_shape w c)
no_one (Say.Onward.closed (more {w = w} k b) c s) = rw (plain_shape w k)

-- with k tokens in front the walk starts where so many are due
counted : {k : ℕ} {t : Stage} (q : List ℕ) → threes q ≡ k → walk (due k (begins_one q)) q ≡ t → walk (lead q) q ≡ t
counted q e h = rw e h

-- the walk past what is left of a header is in the body
past_left : {h q : List ℕ} → Left h → Onward q → walk (lead (h ++ q)) (h ++ q) ≡ walk At.Body q
past_left nothing o = rw (no_threes o, no_one o)
past_left {q = q} (narrow {a = a} k) o =
    subst (λ (c : Shape). walk (next_stage (due (pick (of_three c) (suc (threes q)) 0) (of_one c)) c) q ≡ walk At.Body q)
    (sym (one_shape a k)) refl
past_left {q = q} (last {c = c} m) o =
    counted (c ∷ q) (last_counts c q m ∙ ap suc (no_threes o)) (over q (last_next c m))
past_left {q = q} (two {b = b} {c = c} l m) o =
    counted (b ∷ c ∷ q) (byte_counts b (c ∷ q) l ∙ ap suc (last_counts c q m ∙ ap suc (no_threes o))) (past_two q l m)
past_left {q = q} (whole {a = a} {b = b} {c = c} k l m) o =
    counted (a ∷ b ∷ c ∷ q)
    (byte_counts a (b ∷ c ∷ q) k ∙ ap suc (byte_counts b (c ∷ q) l ∙ ap suc (last_counts c q m ∙ ap suc (no_threes o))))
    (over (b ∷ c ∷ q) (third_next a k) ∙ past_two q l m)

past_rest : {h q : List ℕ} → Rest h → Onward q → walk (lead (h ++ q)) (h ++ q) ≡ walk At.Body q
past_rest r o = past_left (when_gone r.gone (of_header r.header)) o

-- Both ways

says_so : (s : Stage) {P : Type 0} → (is_bad s ≡ false → P) → (P → is_bad s ≡ false) → Means (not (is_bad s)) P
says_so s f g = record { sure = λ e. f (not-true (is_bad s) e); back = λ p. ap not (g p) }

-- .. of what a port holds and what is on the line to it
module _ (q ts : List ℕ) where
  in_one : (s : Stage) → is_bad (walk s (q ++ ts)) ≡ is_bad (walk (walk s q) ts)
  in_one s = ap is_bad (walk_append s q ts)

  streams_on : Means (not (is_bad (walk (walk At.Fresh q) ts))) (Streams (q ++ ts))
  streams_on =
      says_so (walk (walk At.Fresh q) ts) (λ e. fits (q ++ ts) At.Fresh (in_one At.Fresh ∙ e)) (λ s. sym (in_one At.Fresh) ∙ streams_good s)

  body_on : is_bad (walk (walk At.Body q) ts) ≡ false → Onward (q ++ ts)
  body_on e = fits (q ++ ts) At.Body (in_one At.Body ∙ e)

  body_walked : Onward (q ++ ts) → is_bad (walk (walk At.Body q) ts) ≡ false
  body_walked o = sym (in_one At.Body) ∙ onward_good o

  onward_on : Means (not (is_bad (walk (walk At.Body q) ts))) (Onward (q ++ ts))
  onward_on = says_so (walk (walk At.Body q) ts) body_on body_walked

onto : {q : List ℕ} (ts : List ℕ) → Leading q → is_bad (walk (walk (lead q) q) ts) ≡ false → Led q ts
onto ts (leading {q = q} r o) e = led q r (body_on q ts (ap is_bad (over ts (sym (past_rest r o))) ∙ e))

led_good : {q ts : List ℕ} → Led q ts → is_bad (walk (walk (lead q) q) ts) ≡ false
led_good (led {ts = ts} q r o) =
    let e = body_walked q ts o in
    ap is_bad (over ts (past_rest r (fits q At.Body (good_from (walk At.Body q) ts e)))) ∙ e

led_on : (q ts : List ℕ) → Means (not (is_bad (walk (walk (lead q) q) ts))) (Led q ts)
led_on q ts =
    says_so (walk (walk (lead q) q) ts)
    (λ e. onto ts (leads q (threes q) (begins_one q) refl (good_from (walk (lead q) q) ts e)) e)
    led_good

-- "tokens and headers are legal; a port with no circuit is empty or starts with a header, and so does what follows an END or PAUSE; ..": the
-- walk over what a port holds, and on over what is coming to it, ends well exactly where they are what the sentence says
pub tokens_hold : (h : Hop) (q ts : List ℕ) → Means (not (is_bad (walk (back_of h q) ts))) (Holds h q ts)
tokens_hold Hops.Shut q ts = streams_on q ts
tokens_hold (Hops.Out l) q ts = led_on q ts
tokens_hold (Hops.Channel c t) q ts = onward_on q ts
tokens_hold Hops.Unit q ts = onward_on q ts
tokens_hold (Hops.Dropped c) q ts = led_on q ts
