-- A header at the front of a sound port is for a channel that is there, or for a control unit. Assumes nothing.
use Prim.{Unit, tt}
use Prim.Native.Nat.{ℕ, ◌+◌, ◌-◌, ◌/◌, ◌%◌, ◌<◌, ◌≤◌}
use mathlib.Core.Path.{◌≡◌, refl, sym, ap, ◌∙◌}
use mathlib.Core.Bool.{true, false}
use mathlib.Core.List.{List, ◌∷◌}
use mathlib.Core.Logic.{◌⊎◌, inl, inr, ⊎_elim}
use native.Mathlib.Omega.{arith}
use lib.Dec.{eqb, ltb}
use lib.ListN.{get_or}
use borrow.Author.Tests.{ltb-true, ltb-false, eqb-true, eq-eqb}
use Rattle.laws.proofs.Order.{by_test, clash}
use Rattle.laws.proofs.Row.{row_at}
use Rattle.names.specs.Size.{ports, channels, sink}
use Rattle.circuits.specs.declared.Hop.TheVariants.{Shut}
use Rattle.tokens.specs.Control.{ssctrl}
use Rattle.tokens.specs.Word.{closes, control_word, value_of, is_control, is_three}
use Rattle.tokens.specs.Shape.{Shape, legal_channel, three_shape, shape_of}
use Rattle.tokens.specs.Header.{read_one, read_three}
use Rattle.tokens.specs.Shape as S
use Rattle.tokens.specs.declared.header.Target.{Target}
use Rattle.tokens.specs.declared.header.Target.TheVariants as T
use Rattle.tokens.proofs.Channels.{legal_channel_lem}
use Rattle.ports.specs.Queue.{capacity, ring}
use Rattle.ports.specs.Memory.{place, stretch}
use Rattle.ports.proofs.Rings.{ring_start, ring_next}
use Rattle.grammar.specs.Stage.{next_stage, is_bad}
use Rattle.grammar.specs.Walk.{walk}
use Rattle.grammar.specs.declared.stage.Stage.TheVariants.{Fresh, TwoDue, LastDue}
use Rattle.grammar.proofs.Walks.{good_from}
use Rattle.cells.specs.World.{World, hop, queue}
use Rattle.acts.specs.Acts.{word_at}
use Rattle.acts.specs.Needs.{Door}
use Rattle.sound.specs.Sound.{sound}
use Rattle.sound.proofs.Facts.{contents_facts}
use Rattle.plans.specs.Plan.{target_at}

-- by what a word is
by_shape : (P : Shape → Type 0) (w : ℕ) → P S.Closing → P S.Body → P S.Wrong → (w < 0x300 → P S.OneByte)
    → (0x600 ≤ w → P (three_shape (w - 0x600)))
    → P (shape_of w)
unfolding shape_of
by_shape P w a b c d e =
    by_test (closes w) (λ t. rw t a) (λ t. rw t
    (by_test (ltb w 0x1C2) (λ u. rw u b) (λ u. rw u
    (by_test (ltb w 0x200) (λ v. rw v c) (λ v. rw v
    (by_test (ltb w 0x300) (λ x. rw x (d (ltb-true w 0x300 x))) (λ x. rw x
    (by_test (ltb w 0x600) (λ y. rw y c) (λ y. rw y (e (ltb-false w 0x600 y)))))))))))

by_three : (P : Shape → Type 0) (m : ℕ) → (legal_channel m ≡ true → P S.Channel) → P S.ThreeByte → (m ≡ 0x1C3 → P S.Unit)
    → P S.Wrong
    → P (three_shape m)
unfolding three_shape
by_three P m a b c d =
    by_test (legal_channel m) (λ t. rw t (a t)) (λ t. rw t
    (by_test (ltb m 0x100) (λ u. rw u b) (λ u. rw u
    (by_test (eqb m (control_word ssctrl)) (λ v. rw v (c (eqb-true m (control_word ssctrl) v))) (λ v. rw v d)))))

-- the first of three bytes, the second, the last
pub two_due : (w : ℕ) → is_three w ≡ true → is_bad (next_stage Fresh (shape_of w)) ≡ false → next_stage Fresh (shape_of w) ≡ TwoDue
two_due w t =
    by_shape (λ x. is_bad (next_stage Fresh x) ≡ false → next_stage Fresh x ≡ TwoDue) w (λ b. clash b) (λ b. clash b) (λ b. clash b)
    (λ l b. absurd (small l (eqb-true (w / 1024 % 2) 1 t)))
    (λ g. by_three (λ x. is_bad (next_stage Fresh x) ≡ false → next_stage Fresh x ≡ TwoDue) (w - 0x600)
    (λ l b. refl)
    (λ b. refl)
    (λ l b. clash b)
    (λ b. clash b))
  where
    small : {w : ℕ} → w < 0x300 → w / 1024 % 2 ≡ 1 → ⊥
    small l e = omega arith

pub last_due : (x : Shape) → is_bad (next_stage TwoDue x) ≡ false → next_stage TwoDue x ≡ LastDue
last_due S.Wrong b = clash b
last_due S.Body b = clash b
last_due S.Closing b = clash b
last_due S.OneByte b = clash b
last_due S.ThreeByte b = refl
last_due S.Channel b = refl
last_due S.Unit b = clash b

-- a last byte that is no control is a channel that is there
last_legal : (w : ℕ) → is_control w ≡ false → is_bad (next_stage LastDue (shape_of w)) ≡ false → Door (value_of w)
last_legal w n =
    by_shape (λ x. is_bad (next_stage LastDue x) ≡ false → Door (value_of w)) w (λ b. clash b) (λ b. clash b) (λ b. clash b) (λ l b. clash b)
    (λ g. by_three (λ x. is_bad (next_stage LastDue x) ≡ false → Door (value_of w)) (w - 0x600)
    (λ l b. named g ((legal_channel_lem (w - 0x600)).sure l))
    (λ b. clash b)
    (λ e b. clash (sym (unit g e) ∙ n))
    (λ b. clash b))
  where
    named : 0x600 ≤ w → ((w - 0x600 < channels) ⊎ (w - 0x600 ≡ sink)) → Door (value_of w)
    named g h = ⊎_elim (λ i. inr (omega arith)) (λ i. inl (omega arith)) h

    unit : 0x600 ≤ w → w - 0x600 ≡ 0x1C3 → is_control w ≡ true
    unit g e = eq-eqb (w / 256 % 2) 1 (omega arith)

third : (a b c : ℕ) (q : List ℕ) → is_bad (walk Fresh (a ∷ b ∷ c ∷ q)) ≡ false → is_three a ≡ true → is_control c ≡ false → Door (value_of c)
third a b c q e t n =
    let z = good_from (next_stage (next_stage (next_stage Fresh (shape_of a)) (shape_of b)) (shape_of c)) q e in
    let y = good_from (next_stage (next_stage Fresh (shape_of a)) (shape_of b)) (c ∷ q) e in
    let x = good_from (next_stage Fresh (shape_of a)) (b ∷ c ∷ q) e in
    let p = two_due a t x in
    let l = last_due (shape_of b) (rw p at y) in
    last_legal c n (rw (p, l) at z)

module _ (w : World) (n p : ℕ) where
  abbrev pub rest : List ℕ
  rest = ring (stretch w.memory (place n p)) ((w.net.ports.counters n p).head + 3) ((w.net.ports.counters n p).held - 3)

  -- the first three tokens
  pub front : 3 ≤ (w.net.ports.counters n p).held → queue w n p
      ≡ (word_at w n p 0 ∷ word_at w n p 1 ∷ word_at w n p 2 ∷ rest)
  front h =
      let m = stretch w.memory (place n p) in
      let b = (w.net.ports.counters n p).head in
      let k = (w.net.ports.counters n p).held in
      let at : (i : ℕ) → get_or m ((b + i) % capacity) 0 ≡ word_at w n p i =
      λ i. row_at capacity (place n p) ((b + i) % capacity) w.memory 0 (omega arith) in
      sym (ring_start capacity m b k)
      ∙ ring_next capacity m b k 0 (omega arith)
      ∙ ap (λ (q : List ℕ). get_or m ((b + 0) % capacity) 0 ∷ q) (ring_next capacity m b k 1 (omega arith)
      ∙ ap (λ (q : List ℕ). get_or m ((b + 1) % capacity) 0 ∷ q) (ring_next capacity m b k 2 (omega arith)))
      ∙ rw (at 0, at 1, at 2)

module _ (w : World) (s : sound w ≡ true) (n p : ℕ) (hn : n < w.net.nodes) (hp : p < ports) where
  -- the channel that a whole header names is there
  named_door : hop w.net n p ≡ Shut → is_three (word_at w n p 0) ≡ true → 3 ≤ (w.net.ports.counters n p).held
      → is_control (word_at w n p 2) ≡ false
      → Door (value_of (word_at w n p 2))
  named_door e t h c =
      let f = contents_facts w s n hn p hp in
      third (word_at w n p 0) (word_at w n p 1) (word_at w n p 2) (rest w n p) (rw (e, front w n p h) at f) t c

-- a destination whose channel is there, or a control unit
abbrev pub LegalDoor : Target → Type 0
LegalDoor (T.Channel m c) = Door c
LegalDoor (T.Unit m) = Unit

pub legal_target_lem : (w : World) → sound w ≡ true → (n p : ℕ) → n < w.net.nodes → p < ports → hop w.net n p ≡ Shut
    → (is_three (word_at w n p 0) ≡ true → 3 ≤ (w.net.ports.counters n p).held)
    → LegalDoor (target_at w n p)
unfolding read_one read_three
legal_target_lem w s n p hn hp e whole =
    by_test (is_three (word_at w n p 0))
    (λ t. rw t (by_test (is_control (word_at w n p 2)) (λ c. rw c tt) (λ c. rw c (named_door w s n p hn hp e t (whole t) c))))
    (λ t. rw t (inr (omega arith)))
