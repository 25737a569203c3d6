-- WHAT SENDERS PUT OUT: the streams of a door's circuits, in their order, are all that it has put out; the tokens of a header are marked,
-- and no others. Assumes nothing.
use Prim.Native.Nat.{ℕ, zero, suc, ◌≤◌, ◌<◌}
use mathlib.Core.Path.{◌≡◌, refl, sym, ap, subst, ◌∙◌}
use mathlib.Core.Bool.{Bool, true, false}
use mathlib.Core.List.{List, [], ◌∷◌, ◌++◌, append-nil, append_assoc}
use native.Mathlib.Decide.{ℕ_discrete}
use native.Mathlib.Nat.{le_refl}
use native.Mathlib.Omega.{arith}
use lib.Dec.{eqb, ltb}
use lib.ListN.{length, drop, get_or, length-append, get_or-append}
use lib.Seq.{drop-append-le, drop-length, get_or-append_seam}
use borrow.Author.Tests.{eq-eqb, ne_eqb, lt-ltb, ltb-true}
use Rattle.laws.specs.All.{Each}
use Rattle.laws.specs.Pick.{pick}
use Rattle.laws.proofs.Order.{by_test, clash}
use Rattle.tokens.specs.Word.{is_header, is_three, wide}
use Rattle.tokens.specs.Header.{Carried}
use Rattle.tokens.specs.declared.header.Width.{Width}
use Rattle.tokens.specs.declared.header.Target.{Target}
use Rattle.tokens.proofs.Headers.{made_marked}
use Rattle.plans.specs.Plan.{size_of}
use Rattle.streams.specs.Model.{encode, Moving, Through, Direct, Info, alter}
use Rattle.streams.specs.Events.{Event, Opens, Puts, Starts, Tells, Takes, Lands, Refuses, Enters, Arrives, Hands, Loses, Wires}
use Rattle.streams.specs.Events.{Ghost, books_of, effect, note, notes, new_ghost, Ok, OkAll}
use Rattle.streams.specs.Demand.{sent_in, sent_by, Marked}
use Rattle.streams.proofs.Basics.{alter_same, alter_hit, alter_miss, alter_own, Streams}
use Rattle.streams.proofs.Headers.{encoded}
use Rattle.streams.proofs.Inv.{Own, Open, Local, Inv}
use Rattle.streams.proofs.Theorem.{keep}

-- EVENTS
-- what one puts out at a door
abbrev pub put_at : Event → ℕ → List ℕ
put_at (Opens e d w a) j = []
put_at (Puts e d t) j = pick (eqb e j) (t ∷ []) []
put_at (Starts e k w a ch) j = []
put_at (Tells e ch t) j = pick (eqb e j) (t ∷ []) []
put_at (Takes p l) j = []
put_at (Lands p w hs a k) j = []
put_at (Refuses p q) j = []
put_at (Enters p l x) j = []
put_at (Arrives l m x) j = []
put_at (Hands p a x) j = []
put_at (Loses p q x) j = []
put_at (Wires l m) j = []

abbrev pub puts_at : List Event → ℕ → List ℕ
puts_at [] j = []
puts_at (v ∷ vs) j = put_at v j ++ puts_at vs j

-- one that puts out no token with a header's mark
abbrev pub Unmarked : Event → Type 0
Unmarked (Opens e d w a) = Prim.Unit
Unmarked (Puts e d t) = is_header t ≡ false
Unmarked (Starts e k w a ch) = Prim.Unit
Unmarked (Tells e ch t) = is_header t ≡ false
Unmarked (Takes p l) = Prim.Unit
Unmarked (Lands p w hs a k) = Prim.Unit
Unmarked (Refuses p q) = Prim.Unit
Unmarked (Enters p l x) = Prim.Unit
Unmarked (Arrives l m x) = Prim.Unit
Unmarked (Hands p a x) = Prim.Unit
Unmarked (Loses p q x) = Prim.Unit
Unmarked (Wires l m) = Prim.Unit

-- STREAMS
-- below m the tables are the same
sent_same : (info info' : ℕ → Info) (st st' : Streams) (d m : ℕ)
    → ((c : ℕ) → c < m → (info' c ≡ info c) × (st' c ≡ st c))
    → sent_in info' st' d m ≡ sent_in info st d m
sent_same info info' st st' d zero h = refl
sent_same info info' st st' d (suc m) h =
    let (a, b) = h m (omega arith) in
    rw (sent_same info info' st st' d m (λ c l. h c (omega arith)), a, b)

no_more : (b : Bool) (xs ys : List ℕ) → (b ≡ true → ys ≡ []) → xs ++ pick b ys [] ≡ xs
no_more true xs ys h = rw (h refl) (append-nil xs)
no_more false xs ys h = append-nil xs

-- the stream of circuit c₀ has one token more
module _ (info : ℕ → Info) (st : Streams) (c₀ t d : ℕ) where
  abbrev st' : Streams
  st' = alter st c₀ (st c₀ ++ (t ∷ []))

  below : (m : ℕ) → m ≤ c₀ → sent_in info st' d m ≡ sent_in info st d m
  below m h = sent_same info info st st' d m (λ c l. (refl, alter_miss st c₀ _ c (λ e. omega (arith, e, l, h))))

  -- of another door
  sent_other : ((info c₀).sender ≡ d → ⊥) → (m : ℕ) → sent_in info st' d m ≡ sent_in info st d m
  sent_other ne zero = refl
  sent_other ne (suc m) =
      elim (ℕ_discrete m c₀) [
        | yes e ↦ rw (sent_other ne m, e, ne_eqb (info c₀).sender d ne)
        | no off ↦ rw (sent_other ne m, alter_miss st c₀ (st c₀ ++ (t ∷ [])) m off)
      ]

  -- of its own door, of which it is the latest
  sent_own : (info c₀).sender ≡ d → (info c₀).skip ≤ length (st c₀)
      → (m : ℕ)
      → c₀ < m
      → ((c : ℕ) → c₀ < c → c < m → (info c).sender ≡ d → ⊥)
      → sent_in info st' d m ≡ sent_in info st d m ++ (t ∷ [])
  sent_own own whole zero l last = absurd (omega arith)
  sent_own own whole (suc m) l last =
      elim (ℕ_discrete m c₀) [
        | yes e ↦
            rw (
              below m (omega (arith, e)),
              e,
              eq-eqb (info c₀).sender d own,
              alter_same st c₀ (st c₀ ++ (t ∷ [])),
              drop-append-le (info c₀).skip (st c₀) (t ∷ []) whole,
            )
            (sym (append_assoc (sent_in info st d c₀) (drop (info c₀).skip (st c₀)) (t ∷ [])))
        | no off ↦
            let none = ne_eqb (info m).sender d (last m (omega arith) (omega arith)) in
            rw (none, append-nil (sent_in info st' d m), append-nil (sent_in info st d m))
            (sent_own own whole m (omega arith) (λ c a b. last c a (omega arith)))
      ]

-- WHAT IS KEPT
-- the tokens of a stream, marked as they should be
abbrev pub MarkedIn : List ℕ → Info → Type 0
MarkedIn s o = (i : ℕ) → i < length s → Marked o i (get_or s i 0)

pub record Sending (info : ℕ → Info) (st : Streams) (mine : ℕ → ℕ) (now : ℕ) : Type 0 where
  -- a door's own circuit is its latest
  pub latest : (c : ℕ) → c < now → c ≤ mine (info c).sender
  pub whole : (c : ℕ) → (info c).skip ≤ length (st c)
  pub marks : (c : ℕ) → MarkedIn (st c) (info c)

abbrev pub SendingIn : Ghost → Type 0
SendingIn g = Sending g.info g.stream g.mine g.now

not_below : (i k : ℕ) → k ≤ i → ltb i k ≡ false
not_below i k h = by_test (ltb i k) (λ e. absurd (let l = ltb-true i k e in omega arith)) (λ e. e)

-- one token more, unmarked, behind the header
marked_more : (s : List ℕ) (o : Info) (t : ℕ) → o.skip ≤ length s → is_header t ≡ false → MarkedIn s o → MarkedIn (s ++ (t ∷ [])) o
marked_more s o t whole plain m i l =
    elim (ℕ_discrete i (length s)) [
      | yes e ↦
          rw (e, get_or-append_seam s t [] 0, not_below (length s) o.skip whole)
          (plain, λ h. clash (sym h ∙ plain))
      | no off ↦
          let inside : i < length s = let q = length-append s (t ∷ []) in omega (arith, l, q, off) in
          rw (get_or-append s (t ∷ []) 0 i inside) (m i inside)
    ]

-- of a header all are marked
each_at : (P : ℕ → Type 0) (s : List ℕ) → Each P s → (i : ℕ) → i < length s → P (get_or s i 0)
each_at P [] h i l = absurd (omega arith)
each_at P (x ∷ s) (h, hs) zero l = h
each_at P (x ∷ s) (h, hs) (suc i) l = each_at P s hs i (omega arith)

module _ (info : ℕ → Info) (st : Streams) (mine : ℕ → ℕ) (now : ℕ) (s : Sending info st mine now) where
  -- a token more of circuit c
  more : (c t : ℕ) → is_header t ≡ false → Sending info (alter st c (st c ++ (t ∷ []))) mine now
  more c t plain =
      record {
        latest = s.latest;
        whole = λ j. elim (ℕ_discrete j c) [
          | yes e ↦ rw (e, alter_same st c (st c ++ (t ∷ [])), length-append (st c) (t ∷ [])) (omega (arith, s.whole c))
          | no off ↦ rw (alter_miss st c (st c ++ (t ∷ [])) j off) (s.whole j)
        ];
        marks = λ j. elim (ℕ_discrete j c) [
          | yes e ↦ rw (e, alter_same st c (st c ++ (t ∷ []))) (marked_more (st c) (info c) t (s.whole c) plain (s.marks c))
          | no off ↦ rw (alter_miss st c (st c ++ (t ∷ [])) j off) (s.marks j)
        ];
      }

  -- one circuit more
  opened : (e : ℕ) (o : Info) (hs : List ℕ) → o.sender ≡ e → o.skip ≤ length hs → MarkedIn hs o
      → Sending (alter info now o) (alter st now hs) (alter mine e now) (suc now)
  opened e o hs own whole marks =
      record {
        latest = λ c l. elim (ℕ_discrete c now) [
          | yes q ↦ rw (q, alter_same info now o, own, alter_same mine e now) (le_refl now)
          | no off ↦ rw (alter_miss info now o c off) (behind c (omega (arith, l, off)))
        ];
        whole = λ c. elim (ℕ_discrete c now) [
          | yes q ↦ rw (q, alter_same info now o, alter_same st now hs) whole
          | no off ↦ rw (alter_miss info now o c off, alter_miss st now hs c off) (s.whole c)
        ];
        marks = λ c. elim (ℕ_discrete c now) [
          | yes q ↦ rw (q, alter_same info now o, alter_same st now hs) marks
          | no off ↦ rw (alter_miss info now o c off, alter_miss st now hs c off) (s.marks c)
        ];
      }
    where
      behind : (c : ℕ) → c < now → c ≤ alter mine e now (info c).sender
      behind c l =
          elim (ℕ_discrete (info c).sender e) [
            | yes q ↦ rw (alter_hit mine e now (info c).sender q) (omega arith)
            | no off ↦ rw (alter_miss mine e now (info c).sender off) (s.latest c l)
          ]

  -- a door's circuit, one token more: what the door has put out
  sent_more : (e t d : ℕ) → (info (mine e)).sender ≡ e → mine e < now
      → sent_in info (alter st (mine e) (st (mine e) ++ (t ∷ []))) d now ≡ sent_in info st d now ++ pick (eqb e d) (t ∷ []) []
  sent_more e t d own known =
      elim (ℕ_discrete e d) [
        | yes q ↦
            rw (eq-eqb e d q)
            (sent_own info st (mine e) t d (own ∙ q) (s.whole (mine e)) now known
            (λ c a b z. let l : c ≤ mine e = rw (z ∙ sym q) at (s.latest c b) in omega (arith, a, l)))
        | no off ↦
            rw (ne_eqb e d off)
            (sent_other info st (mine e) t d (λ z. off (sym own ∙ z)) now ∙ sym (append-nil (sent_in info st d now)))
      ]

  -- a circuit more, of which nothing but its header is put out
  sent_opened : (o : Info) (hs : List ℕ) (d : ℕ) → drop o.skip hs ≡ []
      → sent_in (alter info now o) (alter st now hs) d (suc now) ≡ sent_in info st d now ++ []
  sent_opened o hs d none =
      rw (
        sent_same info (alter info now o) st (alter st now hs) d now
            (λ c l. (alter_miss info now o c (λ e. omega (arith, e, l)), alter_miss st now hs c (λ e. omega (arith, e, l)))),
        alter_same info now o,
        alter_same st now hs,
        none,
      )
      (no_more (eqb o.sender d) (sent_in info st d now) [] (λ e. refl) ∙ sym (append-nil (sent_in info st d now)))

-- ONE EVENT
module _ (link : ℕ → Bool) (n : Moving) (g : Ghost) (iv : Inv link n g) (s : SendingIn g) where
  -- the circuit of a door that is open is its own
  own_through : (e d : ℕ) → n.busy e ≡ Through d → Own (g.mine e) e g.info g.now
  own_through e d eb =
      let z : Open g.back link g.holder d (g.mine e) e g.stream g.info g.now = rw eb at (iv.send e) in
      z.own

  own_direct : (e ch : ℕ) → n.busy e ≡ Direct ch → Own (g.mine e) e g.info g.now
  own_direct e ch eb = let z : Local ch (g.mine e) e g.fate g.info g.now = rw eb at (iv.send e) in z.own

  -- a circuit that has no header has put out nothing yet
  none_yet : alter g.stream g.now [] ≡ g.stream
  none_yet = alter_own g.stream g.now [] (iv.unborn g.now (le_refl _)).no_stream

  header_marked : (e : ℕ) (w : Width) (a : Target) → Carried w a
      → MarkedIn (encode w a) (record { sender = e; dest = a; width = w; skip = size_of w })
  header_marked e w a fits i l =
      let (mark, width) = each_at (λ t. (is_header t ≡ true) × (is_three t ≡ wide w)) (encode w a) (made_marked w a fits) i l in
      (mark ∙ sym (lt-ltb i (size_of w) (rw (encoded w a fits).size at l)), λ h. width)

  pub keep_sending : (v : Event) → Ok link n v → Unmarked v → SendingIn (note v g)
  unfolding note
  keep_sending (Opens e d w a) ok plain =
      opened g.info g.stream g.mine g.now s e _ (encode w a) refl (rw (encoded w a ok.3).size (le_refl _))
      (header_marked e w a ok.3)
  keep_sending (Puts e d t) ok plain = more g.info g.stream g.mine g.now s (g.mine e) t plain
  keep_sending (Starts e k w a ch) ok plain =
      rw none_yet at (opened g.info g.stream g.mine g.now s e (record { sender = e; dest = a; width = w; skip = 0 }) [] refl
      (le_refl 0) (λ i l. absurd (omega arith)))
  keep_sending (Tells e ch t) ok plain = more g.info g.stream g.mine g.now s (g.mine e) t plain
  keep_sending (Takes p l) ok plain = s
  keep_sending (Lands p w hs a k) ok plain = s
  keep_sending (Refuses p q) ok plain = s
  keep_sending (Enters p l x) ok plain = s
  keep_sending (Arrives l m x) ok plain = s
  keep_sending (Hands p a x) ok plain = s
  keep_sending (Loses p q x) ok plain = s
  keep_sending (Wires l m) ok plain = s

  pub sent_step : (v : Event) (d : ℕ) → Ok link n v → sent_by (books_of (note v g)) d ≡ sent_by (books_of g) d ++ put_at v d
  unfolding note
  sent_step (Opens e p w a) d ok =
      sent_opened g.info g.stream g.mine g.now s _ (encode w a) d
      (rw (← (encoded w a ok.3).size) (drop-length (encode w a)))
  sent_step (Puts e p t) d eb =
      let own = own_through e p eb in
      sent_more g.info g.stream g.mine g.now s e t d own.owned own.known
  sent_step (Starts e k w a ch) d ok =
      let o : Info = record { sender = e; dest = a; width = w; skip = 0 } in
      subst (λ (st : Streams). sent_in (alter g.info g.now o) st d (suc g.now) ≡ sent_in g.info g.stream d g.now ++ []) none_yet
      (sent_opened g.info g.stream g.mine g.now s o [] d refl)
  sent_step (Tells e ch t) d eb =
      let own = own_direct e ch eb in
      sent_more g.info g.stream g.mine g.now s e t d own.owned own.known
  sent_step (Takes p l) d ok = sym (append-nil _)
  sent_step (Lands p w hs a k) d ok = sym (append-nil _)
  sent_step (Refuses p q) d ok = sym (append-nil _)
  sent_step (Enters p l x) d ok = sym (append-nil _)
  sent_step (Arrives l m x) d ok = sym (append-nil _)
  sent_step (Hands p a x) d ok = sym (append-nil _)
  sent_step (Loses p q x) d ok = sym (append-nil _)
  sent_step (Wires l m) d ok = sym (append-nil _)

-- ALL OF A CALL
module _ (link : ℕ → Bool) where
  pub keep_sendings : (vs : List Event) (n : Moving) (g : Ghost) → Inv link n g → OkAll link vs n → Each Unmarked vs → SendingIn g
      → SendingIn (notes vs g)
  keep_sendings [] n g iv ok plain s = s
  keep_sendings (v ∷ vs) n g iv ok plain s =
      keep_sendings vs (effect v n) (note v g) (keep link v n g iv ok.0) ok.1 plain.1
      (keep_sending link n g iv s v ok.0 plain.0)

  pub sent_steps : (vs : List Event) (n : Moving) (g : Ghost) → Inv link n g → OkAll link vs n → Each Unmarked vs → SendingIn g → (d : ℕ)
      → sent_by (books_of (notes vs g)) d ≡ sent_by (books_of g) d ++ puts_at vs d
  sent_steps [] n g iv ok plain s d = sym (append-nil _)
  sent_steps (v ∷ vs) n g iv ok plain s d =
      sent_steps vs (effect v n) (note v g) (keep link v n g iv ok.0) ok.1 plain.1
      (keep_sending link n g iv s v ok.0 plain.0) d
      ∙ ap (λ (l : List ℕ). l ++ puts_at vs d) (sent_step link n g iv s v d ok.0)
      ∙ append_assoc (sent_by (books_of g) d) (put_at v d) (puts_at vs d)

pub start_sending : SendingIn new_ghost
unfolding new_ghost
start_sending =
    record { latest = λ c l. absurd (omega arith); whole = λ c. le_refl 0; marks = λ c i l. absurd (omega arith) }
