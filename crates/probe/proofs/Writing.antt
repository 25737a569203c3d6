-- Writing as a loop goes over the tokens, for any form. Assumes nothing.
use Prim.Native.Nat.{ℕ, suc, ◌+◌, ◌-◌, ◌<◌, ◌≤◌}
use mathlib.Core.Path.{◌≡◌, refl, sym, ap, ◌∙◌}
use mathlib.Core.Bool.{Bool, cond, true, false, not}
use mathlib.Core.List.{List, [], ◌++◌, append_assoc}
use native.Mathlib.Numerals.{add-one}
use native.Mathlib.Omega.{arith}
use lib.Dec.{ltb, leb}
use lib.ListN.{length, get_or, take, length-append}
use lib.Seq.{paste, length-take-le}
use borrow.Author.Tests.{le-leb, lt-leb, lt-ltb, le-ltb, leb-true, leb-false}
use borrow.Rule.Slice.PartMut.{put_mid}
use Rattle.std.specs.Prelude.{Some, None, Ok, Err}
use Rattle.std.specs.List.{position, position_or_len}
use Rattle.std.proofs.lemmas.List.Recursion.{is_position_or_len}
use Rattle.laws.specs.Pick.{pick}
use Rattle.laws.specs.All.{NoneBelow, first}
use Rattle.laws.proofs.All.{first_here, first_none}
use Rattle.laws.proofs.Order.{by_test, never}
use Rattle.probe.specs.Wires.{low, after}
use Rattle.probe.specs.Form.{Form, unmarked, writable, written, transitions, first_unwritable}
use Rattle.probe.specs.Calls.{out, filled, delivered, writing}
use Rattle.probe.specs.Needs.{Lies, unwritable, measured, laid_in}
use Rattle.probe.specs.declared.answer.Refusal.TheVariants.{Bad, NoSuch}
use Rattle.probe.specs.declared.sequence.Sequence.{Sequence}
use Rattle.probe.proofs.Levels.{after_small, after_append, after_none}
use Rattle.probe.proofs.Places.{placed, unplaced}
use Rattle.probe.proofs.Lays.{lay_part, part_pasted, grows}

pub paste_laid : (d s : List ℕ) (at n : ℕ) → n ≤ length s → paste d at s n ≡ laid_in d at (take n s)
paste_laid d s at n h = rw (append_assoc, length-take-le n s h)

-- a choice of ours is std's
picked : {A : Type 0} (b : Bool) (x y : A) → pick b x y ≡ cond b x y
picked true x y = refl
picked false x y = refl

-- the first word that has no form
module _ (F : Form) where
  first_is : (ts : List ℕ) → first_unwritable F ts ≡ position_or_len (λ w. not (writable F w)) ts
  unfolding first_unwritable first
  first_is =
      is_position_or_len (first_unwritable F) (λ w. not (writable F w)) refl (λ w ts.
      let more : 1 + first_unwritable F ts ≡ suc (first_unwritable F ts) = omega arith in
      rw more (picked (not (writable F w)) 0 (suc (first_unwritable F ts))))

  pub unwritable_is : (ts : List ℕ) → position (λ w. not (writable F w)) ts ≡ unwritable F ts
  unwritable_is ts = rw (← first_is ts) (sym (picked (ltb (first_unwritable F ts) (length ts)) (Some (first_unwritable F ts)) None))

module _ (F : Form) (ts : List ℕ) where
  -- what is written of the i-th token
  abbrev pub next_of : ℕ → List ℕ
  next_of i = F.one (after low (written F ts i)) (unmarked (get_or ts i 0))

  pub written_none : written F ts 0 ≡ []
  unfolding written
  written_none = refl

  pub written_next : (i : ℕ) → written F ts (i + 1) ≡ written F ts i ++ next_of i
  unfolding written
  written_next i = rw add-one

  -- more tokens take no fewer transitions
  pub written_grows : (m i : ℕ) → i ≤ m → length (written F ts i) ≤ length (written F ts m)
  unfolding written
  written_grows = grows (written F ts) next_of (λ n. refl)

  -- the state of a loop before the i-th token
  pub record Upto (i wires n : ℕ) : Type 0 where
    pub inside : i ≤ length ts
    pub levels : wires ≡ after low (written F ts i)
    pub count : n ≡ length (written F ts i)

  pub upto_none : Upto 0 0 0
  upto_none = record { inside = omega arith; levels = rw (written_none, after_none low); count = rw written_none }

  pub upto_small : {i wires n : ℕ} → Upto i wires n → wires < 32
  upto_small {i} u = rw u.levels (after_small (written F ts i) low (omega arith))

  -- one token more, whose transitions are a list
  module _ (i wires n : ℕ) (u : Upto i wires n) (q : List ℕ) (l : q ≡ F.one wires (unmarked (get_or ts i 0))) where
    -- these are what is written of the i-th token
    pub next_is : q ≡ next_of i
    next_is = l ∙ ap (λ (s : ℕ). F.one s (unmarked (get_or ts i 0))) u.levels

    pub longer_by : n + length q ≡ length (written F ts (i + 1))
    longer_by = rw (written_next, length-append, u.count, next_is)

    pub upto_more : (w : ℕ) → i < length ts → w ≡ after wires q → Upto (i + 1) w (n + length q)
    upto_more w h e =
        record {
          inside = omega arith;
          levels = e ∙ rw (u.levels, next_is, written_next) (sym (after_append (written F ts i) (next_of i) low));
          count = longer_by;
        }

    -- a buffer with the transitions so far in front takes them
    pub put_more : (b d : List ℕ) (k : ℕ)
        → k ≡ length q
        → b ≡ filled (written F ts i) d
        → put_mid n (n + k - n) b q ≡ filled (written F ts (i + 1)) d
    put_more b d k e g = rw (written_next, ← next_is) (lay_part (written F ts i) q d b n k u.count e g)

    pub over_long : (most : ℕ) → n ≤ most → i < length ts → most - n < length q → None ≡ measured (length (transitions F ts)) most
    over_long most few h over =
        rw (lt-leb (length (transitions F ts)) most (omega (arith, longer_by, written_grows (length ts) (i + 1) (omega arith))))

  -- .. or an array with a length
  module _ (i wires n : ℕ) (u : Upto i wires n) (q : Sequence) (l : Lies q (F.one wires (unmarked (get_or ts i 0)))) where
    abbrev items : List ℕ
    items = take q.len q.symbols

    as_long : length items ≡ q.len
    as_long = length-take-le q.len q.symbols l.room.long

    pub is_next : take q.len q.symbols ≡ next_of i
    is_next = next_is i wires n u items l.laid

    pub longer : n + q.len ≡ length (written F ts (i + 1))
    longer = rw (← as_long) (longer_by i wires n u items l.laid)

    pub upto_next : (w : ℕ) → i < length ts → w ≡ after wires (take q.len q.symbols) → Upto (i + 1) w (n + q.len)
    upto_next w h e = rw as_long at (upto_more i wires n u items l.laid w h e)

    pub put_next : (b d : List ℕ) → b ≡ filled (written F ts i) d → paste b n q.symbols q.len ≡ filled (written F ts (i + 1)) d
    put_next b d e =
        sym (part_pasted b q.symbols n q.len) ∙ put_more i wires n u items l.laid b d q.len (sym as_long) e

    pub too_long : (most : ℕ) → n ≤ most → i < length ts → most - n < q.len → None ≡ measured (length (transitions F ts)) most
    too_long most few h over = over_long i wires n u items l.laid most few h (rw as_long over)

  pub all_measured : (i wires n most : ℕ) → Upto i wires n → length ts ≤ i → n ≤ most → Some n ≡ measured (length (transitions F ts)) most
  all_measured i wires n most u h few =
      let q : i ≡ length ts = omega (arith, u.inside) in
      let k : n ≡ length (transitions F ts) = rw q at u.count in
      rw (← k, le-leb n most few)

  -- The first word that has no form
  module _ (i : ℕ) (none : NoneBelow (λ j. not (writable F (get_or ts j 0))) i) where
    pub unwritable_here : i < length ts → not (writable F (get_or ts i 0)) ≡ true → i ≡ first_unwritable F ts
    unfolding first_unwritable
    unwritable_here h e = sym (first_here (λ j. not (writable F (get_or ts j 0))) (length ts) i h none e)

    pub unwritable_none : i ≤ length ts → length ts ≤ i → i ≡ first_unwritable F ts
    unfolding first_unwritable
    unwritable_none h l =
        let q : i ≡ length ts = omega arith in
        q ∙ sym (first_none (λ j. not (writable F (get_or ts j 0))) (length ts) (rw q at none))

-- The call: what was measured, and what is answered
module _ (m most : ℕ) where
  pub measured_fits : (n : ℕ) → measured m most ≡ Some n → (n ≡ m) × (m ≤ most)
  measured_fits n h =
      by_test (leb m most)
      (λ e. let q : Some m ≡ Some n = rw e at h in ((cc), leb-true m most e))
      (λ e. let q : None ≡ Some n = rw e at h in never (cc))

  pub measured_over : measured m most ≡ None → most < m
  measured_over h =
      by_test (leb m most)
      (λ e. let q : Some m ≡ None = rw e at h in never (cc))
      (λ e. leb-false m most e)

pub delivered_short : (ys b : List ℕ) → length b < length ys → out (Err NoSuch) b ≡ delivered ys b
unfolding delivered
delivered_short ys b h = rw (lt-leb (length ys) (length b) h)

pub delivered_whole : (ys b : List ℕ) (n : ℕ) → n ≡ length ys → length ys ≤ length b → out (Ok n) (filled ys b) ≡ delivered ys b
unfolding delivered
delivered_whole ys b n e h = rw (le-leb (length ys) (length b) h, e)

module _ (F : Form) (ts b : List ℕ) (p : ℕ) (e : p ≡ first_unwritable F ts) where
  pub wrote_bad : p < length ts → out (Err (Bad p)) b ≡ writing F ts b
  unfolding writing
  wrote_bad h = rw (← e, lt-ltb p (length ts) h)

  pub wrote : length ts ≤ p → delivered (transitions F ts) b ≡ writing F ts b
  unfolding writing
  wrote h = rw (← e, le-ltb p (length ts) h)

-- .. as the code finds the first word that has no form
module _ (F : Form) (ts b : List ℕ) where
  pub wrote_found : (p : ℕ) → Some p ≡ unwritable F ts → out (Err (Bad p)) b ≡ writing F ts b
  wrote_found p e =
      let w = placed (first_unwritable F ts) (length ts) p e in
      wrote_bad F ts b p w.0 (rw w.0 w.1)

  pub wrote_none : None ≡ unwritable F ts → delivered (transitions F ts) b ≡ writing F ts b
  wrote_none e = wrote F ts b (first_unwritable F ts) refl (unplaced (first_unwritable F ts) (length ts) e)
