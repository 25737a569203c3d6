-- What a capture is refused for, exactly, and that a refusal fills nothing. Assumes nothing.
use Prim.Native.Nat.{ℕ, ◌+◌, ◌*◌, ◌%◌, ◌<◌, ◌≤◌}
use mathlib.Core.Path.{◌≡◌, refl, sym, ap, ◌∙◌}
use mathlib.Core.Bool.{Bool, true, false, not}
use mathlib.Core.Logic.{◌⊎◌, inl, inr, ⊎_elim}
use mathlib.Core.List.{List}
use native.Mathlib.Nat.{suc-mul, le-div_iff_mul-le}
use native.Mathlib.Omega.{arith}
use lib.Dec.{eqb, ltb, leb}
use lib.ListN.{length, get_or}
use borrow.Author.Tests.{lt-ltb, le-ltb, ltb-true, ltb-false, ne_eqb, eqb-false, not-true, not-false}
use Rattle.std.specs.Prelude.{Ok, Err}
use Rattle.laws.specs.All.{NoneBelow}
use Rattle.laws.proofs.All.{first_here, first_none, first_least, first_passes}
use Rattle.laws.proofs.Order.{by_test, never, clash}
use Rattle.probe.specs.Form.{Form, writable, transitions, first_unwritable, whole, said_at, meaningless, tokens, first_meaningless}
use Rattle.probe.specs.Calls.{Out, out, delivered, writing, reading}
use Rattle.probe.specs.Facts.{FirstUnwritable, FirstBad, Short}
use Rattle.probe.specs.declared.answer.Refusal.TheVariants.{Bad, Cut, NoSuch}
use Rattle.probe.specs.declared.sequence.Said.{Said}
use Rattle.probe.specs.declared.sequence.Said.TheVariants.{Token, Return, Nothing}

is_nothing : (s : Said) → meaningless s ≡ true → s ≡ Nothing
is_nothing (Token t) e = clash (sym e)
is_nothing Return e = clash (sym e)
is_nothing Nothing e = refl

has_meaning : (s : Said) → (s ≡ Nothing → ⊥) → meaningless s ≡ false
has_meaning (Token t) h = refl
has_meaning Return h = refl
has_meaning Nothing h = absurd (h refl)

no_meaning : (s : Said) → meaningless s ≡ false → s ≡ Nothing → ⊥
no_meaning s e h = clash (ap meaningless (sym h) ∙ e)

-- an answer is a count or NoSuch where nothing is wrong
answers : {o p : Out} → o ≡ p → o.answer ≡ p.answer
answers e = ap (λ (o : Out). o.answer) e

fills : (ys b : List ℕ) → ((delivered ys b).answer ≡ Ok (length ys)) ⊎ (delivered ys b ≡ out (Err NoSuch) b)
unfolding delivered
fills ys b = by_test (leb (length ys) (length b)) (λ e. inl (rw e)) (λ e. inr (rw e))

module _ (F : Form) (xs : List ℕ) (wide : 0 < F.width) where
  -- the i-th sequence is whole exactly where it ends inside the capture
  in_whole : (i : ℕ) → i * F.width + F.width ≤ length xs → i < whole F xs
  unfolding whole
  in_whole i h = (le-div_iff_mul-le wide).1 (rw suc-mul h)

  whole_in : (i : ℕ) → i < whole F xs → i * F.width + F.width ≤ length xs
  unfolding whole
  whole_in i h = rw suc-mul at ((le-div_iff_mul-le wide).0 h)

  bads : ℕ → Bool
  bads i = meaningless (said_at F xs i)

  pub bad_given : (b : List ℕ) (p : ℕ) → FirstBad F xs p → reading F xs b ≡ out (Err (Bad p)) b
  unfolding reading first_meaningless bads
  bad_given b p w =
      let i = w.which in
      let inside : i < whole F xs = in_whole i (rw (← w.place) w.inside) in
      let none : NoneBelow bads i = λ j h. has_meaning (said_at F xs j) (w.before j h) in
      let at = first_here bads (whole F xs) i inside none (ap meaningless w.bad) in
      rw (at, lt-ltb i (whole F xs) inside, w.place)

  first_bad : first_meaningless F xs < whole F xs → FirstBad F xs (first_meaningless F xs * F.width)
  unfolding first_meaningless bads
  first_bad h =
      record {
        which = first_meaningless F xs;
        place = refl;
        inside = whole_in (first_meaningless F xs) h;
        bad = is_nothing _ (first_passes bads (whole F xs) h);
        before = λ j l. no_meaning _ (first_least bads (whole F xs) j l);
      }

  none_bad : whole F xs ≤ first_meaningless F xs → (j : ℕ) → j * F.width + F.width ≤ length xs → said_at F xs j ≡ Nothing → ⊥
  unfolding first_meaningless bads
  none_bad h j l = no_meaning _ (first_least bads (whole F xs) j (omega (arith, in_whole j l)))

  pub cut_given : (b : List ℕ) → Short F xs → reading F xs b ≡ out (Err Cut) b
  unfolding reading first_meaningless bads
  cut_given b w =
      let none : NoneBelow bads (whole F xs) = λ j h. has_meaning (said_at F xs j) (w.sound j (whole_in j h)) in
      let at = first_none bads (whole F xs) none in
      rw (at, le-ltb (whole F xs) (whole F xs) (omega arith), ne_eqb (length xs % F.width) 0 w.over)

  -- .. and back: what each answer tells
  pub bad_found : (b : List ℕ) (p : ℕ) → (reading F xs b).answer ≡ Err (Bad p) → FirstBad F xs p
  unfolding reading
  bad_found b p e =
      by_test (ltb (first_meaningless F xs) (whole F xs))
      (λ h.
      let q : Err (Bad (first_meaningless F xs * F.width)) ≡ Err (Bad p) = rw h at e in
      let place : first_meaningless F xs * F.width ≡ p = (cc) in
      rw (← place) (first_bad (ltb-true _ _ h)))
      (λ h. by_test (eqb (length xs % F.width) 0)
      (λ d. let z : (delivered (tokens F xs) b).answer ≡ Err (Bad p) = rw (h, d) at e in
      ⊎_elim (λ f. never (cc)) (λ f. let g = answers f in never (cc)) (fills (tokens F xs) b))
      (λ d. let q : Err Cut ≡ Err (Bad p) = rw (h, d) at e in never (cc)))

  pub cut_found : (b : List ℕ) → (reading F xs b).answer ≡ Err Cut → Short F xs
  unfolding reading
  cut_found b e =
      by_test (ltb (first_meaningless F xs) (whole F xs))
      (λ h. let q : Err (Bad (first_meaningless F xs * F.width)) ≡ Err Cut = rw h at e in never (cc))
      (λ h. by_test (eqb (length xs % F.width) 0)
      (λ d. let z : (delivered (tokens F xs) b).answer ≡ Err Cut = rw (h, d) at e in
      ⊎_elim (λ f. never (cc)) (λ f. let g = answers f in never (cc)) (fills (tokens F xs) b))
      (λ d. record { sound = none_bad (ltb-false _ _ h); over = eqb-false _ 0 d }))

-- What a list is refused for, exactly
module _ (F : Form) (ts : List ℕ) where
  lacks : ℕ → Bool
  lacks i = not (writable F (get_or ts i 0))

  pub word_given : (b : List ℕ) (p : ℕ) → FirstUnwritable F ts p → writing F ts b ≡ out (Err (Bad p)) b
  unfolding writing first_unwritable lacks
  word_given b p w =
      let none : NoneBelow lacks p = λ j h. ap not (w.before j h) in
      let at = first_here lacks (length ts) p w.inside none (ap not w.bad) in
      rw (at, lt-ltb p (length ts) w.inside)

  first_word : first_unwritable F ts < length ts → FirstUnwritable F ts (first_unwritable F ts)
  unfolding first_unwritable lacks
  first_word h =
      record {
        inside = h;
        bad = not-true _ (first_passes lacks (length ts) h);
        before = λ j l. not-false _ (first_least lacks (length ts) j l);
      }

  pub word_found : (b : List ℕ) (p : ℕ) → (writing F ts b).answer ≡ Err (Bad p) → FirstUnwritable F ts p
  unfolding writing
  word_found b p e =
      by_test (ltb (first_unwritable F ts) (length ts))
      (λ h.
      let q : Err (Bad (first_unwritable F ts)) ≡ Err (Bad p) = rw h at e in
      let place : first_unwritable F ts ≡ p = (cc) in
      rw (← place) (first_word (ltb-true _ _ h)))
      (λ h. let z : (delivered (transitions F ts) b).answer ≡ Err (Bad p) = rw h at e in
      ⊎_elim (λ f. never (cc)) (λ f. let g = answers f in never (cc)) (fills (transitions F ts) b))

-- A refusal leaves the buffer as it was
delivered_keeps : (ys b : List ℕ) → ((n : ℕ) → (delivered ys b).answer ≡ Ok n → ⊥) → (delivered ys b).buffer ≡ b
unfolding delivered
delivered_keeps ys b h = by_test (leb (length ys) (length b)) (λ e. absurd (h (length ys) (rw e))) (λ e. rw e)

pub read_keeps : (F : Form) (xs b : List ℕ) → ((n : ℕ) → (reading F xs b).answer ≡ Ok n → ⊥) → (reading F xs b).buffer ≡ b
unfolding reading
read_keeps F xs b h =
    by_test (ltb (first_meaningless F xs) (whole F xs))
    (λ e. rw e)
    (λ e. by_test (eqb (length xs % F.width) 0)
    (λ d. rw (e, d) (delivered_keeps (tokens F xs) b (λ n q. h n (rw (e, d) q))))
    (λ d. rw (e, d)))

pub write_keeps : (F : Form) (ts b : List ℕ) → ((n : ℕ) → (writing F ts b).answer ≡ Ok n → ⊥) → (writing F ts b).buffer ≡ b
unfolding writing
write_keeps F ts b h =
    by_test (ltb (first_unwritable F ts) (length ts))
    (λ e. rw e)
    (λ e. rw e (delivered_keeps (transitions F ts) b (λ n q. h n (rw e q))))
