-- Reading as a loop goes over the sequences, for any form. Assumes nothing.
use Prim.Native.Nat.{ℕ, zero, suc, ◌+◌, ◌-◌, ◌*◌, ◌/◌, ◌%◌, ◌<◌, ◌≤◌}
use mathlib.Core.Path.{◌≡◌, refl, sym, ap, ◌∙◌}
use mathlib.Core.Bool.{true, false}
use mathlib.Core.Logic.{⊎_elim}
use mathlib.Core.List.{List, [], ◌++◌, append-nil}
use native.Mathlib.Nat.{suc-mul, zero-mul, le-div_iff_mul-le, div-mul-le_self, le_trans}
use native.Mathlib.Numerals.{add-one}
use native.Mathlib.Omega.{arith}
use lib.Dec.{eqb, ltb}
use lib.ListN.{length, take, drop, set, length-append, length-drop}
use lib.Seq.{drop-drop, take_at, drop_at}
use borrow.Author.Tests.{lt-ltb, le-ltb, eq-eqb, ne_eqb}
use Rattle.std.specs.Prelude.{Ok, Err}
use Rattle.laws.specs.All.{NoneBelow}
use Rattle.laws.specs.Row.{row}
use Rattle.laws.proofs.All.{first_here, first_none, none_more}
use Rattle.laws.proofs.Order.{order, next, by_test, never}
use Rattle.probe.specs.Form.{Form, whole, said_at, meaningless, tokens_in, gathered, tokens, first_meaningless}
use Rattle.probe.specs.Answer.{Answer}
use Rattle.probe.specs.Serial.{serial}
use Rattle.probe.specs.Fast.{fast}
use Rattle.probe.specs.Calls.{form_of, Out, out, filled, delivered, reading}
use Rattle.probe.specs.Needs.{judged, laid_in}
use Rattle.probe.specs.declared.form.Mode.{Mode}
use Rattle.probe.specs.declared.form.Mode.TheVariants.{Serial, Fast}
use Rattle.probe.specs.declared.answer.Refusal.TheVariants.{Bad, Cut}
use Rattle.probe.specs.declared.sequence.Said.{Said}
use Rattle.probe.specs.declared.sequence.Said.TheVariants.{Token, Return, Nothing}
use Rattle.probe.proofs.Lays.{filled_long, lay_one, lay_behind, grows}

-- a sequence has transitions, in either form
pub wide : (m : Mode) → 0 < (form_of m).width
unfolding serial fast
wide Serial = omega arith
wide Fast = omega arith

-- at most one token a sequence
pub one_token : (s : Said) → length (tokens_in s) ≤ 1
one_token (Token t) = omega arith
one_token Return = omega arith
one_token Nothing = omega arith

pub no_token : (s : Said) → ((t : ℕ) → s ≡ Token t → ⊥) → tokens_in s ≡ []
no_token (Token t) h = absurd (h t refl)
no_token Return h = refl
no_token Nothing h = refl

module _ (F : Form) (xs : List ℕ) where
  -- a whole sequence lies inside the capture
  pub inside : (i k m : ℕ) → k ≡ F.width → m ≡ length xs / k → i < m → i * k + k ≤ length xs
  inside i k m e d h = le_trans (next i m k h) (rw d (div-mul-le_self (length xs) k))

  pub is_whole : (k m : ℕ) → k ≡ F.width → m ≡ length xs / k → m ≡ whole F xs
  unfolding whole
  is_whole k m e d = d ∙ rw e

  pub is_said : (i k : ℕ) (s : Said) → k ≡ F.width → s ≡ F.says (row F.width (i * k) xs) → s ≡ said_at F xs i
  unfolding said_at
  is_said i k s e d = d ∙ rw e

  -- what is left of the capture before the i-th sequence, and the width of a sequence
  pub record Left (i k : ℕ) (rest : List ℕ) : Type 0 where
    pub wide : 0 < k
    pub size : k ≡ F.width
    pub inside : i * F.width ≤ length xs
    pub behind : rest ≡ drop (i * F.width) xs

  pub left_all : (k : ℕ) (rest : List ℕ) → 0 < k → k ≡ F.width → rest ≡ xs → Left 0 k rest
  left_all k rest w e d = record { wide = w; size = e; inside = rw zero-mul (omega arith); behind = rw zero-mul d }

  module _ (i k : ℕ) (rest : List ℕ) (l : Left i k rest) where
    -- one whole sequence more
    module _ (q more : List ℕ) (e : rest ≡ q ++ more) (d : length q ≡ k) where
      long : length q ≡ F.width
      long = d ∙ l.size

      parts : drop (i * F.width) xs ≡ q ++ more
      parts = sym l.behind ∙ e

      pub said_here : F.says q ≡ said_at F xs i
      said_here = is_said i F.width (F.says q) refl (ap F.says (sym (take_at q more F.width long) ∙ ap (take F.width) (sym parts)))

      pub left_more : Left (i + 1) k more
      left_more =
          let both : length (drop (i * F.width) xs) ≡ length q + length more = ap length parts ∙ length-append q more in
          let cut : length (drop (i * F.width) xs) ≡ length xs - i * F.width = length-drop (i * F.width) xs in
          record {
            wide = l.wide;
            size = l.size;
            inside = rw (add-one, suc-mul) (omega (arith, l.inside, long));
            behind =
                rw (add-one, suc-mul)
                (sym (drop_at q more F.width long) ∙ ap (drop F.width) (sym parts) ∙ drop-drop F.width (i * F.width) xs);
          }

    is_wide : 0 < F.width
    is_wide = rw l.size at l.wide

    pub all_read : length rest < k → i ≡ whole F xs
    all_read short =
        let few : i ≤ length xs / F.width = (le-div_iff_mul-le is_wide).1 l.inside in
        let left : length rest ≡ length xs - i * F.width = ap length l.behind ∙ length-drop (i * F.width) xs in
        let all : i ≡ length xs / F.width =
        ⊎_elim
        (λ (h : length xs / F.width < suc i). omega arith)
        (λ (h : suc i ≤ length xs / F.width).
        let m = rw suc-mul at ((le-div_iff_mul-le is_wide).0 h) in
        absurd (omega (arith, l.size, l.inside)))
        (order (length xs / F.width) (suc i)) in
        is_whole F.width i refl all

    pub in_whole : (q more : List ℕ) → rest ≡ q ++ more → length q ≡ k → i < whole F xs
    unfolding whole
    in_whole q more e d =
        (le-div_iff_mul-le is_wide).1 (rw (← add-one) (left_more q more e d).inside)

  pub gathered_none : gathered F xs 0 ≡ []
  unfolding gathered
  gathered_none = refl

  pub gathered_next : (i : ℕ) → gathered F xs (i + 1) ≡ gathered F xs i ++ tokens_in (said_at F xs i)
  unfolding gathered
  gathered_next i = rw add-one

  -- at most one token a sequence, and more sequences have no fewer
  pub gathered_few : (i : ℕ) → length (gathered F xs i) ≤ i
  unfolding gathered
  gathered_few zero = omega arith
  gathered_few (suc i) = rw length-append (omega (arith, gathered_few i, one_token (said_at F xs i)))

  pub gathered_grows : (m i : ℕ) → i ≤ m → length (gathered F xs i) ≤ length (gathered F xs m)
  unfolding gathered
  gathered_grows = grows (gathered F xs) (λ n. tokens_in (said_at F xs n)) (λ n. refl)

  pub gathered_more : (i n : ℕ) (s : Said)
      → n ≡ length (gathered F xs i)
      → s ≡ said_at F xs i
      → n + length (tokens_in s) ≡ length (gathered F xs (i + 1))
  gathered_more i n s e d = rw (gathered_next, length-append, e, d)

  -- a buffer with the tokens so far in front takes what the i-th sequence says
  pub lay_next : (i at : ℕ) (s : Said) (b l : List ℕ)
      → at ≡ length (gathered F xs i)
      → s ≡ said_at F xs i
      → b ≡ filled (gathered F xs i) l
      → laid_in b at (tokens_in s) ≡ filled (gathered F xs (i + 1)) l
  lay_next i at s b l e d g = rw (e, d, g, gathered_next) (lay_behind (gathered F xs i) (tokens_in (said_at F xs i)) l)

  -- the state of the loop that counts, before the i-th sequence
  pub record Judging (i k n : ℕ) (rest : List ℕ) : Type 0 where
    pub left : Left i k rest
    pub count : n ≡ length (gathered F xs i)
    pub sound : NoneBelow (λ j. meaningless (said_at F xs j)) i

  pub judging_more : (i k n : ℕ) (rest q more : List ℕ)
      → Judging i k n rest
      → rest ≡ q ++ more
      → length q ≡ k
      → (s : Said)
      → s ≡ F.says q
      → meaningless s ≡ false
      → Judging (i + 1) k (n + length (tokens_in s)) more
  judging_more i k n rest q more j e d s said sound =
      let here : s ≡ said_at F xs i = said ∙ said_here i k rest j.left q more e d in
      record {
        left = left_more i k rest j.left q more e d;
        count = gathered_more i n s j.count here;
        sound = none_more _ i j.sound (ap meaningless (sym here) ∙ sound);
      }

  -- .. and of the loop that lays the tokens into a buffer
  pub record Unloading (i k at : ℕ) (rest b l : List ℕ) : Type 0 where
    pub left : Left i k rest
    pub count : at ≡ length (gathered F xs i)
    pub laid : b ≡ filled (gathered F xs i) l

  module _ (i k at : ℕ) (rest b l q more : List ℕ) (u : Unloading i k at rest b l) (e : rest ≡ q ++ more) (d : length q ≡ k) where
    module _ (w : ℕ) (said : Token w ≡ F.says q) where
      here : Token w ≡ said_at F xs i
      here = said ∙ said_here i k rest u.left q more e d

      more_by_one : at + 1 ≡ length (gathered F xs (i + 1))
      more_by_one = gathered_more i at (Token w) u.count here

      pub has_room : length (tokens F xs) ≤ length l → (at < length b) × (at < length l)
      has_room room =
          let few : length (gathered F xs (i + 1)) ≤ length (tokens F xs) =
          gathered_grows (whole F xs) (i + 1) (rw add-one (in_whole i k rest u.left q more e d)) in
          let same : length b ≡ length l = ap length u.laid ∙ filled_long (gathered F xs i) l (omega (arith, u.count, more_by_one)) in
          (omega (arith, more_by_one), omega (arith, more_by_one))

      -- one token more, where the buffer has room
      pub unloading_word : at < length b → Unloading (i + 1) k (at + 1) more (set b at w) l
      unloading_word h =
          record {
            left = left_more i k rest u.left q more e d;
            count = more_by_one;
            laid = lay_one b at w h ∙ lay_next i at (Token w) b l u.count here u.laid;
          }

      -- .. where the buffer that was lent has room, which is as long
      pub unloading_token : at < length l → Unloading (i + 1) k (at + 1) more (set b at w) l
      unloading_token h = unloading_word (rw (u.laid, filled_long (gathered F xs i) l (omega (arith, u.count))) h)

    pub unloading_none : tokens_in (F.says q) ≡ [] → Unloading (i + 1) k at more b l
    unloading_none none =
        let same : gathered F xs (i + 1) ≡ gathered F xs i =
        rw (gathered_next, ← (said_here i k rest u.left q more e d), none) (append-nil (gathered F xs i)) in
        record { left = left_more i k rest u.left q more e d; count = rw same u.count; laid = rw same u.laid }

  -- What a capture is: a sequence of no meaning; all have one
  module _ (i : ℕ) (none : NoneBelow (λ j. meaningless (said_at F xs j)) i) where
    pub judged_bad : i < whole F xs → meaningless (said_at F xs i) ≡ true → Err (Bad (i * F.width)) ≡ judged F xs
    unfolding judged first_meaningless
    judged_bad h e =
        let q = first_here (λ j. meaningless (said_at F xs j)) (whole F xs) i h none e in
        rw (q, lt-ltb i (whole F xs) h)

    module _ (in_all : i ≡ whole F xs) where
      all_mean : ltb (first_meaningless F xs) (whole F xs) ≡ false
      unfolding first_meaningless
      all_mean = le-ltb _ (whole F xs) (rw (first_none (λ j. meaningless (said_at F xs j)) (whole F xs) (rw in_all at none)) (omega arith))

      pub judged_cut : (length xs % F.width ≡ 0 → ⊥) → Err Cut ≡ judged F xs
      unfolding judged
      judged_cut e = rw (all_mean, ne_eqb (length xs % F.width) 0 e)

      pub judged_whole : (n : ℕ) → n ≡ length (gathered F xs i) → length xs % F.width ≡ 0 → Ok n ≡ judged F xs
      unfolding judged
      judged_whole n g e = rw (all_mean, eq-eqb (length xs % F.width) 0 e, g, in_all)

  -- The call: what is answered of what the capture is
  abbrev pub answered : Answer → List ℕ → Out
  answered (Err r) b = out (Err r) b
  answered (Ok n) b = delivered (tokens F xs) b

  pub read_as : (b : List ℕ) → answered (judged F xs) b ≡ reading F xs b
  unfolding judged reading
  read_as b =
      by_test (ltb (first_meaningless F xs) (whole F xs))
      (λ e. rw e)
      (λ e. by_test (eqb (length xs % F.width) 0) (λ d. rw (e, d)) (λ d. rw (e, d)))

  pub read_gives : (b : List ℕ) (j : Answer) → j ≡ judged F xs → answered j b ≡ reading F xs b
  read_gives b j e = ap (λ (j : Answer). answered j b) e ∙ read_as b

  pub whole_long : (n : ℕ) → judged F xs ≡ Ok n → n ≡ length (tokens F xs)
  unfolding judged
  whole_long n h =
      by_test (ltb (first_meaningless F xs) (whole F xs))
      (λ e. let q : Err (Bad (first_meaningless F xs * F.width)) ≡ Ok n = rw e at h in never (cc))
      (λ e. by_test (eqb (length xs % F.width) 0)
      (λ d. let q : Ok (length (tokens F xs)) ≡ Ok n = rw (e, d) at h in (cc))
      (λ d. let q : Err Cut ≡ Ok n = rw (e, d) at h in never (cc)))
