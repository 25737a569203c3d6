-- Laws of rows, once for every element type, size and place: a part of a list, and a table of parts, after a change of the
-- elements from a up to e. Assumes nothing.
use mathlib.Core.Path.{◌≡◌, refl, sym, ap, ◌∙◌}
use mathlib.Core.Logic.{inl, inr}
use mathlib.Core.List.{List, [], ◌∷◌, ◌++◌}
use Prim.Native.Nat.{ℕ, zero, suc, ◌+◌, ◌-◌, ◌≤◌, ◌<◌, suc-le-suc, zero-le}
use native.Mathlib.Nat.{not-suc-le-zero, le_of_suc-le-suc, zero-add, suc-add}
use native.Mathlib.Omega.{arith}
use lib.ListN.{length, get_or, take, drop, set, length-set, length-take, length-drop}
use lib.Seq.{take-take, drop-drop, take-nil, take-set-le, drop-set-lt, take-set-lt, drop-set-add, drop_at, take_at, length-take-le, get_or-take, get_or-drop}
use borrow.Rule.Slice.PartMut.{put_mid, take_put, drop_put, same_len_mid, mid_len, set_mid_at}
use Rattle.laws.specs.Row.{row, tab, Apart, Same}

module _ {ℓ} {A : Type ℓ} where
  pub length_tab : (k : ℕ) (f : ℕ → A) → length (tab k f) ≡ k
  length_tab zero f = refl
  length_tab (suc k) f = ap suc (length_tab k (λ i. f (suc i)))

  pub get_or_tab : (k : ℕ) (f : ℕ → A) (i : ℕ) (d : A) → i < k → get_or (tab k f) i d ≡ f i
  get_or_tab zero f i d h = absurd (not-suc-le-zero h)
  get_or_tab (suc k) f zero d h = refl
  get_or_tab (suc k) f (suc i) d h = get_or_tab k (λ j. f (suc j)) i d (le_of_suc-le-suc h)

  pub tab_ext : (k : ℕ) (f g : ℕ → A) → ((i : ℕ) → i < k → f i ≡ g i) → tab k f ≡ tab k g
  tab_ext zero f g h = refl
  tab_ext (suc k) f g h =
      λ i. h 0 (suc-le-suc zero-le) i ∷ tab_ext k (λ j. f (suc j)) (λ j. g (suc j)) (λ j l. h (suc j) (suc-le-suc l)) i

  -- a table of which one entry differs
  pub tab_set : (k : ℕ) (f g : ℕ → A) (q : ℕ)
      → q < k
      → ((i : ℕ) → i < k → (i ≡ q → ⊥) → g i ≡ f i)
      → tab k g ≡ set (tab k f) q (g q)
  tab_set zero f g q h o = absurd (not-suc-le-zero h)
  tab_set (suc k) f g zero h o =
      λ i. g zero ∷ tab_ext k (λ j. g (suc j)) (λ j. f (suc j)) (λ j l. o (suc j) (suc-le-suc l) (λ e. omega arith)) i
  tab_set (suc k) f g (suc q) h o =
      λ i. o 0 (suc-le-suc zero-le) (λ e. omega arith) i
      ∷ tab_set k (λ j. f (suc j)) (λ j. g (suc j)) q (le_of_suc-le-suc h) (λ j l ne. o (suc j) (suc-le-suc l) (λ e. ne (omega arith))) i

  -- a list of k elements, written out
  pub listed : (k : ℕ) (l : List A) (d : A) → length l ≡ k → l ≡ tab k (λ i. get_or l i d)
  listed zero [] d h = refl
  listed zero (x ∷ l) d h = absurd (omega arith)
  listed (suc k) [] d h = absurd (omega arith)
  listed (suc k) (x ∷ l) d h = ap (λ (r : List A). x ∷ r) (listed k l d (omega arith))

module _ {A : Type 0} where
  take_drop : (a s : ℕ) (l : List A) → take s (drop a l) ≡ drop a (take (a + s) l)
  take_drop zero s l = rw zero-add
  take_drop (suc a) s [] = take-nil s ∙ sym (ap (λ (r : List A). drop (suc a) r) (take-nil (suc a + s)))
  take_drop (suc a) s (x ∷ l) = rw suc-add (take_drop a s l)

  -- A row: its length, an element of it, and the row after a store into it

  pub row_long : (s a : ℕ) (l : List A) → a + s ≤ length l → length (row s a l) ≡ s
  row_long s a l h = simp (length-take, length-drop) (omega arith)

  pub row_at : (s a j : ℕ) (l : List A) (d : A) → j < s → get_or (row s a l) j d ≡ get_or l (a + j) d
  row_at s a j l d h = rw (get_or-take, get_or-drop)

  pub row_set : (l : List A) (a s j : ℕ) (v : A) → j < s → row s a (set l (a + j) v) ≡ set (row s a l) j v
  row_set l a s j v h = ap (λ (r : List A). take s r) (drop-set-add a l j v) ∙ take-set-lt s (drop a l) j v h

  pub row_put : (l ws : List A) (a e s : ℕ)
      → a ≤ e
      → e ≤ length l
      → length ws ≡ s
      → e - a ≡ s
      → row s a (put_mid a (e - a) l ws) ≡ ws
  row_put l ws a e s h g n d =
      ap (λ (r : List A). take s r) (drop_at (take a l) (ws ++ drop (e - a) (drop a l)) a (length-take-le a l (omega arith)))
      ∙ take_at ws (drop (e - a) (drop a l)) s n

  -- What a part that was lent out and changed by one store is in the whole list: one store

  pub part_set : (a e j : ℕ) (l ys : List A) (v : A)
      → e ≤ length l
      → a + j < e
      → ys ≡ set (row (e - a) a l) j v
      → put_mid a (e - a) l ys ≡ set l (a + j) v
  part_set a e j l ys v h g q =
      let n : length (row (e - a) a l) ≡ e - a = mid_len a e l h in
      let i : j < length (row (e - a) a l) = omega arith in
      ap (put_mid a (e - a) l) q ∙ set_mid_at a (e - a) j l v i

  -- Everything outside a changed part is as it was

  pub same_set : (l : List A) (a e i : ℕ) (v : A) → a ≤ i → i < e → Same a e l (set l i v)
  same_set l a e i v h g = record { front = take-set-le a l i v h; back = drop-set-lt e l i v g; long = length-set l i v }

  pub same_put : (l ws : List A) (a e : ℕ) → a ≤ e → e ≤ length l → length ws ≡ e - a → Same a e l (put_mid a (e - a) l ws)
  same_put l ws a e h g n =
      record {
        front = take_put a (e - a) l ws (omega arith);
        back = drop_put a e l ws h g n;
        long = same_len_mid a (e - a) l ws (n ∙ sym (mid_len a e l g));
      }

  drop_from : (e b : ℕ) → e ≤ b → (l : List A) → drop b l ≡ drop (b - e) (drop e l)
  drop_from e b h l = let at_b : e + (b - e) ≡ b = omega arith in sym (drop-drop (b - e) e l ∙ ap (λ (n : ℕ). drop n l) at_b)

  pub rest_kept : {a e : ℕ} {xs ys : List A} → Same a e xs ys → (b : ℕ) → e ≤ b → drop b ys ≡ drop b xs
  rest_kept {a} {e} {xs} {ys} same b h =
      drop_from e b h ys ∙ ap (λ (l : List A). drop (b - e) l) same.back ∙ sym (drop_from e b h xs)

  pub row_kept : {a e : ℕ} {xs ys : List A} → Same a e xs ys → (b s : ℕ) → Apart a e b s → row s b ys ≡ row s b xs
  row_kept {a} {e} {xs} {ys} same b s (inl h) =
      take_drop b s ys
      ∙ ap (λ (l : List A). drop b l) (sym (take-take (b + s) a ys h) ∙ ap (λ (l : List A). take (b + s) l) same.front ∙ take-take (b + s) a xs h)
      ∙ sym (take_drop b s xs)
  row_kept {a} {e} {xs} {ys} same b s (inr h) = ap (λ (l : List A). take s l) (rest_kept same b h)

-- A table of records, each read from a row of s elements, record q from place w q on
module _ {A B : Type 0} {a e : ℕ} {xs ys : List A} (same : Same a e xs ys) (f : List A → B) (w : ℕ → ℕ) (s k : ℕ) where
  pub rows_kept : ((q : ℕ) → q < k → Apart a e (w q) s) → tab k (λ q. f (row s (w q) ys)) ≡ tab k (λ q. f (row s (w q) xs))
  rows_kept o =
      tab_ext k (λ q. f (row s (w q) ys)) (λ q. f (row s (w q) xs)) (λ q h. ap f (row_kept same (w q) s (o q h)))

  pub rows_set : (q : ℕ)
      → q < k
      → ((i : ℕ) → i < k → (i ≡ q → ⊥) → Apart a e (w i) s)
      → tab k (λ q. f (row s (w q) ys)) ≡ set (tab k (λ q. f (row s (w q) xs))) q (f (row s (w q) ys))
  rows_set q h o =
      tab_set k (λ i. f (row s (w i) xs)) (λ i. f (row s (w i) ys)) q h (λ i l ne. ap f (row_kept same (w i) s (o i l ne)))
