-- What the proof of demand 3 is made of: entries of tables; chains, which are cells that follow each other in their circuits' streams;
-- heads, which are the first cells of circuits; stretches of a stream. Assumes nothing.
use Prim.{tt}
use Prim.Native.Nat.{ℕ, zero, suc, ◌+◌, ◌≤◌, ◌<◌}
use mathlib.Core.Path.{◌≡◌, refl, sym, ap, ◌∙◌, fun_ext}
use mathlib.Core.Bool.{true, false}
use mathlib.Core.List.{List, [], ◌∷◌, ◌++◌, append-nil}
use native.Mathlib.Decide.{ℕ_discrete}
use native.Mathlib.Nat.{add-zero, suc-add, add-suc}
use native.Mathlib.Omega.{arith}
use lib.Dec.{eqb}
use lib.ListN.{length, drop, get_or, length-append, get_or-append}
use lib.Seq.{drop-cons}
use borrow.Author.Tests.{eq-eqb, ne_eqb}
use Rattle.laws.specs.All.{Each}
use Rattle.laws.specs.Pick.{pick}
use Rattle.laws.proofs.Order.{by_test, never}
use Rattle.names.specs.declared.NodeNumber.{NodeNumber}
use Rattle.tokens.specs.Word.{closes}
use Rattle.streams.specs.Model.{Plain, Via, Nobody, By, Through, Cell, Landed, Here, alter, push_all, cells_of}
use Rattle.streams.specs.Events.{Cursor, Idle, At, next, head_to}
use Rattle.streams.specs.Demand.{tokens_of}

-- TABLES
module _ {ℓ} {A : Type ℓ} where
  pub alter_hit : (f : ℕ → A) (i : ℕ) (a : A) (j : ℕ) → j ≡ i → alter f i a j ≡ a
  unfolding alter
  alter_hit f i a j e = rw (eq-eqb j i e)

  pub alter_same : (f : ℕ → A) (i : ℕ) (a : A) → alter f i a i ≡ a
  alter_same f i a = alter_hit f i a i refl

  pub alter_miss : (f : ℕ → A) (i : ℕ) (a : A) (j : ℕ) → (j ≡ i → ⊥) → alter f i a j ≡ f j
  unfolding alter
  alter_miss f i a j ne = rw (ne_eqb j i ne)

  -- a fact of every entry, after a change
  pub alter_all : (P : ℕ → A → Type 0) (f : ℕ → A) (i : ℕ) (a : A) → P i a → ((j : ℕ) → (j ≡ i → ⊥) → P j (f j)) → (j : ℕ)
      → P j (alter f i a j)
  alter_all P f i a h k j =
      elim (ℕ_discrete j i) [ yes e ↦ rw (alter_hit f i a j e, e) h | no ne ↦ rw (alter_miss f i a j ne) (k j ne) ]

-- one index, or another
pub at_or : (P : ℕ → Type 0) (i : ℕ) → P i → ((j : ℕ) → (j ≡ i → ⊥) → P j) → (j : ℕ) → P j
at_or P i h k j = elim (ℕ_discrete j i) [ yes e ↦ rw e h | no ne ↦ k j ne ]

-- an entry written twice, and one written as it was
pub alter_twice : {A : Type 0} (f : ℕ → A) (i : ℕ) (a b : A) → alter (alter f i a) i b ≡ alter f i b
alter_twice f i a b =
    fun_ext (λ j. elim (ℕ_discrete j i) [
      | yes e ↦ alter_hit (alter f i a) i b j e ∙ sym (alter_hit f i b j e)
      | no e ↦ alter_miss (alter f i a) i b j e ∙ alter_miss f i a j e ∙ sym (alter_miss f i b j e)
    ])

pub alter_own : {A : Type 0} (f : ℕ → A) (i : ℕ) (a : A) → f i ≡ a → alter f i a ≡ f
alter_own f i a e =
    fun_ext (λ j. elim (ℕ_discrete j i) [
      | yes d ↦ alter_hit f i a j d ∙ sym e ∙ ap f (sym d)
      | no d ↦ alter_miss f i a j d
    ])

-- what is put at the back of one list of a table
pub pushed_at {ℓ} : {A : Type ℓ} (f : ℕ → List A) (d : ℕ) (xs : List A) (j : ℕ) → push_all f d xs j ≡ f j ++ pick (eqb d j) xs []
pushed_at f d xs j =
    elim (ℕ_discrete j d) [
      | yes e ↦ rw (e, alter_same f d (f d ++ xs), eq-eqb d d refl)
      | no ne ↦ rw (alter_miss f d (f d ++ xs) j ne, ne_eqb d j (λ e. ne (sym e))) (sym (append-nil (f j)))
    ]

-- what holds of each of a list
pub each_map : {A : Type 0} (P Q : A → Type 0) → ((x : A) → P x → Q x) → (xs : List A) → Each P xs → Each Q xs
each_map P Q f [] h = tt
each_map P Q f (x ∷ xs) (h, hs) = (f x h, each_map P Q f xs hs)

pub each_append : {A : Type 0} (P : A → Type 0) (xs ys : List A) → Each P xs → Each P ys → Each P (xs ++ ys)
each_append P [] ys h k = k
each_append P (x ∷ xs) ys (h, hs) k = (h, each_append P xs ys hs k)

-- WHAT IS THE SAME, OF THE SAME
pub via_same : {l m : ℕ} → Via l ≡ Via m → l ≡ m
via_same e = cc

pub by_same : {a b : ℕ} → By a ≡ By b → a ≡ b
by_same e = cc

pub through_same : {d e : ℕ} → Through d ≡ Through e → d ≡ e
through_same e = cc

pub at_same : {c d i j : ℕ} → At c i ≡ At d j → (c ≡ d) × (i ≡ j)
at_same e = (cc, cc)

pub landed_same : {p q : ℕ} {k j : NodeNumber} → Landed p k ≡ Landed q j → (p ≡ q) × (k ≡ j)
landed_same e = (cc, cc)

pub here_same : {k j : NodeNumber} → Here k ≡ Here j → k ≡ j
here_same e = cc

pub nobody_by : {P : Type 0} {a : ℕ} → Nobody ≡ By a → P
nobody_by e = never (cc)

-- CHAINS
-- the cell is what the cursor says comes next
abbrev pub Fits : Cursor → Cell → Type 0
Fits Idle x = x.pos ≡ 0
Fits (At c i) x = (x.circuit ≡ c) × (x.pos ≡ i)

abbrev pub Streams : Type 0
Streams = ℕ → List ℕ

-- the cell's token is its stream's
pub record Good (st : Streams) (x : Cell) : Type 0 where
  pub inside : x.pos < length (st x.circuit)
  pub value : get_or (st x.circuit) x.pos 0 ≡ x.token

-- from the cursor at the front, cell by cell, to the cursor at the back
abbrev pub Chain : Streams → Cursor → List Cell → Cursor → Type 0
Chain st s [] e = s ≡ e
Chain st s (x ∷ xs) e = Fits s x × Good st x × Chain st (next x) xs e

pub chain_snoc : (st : Streams) (s : Cursor) (xs : List Cell) (e : Cursor) (x : Cell) → Chain st s xs e → Fits e x → Good st x
    → Chain st s (xs ++ (x ∷ [])) (next x)
chain_snoc st s [] e x h f g = (rw h f, g, refl)
chain_snoc st s (y ∷ ys) e x h f g = (h.0, h.1, chain_snoc st (next y) ys e x h.2 f g)

pub chain_append : (st : Streams) (s : Cursor) (xs : List Cell) (e : Cursor) (ys : List Cell) (f : Cursor)
    → Chain st s xs e
    → Chain st e ys f
    → Chain st s (xs ++ ys) f
chain_append st s [] e ys f h k = rw h k
chain_append st s (x ∷ xs) e ys f h k = (h.0, h.1, chain_append st (next x) xs e ys f h.2 k)

-- streams only grow
abbrev pub Grows : Streams → Streams → Type 0
Grows st st' = (c : ℕ) → (m : List ℕ) × (st' c ≡ st c ++ m)

pub grows_upd : (st : Streams) (c : ℕ) (m : List ℕ) → Grows st (alter st c (st c ++ m))
grows_upd st c m c' =
    elim (ℕ_discrete c' c) [
      | yes e ↦ (m, alter_hit _ _ _ _ e ∙ rw e)
      | no ne ↦ ([], alter_miss _ _ _ _ ne ∙ sym (append-nil (st c')))
    ]

module _ (st st' : Streams) (gr : Grows st st') where
  good_grow : (x : Cell) → Good st x → Good st' x
  good_grow x g =
      let e = (gr x.circuit).1 in
      let i = g.inside in
      record { inside = rw (e, length-append) (omega arith); value = rw (e, get_or-append) g.value }

  pub chain_grow : (s : Cursor) (xs : List Cell) (e : Cursor) → Chain st s xs e → Chain st' s xs e
  chain_grow s [] e h = h
  chain_grow s (x ∷ xs) e h = (h.0, good_grow x h.1, chain_grow (next x) xs e h.2)

-- the far end of a link has seen what has left the near one: of a circuit that has only opened, nothing
abbrev pub norm : Cursor → Cursor
norm Idle = Idle
norm (At c zero) = Idle
norm (At c (suc i)) = At c (suc i)

pub fits_norm : (s : Cursor) (x : Cell) → Fits s x → Fits (norm s) x
fits_norm Idle x h = h
fits_norm (At c zero) x h = h.1
fits_norm (At c (suc i)) x h = h

pub norm_next : (x : Cell) → norm (next x) ≡ next x
norm_next x = by_test (closes x.token) (λ e. rw e) (λ e. rw e)

-- after a token that closes, any circuit; after another, the same one's next
pub after_closed : (x : Cell) (t : ℕ) → x.token ≡ t → closes t ≡ true → next x ≡ Idle
after_closed x t e c = rw (e, c)

pub after_open : (x : Cell) (t c i : ℕ) → x.token ≡ t → closes t ≡ false → Fits (At c i) x → next x ≡ At c (suc i)
after_open x t c i e o ft = rw (e, o, ft.0, ft.1)

-- HEADS
-- 1 for the head of circuit c
unfoldable pub is_head : ℕ → Cell → ℕ
is_head c x = pick (eqb x.pos 0) (pick (eqb x.circuit c) 1 0) 0

abbrev pub heads : ℕ → List Cell → ℕ
heads c [] = 0
heads c (x ∷ xs) = is_head c x + heads c xs

abbrev pub HeadOf : ℕ → Cell → Type 0
HeadOf c x = (x.pos ≡ 0) × (x.circuit ≡ c)

-- a cell is the head of a circuit or it is not
pub head_or : {κ : Type 0} (c : ℕ) (x : Cell) → (x.pos ≡ 0 → x.circuit ≡ c → κ) → ((HeadOf c x → ⊥) → κ) → κ
head_or c x h k =
    elim (ℕ_discrete x.pos 0) [
      | yes e ↦ elim (ℕ_discrete x.circuit c) [ yes e' ↦ h e e' | no ne ↦ k (λ z. ne z.1) ]
      | no ne ↦ k (λ z. ne z.0)
    ]

head_hit : (c : ℕ) (x : Cell) → x.pos ≡ 0 → x.circuit ≡ c → is_head c x ≡ 1
unfolding is_head
head_hit c x p q = rw (eq-eqb _ _ p, eq-eqb _ _ q)

head_miss : (c : ℕ) (x : Cell) → (HeadOf c x → ⊥) → is_head c x ≡ 0
unfolding is_head
head_miss c x ne =
    elim (ℕ_discrete x.pos 0) [
      | yes e ↦ rw (eq-eqb _ _ e, ne_eqb _ _ (λ q. ne (e, q)))
      | no n0 ↦ rw (ne_eqb _ _ n0)
    ]

heads_append : (c : ℕ) (xs ys : List Cell) → heads c (xs ++ ys) ≡ heads c xs + heads c ys
heads_append c [] ys = omega arith
heads_append c (x ∷ xs) ys = rw (heads_append c xs ys) (omega arith)

-- where the head of a circuit is, v, is port p
unfoldable pub ind : ℕ → ℕ → ℕ
ind v p = pick (eqb v (suc p)) 1 0

ind_hit : (v p : ℕ) → v ≡ suc p → ind v p ≡ 1
unfolding ind
ind_hit v p e = rw (eq-eqb _ _ e)

ind_miss : (v p : ℕ) → (v ≡ suc p → ⊥) → ind v p ≡ 0
unfolding ind
ind_miss v p ne = rw (ne_eqb _ _ ne)

pub ind_zero : (p : ℕ) → ind 0 p ≡ 0
ind_zero p = ind_miss 0 p (λ e. omega arith)

ind_pos : (v p : ℕ) → 0 < ind v p → v ≡ suc p
ind_pos v p h = elim (ℕ_discrete v (suc p)) [ yes e ↦ e | no ne ↦ absurd (let z = ind_miss v p ne in omega arith) ]

module _ (v : ℕ) (x : Cell) (loc : ℕ → ℕ) where
  head_to_move : x.pos ≡ 0 → head_to v x loc ≡ alter loc x.circuit v
  unfolding head_to
  head_to_move e = rw (eq-eqb _ _ e)

  pub head_to_stay : (x.pos ≡ 0 → ⊥) → head_to v x loc ≡ loc
  unfolding head_to
  head_to_stay ne = rw (ne_eqb _ _ ne)

  pub head_to_hit : (c : ℕ) → x.pos ≡ 0 → x.circuit ≡ c → head_to v x loc c ≡ v
  head_to_hit c e q = rw (head_to_move e, alter_hit loc x.circuit v c (sym q))

  pub head_to_other : (c : ℕ) → (HeadOf c x → ⊥) → head_to v x loc c ≡ loc c
  head_to_other c ne =
      elim (ℕ_discrete x.pos 0) [
        | yes e ↦ rw (head_to_move e, alter_miss loc x.circuit v c (λ q. ne (e, sym q)))
        | no n0 ↦ rw (head_to_stay n0)
      ]

pub head_to_none : (x : Cell) (loc : ℕ → ℕ) (c : ℕ) → loc c ≡ 0 → head_to 0 x loc c ≡ 0
head_to_none x loc c e = head_or c x (λ z q. head_to_hit 0 x loc c z q) (λ ne. head_to_other 0 x loc c ne ∙ e)

-- each circuit's head is at the one place that `loc` says, and nowhere else
abbrev pub Heads : (ℕ → List Cell) → (ℕ → ℕ) → Type 0
Heads cells loc = (c p : ℕ) → heads c (cells p) ≡ ind (loc c) p

module _ (cells : ℕ → List Cell) (loc : ℕ → ℕ) (h : Heads cells loc) where
  module _ (p : ℕ) (y : Cell) (ys : List Cell) (e : cells p ≡ y ∷ ys) where
    counted : (c : ℕ) → is_head c y + heads c ys ≡ ind (loc c) p
    counted c = rw e at (h c p)

    -- a head at the front of a port's queue: the port is where the head is
    pub heads_at : y.pos ≡ 0 → loc y.circuit ≡ suc p
    heads_at z =
        let k = counted y.circuit in
        let one = head_hit y.circuit y z refl in
        ind_pos (loc y.circuit) p (omega arith)

    -- taking the front of a port's queue takes its head, if it is one, out of the net
    pub heads_pop : Heads (alter cells p ys) (head_to 0 y loc)
    heads_pop c s =
        let k = counted c in
        head_or c y
        (λ z q.
        let one = head_hit c y z q in
        let l = ind_pos (loc c) p (omega arith) in
        let i = ind_hit (loc c) p l in
        rw (head_to_hit 0 y loc c z q, ind_zero)
        (alter_all (λ s l. heads c l ≡ 0) cells p ys (omega arith) (λ j ne. h c j ∙ ind_miss (loc c) j (λ m. ne (omega arith))) s))
        (λ no-head.
        let none = head_miss c y no-head in
        rw (head_to_other 0 y loc c no-head)
        (alter_all (λ s l. heads c l ≡ ind (loc c) s) cells p ys (omega arith) (λ j ne. h c j) s))

  -- putting it at the back of a queue, when it is nowhere
  pub heads_push : (r : ℕ) (y : Cell) → (y.pos ≡ 0 → loc y.circuit ≡ 0)
      → Heads (alter cells r (cells r ++ (y ∷ []))) (head_to (suc r) y loc)
  heads_push r y g c s =
      let grown = heads_append c (cells r) (y ∷ []) in
      head_or c y
      (λ z q.
      let one = head_hit c y z q in
      let l : loc c ≡ 0 = rw q at (g z) in
      let all : (j : ℕ) → heads c (cells j) ≡ 0 = λ j. h c j ∙ ap (λ v. ind v j) l ∙ ind_zero j in
      rw (head_to_hit (suc r) y loc c z q)
      (alter_all (λ s l. heads c l ≡ ind (suc r) s) cells r (cells r ++ (y ∷ []))
      (rw (grown, ind_hit (suc r) r refl) (omega (arith, all r)))
      (λ j ne. all j ∙ sym (ind_miss (suc r) j (λ m. ne (omega arith)))) s))
      (λ no-head.
      let none = head_miss c y no-head in
      rw (head_to_other (suc r) y loc c no-head)
      (alter_all (λ s l. heads c l ≡ ind (loc c) s) cells r (cells r ++ (y ∷ [])) (rw grown (omega (arith, h c r))) (λ j ne. h c j) s))

-- STRETCHES
-- the token at a place of a stream
at_place : (s : List ℕ) (i t : ℕ) (r : List ℕ) → drop i s ≡ t ∷ r → (i < length s) × (get_or s i 0 ≡ t) × (drop (suc i) s ≡ r)
at_place [] zero t r e = never (cc)
at_place [] (suc i) t r e = never (cc)
at_place (x ∷ xs) zero t r e = (omega arith, cc, cc)
at_place (x ∷ xs) (suc i) t r e = let h = at_place xs i t r e in (let a = h.0 in omega arith, h.1, h.2)

-- the cells of a stretch of a stream
pub cells_chain : (st : Streams) (c i : ℕ) (ts m : List ℕ) → drop i (st c) ≡ ts ++ m → Plain ts
    → Chain st (At c i) (cells_of c i ts) (At c (i + length ts))
cells_chain st c i [] m e p = rw add-zero
cells_chain st c i (t ∷ ts) m e p =
    let (a, b, d) = at_place (st c) i t (ts ++ m) e in
    let more = cells_chain st c (suc i) ts m d p.1 in
    ((refl, refl), record { inside = a; value = b }, rw (p.0, add-suc i (length ts), ← suc-add i (length ts)) more)

cells_heads : (c c' i : ℕ) (ts : List ℕ) → heads c' (cells_of c (suc i) ts) ≡ 0
cells_heads c c' i [] = refl
cells_heads c c' i (t ∷ ts) =
    let x : Cell = record { token = t; circuit = c; pos = suc i } in
    let none : (x.pos ≡ 0) × (x.circuit ≡ c') → ⊥ = λ z. let p = z.0 in omega arith in
    rw (head_miss c' x none, cells_heads c c' (suc i) ts) (omega arith)

-- a run of cells that close nothing: it is a stretch of its circuit's stream
pub record Ran (st : Streams) (c i : ℕ) (cs : List Cell) (b : Cursor) (hs r : List ℕ) : Type 0 where
  pub rest : Chain st (At c (i + length hs)) (drop (length hs) cs) b
  pub tokens : r ≡ tokens_of (drop (length hs) cs)
  pub stretch : drop i (st c) ≡ hs ++ drop (i + length hs) (st c)
  pub heads_left : 0 < i → (c' : ℕ) → heads c' (drop (length hs) cs) ≡ heads c' cs
  pub enough : i + length hs ≤ length (st c)

pub run_off : (st : Streams) (c i : ℕ) (hs r : List ℕ) (cs : List Cell) (b : Cursor)
    → i ≤ length (st c)
    → Chain st (At c i) cs b
    → hs ++ r ≡ tokens_of cs
    → Plain hs
    → Ran st c i cs b hs r
run_off st c i [] r cs b le ch e p =
    record { rest = rw add-zero ch; tokens = e; stretch = rw add-zero; heads_left = λ h c'. refl; enough = rw add-zero le }
run_off st c i (t ∷ ts) r [] b le ch e p = never (cc)
run_off st c i (t ∷ ts) r (x ∷ xs) b le ch e p =
    let ((cx, ix), gd, chs) = ch in
    let tx : x.token ≡ t = cc in
    let others : ts ++ r ≡ tokens_of xs = cc in
    let nx : next x ≡ At c (suc i) = after_open x t c i tx p.0 (cx, ix) in
    let inside : i < length (st c) = rw (cx, ix) at gd.inside in
    let value : get_or (st c) i 0 ≡ x.token = rw (cx, ix) at gd.value in
    let k = run_off st c (suc i) ts r xs b inside (rw nx at chs) others p.1 in
    let shift : i + suc (length ts) ≡ suc i + length ts = add-suc i (length ts) ∙ sym (suc-add i (length ts)) in
    let no-head : 0 < i → (c' : ℕ) → is_head c' x ≡ 0 = λ h c'. head_miss c' x (λ z. let q = z.0 in omega arith) in
    record {
      rest = rw shift k.rest;
      tokens = k.tokens;
      stretch = rw (shift, drop-cons (st c) i 0 inside, k.stretch, value, tx);
      heads_left = λ h c'. k.heads_left (omega arith) c' ∙ rw (no-head h c') (omega arith);
      enough = rw shift k.enough;
    }

-- a whole header is put at the back of a queue
pub heads_push_all : (cells : ℕ → List Cell) (loc : ℕ → ℕ) (d c : ℕ) (hs : List ℕ) (t : ℕ) (ts : List ℕ) → hs ≡ t ∷ ts → loc c ≡ 0
    → Heads cells loc
    → Heads (alter cells d (cells d ++ cells_of c 0 hs)) (alter loc c (suc d))
heads_push_all cells loc d c hs t ts e z h = rw e pushed
  where
    x : Cell
    x = record { token = t; circuit = c; pos = 0 }

    first : Heads (alter cells d (cells d ++ (x ∷ []))) (alter loc c (suc d))
    first = rw (head_to_move (suc d) x loc refl) at (heads_push cells loc h d x (λ q. z))

    pushed : Heads (alter cells d (cells d ++ cells_of c 0 (t ∷ ts))) (alter loc c (suc d))
    pushed c' s =
        alter_all (λ s l. heads c' l ≡ ind (alter loc c (suc d) c') s) cells d (cells d ++ cells_of c 0 (t ∷ ts))
        (rw (heads_append c' (cells d) (cells_of c 0 (t ∷ ts)), cells_heads c c' 0 ts)
        (rw (alter_same cells d (cells d ++ (x ∷ [])), heads_append c' (cells d) (x ∷ [])) at (first c' d)))
        (λ j ne. rw (alter_miss cells d (cells d ++ (x ∷ [])) j ne) at (first c' j)) s
