-- One pass over each table finds what a list of rows asks, whatever its rows. Assumes nothing.
use Prim.{tt}
use Prim.Native.Nat.{ℕ, ◌<◌}
use mathlib.Core.Bool.{Bool, true, false, ◌&&◌, ◌||◌}
use mathlib.Core.List.{List, [], ◌∷◌}
use mathlib.Core.Path.{◌≡◌, refl, sym, subst}
use mathlib.Core.Logic.{⊎_elim}
use lib.Dec.{eqb}
use borrow.Author.Tests.{eqb-true, eq-eqb}
use Rattle.laws.specs.All.{Means, Each, every}
use Rattle.laws.specs.Pick.{pick}
use Rattle.laws.proofs.All.{also, either, as_is, equal, each_place, same_as}
use Rattle.laws.proofs.Order.{by_test, clash}
use Rattle.names.specs.Size.{links, ports, tile_links, ends}
use Rattle.cells.specs.World.{World, shaped}
use Rattle.sound.specs.Tests.{holds_at, places}
use Rattle.sound.specs.Clauses.{Clause, sound_clauses, all_hold, asked}
use Rattle.sound.specs.Sound.{sound}
use Rattle.sound.proofs.Sounds.{at_places, Holds, rows}

same : {P : Type 0} (a b : Bool) → Means a P → Means b P → a ≡ b
same true true m k = refl
same true false m k = sym (k.back (m.sure refl))
same false true m k = m.back (k.sure refl)
same false false m k = refl

-- how many places a node has of each table
abbrev pub tables : List ℕ
tables = 1 ∷ links ∷ ports ∷ tile_links ∷ ends ∷ []

abbrev is_among : ℕ → List ℕ → Bool
is_among m [] = false
is_among m (x ∷ xs) = eqb x m || is_among m xs

among : (P : ℕ → Type 0) (m : ℕ) (xs : List ℕ) → is_among m xs ≡ true → Each P xs → P m
among P m [] h e = clash (sym h)
among P m (x ∷ xs) h e =
    ⊎_elim (λ q. subst P q e.0) (λ k. among P m xs k e.1) ((either (equal x m) (as_is (is_among m xs))).sure h)

-- a pass over each table of a list
abbrev pub passes : List Clause → World → List ℕ → Bool
passes l w [] = true
passes l w (m ∷ ms) = every w.net.nodes m (asked l m w) && passes l w ms

module _ (w : World) where
  -- what a pass over a table of m places has found
  abbrev Asked : List Clause → ℕ → Type 0
  Asked l m = (n i : ℕ) → n < w.net.nodes → i < m → asked l m w n i ≡ true

  pass_means : (l : List Clause) (ms : List ℕ) → Means (passes l w ms) (Each (Asked l) ms)
  pass_means l [] = record { sure = λ e. tt; back = λ e. refl }
  pass_means l (m ∷ ms) =
      let here = each_place {P = λ n i. asked l m w n i ≡ true} w.net.nodes m (asked l m w) (λ n i. as_is (asked l m w n i)) in
      also here (pass_means l ms)

  -- every row is made at a table
  abbrev placed : List Clause → Bool
  placed [] = true
  placed (c ∷ l) = is_among (places c.test) tables && placed l

  -- the test of a row at a place of its table, and what the other rows ask
  parts : (c : Clause) (l : List Clause) (m n i : ℕ) → asked (c ∷ l) m w n i ≡ true
      → (pick (eqb (places c.test) m) (holds_at c.test w n i) true ≡ true) × (asked l m w n i ≡ true)
  parts c l m n i = (also (as_is (pick (eqb (places c.test) m) (holds_at c.test w n i) true)) (as_is (asked l m w n i))).sure

  finds : (l : List Clause) → placed l ≡ true → ((m : ℕ) → is_among m tables ≡ true → Asked l m) → Each (Holds w) l
  finds [] k h = tt
  finds (c ∷ l) k h =
      let t = c.test in
      let z = (also (as_is (is_among (places t) tables)) (as_is (placed l))).sure k in (
        (at_places t w).back
            (λ n i a b. rw (eq-eqb (places t) (places t) refl) at (parts c l (places t) n i (h (places t) z.0 n i a b)).0),
        finds l z.1 (λ m q n i a b. (parts c l m n i (h m q n i a b)).1),
      )

  asks : (l : List Clause) → Each (Holds w) l → (m : ℕ) → Asked l m
  asks [] e m n i a b = refl
  asks (c ∷ l) e m n i a b =
      let t = c.test in
      by_test (eqb (places t) m)
      (λ q. rw (q, (at_places t w).sure e.0 n i a (rw (eqb-true (places t) m q) b), asks l e.1 m n i a b))
      (λ q. rw (q, asks l e.1 m n i a b))

  every_table : (l : List Clause) → Each (Holds w) l → (ms : List ℕ) → Each (Asked l) ms
  every_table l e [] = tt
  every_table l e (m ∷ ms) = (asks l e m, every_table l e ms)

  pub one_pass : (l : List Clause) → placed l ≡ true → passes l w tables ≡ all_hold l w
  one_pass l k =
      same (passes l w tables) (all_hold l w)
      (same_as
      (λ e. finds l k (λ m q. among (Asked l) m tables q e))
      (λ e. every_table l e tables)
      (pass_means l tables))
      (rows w l)

  pub sound_passes : (shaped w && passes sound_clauses w tables) ≡ sound w
  unfolding sound
  sound_passes = rw (one_pass sound_clauses refl)
