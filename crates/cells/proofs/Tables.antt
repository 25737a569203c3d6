-- The tables of the state after the words of one record changed, once for every kind. Assumes nothing.
use Prim.Native.Nat.{ℕ, ◌+◌, ◌*◌, ◌-◌, ◌/◌, ◌≤◌, ◌<◌}
use mathlib.Core.Path.{◌≡◌, refl, sym, ap, ◌∙◌, fun_ext}
use mathlib.Core.Logic.{inl, inr, ⊎_elim}
use mathlib.Core.List.{List, []}
use mathlib.Core.Bool.{true}
use native.Mathlib.Decide.{ℕ_discrete}
use native.Mathlib.Omega.{arith}
use lib.Dec.{eqb, ltb}
use lib.ListN.{length, drop}
use borrow.Author.Tests.{eqb-false, lt-ltb}
use borrow.Rule.Slice.PartMut.{mid_of}
use Rattle.laws.specs.Pick.{pick}
use Rattle.laws.specs.Row.{row, Apart, Same}
use Rattle.laws.specs.Table.{upd, Off}
use Rattle.laws.proofs.All.{both, below}
use Rattle.laws.proofs.Order.{by_test, order, next}
use Rattle.laws.proofs.Row.{row_long, row_kept, rest_kept}
use Rattle.laws.proofs.Table.{place, upd_hit, upd_miss}
use Rattle.cells.specs.Layout.{stride, Within, begins, nodes_in, inside, words_of, table}
use Rattle.cells.specs.Record.{Clear, Rewritten}
use Rattle.cells.specs.declared.layout.Kind.{Kind}

pub is_inside : (k : Kind) (ws : List ℕ) (n i : ℕ) → inside k ws n i ≡ true → (n < nodes_in ws) × (i < k.many)
is_inside k ws n i e = (both (ltb n (nodes_in ws)) (ltb i k.many) (below n (nodes_in ws)) (below i k.many)).sure e

pub inside_is : (k : Kind) (ws : List ℕ) (n i : ℕ) → n < nodes_in ws → i < k.many → inside k ws n i ≡ true
inside_is k ws n i h g = rw (lt-ltb n (nodes_in ws) h, lt-ltb i k.many g)

-- words that are not as many as a record has are none
abbrev pub whole : ℕ → List ℕ → List ℕ
whole s r = pick (eqb (length r) s) r []

module _ (k : Kind) (within : Within k) where
  -- a record ends within its node, and so within the state
  pub in_node : (n i : ℕ) → i < k.many → begins k n i + k.size ≤ n * stride + stride
  in_node n i h = omega (arith, next i k.many k.size h)

  pub in_state : (ws : List ℕ) (n i : ℕ) → n < nodes_in ws → i < k.many → begins k n i + k.size ≤ length ws
  in_state ws n i h g = omega (arith, in_node n i g)

  -- the words of a record are as many as it has, or none
  pub words_missing : (ws : List ℕ) (n i : ℕ) → (length (words_of k ws n i) ≡ k.size → ⊥) → words_of k ws n i ≡ []
  words_missing ws n i short =
      by_test (inside k ws n i)
      (λ e.
      let z = is_inside k ws n i e in
      let l = row_long k.size (begins k n i) ws (in_state ws n i z.0 z.1) in
      absurd (short (rw e l)))
      (λ e. rw e)

  pub words_whole : (ws : List ℕ) (n i : ℕ) → whole k.size (words_of k ws n i) ≡ words_of k ws n i
  words_whole ws n i =
      by_test (eqb (length (words_of k ws n i)) k.size)
      (λ e. rw e)
      (λ e. rw e (sym (words_missing ws n i (eqb-false (length (words_of k ws n i)) k.size e))))

  -- the part from a record's begin to its end is its words
  pub part_words : (ws : List ℕ) (n i a e : ℕ) → n < nodes_in ws → i < k.many → a ≡ begins k n i → e ≡ a + k.size
      → mid_of a (e - a) ws ≡ words_of k ws n i
  part_words ws n i a e h g ha he =
      let sized : e - a ≡ k.size = omega arith in rw (inside_is k ws n i h g, sized, ha)

module _ (k l : Kind) (wk : Within k) (wl : Within l) (n i m j : ℕ) (hi : i < k.many) (hj : j < l.many) where
  -- records of two nodes
  apart_nodes : (m ≡ n → ⊥) → Apart (begins k n i) (begins k n i + k.size) (begins l m j) l.size
  apart_nodes ne =
      ⊎_elim
      (λ h. inl (omega (arith, in_node l wl m j hj)))
      (λ h. inr (omega (arith, in_node k wk n i hi)))
      (order m n)

  -- records of two kinds
  apart_kinds : Clear k l → Apart (begins k n i) (begins k n i + k.size) (begins l m j) l.size
  apart_kinds (inl h) =
      elim (ℕ_discrete m n) [
        | yes e ↦ inr (omega (arith, next i k.many k.size hi))
        | no e ↦ apart_nodes e
      ]
  apart_kinds (inr h) =
      elim (ℕ_discrete m n) [
        | yes e ↦ inl (omega (arith, next j l.many l.size hj))
        | no e ↦ apart_nodes e
      ]

-- two records of one kind
apart_places : (k : Kind) → Within k → (n i m j : ℕ) → i < k.many → j < k.many → Off n i m j
    → Apart (begins k n i) (begins k n i + k.size) (begins k m j) k.size
apart_places k w n i m j hi hj o =
    elim (ℕ_discrete m n) [
      | yes e ↦
          ⊎_elim
          (λ h. inl (omega (arith, next j i k.size h)))
          (λ h. elim (ℕ_discrete j i) [
            | yes d ↦ absurd (o e d)
            | no d ↦ inr (omega (arith, next i j k.size (omega arith)))
          ])
          (order j i)
      | no e ↦ apart_nodes k k w w n i m j hi hj e
    ]

-- The words of record i of node n changed, and no others
module _ (k : Kind) (wk : Within k) (n i : ℕ) {xs ys : List ℕ} (hn : n < nodes_in xs) (hi : i < k.many)
    (same : Same (begins k n i) (begins k n i + k.size) xs ys) where
  pub nodes_same : nodes_in ys ≡ nodes_in xs
  nodes_same = ap (λ (m : ℕ). m / stride) same.long

  -- the words of a record that lies apart
  words_kept : (l : Kind) (m j : ℕ) → (j < l.many → Apart (begins k n i) (begins k n i + k.size) (begins l m j) l.size)
      → words_of l ys m j ≡ words_of l xs m j
  words_kept l m j o =
      by_test (inside l xs m j)
      (λ e. rw (nodes_same, e) (row_kept same (begins l m j) l.size (o (is_inside l xs m j e).1)))
      (λ e. rw (nodes_same, e))

  pub table_kept : {A : Type 0} (l : Kind) (f : List ℕ → A) → Within l → Clear k l → table l f ys ≡ table l f xs
  table_kept l f wl clear =
      fun_ext (λ m. fun_ext (λ j. ap f (words_kept l m j (λ hj. apart_kinds k l wk wl n i m j hi hj clear))))

  pub table_set : {A : Type 0} (f : List ℕ → A) → table k f ys ≡ upd (table k f xs) n i (f (row k.size (begins k n i) ys))
  table_set f =
      fun_ext (λ m. fun_ext (λ j.
      place n i m j
      (λ d e. rw (d, e, inside_is k ys n i (omega (arith, nodes_same)) hi) (sym (upd_hit (table k f xs) n i _ n i refl refl)))
      (λ o. ap f (words_kept k m j (λ hj. apart_places k wk n i m j hi hj o)) ∙ sym (upd_miss (table k f xs) n i _ m j o))))

  pub rewritten : Rewritten k n i xs ys
  rewritten =
      record {
        there = hi;
        nodes = nodes_same;
        kind = table_set (λ r. r);
        others = λ l wl clear. table_kept l (λ r. r) wl clear;
        rest =
            ap (λ (m : ℕ). drop (m * stride) ys) nodes_same
            ∙ rest_kept same (nodes_in xs * stride) (omega (arith, in_node k wk n i hi));
      }
