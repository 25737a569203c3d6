-- What every kind of record keeps: its words read are its entry of the view, and its words written change that entry alone.
use Rattle.std.specs.Prelude.{ℕ, ◌*◌, ◌+◌, ◌<◌, ◌≤◌, ◌≡◌, ◌⊎◌, List, length, drop}
use Rattle.laws.specs.Row.{row}
use Rattle.laws.specs.Table.{upd}
use Rattle.cells.specs.Layout.{stride, Within, begins, nodes_in, words_of}
use Rattle.cells.specs.View.{Net, view}
use Rattle.cells.specs.declared.layout.Kind.{Kind}

-- two kinds whose records do not meet within a node
abbrev pub Clear : Kind → Kind → Type 0
Clear k l = (k.from + k.many * k.size ≤ l.from) ⊎ (l.from + l.many * l.size ≤ k.from)

-- ys is xs but for the words of record i of node n, and has that record
pub record Rewritten (k : Kind) (n i : ℕ) (xs ys : List ℕ) : Type 0 where
  pub there : i < k.many
  pub nodes : nodes_in ys ≡ nodes_in xs
  pub kind : words_of k ys ≡ upd (words_of k xs) n i (row k.size (begins k n i) ys)
  pub others : (l : Kind) → Within l → Clear k l → words_of l ys ≡ words_of l xs
  pub rest : drop (nodes_in ys * stride) ys ≡ drop (nodes_in xs * stride) xs

pub record RecordLaws {R : Type 0} (k : Kind) (of_words : List ℕ → R) (to_words : R → List ℕ) (entry : Net → ℕ → ℕ → R)
    (with : Net → ℕ → ℕ → R → Net) : Type 0 where
  pub within : Within k
  pub sized : (r : R) → length (to_words r) ≡ k.size
  pub reads : (ws : List ℕ) (n i : ℕ) → of_words (words_of k ws n i) ≡ entry (view ws) n i
  pub writes : (xs ys : List ℕ) (n i : ℕ) → Rewritten k n i xs ys
      → view ys ≡ with (view xs) n i (of_words (row k.size (begins k n i) ys))
