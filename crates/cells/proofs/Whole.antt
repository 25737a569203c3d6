-- The view leaves no word out: two states with one view are the same words, whatever their lengths and contents. So a contract on views
-- names every word of the state. Assumes nothing.
use Prim.Native.Nat.{ℕ, ◌+◌, ◌*◌, ◌-◌, ◌/◌, ◌%◌, ◌≤◌, ◌<◌}
use mathlib.Core.Path.{◌≡◌, sym, ap, ◌∙◌}
use mathlib.Core.Logic.{⊎_elim}
use mathlib.Core.List.{List}
use native.Mathlib.Omega.{arith}
use Rattle.std.proofs.Math.Nat.{div-add-mod, mod-lt, div-lt_iff_lt-mul}
use lib.Dec.{lit≤}
use lib.ListN.{length, get_or, drop, length-drop}
use lib.Seq.{ext_get_or, get_or-drop}
use Rattle.laws.specs.Row.{row}
use Rattle.laws.proofs.Order.{order}
use Rattle.laws.proofs.Row.{row_long, row_at, listed}
use Rattle.cells.specs.KindLaws.{node_laws, link_laws, port_laws, tile_laws, end_laws, unit_laws, line_laws}
use Rattle.cells.specs.Layout.{stride, begins, nodes_in, words_of, after, node, link, port, tile, end, unit, line}
use Rattle.cells.specs.Record.{RecordLaws}
use Rattle.cells.specs.View.{view, Net}
use Rattle.cells.specs.declared.layout.Kind.{Kind}
use Rattle.cells.proofs.Tables.{in_state, inside_is}

module _ (xs ys : List ℕ) (e : view xs ≡ view ys) where
  nodes_same : nodes_in xs ≡ nodes_in ys
  unfolding view
  nodes_same = ap (λ (v : Net). v.nodes) e

  rest_same : drop (nodes_in xs * stride) xs ≡ drop (nodes_in ys * stride) ys
  unfolding view
  rest_same = ap (λ (v : Net). v.rest) e

  length_same : length xs ≡ length ys
  length_same =
      let r : length xs - nodes_in xs * stride ≡ length ys - nodes_in ys * stride =
      sym (length-drop (nodes_in xs * stride) xs) ∙ ap length rest_same ∙ length-drop (nodes_in ys * stride) ys in
      omega (arith, nodes_same)

  -- word i, as word j of a row that begins at a, or past the last node
  in_row_lem : (s a j i : ℕ) → i ≡ a + j → j < s → row s a xs ≡ row s a ys → get_or xs i 0 ≡ get_or ys i 0
  in_row_lem s a j i q h r = rw q (sym (row_at s a j xs 0 h) ∙ ap (λ (l : List ℕ). get_or l j 0) r ∙ row_at s a j ys 0 h)

  in_rest : (i : ℕ) → nodes_in xs * stride ≤ i → get_or xs i 0 ≡ get_or ys i 0
  in_rest i h =
      let b = nodes_in xs * stride in
      let q : b + (i - b) ≡ i = omega arith in
      let r : drop b xs ≡ drop b ys = rest_same ∙ ap (λ (m : ℕ). drop (m * stride) ys) (sym nodes_same) in
      rw (← q) (sym (get_or-drop b xs (i - b) 0) ∙ ap (λ (l : List ℕ). get_or l (i - b) 0) r ∙ get_or-drop b ys (i - b) 0)

  -- a record of any kind, which is read back from its words: they are the same where the entries are
  module _ {R : Type 0} {k : Kind} {of_words : List ℕ → R} {to_words : R → List ℕ} {entry : Net → ℕ → ℕ → R}
      {with : Net → ℕ → ℕ → R → Net} (laws : RecordLaws k of_words to_words entry with)
      (back : (r : List ℕ) → length r ≡ k.size → to_words (of_words r) ≡ r) (some : 0 < k.size) (n : ℕ) (hn : n < nodes_in xs) where
    row_same : (i : ℕ) → i < k.many → row k.size (begins k n i) xs ≡ row k.size (begins k n i) ys
    row_same i hi =
        let hm : n < nodes_in ys = omega (arith, nodes_same) in
        let there = laws.within in
        let entries : of_words (words_of k xs n i) ≡ of_words (words_of k ys n i) =
        laws.reads xs n i ∙ ap (λ (v : Net). entry v n i) e ∙ sym (laws.reads ys n i) in
        let q : of_words (row k.size (begins k n i) xs) ≡ of_words (row k.size (begins k n i) ys) =
        rw (inside_is k xs n i hn hi, inside_is k ys n i hm hi) at entries in
        sym (back (row k.size (begins k n i) xs) (row_long k.size (begins k n i) xs (in_state k there xs n i hn hi)))
        ∙ ap to_words q
        ∙ back (row k.size (begins k n i) ys) (row_long k.size (begins k n i) ys (in_state k there ys n i hm hi))

    -- the word at place r of the node, which is word j of record q of the kind
    in_kind : (i r : ℕ) → i ≡ n * stride + r → k.from ≤ r → r < after k → get_or xs i 0 ≡ get_or ys i 0
    in_kind i r at h l =
        let q = (r - k.from) / k.size in
        let j = (r - k.from) % k.size in
        let split : k.size * q + j ≡ r - k.from = div-add-mod (r - k.from) k.size in
        let small : j < k.size = mod-lt (r - k.from) some in
        let hq : q < k.many = (div-lt_iff_lt-mul some).1 (omega arith) in
        in_row_lem k.size (begins k n q) j i (omega (arith, split)) small (row_same q hq)

  -- the words of every line
  line_rows_lem : (n i : ℕ) → n < nodes_in xs → i < line.many → row line.size (begins line n i) xs ≡ row line.size (begins line n i) ys
  line_rows_lem n i hn hi = row_same line_laws (λ r h. rw (listed line.size r 0 h)) (lit≤ tt) n hn i hi

  -- a word of a whole node: r is its place among the node's words
  module _ (i n r : ℕ) (at : i ≡ n * stride + r) (hn : n < nodes_in xs) (hr : r < stride) where
    from_unit_lem : unit.from ≤ r → get_or xs i 0 ≡ get_or ys i 0
    from_unit_lem h =
        ⊎_elim
        (in_kind unit_laws (λ r h. rw (listed unit.size r 0 h)) (lit≤ tt) n hn i r at h)
        (λ l. in_kind line_laws (λ r h. rw (listed line.size r 0 h)) (lit≤ tt) n hn i r at l hr)
        (order r line.from)

    from_end_lem : end.from ≤ r → get_or xs i 0 ≡ get_or ys i 0
    from_end_lem h =
        ⊎_elim
        (in_kind end_laws (λ r h. rw (listed end.size r 0 h)) (lit≤ tt) n hn i r at h)
        from_unit_lem
        (order r unit.from)

    from_tile_lem : tile.from ≤ r → get_or xs i 0 ≡ get_or ys i 0
    from_tile_lem h =
        ⊎_elim
        (in_kind tile_laws (λ r h. rw (listed tile.size r 0 h)) (lit≤ tt) n hn i r at h)
        from_end_lem
        (order r end.from)

    from_port_lem : port.from ≤ r → get_or xs i 0 ≡ get_or ys i 0
    from_port_lem h =
        ⊎_elim
        (in_kind port_laws (λ r h. rw (listed port.size r 0 h)) (lit≤ tt) n hn i r at h)
        from_tile_lem
        (order r tile.from)

    from_node_lem : r < port.from → get_or xs i 0 ≡ get_or ys i 0
    from_node_lem g =
        ⊎_elim
        (in_kind node_laws (λ r h. rw (listed node.size r 0 h)) (lit≤ tt) n hn i r at (omega arith))
        (λ h. in_kind link_laws (λ r h. rw (listed link.size r 0 h)) (lit≤ tt) n hn i r at h g)
        (order r link.from)

    in_node : get_or xs i 0 ≡ get_or ys i 0
    in_node = ⊎_elim from_node_lem from_port_lem (order r port.from)

  pub whole_state : xs ≡ ys
  whole_state =
      ext_get_or 0 xs ys length_same (λ i h.
      ⊎_elim
      (λ l. in_node i (i / stride) (i % stride) (omega arith) (omega arith) (omega arith))
      (in_rest i)
      (order i (nodes_in xs * stride)))
