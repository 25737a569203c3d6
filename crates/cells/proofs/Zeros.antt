-- The view of a state of zeros. Assumes nothing.
use Prim.Native.Nat.{ℕ, ◌+◌, ◌*◌, ◌/◌, ◌≤◌, ◌<◌}
use mathlib.Core.Path.{◌≡◌, refl, sym, ap, ◌∙◌}
use mathlib.Core.List.{List, []}
use native.Mathlib.Omega.{arith}
use lib.Dec.{lit≤}
use lib.ListN.{length, drop, replicate, length-replicate, get_or-replicate}
use lib.Seq.{ext_get_or, drop-length}
use borrow.Author.Tests.{le-ltb}
use Rattle.laws.specs.Row.{row}
use Rattle.laws.proofs.Order.{by_test}
use Rattle.laws.proofs.Row.{row_long, row_at}
use Rattle.cells.specs.Layout.{stride, Within, begins, nodes_in, table, inside, node, link, port, tile, end, unit, line}
use Rattle.cells.specs.Records.{to_node, to_link, to_port, to_tile, to_end, to_unit, to_line}
use Rattle.cells.specs.View.{view}
use Rattle.cells.specs.Start.{start_to, none_on}
use Rattle.cells.specs.declared.layout.Kind.{Kind}
use Rattle.cells.proofs.Tables.{in_state, is_inside}

abbrev zeros : ℕ → List ℕ
zeros n = replicate n 0

zeros_long : (n : ℕ) → length (zeros n) ≡ n
zeros_long n = length-replicate n 0

-- a stretch of zeros
zero_row : (n s a : ℕ) → a + s ≤ n → row s a (zeros n) ≡ zeros s
zero_row n s a h =
    let long : a + s ≤ length (zeros n) = rw (zeros_long n) h in
    ext_get_or 0 (row s a (zeros n)) (zeros s) (row_long s a (zeros n) long ∙ sym (zeros_long s))
    (λ i l.
    let k : i < s = rw (row_long s a (zeros n) long) at l in
    row_at s a i (zeros n) 0 k ∙ get_or-replicate n (a + i) 0 0 (omega arith) ∙ sym (get_or-replicate s i 0 0 k))

module _ (n : ℕ) where
  zero_nodes : nodes_in (zeros (n * stride)) ≡ n
  zero_nodes = ap (λ (l : ℕ). l / stride) (zeros_long (n * stride)) ∙ omega arith

  -- every record of a kind that reads zeros as it reads nothing
  zero_table : {A : Type 0} (k : Kind) → Within k → (f : List ℕ → A) → f (zeros k.size) ≡ f [] → (m i : ℕ)
      → table k f (zeros (n * stride)) m i ≡ f []
  zero_table k w f z m i =
      by_test (inside k (zeros (n * stride)) m i)
      (λ e.
      let h = is_inside k (zeros (n * stride)) m i e in
      let b = in_state k w (zeros (n * stride)) m i h.0 h.1 in
      rw (e, zero_row (n * stride) k.size (begins k m i) (rw (zeros_long (n * stride)) at b)) z)
      (λ e. rw e)

  zero_rest : drop (nodes_in (zeros (n * stride)) * stride) (zeros (n * stride)) ≡ []
  zero_rest =
      ap (λ (l : ℕ). drop l (zeros (n * stride))) (ap (λ (m : ℕ). m * stride) zero_nodes ∙ sym (zeros_long (n * stride)))
      ∙ drop-length (zeros (n * stride))

  zero_own : (m i : ℕ) → table node to_node (zeros (n * stride)) m i ≡ (start_to 0 none_on n).own m i
  zero_own m i = rw (le-ltb m 0 (omega arith)) (zero_table node (lit≤ tt) to_node refl m i)

  pub zero_view : view (zeros (n * stride)) ≡ start_to 0 none_on n
  unfolding view
  zero_view = λ j. record {
    nodes = zero_nodes j;
    own = λ m i. zero_own m i j;
    links = record {
      cables = λ m i. zero_table link (lit≤ tt) (λ r. (to_link r).cable) refl m i j;
      setups = λ m i. zero_table link (lit≤ tt) (λ r. (to_link r).setup) refl m i j;
      flows = λ m i. zero_table link (lit≤ tt) (λ r. (to_link r).flow) refl m i j;
      users = λ m i. zero_table link (lit≤ tt) (λ r. (to_link r).user) refl m i j;
    };
    ports = record {
      counters = λ m i. zero_table port (lit≤ tt) (λ r. (to_port r).counters) refl m i j;
      legs = λ m i. zero_table port (lit≤ tt) (λ r. (to_port r).leg) refl m i j;
      networks = λ m i. zero_table port (lit≤ tt) (λ r. (to_port r).network) refl m i j;
      senders = λ m i. zero_table port (lit≤ tt) (λ r. (to_port r).sender) refl m i j;
    };
    tiles = λ m i. zero_table tile (lit≤ tt) to_tile refl m i j;
    ends = record {
      aims = λ m i. zero_table end (lit≤ tt) (λ r. (to_end r).aim) refl m i j;
      sendings = λ m i. zero_table end (lit≤ tt) (λ r. (to_end r).sending) refl m i j;
      claims = λ m i. zero_table end (lit≤ tt) (λ r. (to_end r).claim) refl m i j;
      buffers = λ m i. zero_table end (lit≤ tt) (λ r. (to_end r).buffer) refl m i j;
    };
    units = record {
      serving = λ m i. zero_table unit (lit≤ tt) (λ r. (to_unit r).serves) refl m i j;
      hearings = λ m i. zero_table unit (lit≤ tt) (λ r. (to_unit r).hearing) refl m i j;
    };
    lines = record {
      rings = λ m i. zero_table line (lit≤ tt) (λ r. (to_line r).ring) refl m i j;
      issued = λ m i. zero_table line (lit≤ tt) (λ r. (to_line r).issued) refl m i j;
    };
    rest = zero_rest j;
  }
