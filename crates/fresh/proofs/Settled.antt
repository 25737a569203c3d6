-- One more node of a network of zeros has its settings. Assumes nothing.
use Prim.Native.Nat.{ℕ, ◌+◌, ◌*◌, ◌-◌, ◌≤◌}
use mathlib.Core.Path.{◌≡◌, sym, ap, ◌∙◌}
use mathlib.Core.Bool.{◌&&◌}
use mathlib.Core.List.{List, []}
use native.Mathlib.Omega.{arith}
use lib.Dec.{ltb}
use lib.ListN.{length, replicate, length-drop}
use borrow.Author.Tests.{lt-ltb, le-ltb, ltb-true, ltb-false}
use Rattle.laws.specs.Pick.{pick}
use Rattle.laws.specs.Table.{upd, Off}
use Rattle.laws.proofs.All.{and_false}
use Rattle.laws.proofs.Order.{by_test}
use Rattle.laws.proofs.Table.{upd_hit, upd_miss, place}
use Rattle.cells.specs.Layout.{stride, nodes_in}
use Rattle.cells.specs.Records.{to_node}
use Rattle.cells.specs.View.{view, with_node, Net}
use Rattle.cells.specs.Start.{start_node, start_to, start_net, none_on}
use Rattle.cells.specs.declared.node.Node.{Node}
use Rattle.cells.proofs.Zeros.{zero_view}

-- the settings of node m of which the first k nodes have theirs
abbrev settings : ℕ → ℕ → ℕ → Node
settings k m i = pick (ltb m k && ltb i 1) start_node (to_node [])

as_before : (k m i : ℕ) → Off k 0 m i → settings k m i ≡ settings (k + 1) m i
as_before k m i o =
    by_test (ltb i 1)
    (λ e.
    let z : i ≡ 0 = omega (arith, ltb-true i 1 e) in
    by_test (ltb m k)
    (λ f. rw (f, lt-ltb m (k + 1) (omega (arith, ltb-true m k f))))
    (λ f. rw (f, le-ltb m (k + 1) (past (λ q. o q z) (ltb-false m k f)))))
    (λ e. rw (e, and_false (ltb m k), and_false (ltb m (k + 1))))
  where
    past : {k m : ℕ} → (m ≡ k → ⊥) → k ≤ m → k + 1 ≤ m
    past ne nl = omega arith

one_more : (k m i : ℕ) → upd (settings k) k 0 start_node m i ≡ settings (k + 1) m i
one_more k m i =
    place k 0 m i
    (λ d e. upd_hit (settings k) k 0 start_node m i d e ∙ rw (lt-ltb m (k + 1) (omega arith), lt-ltb i 1 (omega arith)))
    (λ o. upd_miss (settings k) k 0 start_node m i o ∙ as_before k m i o)

pub settle_next : (k n : ℕ) → with_node (start_to k none_on n) k start_node ≡ start_to (k + 1) none_on n
settle_next k n =
    λ j. record {
      nodes = n;
      own = λ m i. one_more k m i j;
      links = (start_to k none_on n).links;
      ports = (start_to k none_on n).ports;
      tiles = (start_to k none_on n).tiles;
      ends = (start_to k none_on n).ends;
      units = (start_to k none_on n).units;
      lines = (start_to k none_on n).lines;
      rest = (start_to k none_on n).rest;
    }

-- past the last of e nodes: what is so of the first k of them is so of all n
pub past_last : (f : ℕ → ℕ → Net) (s : Net) (k e n : ℕ) → e ≡ n → k ≤ e → e ≤ k → s ≡ f k e → s ≡ f n n
past_last f s k e n q h g z =
    let d : k ≡ e = omega arith in z ∙ ap (λ (m : ℕ). f m e) d ∙ ap (λ (m : ℕ). f m m) q

-- a state of which nothing is left over after its last node, cleared
cleared_view : (ws : List ℕ) → (view ws).rest ≡ [] → view (replicate (length ws) 0) ≡ start_to 0 none_on (view ws).nodes
unfolding view
cleared_view ws h =
    let r : length ws - nodes_in ws * stride ≡ 0 = sym (length-drop (nodes_in ws * stride) ws) ∙ ap length h in
    let e : length ws ≡ nodes_in ws * stride = omega arith in
    ap (λ (l : ℕ). view (replicate l 0)) e ∙ zero_view (nodes_in ws)

module _ (ws zs : List ℕ) (h : (view ws).rest ≡ []) (e : zs ≡ replicate (length ws) 0) where
  zeroed : view zs ≡ start_to 0 none_on (view ws).nodes
  zeroed = ap view e ∙ cleared_view ws h

  nodes_kept : (view zs).nodes ≡ (view ws).nodes
  nodes_kept = ap (λ (s : Net). s.nodes) zeroed

  pub ready : view zs ≡ start_to 0 none_on (view zs).nodes
  ready = zeroed ∙ ap (start_to 0 none_on) (sym nodes_kept)

  -- .. and with its settings
  module _ (t : Net) (z : t ≡ start_net none_on (view zs).nodes) where
    pub settled : t ≡ start_net none_on (view ws).nodes
    settled = z ∙ ap (start_net none_on) nodes_kept

    pub settled_nodes : t.nodes ≡ (view ws).nodes
    settled_nodes = ap (λ (s : Net). s.nodes) settled

    pub settled_ready : t ≡ start_net none_on t.nodes
    settled_ready = settled ∙ ap (start_net none_on) (sym settled_nodes)
