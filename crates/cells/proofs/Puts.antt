-- A record that is written changes its entry of the view and nothing else, of every kind. Assumes nothing.
use Prim.Native.Nat.{ℕ, ◌+◌, ◌-◌, ◌≤◌, ◌<◌}
use mathlib.Core.Path.{◌≡◌, refl, sym, ap, ◌∙◌}
use mathlib.Core.List.{List}
use native.Mathlib.Omega.{arith}
use lib.Dec.{lit≤}
use lib.ListN.{length}
use borrow.Rule.Slice.PartMut.{put_mid}
use Rattle.laws.specs.Row.{row}
use Rattle.laws.proofs.Row.{row_put, same_put, listed}
use Rattle.names.specs.Size.{end_buffer, unit_buffer}
use Rattle.cells.specs.KindLaws.{node_laws, link_laws, port_laws, tile_laws, end_laws, unit_laws, line_laws}
use Rattle.cells.specs.Layout.{Within, begins, nodes_in, node, link, port, tile, end, unit, line}
use Rattle.cells.specs.Record.{Rewritten, RecordLaws}
use Rattle.cells.specs.Records.{to_end, to_unit}
use Rattle.cells.specs.Records.{from_node, from_link, from_port, from_tile, from_end, from_unit, from_line}
use Rattle.cells.specs.View.{Net, view}
use Rattle.cells.specs.View.{with_node, with_link, with_port, with_tile, with_end, with_unit, with_line}
use Rattle.cells.specs.declared.layout.Kind.{Kind}
use Rattle.cells.specs.declared.node.Node.{Node}
use Rattle.cells.specs.declared.link.Link.{Link}
use Rattle.cells.specs.declared.port.Port.{Port}
use Rattle.cells.specs.declared.tile.Tile.{Tile}
use Rattle.cells.specs.declared.end.End.{End}
use Rattle.cells.specs.declared.unit.Unit.{Unit}
use Rattle.cells.specs.declared.line.Line.{Line}
use Rattle.cells.proofs.Tables.{in_state, rewritten}

-- where ws is put into the words from a up to e, which are those of record i of node n
module _ (k : Kind) (w : Within k) (xs ws : List ℕ) (n i a e : ℕ) (hn : n < nodes_in xs) (hi : i < k.many) (ha : a ≡ begins k n i)
    (he : e ≡ a + k.size) (long : length ws ≡ k.size) where
  ends : e ≤ length xs
  ends = omega (arith, in_state k w xs n i hn hi)

  sized : e - a ≡ k.size
  sized = omega arith

  put_there : Rewritten k n i xs (put_mid a (e - a) xs ws)
  put_there = rewritten k w n i hn hi (rw (← ha, ← he) (same_put xs ws a e (omega arith) ends (long ∙ sym sized)))

  words_there : row k.size (begins k n i) (put_mid a (e - a) xs ws) ≡ ws
  words_there = rw (← ha) (row_put xs ws a e k.size (omega arith) ends long sized)

-- the view after a record of any kind is written
pub record_put : {R : Type 0} {k : Kind} {of_words : List ℕ → R} {to_words : R → List ℕ} {entry : Net → ℕ → ℕ → R}
    {with : Net → ℕ → ℕ → R → Net}
    → RecordLaws k of_words to_words entry with
    → (xs ws : List ℕ) (n i a e : ℕ) (r : R) → n < nodes_in xs → i < k.many
    → a ≡ begins k n i → e ≡ a + k.size → ws ≡ to_words r → of_words (to_words r) ≡ r
    → view (put_mid a (e - a) xs ws) ≡ with (view xs) n i r
record_put {k = k} {of_words = of_words} {with = with} laws xs ws n i a e r hn hi ha he h back =
    let long = ap length h ∙ laws.sized r in
    let found = words_there k laws.within xs ws n i a e hn hi ha he long in
    laws.writes xs (put_mid a (e - a) xs ws) n i (put_there k laws.within xs ws n i a e hn hi ha he long)
    ∙ ap (with (view xs) n i) (ap of_words (found ∙ h) ∙ back)

-- a record that holds an array is read back as it was written
buffer_back : (k : End) → length k.buffer.tokens ≡ end_buffer → (to_end (from_end k)).buffer ≡ k.buffer
buffer_back k full = λ j. record { held = k.buffer.held; tokens = sym (listed end_buffer k.buffer.tokens 0 full) j }

end_back : (k : End) → length k.buffer.tokens ≡ end_buffer → to_end (from_end k) ≡ k
end_back k full = λ j. record { aim = k.aim; sending = k.sending; claim = k.claim; buffer = buffer_back k full j }

hearing_back : (k : Unit) → length k.hearing.tokens ≡ unit_buffer → (to_unit (from_unit k)).hearing ≡ k.hearing
hearing_back k full = λ j. record { heard = k.hearing.heard; tokens = sym (listed unit_buffer k.hearing.tokens 0 full) j }

unit_back : (k : Unit) → length k.hearing.tokens ≡ unit_buffer → to_unit (from_unit k) ≡ k
unit_back k full = λ j. record { serves = k.serves; hearing = hearing_back k full j }

-- The view after each kind of record is written

pub node_put : (xs ws : List ℕ) (n a e : ℕ) (k : Node) → n < nodes_in xs
    → a ≡ begins node n 0 → e ≡ a + node.size → ws ≡ from_node k
    → view (put_mid a (e - a) xs ws) ≡ with_node (view xs) n k
node_put xs ws n a e k hn ha he h = record_put node_laws xs ws n 0 a e k hn (lit≤ tt) ha he h refl

pub link_put : (xs ws : List ℕ) (n i a e : ℕ) (k : Link) → n < nodes_in xs → i < link.many
    → a ≡ begins link n i → e ≡ a + link.size → ws ≡ from_link k
    → view (put_mid a (e - a) xs ws) ≡ with_link (view xs) n i k
link_put xs ws n i a e k hn hi ha he h = record_put link_laws xs ws n i a e k hn hi ha he h refl

pub port_put : (xs ws : List ℕ) (n i a e : ℕ) (k : Port) → n < nodes_in xs → i < port.many
    → a ≡ begins port n i → e ≡ a + port.size → ws ≡ from_port k
    → view (put_mid a (e - a) xs ws) ≡ with_port (view xs) n i k
port_put xs ws n i a e k hn hi ha he h = record_put port_laws xs ws n i a e k hn hi ha he h refl

pub tile_put : (xs ws : List ℕ) (n i a e : ℕ) (k : Tile) → n < nodes_in xs → i < tile.many
    → a ≡ begins tile n i → e ≡ a + tile.size → ws ≡ from_tile k
    → view (put_mid a (e - a) xs ws) ≡ with_tile (view xs) n i k
tile_put xs ws n i a e k hn hi ha he h = record_put tile_laws xs ws n i a e k hn hi ha he h refl

pub end_put : (xs ws : List ℕ) (n i a e : ℕ) (k : End) → n < nodes_in xs → i < end.many
    → a ≡ begins end n i → e ≡ a + end.size → length k.buffer.tokens ≡ end_buffer → ws ≡ from_end k
    → view (put_mid a (e - a) xs ws) ≡ with_end (view xs) n i k
end_put xs ws n i a e k hn hi ha he full h = record_put end_laws xs ws n i a e k hn hi ha he h (end_back k full)

pub unit_put : (xs ws : List ℕ) (n a e : ℕ) (k : Unit) → n < nodes_in xs
    → a ≡ begins unit n 0 → e ≡ a + unit.size → length k.hearing.tokens ≡ unit_buffer → ws ≡ from_unit k
    → view (put_mid a (e - a) xs ws) ≡ with_unit (view xs) n k
unit_put xs ws n a e k hn ha he full h = record_put unit_laws xs ws n 0 a e k hn (lit≤ tt) ha he h (unit_back k full)

pub line_put : (xs ws : List ℕ) (n i a e : ℕ) (k : Line) → n < nodes_in xs → i < line.many
    → a ≡ begins line n i → e ≡ a + line.size → ws ≡ from_line k
    → view (put_mid a (e - a) xs ws) ≡ with_line (view xs) n i k
line_put xs ws n i a e k hn hi ha he h = record_put line_laws xs ws n i a e k hn hi ha he h refl
