-- The laws of each kind of record. A law's proof stands with the definitions, since each kind has its laws among its members.
use Rattle.std.specs.Prelude.{ℕ, zero, suc, ◌≡◌, refl, Bool, true, false, ◌&&◌, List, eqb}
use Rattle.std.proofs.Common.{arith, ap, ◌∙◌, inl, inr}
use mathlib.Core.Path.{fun_ext}
use lib.Dec.{lit≤}
use Rattle.laws.specs.Pick.{pick}
use Rattle.laws.specs.Row.{row}
use Rattle.laws.specs.Table.{upd}
use Rattle.cells.specs.Layout.{Within, begins, words_of, table, node, link, port, tile, end, unit, line}
use Rattle.cells.specs.Record.{Clear, Rewritten, RecordLaws}
use Rattle.cells.specs.Records.{to_node, to_link, to_port, to_tile, to_end, to_unit, to_line}
use Rattle.cells.specs.Records.{from_node, from_link, from_port, from_tile, from_end, from_unit, from_line}
use Rattle.cells.specs.View.{view, link_tables, port_tables, end_tables, unit_tables, line_tables}
use Rattle.cells.specs.View.{whole_link, whole_port, whole_end, whole_line}
use Rattle.cells.specs.View.{with_node, with_link, with_port, with_tile, with_end, with_unit, with_line}
use Rattle.cells.specs.declared.layout.Kind.{Kind}

read_pick : {A B : Type 0} (f : A → B) (b : Bool) (x y : A) → f (pick b x y) ≡ pick b (f x) (f y)
read_pick f true x y = refl
read_pick f false x y = refl

-- what is read by f after a change is changed as that is read
read_upd : {A B : Type 0} (f : A → B) (t : ℕ → ℕ → A) (n i : ℕ) (a : A) → (λ m j. f (upd t n i a m j)) ≡ upd (λ m j. f (t m j)) n i (f a)
unfolding upd
read_upd f t n i a = fun_ext (λ m. fun_ext (λ j. read_pick f (eqb m n && eqb j i) a (t m j)))

module _ {k : Kind} {n i : ℕ} {xs ys : List ℕ} (c : Rewritten k n i xs ys) where
  -- a table of the kind, read by f, and of another
  here : {A : Type 0} (f : List ℕ → A) → table k f ys ≡ upd (table k f xs) n i (f (row k.size (begins k n i) ys))
  here {A} f =
      ap {B = ℕ → ℕ → A} (λ (t : ℕ → ℕ → List ℕ) (m j : ℕ). f (t m j)) c.kind
      ∙ read_upd f (words_of k xs) n i (row k.size (begins k n i) ys)

  elsewhere : {A : Type 0} (l : Kind) (f : List ℕ → A) → Within l → Clear k l → table l f ys ≡ table l f xs
  elsewhere {A} l f w z = ap {B = ℕ → ℕ → A} (λ (t : ℕ → ℕ → List ℕ) (m j : ℕ). f (t m j)) (c.others l w z)

  -- a group of tables of another kind
  links_kept : Clear k link → link_tables ys ≡ link_tables xs
  links_kept z = λ j. record {
    cables = elsewhere link (λ r. (to_link r).cable) (lit≤ tt) z j;
    setups = elsewhere link (λ r. (to_link r).setup) (lit≤ tt) z j;
    flows = elsewhere link (λ r. (to_link r).flow) (lit≤ tt) z j;
    users = elsewhere link (λ r. (to_link r).user) (lit≤ tt) z j;
  }

  ports_kept : Clear k port → port_tables ys ≡ port_tables xs
  ports_kept z = λ j. record {
    counters = elsewhere port (λ r. (to_port r).counters) (lit≤ tt) z j;
    legs = elsewhere port (λ r. (to_port r).leg) (lit≤ tt) z j;
    networks = elsewhere port (λ r. (to_port r).network) (lit≤ tt) z j;
    senders = elsewhere port (λ r. (to_port r).sender) (lit≤ tt) z j;
  }

  ends_kept : Clear k end → end_tables ys ≡ end_tables xs
  ends_kept z = λ j. record {
    aims = elsewhere end (λ r. (to_end r).aim) (lit≤ tt) z j;
    sendings = elsewhere end (λ r. (to_end r).sending) (lit≤ tt) z j;
    claims = elsewhere end (λ r. (to_end r).claim) (lit≤ tt) z j;
    buffers = elsewhere end (λ r. (to_end r).buffer) (lit≤ tt) z j;
  }

  units_kept : Clear k unit → unit_tables ys ≡ unit_tables xs
  units_kept z = λ j. record {
    serving = elsewhere unit (λ r. (to_unit r).serves) (lit≤ tt) z j;
    hearings = elsewhere unit (λ r. (to_unit r).hearing) (lit≤ tt) z j;
  }

  lines_kept : Clear k line → line_tables ys ≡ line_tables xs
  lines_kept z = λ j. record {
    rings = elsewhere line (λ r. (to_line r).ring) (lit≤ tt) z j;
    issued = elsewhere line (λ r. (to_line r).issued) (lit≤ tt) z j;
  }

-- The kinds

-- a node has one
node_writes : (xs ys : List ℕ) (n i : ℕ) → Rewritten node n i xs ys
    → view ys ≡ with_node (view xs) n (to_node (row node.size (begins node n i) ys))
unfolding view
node_writes xs ys n zero c =
    λ j. record {
      nodes = c.nodes j;
      own = here c to_node j;
      links = links_kept c (inl (lit≤ tt)) j;
      ports = ports_kept c (inl (lit≤ tt)) j;
      tiles = elsewhere c tile to_tile (lit≤ tt) (inl (lit≤ tt)) j;
      ends = ends_kept c (inl (lit≤ tt)) j;
      units = units_kept c (inl (lit≤ tt)) j;
      lines = lines_kept c (inl (lit≤ tt)) j;
      rest = c.rest j;
    }
node_writes xs ys n (suc i) c = absurd (omega (arith, c.there))

pub node_laws : RecordLaws node to_node from_node (λ s n i. s.own n i) (λ s n i k. with_node s n k)
unfolding view
node_laws =
    record {
      within = lit≤ tt;
      sized = λ r. refl;
      reads = λ ws n i. refl;
      writes = λ xs ys n i c. node_writes xs ys n i c;
    }

pub link_laws : RecordLaws link to_link from_link whole_link with_link
unfolding view
link_laws =
    record {
      within = lit≤ tt;
      sized = λ r. refl;
      reads = λ ws n i. refl;
      writes =
          λ xs ys n i c.
          λ j. record {
            nodes = c.nodes j;
            own = elsewhere c node to_node (lit≤ tt) (inr (lit≤ tt)) j;
            links = record {
              cables = here c (λ r. (to_link r).cable) j;
              setups = here c (λ r. (to_link r).setup) j;
              flows = here c (λ r. (to_link r).flow) j;
              users = here c (λ r. (to_link r).user) j;
            };
            ports = ports_kept c (inl (lit≤ tt)) j;
            tiles = elsewhere c tile to_tile (lit≤ tt) (inl (lit≤ tt)) j;
            ends = ends_kept c (inl (lit≤ tt)) j;
            units = units_kept c (inl (lit≤ tt)) j;
            lines = lines_kept c (inl (lit≤ tt)) j;
            rest = c.rest j;
          };
    }

pub port_laws : RecordLaws port to_port from_port whole_port with_port
unfolding view
port_laws =
    record {
      within = lit≤ tt;
      sized = λ r. refl;
      reads = λ ws n i. refl;
      writes =
          λ xs ys n i c.
          λ j. record {
            nodes = c.nodes j;
            own = elsewhere c node to_node (lit≤ tt) (inr (lit≤ tt)) j;
            links = links_kept c (inr (lit≤ tt)) j;
            ports = record {
              counters = here c (λ r. (to_port r).counters) j;
              legs = here c (λ r. (to_port r).leg) j;
              networks = here c (λ r. (to_port r).network) j;
              senders = here c (λ r. (to_port r).sender) j;
            };
            tiles = elsewhere c tile to_tile (lit≤ tt) (inl (lit≤ tt)) j;
            ends = ends_kept c (inl (lit≤ tt)) j;
            units = units_kept c (inl (lit≤ tt)) j;
            lines = lines_kept c (inl (lit≤ tt)) j;
            rest = c.rest j;
          };
    }

pub tile_laws : RecordLaws tile to_tile from_tile (λ s n i. s.tiles n i) with_tile
unfolding view
tile_laws =
    record {
      within = lit≤ tt;
      sized = λ r. refl;
      reads = λ ws n i. refl;
      writes =
          λ xs ys n i c.
          λ j. record {
            nodes = c.nodes j;
            own = elsewhere c node to_node (lit≤ tt) (inr (lit≤ tt)) j;
            links = links_kept c (inr (lit≤ tt)) j;
            ports = ports_kept c (inr (lit≤ tt)) j;
            tiles = here c to_tile j;
            ends = ends_kept c (inl (lit≤ tt)) j;
            units = units_kept c (inl (lit≤ tt)) j;
            lines = lines_kept c (inl (lit≤ tt)) j;
            rest = c.rest j;
          };
    }

pub end_laws : RecordLaws end to_end from_end whole_end with_end
unfolding view
end_laws =
    record {
      within = lit≤ tt;
      sized = λ r. refl;
      reads = λ ws n i. refl;
      writes =
          λ xs ys n i c.
          λ j. record {
            nodes = c.nodes j;
            own = elsewhere c node to_node (lit≤ tt) (inr (lit≤ tt)) j;
            links = links_kept c (inr (lit≤ tt)) j;
            ports = ports_kept c (inr (lit≤ tt)) j;
            tiles = elsewhere c tile to_tile (lit≤ tt) (inr (lit≤ tt)) j;
            ends = record {
              aims = here c (λ r. (to_end r).aim) j;
              sendings = here c (λ r. (to_end r).sending) j;
              claims = here c (λ r. (to_end r).claim) j;
              buffers = here c (λ r. (to_end r).buffer) j;
            };
            units = units_kept c (inl (lit≤ tt)) j;
            lines = lines_kept c (inl (lit≤ tt)) j;
            rest = c.rest j;
          };
    }

-- a node has one
unit_writes : (xs ys : List ℕ) (n i : ℕ) → Rewritten unit n i xs ys
    → view ys ≡ with_unit (view xs) n (to_unit (row unit.size (begins unit n i) ys))
unfolding view
unit_writes xs ys n zero c =
    λ j. record {
      nodes = c.nodes j;
      own = elsewhere c node to_node (lit≤ tt) (inr (lit≤ tt)) j;
      links = links_kept c (inr (lit≤ tt)) j;
      ports = ports_kept c (inr (lit≤ tt)) j;
      tiles = elsewhere c tile to_tile (lit≤ tt) (inr (lit≤ tt)) j;
      ends = ends_kept c (inr (lit≤ tt)) j;
      units = record {
        serving = here c (λ r. (to_unit r).serves) j;
        hearings = here c (λ r. (to_unit r).hearing) j;
      };
      lines = lines_kept c (inl (lit≤ tt)) j;
      rest = c.rest j;
    }
unit_writes xs ys n (suc i) c = absurd (omega (arith, c.there))

pub unit_laws : RecordLaws unit to_unit from_unit (λ s n i. record { serves = s.units.serving n i; hearing = s.units.hearings n i })
    (λ s n i k. with_unit s n k)
unfolding view
unit_laws =
    record {
      within = lit≤ tt;
      sized = λ r. refl;
      reads = λ ws n i. refl;
      writes = λ xs ys n i c. unit_writes xs ys n i c;
    }

pub line_laws : RecordLaws line to_line from_line whole_line with_line
unfolding view
line_laws =
    record {
      within = lit≤ tt;
      sized = λ r. refl;
      reads = λ ws n i. refl;
      writes =
          λ xs ys n i c.
          λ j. record {
            nodes = c.nodes j;
            own = elsewhere c node to_node (lit≤ tt) (inr (lit≤ tt)) j;
            links = links_kept c (inr (lit≤ tt)) j;
            ports = ports_kept c (inr (lit≤ tt)) j;
            tiles = elsewhere c tile to_tile (lit≤ tt) (inr (lit≤ tt)) j;
            ends = ends_kept c (inr (lit≤ tt)) j;
            units = units_kept c (inr (lit≤ tt)) j;
            lines = record {
              rings = here c (λ r. (to_line r).ring) j;
              issued = here c (λ r. (to_line r).issued) j;
            };
            rest = c.rest j;
          };
    }
