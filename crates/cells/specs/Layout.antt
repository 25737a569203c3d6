-- Where a word of the state lies. Nothing above this crate opens these definitions.
use Rattle.std.specs.Prelude.{ℕ, ◌+◌, ◌*◌, ◌/◌, ◌≤◌, Bool, ◌&&◌, List, [], ltb, length}
use Rattle.laws.specs.Pick.{pick}
use Rattle.laws.specs.Row.{row}
use Rattle.names.specs.Size as Size
use Rattle.circuits.specs.Circuit.{circuit_words}
use Rattle.cells.specs.Records.{node_own, link_own, port_own, end_own, unit_own, line_own}
use Rattle.cells.specs.declared.layout.Kind.{Kind}

-- the kinds of record, one after the other: each begins where the one before it ends
abbrev pub after : Kind → ℕ
after k = k.from + k.many * k.size

abbrev pub node : Kind
node = record { many = 1; from = 0; size = node_own }

abbrev pub link : Kind
link = record { many = Size.links; from = after node; size = link_own + circuit_words }

abbrev pub port : Kind
port = record { many = Size.ports; from = after link; size = port_own + 2 * circuit_words }

abbrev pub tile : Kind
tile = record { many = Size.tile_links; from = after port; size = circuit_words }

abbrev pub end : Kind
end = record { many = Size.ends; from = after tile; size = end_own + 2 * circuit_words }

abbrev pub unit : Kind
unit = record { many = 1; from = after end; size = unit_own + circuit_words }

abbrev pub line : Kind
line = record { many = Size.links; from = after unit; size = line_own }

-- the words of a node
abbrev pub stride : ℕ
stride = after line

-- all records of a kind lie among the node's words
abbrev pub Within : Kind → Type 0
Within k = k.from + k.many * k.size ≤ stride

-- where record i of node n begins
abbrev pub begins : Kind → ℕ → ℕ → ℕ
begins k n i = n * stride + k.from + i * k.size

-- "The number of nodes is what the state's length says"
abbrev pub nodes_in : List ℕ → ℕ
nodes_in ws = length ws / stride

abbrev pub inside : Kind → List ℕ → ℕ → ℕ → Bool
inside k ws n i = ltb n (nodes_in ws) && ltb i k.many

-- the words of record i of node n, none where there is no such record
abbrev pub words_of : Kind → List ℕ → ℕ → ℕ → List ℕ
words_of k ws n i = pick (inside k ws n i) (row k.size (begins k n i) ws) []

-- the table of a kind, each record read by f from its words
abbrev pub table : {A : Type 0} → Kind → (List ℕ → A) → List ℕ → ℕ → ℕ → A
table k f ws n i = f (words_of k ws n i)
