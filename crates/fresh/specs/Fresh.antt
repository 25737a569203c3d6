-- The two starts. "Fresh: all nodes number 0, width three, directions 0, links unwired, disabled, network 0; channel-ends unaimed; every
-- token word 0. A node count outside 1..16 is NoSuch at any memory length." (document 01, "Calls"); "Document 000 section 3.2.2 has links E
-- to H enabled after start; Fresh should too. The old start stays under its own name" (document 02, Ask 7): Blank.
use Rattle.std.specs.Prelude.{ℕ, Bool, not, ◌&&◌, List, [], ◌∷◌, eqb, ltb, leb}
use Rattle.names.specs.Size.{nodes, links}
use Rattle.names.specs.declared.no.No.TheVariants.{Unsound, NoSuch}
use Rattle.answers.specs.Rows.{Row, refused_if}
use Rattle.answers.specs.Out.{Out, out, attempt}
use Rattle.answers.specs.Answered.{Done}
use Rattle.cells.specs.World.{World, shaped}
use Rattle.cells.specs.Start.{start_world, none_on}
use Rattle.fresh.specs.declared.Start.{Start}
use Rattle.fresh.specs.declared.Start.TheVariants.{Fresh, Blank}

-- "1 to 16 nodes"
abbrev pub counted : ℕ → Bool
counted n = leb 1 n && leb n nodes

-- the memories have the lengths of n nodes
abbrev pub fits : World → ℕ → Bool
fits w n = shaped w && eqb w.net.nodes n

-- the count goes before the lengths, against "the lowest number wins"; the old state is not looked at
abbrev pub start_rows : World → ℕ → List Row
start_rows w n = refused_if (not (counted n)) NoSuch ∷ refused_if (not (fits w n)) Unsound ∷ []

-- link E, the first that the boot ROM enables
abbrev pub first_boot_link : ℕ
first_boot_link = 4

-- "links E to H"
abbrev pub boot_link : ℕ → Bool
boot_link l = leb first_boot_link l && ltb l links

-- which links of n nodes are enabled
abbrev pub leaves_on : Start → ℕ → ℕ → ℕ → Bool
leaves_on Fresh n m l = boot_link l && ltb m n
leaves_on Blank n m l = none_on m l

-- what a start of n nodes leaves
abbrev pub start_of : Start → ℕ → World
start_of s n = start_world (leaves_on s n) n

unfoldable pub begin : World → Start → ℕ → Out World
begin w s n = attempt (start_rows w n) w (out Done (start_of s n))
