-- "Wire: join two different link ends, both unwired .." (document 01, "Calls"), enabled or not (document 02, Ask 7: "Wire is Busy only for
-- a wired end, no longer for an enabled one")
use Rattle.std.specs.Prelude.{ℕ, Bool, not, ◌&&◌, ◌||◌, List, [], ◌∷◌, eqb, ltb}
use Rattle.names.specs.Size.{links}
use Rattle.names.specs.declared.no.No.TheVariants.{NoSuch, Value, Busy}
use Rattle.answers.specs.Rows.{Row, refused_if}
use Rattle.answers.specs.Out.{Out, out, attempt}
use Rattle.answers.specs.Answered.{Done}
use Rattle.cells.specs.View.{Net, with_cable}
use Rattle.cells.specs.declared.link.Cable.{Cable}

-- link l of node n is present
abbrev pub link_at : Net → ℕ → ℕ → Bool
link_at s n l = ltb n s.nodes && ltb l links

-- "a wired end"
abbrev pub end_wired : Net → ℕ → ℕ → Bool
end_wired s n l = eqb (s.links.cables n l).wired 1

-- "NoSuch: slot, link not present; Value: a link joined to itself; Busy: Wire on a wired .. end"
abbrev pub wire_rows : Net → ℕ → ℕ → ℕ → ℕ → List Row
wire_rows s n l m k =
    refused_if (not (link_at s n l && link_at s m k)) NoSuch
    ∷ refused_if (eqb n m && eqb l k) Value
    ∷ refused_if (end_wired s n l || end_wired s m k) Busy
    ∷ []

abbrev pub cable_to : ℕ → ℕ → Cable
cable_to m k = record { wired = 1; far_slot = m; far_link = k }

-- each end leads to the other
abbrev pub wired : Net → ℕ → ℕ → ℕ → ℕ → Net
wired s n l m k = with_cable (with_cable s n l (cable_to m k)) m k (cable_to n l)

unfoldable pub wire : Net → ℕ → ℕ → ℕ → ℕ → Out Net
wire s n l m k = attempt (wire_rows s n l m k) s (out Done (wired s n l m k))
