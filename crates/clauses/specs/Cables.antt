-- Cables and credits (document 01, "Sound"), link by link. What is asked of a cable's lines is in crate line_clauses.
use Rattle.std.specs.Prelude.{ℕ, Bool, true, false, not, ◌&&◌, ◌||◌, eqb, ltb}
use Rattle.names.specs.Size.{links}
use Rattle.cells.specs.View.{Net}
use Rattle.cells.specs.World.{far_of, Far, Nowhere, At}
use Rattle.cells.specs.declared.link.Cable.{Cable}

-- a test at a cable's far end; d where it leads nowhere
abbrev pub on_far : Far → Bool → (ℕ → ℕ → Bool) → Bool
on_far Nowhere d f = d
on_far (At m k) d f = f m.0 k

abbrev pub leads_to : Far → ℕ → ℕ → Bool
leads_to Nowhere n l = false
leads_to (At m k) n l = eqb m.0 n && eqb k l

-- "cables agree at both ends": a far end that is there, is another, and leads back
abbrev pub joined : Net → ℕ → ℕ → ℕ → ℕ → Bool
joined s n l m k = ltb m s.nodes && (ltb k links && (not (eqb m n && eqb k l) && leads_to (far_of (s.links.cables m k)) n l))

abbrev pub cable : Net → ℕ → ℕ → Bool
cable s n l = on_far (far_of (s.links.cables n l)) true (joined s n l)

-- "credit only where greeted"
abbrev pub credited : Net → ℕ → ℕ → Bool
credited s n l = eqb (s.links.flows n l).credit 0 || eqb (s.links.flows n l).greeted 1

-- "greeted only where wired with both ends enabled"
abbrev pub enabled : Net → ℕ → ℕ → Bool
enabled s n l = eqb (s.links.setups n l).enabled 1

abbrev pub far_enabled : Net → Cable → Bool
far_enabled s k = on_far (far_of k) false (enabled s)

abbrev pub greeted : Net → ℕ → ℕ → Bool
greeted s n l = not (eqb (s.links.flows n l).greeted 1) || (enabled s n l && far_enabled s (s.links.cables n l))
