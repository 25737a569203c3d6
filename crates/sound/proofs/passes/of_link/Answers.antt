-- `sound::passes::of_link` meets its contract: the rows on lines stand among the others in the list, and last in the pass. Assumes nothing.
use Rattle.std.proofs.Common.{◌≡◌, ℕ, Bool, true, false, ◌&&◌, refl}
use mathlib.Core.Bool.{and-true}
use Rattle.names.specs.Size.{links}
use Rattle.cells.specs.View.{whole_link, whole_line}
use Rattle.cells.specs.World.{World}
use Rattle.cells.specs.Memories.{world_of}
use Rattle.clauses.specs.Counts.{link_counts, line_counts}
use Rattle.clauses.specs.Cables.{cable, credited, greeted}
use Rattle.clauses.specs.Pairs.{agrees}
use Rattle.clauses.specs.declared.pairs.Role.TheVariants.{LinkPort}
use Rattle.line_clauses.specs.Lines.{load_at, few_on, unlined, room_over, counted, lines_at}
use Rattle.sound.specs.Clauses.{sound_clauses, asked}
use Rattle.sound.proofs.passes.of_link.Goals as goal

fifth : (a b c d : Bool) → (b && (c && (a && d))) ≡ (a && (b && (c && d)))
fifth true b c d = refl
fifth false true true d = refl
fifth false true false d = refl
fifth false false c d = refl

in_order : (a b c d e f g h i j : Bool)
    → (a && (b && (c && (d && (e && (f && (g && (h && (i && j)))))))))
    ≡ (a && (b && (c && (d && (g && (e && (f && (h && (i && (j && true))))))))))
in_order a b c d e f g h i j = rw (and-true j, fifth g e f (h && (i && j)))

links_asked : (w : World) (n l : ℕ)
    → (link_counts (whole_link w.net n l)
    && (line_counts (whole_line w.net n l)
    && (credited w.net n l
    && (greeted w.net n l && (cable w.net n l && (agrees LinkPort w.net n l && lines_at w n l))))))
    ≡ asked sound_clauses links w n l
links_asked w n l =
    in_order (link_counts (whole_link w.net n l)) (line_counts (whole_line w.net n l)) (credited w.net n l) (greeted w.net n l)
    (cable w.net n l) (agrees LinkPort w.net n l) (room_over w n l) (few_on w n l) (counted w n l) (unlined w n l)

pub returns : goal.returns
unfolding load_at
returns c =
    let a = c.args in
    rw (c.link_counts.ensures, c.at-2.ensures, c.credited.ensures, c.line_counts.ensures)
    (rw (c.at.ensures, c.cable.ensures, c.greeted.ensures)
    (rw (c.lines_at.ensures, c.agrees.ensures) (links_asked (world_of a.m.now) a.slot.0 a.l)))
