-- What Sound and tight ask of the lines of cables (document 02, Ask 4), link by link and port by port.
use Rattle.std.specs.Prelude.{ℕ, ◌+◌, ◌*◌, ◌/◌, Bool, true, false, not, ◌&&◌, ◌||◌, List, [], eqb, ltb, leb, length}
use Rattle.laws.specs.Pick.{pick}
use Rattle.names.specs.Size.{links}
use Rattle.circuits.specs.Circuit.{peer_of}
use Rattle.ports.specs.Queue.{capacity}
use Rattle.lines.specs.Line.{line_capacity}
use Rattle.lines.specs.Load.{load_of, tokens_of}
use Rattle.lines.specs.declared.load.Load.{Load}
use Rattle.grammar.specs.Stage.{is_bad, same_stage}
use Rattle.grammar.specs.Walk.{walk}
use Rattle.grammar.specs.declared.stage.Stage.{Stage}
use Rattle.grammar.specs.declared.stage.Stage.TheVariants.{Bad}
use Rattle.cells.specs.View.{Net}
use Rattle.cells.specs.World.{World, far_of, line_from, Far, Nowhere, At}
use Rattle.clauses.specs.Cables.{on_far, enabled, far_enabled}
use Rattle.clauses.specs.Contents.{back}
use Rattle.clauses.specs.Ties.{carried_for}

-- LINES AS THEY ARE READ. The lines' memory has this line's stretch, and its counters are those of a ring
abbrev pub line_ready : World → ℕ → ℕ → Bool
line_ready w n l =
    let c = w.net.lines.rings n l in
    ltb n (length w.line_memory / (links * line_capacity)) && (ltb l links && (ltb c.head line_capacity && leb c.held line_capacity))

-- how much is on it; too many credits and HELLOs where it cannot be read
abbrev pub unread : Load
unread = record { tokens = 0; credit = 0; credits = 2; hellos = 2; behind = 0 }

unfoldable pub load_at : World → ℕ → ℕ → Load
load_at w n l = pick (line_ready w n l) (load_of (line_from w n l)) unread

-- SOUND. "allows one credit and one HELLO there"
abbrev pub few : Load → Bool
few k = leb k.credits 1 && leb k.hellos 1

abbrev pub few_on : World → ℕ → ℕ → Bool
few_on w n l = few (load_at w n l)

-- "Each direction of a cable becomes a line": without a cable nothing is on one, and nothing is issued
abbrev pub unlined : World → ℕ → ℕ → Bool
unlined w n l =
    eqb (w.net.links.cables n l).wired 1 || (eqb (w.net.lines.rings n l).held 0 && eqb (w.net.lines.issued n l) 0)

-- "Sound counts tokens on a line": credit in hand and on the line to the link, and tokens on the line from it and held at the far end, are
-- at most 64
abbrev pub room_with : Net → ℕ → ℕ → ℕ → ℕ → Load → Load → Bool
room_with s n l m k going coming =
    leb ((s.links.flows n l).credit + coming.credit + (going.tokens + (s.ports.counters m k).held)) capacity

abbrev pub room_to : World → ℕ → ℕ → ℕ → ℕ → Bool
room_to w n l m k = room_with w.net n l m k (load_at w n l) (load_at w m k)

abbrev pub room_over : World → ℕ → ℕ → Bool
room_over w n l = on_far (far_of (w.net.links.cables n l)) true (room_to w n l)

-- "while no HELLO is coming to a receiver, holds its count to the far end's credit plus the credit on the line to that end and the tokens on
-- the line from it"
abbrev pub count_with : Net → ℕ → ℕ → ℕ → ℕ → Load → Load → Bool
count_with s n l m k going coming =
    not (eqb coming.hellos 0) || eqb (s.lines.issued n l) ((s.links.flows m k).credit + going.credit + coming.tokens)

abbrev pub count_to : World → ℕ → ℕ → ℕ → ℕ → Bool
count_to w n l m k = count_with w.net n l m k (load_at w n l) (load_at w m k)

abbrev pub counted : World → ℕ → ℕ → Bool
counted w n l = on_far (far_of (w.net.links.cables n l)) true (count_to w n l)

-- all that the list asks of the lines at a link, which is read in one go
abbrev pub lines_to : World → ℕ → ℕ → ℕ → ℕ → Bool
lines_to w n l m k = room_to w n l m k && (few_on w n l && (count_to w n l m k && unlined w n l))

abbrev pub lines_at : World → ℕ → ℕ → Bool
lines_at w n l = room_over w n l && (few_on w n l && (counted w n l && unlined w n l))

-- what is on its way to a port: the tokens on the line to it, by what is on each line, so that what touches no line leaves it as it was
abbrev pub coming_from : (ℕ → ℕ → List ℕ) → Far → List ℕ
coming_from lines Nowhere = []
coming_from lines (At m k) = tokens_of (lines m.0 k)

abbrev pub coming : World → ℕ → ℕ → List ℕ
coming w n p = pick (ltb p links) (coming_from (λ m k. line_from w m k) (far_of (w.net.links.cables n p))) []

-- a line on which there is nothing, where the lines' memory is for so many nodes
abbrev pub clear_of : Net → ℕ → ℕ → ℕ → Bool
clear_of s many n l =
    let c = s.lines.rings n l in
    ltb n many && (ltb l links && (ltb c.head line_capacity && eqb c.held 0))

-- nothing is on its way to a port: it has no line to it, or one on which there is nothing
abbrev pub nothing_comes : Net → ℕ → ℕ → ℕ → Bool
nothing_comes s many n p = pick (ltb p links) (on_far (far_of (s.links.cables n p)) true (clear_of s many)) true

-- what a port holds, with the line to it behind: where its tokens end once those on the line have come. What is left of a header is read
-- from the port's own tokens alone (`front`)
abbrev pub walked_on : World → ℕ → ℕ → Stage → Stage
walked_on w m k s = pick (line_ready w m k) (walk s (tokens_of (line_from w m k))) Bad

abbrev pub reached_from : World → Stage → Far → Stage
reached_from w s Nowhere = s
reached_from w s (At m k) = walked_on w m.0 k s

unfoldable pub reached : World → ℕ → ℕ → Stage
reached w n p = pick (ltb p links) (reached_from w (back w n p) (far_of (w.net.links.cables n p))) (back w n p)

abbrev pub holds_over : World → ℕ → ℕ → Bool
holds_over w n p = not (is_bad (reached w n p))

-- TIES. fed, with what is on its way (an unwired link has no line, so `unfed` is what it was)
abbrev pub fed_over_to : World → ℕ → ℕ → ℕ → ℕ → Bool
fed_over_to w n l m k = same_stage (reached w m k) (carried_for w n (peer_of (w.net.links.users n l)))

abbrev pub fed_over : World → ℕ → ℕ → Bool
fed_over w n l = on_far (far_of (w.net.links.cables n l)) true (fed_over_to w n l)

-- a line is in use only where both ends are enabled
abbrev pub between : World → ℕ → ℕ → Bool
between w n l =
    eqb (w.net.lines.rings n l).held 0 || (enabled w.net n l && far_enabled w.net (w.net.links.cables n l))

-- a credit is on a line only towards a greeted end
abbrev pub is_greeted : World → ℕ → ℕ → Bool
is_greeted w m k = eqb (w.net.links.flows m k).greeted 1

abbrev pub towards : World → ℕ → ℕ → Bool
towards w n l = eqb (load_at w n l).credits 0 || on_far (far_of (w.net.links.cables n l)) false (is_greeted w)

-- while a HELLO is on a line its sender's credit is 0, no credit is on the line back, and no token stands behind it
abbrev pub no_credit : World → ℕ → ℕ → Bool
no_credit w m k = eqb (load_at w m k).credits 0

abbrev pub hello_last : World → ℕ → ℕ → Bool
hello_last w n l =
    eqb (load_at w n l).hellos 0
    || (eqb (w.net.links.flows n l).credit 0
    && (eqb (load_at w n l).behind 0 && on_far (far_of (w.net.links.cables n l)) false (no_credit w)))
