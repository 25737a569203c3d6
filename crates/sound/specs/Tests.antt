-- The tests of the Sound list (document 01), each at one place and at every place.
use Rattle.std.specs.Prelude.{ℕ, Bool}
use Rattle.laws.specs.All.{every}
use Rattle.names.specs.Size.{links, ports, tile_links, ends}
use Rattle.cells.specs.View.{whole_link, whole_port, whole_end, whole_unit, whole_line}
use Rattle.cells.specs.World.{World}
use Rattle.clauses.specs.Counts.{node_counts, link_counts, port_counts, tile_counts, end_counts, unit_counts, line_counts}
use Rattle.clauses.specs.Cables.{cable, credited, greeted}
use Rattle.clauses.specs.Contents.{held_tokens, heard_tokens}
use Rattle.clauses.specs.Pairs.{agrees, players, open_end, silent}
use Rattle.line_clauses.specs.Lines.{few_on, unlined, room_over, counted, holds_over}
use Rattle.sound.specs.declared.tests.Test.{Test}
use Rattle.sound.specs.declared.tests.Test.TheVariants.{Nodes, Links, Ports, Tiles, Ends, Units, Credited, Greeted, Room, Cable}
use Rattle.sound.specs.declared.tests.Test.TheVariants.{Contents, Held, Agrees, OpenEnd, Silent, Heard, Lines, Few, Counted, Unlined}

-- the test at place i of node n
abbrev pub holds_at : Test → World → ℕ → ℕ → Bool
holds_at Nodes w n i = node_counts (w.net.own n 0)
holds_at Links w n i = link_counts (whole_link w.net n i)
holds_at Ports w n i = port_counts i (whole_port w.net n i)
holds_at Tiles w n i = tile_counts (w.net.tiles n i)
holds_at Ends w n i = end_counts (whole_end w.net n i)
holds_at Units w n i = unit_counts (whole_unit w.net n)
holds_at Credited w n i = credited w.net n i
holds_at Greeted w n i = greeted w.net n i
holds_at Room w n i = room_over w n i
holds_at Cable w n i = cable w.net n i
holds_at Contents w n i = holds_over w n i
holds_at Held w n i = held_tokens w.net n i
holds_at (Agrees r) w n i = agrees r w.net n i
holds_at OpenEnd w n i = open_end w.net n i
holds_at Silent w n i = silent w.net n 0
holds_at Heard w n i = heard_tokens w.net n 0
holds_at Lines w n i = line_counts (whole_line w.net n i)
holds_at Few w n i = few_on w n i
holds_at Counted w n i = counted w n i
holds_at Unlined w n i = unlined w n i

-- how many places of a node it is made at: those of one table
abbrev pub places : Test → ℕ
places Nodes = 1
places Links = links
places Ports = ports
places Tiles = tile_links
places Ends = ends
places Units = 1
places Credited = links
places Greeted = links
places Room = links
places Cable = links
places Contents = ports
places Held = ends
places (Agrees r) = players r
places OpenEnd = ends
places Silent = 1
places Heard = 1
places Lines = links
places Few = links
places Counted = links
places Unlined = links

-- the test at every place of every node
unfoldable pub holds : Test → World → Bool
holds t w = every w.net.nodes (places t) (holds_at t w)
