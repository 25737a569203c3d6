-- "What a Step does" (document 01), decided: read off the state and the port's tokens, with nothing changed.
use Rattle.std.specs.Prelude.{ℕ, Bool, true, false, not, ◌&&◌, ◌||◌, eqb, ltb}
use Rattle.laws.specs.Pick.{pick}
use Rattle.laws.specs.All.{first}
use Rattle.names.specs.Size.{links, tile_links, reply_port}
use Rattle.names.specs.declared.NodeNumber.{NodeNumber}
use Rattle.circuits.specs.declared.Cause.TheVariants.{Split, NoRoute}
use Rattle.circuits.specs.declared.Hop.{Hop}
use Rattle.circuits.specs.declared.Hop.TheVariants as Hops
use Rattle.tokens.specs.Word.{is_three}
use Rattle.tokens.specs.Header.{read_one, read_three}
use Rattle.tokens.specs.declared.header.Width.{Width}
use Rattle.tokens.specs.declared.header.Width.TheVariants.{One, Three}
use Rattle.tokens.specs.declared.header.Target.{Target}
use Rattle.tokens.specs.declared.header.Target.TheVariants.{Channel, Unit}
use Rattle.routing.specs.Way.{way_to, Way, ThisNode, OtherNode}
use Rattle.routing.specs.Direction.{entry_of}
use Rattle.cells.specs.View.{Net}
use Rattle.cells.specs.World.{World, hop}
use Rattle.clauses.specs.Cables.{enabled}
use Rattle.acts.specs.Acts.{width_at, number_at, word_at, channel_claimed, channel_full}
use Rattle.plans.specs.declared.Plan.{Plan}
use Rattle.plans.specs.declared.Plan.TheVariants.{Idle, Wait, OpenOut, OpenChannel, OpenUnit, Refuse, MoveOut, Hand, Hear, Drop}

-- a header's width, by the mark of its first token, and how many tokens it has
abbrev pub marked_width : ℕ → Width
marked_width t = pick (is_three t) Three One

abbrev pub size_of : Width → ℕ
size_of One = 1
size_of Three = 3

abbrev pub same_width : Width → Width → Bool
same_width One One = true
same_width One Three = false
same_width Three One = false
same_width Three Three = true

-- what a whole header says
abbrev pub target_at : World → ℕ → ℕ → Target
target_at w n p =
    pick (is_three (word_at w n p 0)) (read_three (word_at w n p 0) (word_at w n p 1) (word_at w n p 2)) (read_one (word_at w n p 0))

-- "Links carry their own network; a channel-end's network is set with its destination; port 12 is network 0."
abbrev pub network_at : Net → ℕ → ℕ → ℕ
network_at s n p = pick (ltb p links) (s.links.setups n p).network (pick (eqb p reply_port) 0 (s.ports.networks n p))

-- "Candidates are links that are enabled, have that direction and have the circuit's network number"
abbrev pub candidate : Net → ℕ → ℕ → ℕ → ℕ → Bool
candidate s n d v l = enabled s n l && (eqb (s.links.setups n l).direction d && eqb (s.links.setups n l).network v)

-- "in use outward"
abbrev pub free_candidate : Net → ℕ → ℕ → ℕ → ℕ → Bool
free_candidate s n d v l = candidate s n d v l && eqb (s.links.users n l).kind 0

-- "the lowest-numbered free one"; 8 where there is none
abbrev pub lowest_link : Net → ℕ → ℕ → ℕ → ℕ
lowest_link s n d v = first links (free_candidate s n d v)

-- "No candidate: the circuit is discarded, cause NoRoute. Candidates, all in use outward: it waits. Otherwise the lowest-numbered free one
-- is taken"
abbrev pub route_plan : Net → ℕ → ℕ → ℕ → Plan
route_plan s n d v =
    pick (ltb (lowest_link s n d v) links) (OpenOut (lowest_link s n d v))
    (pick (ltb (first links (candidate s n d v)) links) Wait (Refuse NoRoute))

-- the lowest free tile link; 4 where there is none
abbrev pub tile_free : Net → ℕ → ℕ → Bool
tile_free s n t = eqb (s.tiles n t).user.kind 0

abbrev pub lowest_tile : Net → ℕ → ℕ
lowest_tile s n = first tile_links (tile_free s n)

-- "Waiting if no tile link is free, then Waiting if the channel is claimed (the sink never is), else Opened"
abbrev pub channel_plan : Net → ℕ → ℕ → Plan
channel_plan s n c =
    pick (eqb (lowest_tile s n) tile_links) Wait
    (pick (channel_claimed s n c) Wait (OpenChannel c (lowest_tile s n)))

-- "Waiting while it serves a circuit or port 12 is not empty, else Opened"
abbrev pub unit_plan : Net → ℕ → Plan
unit_plan s n =
    pick (not (eqb (s.units.serving n 0).kind 0) || not (eqb (s.ports.counters n reply_port).held 0)) Wait OpenUnit

abbrev pub here_plan : Net → ℕ → Target → Plan
here_plan s n (Channel m c) = channel_plan s n c
here_plan s n (Unit m) = unit_plan s n

abbrev pub number_in : Target → NodeNumber
number_in (Channel m c) = m
number_in (Unit m) = m

-- "Compare the header's number with the node's own .. none means this node. Otherwise look the bit up in the direction table."
abbrev pub step_by_way : Net → ℕ → ℕ → Target → Way → Plan
step_by_way s n p g ThisNode = here_plan s n g
step_by_way s n p g (OtherNode b) = route_plan s n (entry_of (s.own n 0).directions b) (network_at s n p)

abbrev pub way_plan : Net → ℕ → ℕ → Target → Plan
way_plan s n p g = step_by_way s n p g (way_to (width_at s n) (number_in g) (number_at s n))

-- "With no circuit and a header short of its tokens: Waiting. With a whole header the switch reads it, anew at each such Step, in this
-- order: width differs from the switch: Refused, Split. .."
abbrev pub header_plan : World → ℕ → ℕ → Plan
header_plan w n p =
    pick (ltb (w.net.ports.counters n p).held (size_of (marked_width (word_at w n p 0)))) Wait
    (pick (not (same_width (marked_width (word_at w n p 0)) (width_at w.net n))) (Refuse Split) (way_plan w.net n p (target_at w n p)))

-- "Outward: Waiting at credit 0, else Moved."
abbrev pub out_plan : Net → ℕ → ℕ → Plan
out_plan s n l = pick (eqb (s.links.flows n l).credit 0) Wait (MoveOut l)

-- "To a channel: Waiting if 8 are held, unless it is PAUSE or the channel is the sink, else Moved."
abbrev pub hand_plan : Net → ℕ → ℕ → ℕ → ℕ → Plan
hand_plan s n c t x = pick (channel_full s n c x) Wait (Hand c t)

abbrev pub by_hop : World → ℕ → ℕ → Hop → Plan
by_hop w n p Hops.Shut = header_plan w n p
by_hop w n p (Hops.Out l) = out_plan w.net n l
by_hop w n p (Hops.Channel c t) = hand_plan w.net n c t (word_at w n p 0)
by_hop w n p Hops.Unit = Hear
by_hop w n p (Hops.Dropped x) = Drop x

-- "Empty: Idle."
unfoldable pub step_plan : World → ℕ → ℕ → Plan
step_plan w n p = pick (eqb (w.net.ports.counters n p).held 0) Idle (by_hop w n p (hop w.net n p))
