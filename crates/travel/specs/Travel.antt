-- What travels on the lines of cables, on the state (document 02, Ask 4): what is put on a line and comes off it, grants by the count,
-- HELLO, a link disabled, and a line's step.
use Rattle.std.specs.Prelude.{ℕ, ◌+◌, ◌-◌, Bool, ◌&&◌, eqb, ltb, Option, Some, None}
use Rattle.laws.specs.Pick.{pick}
use Rattle.ports.specs.Ring.{put_counters}
use Rattle.lines.specs.Line.{line_capacity, off_counters, line_place, on_memory, off_memory, first_off}
use Rattle.lines.specs.Load.{hello_word, credit_word, is_hello, credit_of, load_of}
use Rattle.lines.specs.declared.load.Load.{Load}
use Rattle.credits.specs.Grant.{grant_of}
use Rattle.cells.specs.View.{Net, with_flow, with_setup, with_ring, with_issued}
use Rattle.cells.specs.World.{World, far_of, line_from, Far, Nowhere, At}
use Rattle.cells.specs.Changes.{credit_as, greeted_as, enabled_as}
use Rattle.cells.specs.declared.link.Flow.{Flow}
use Rattle.clauses.specs.Cables.{far_enabled}
use Rattle.acts.specs.Acts.{with_net, pushed}

-- A LINE. How much is on the one that starts at link l of node n
abbrev pub load_from : World → ℕ → ℕ → Load
load_from w n l = load_of (line_from w n l)

-- a token, a credit or a HELLO goes on it, behind what is on it
unfoldable pub put_on : World → ℕ → ℕ → ℕ → World
put_on w n l x =
    let c = w.net.lines.rings n l in
    record {
      net = with_ring w.net n l (put_counters c);
      memory = w.memory;
      line_memory = on_memory c w.line_memory (line_place n l) x;
    }

-- "takes one off the far end"
abbrev pub first_on : World → ℕ → ℕ → ℕ
first_on w n l = first_off (w.net.lines.rings n l) w.line_memory (line_place n l)

unfoldable pub taken_off : World → ℕ → ℕ → World
taken_off w n l =
    let c = w.net.lines.rings n l in
    record {
      net = with_ring w.net n l (off_counters c);
      memory = w.memory;
      line_memory = off_memory c w.line_memory (line_place n l);
    }

-- GRANTS BY THE COUNT. "A receiver counts what it has issued and not yet received, and considers a grant by that count .. : room = 64 −
-- held − issued, below 8 as before"; "a receiver grants nothing while a HELLO is coming to it"; "on a greeted link" (document 01,
-- "Credits")
abbrev pub may_grant : World → ℕ → ℕ → Bool
may_grant w n l = eqb (w.net.links.flows n l).greeted 1 && eqb (load_from w n l).hellos 0

-- what the count allows at link k of node m; nothing where the line back is full (bench): no state of a run has such a line, but a memory
-- that a host lends may
abbrev pub by_count : World → ℕ → ℕ → ℕ
by_count w m k =
    pick (ltb (w.net.lines.rings m k).held line_capacity) (grant_of (w.net.lines.issued m k) (w.net.ports.counters m k).held) 0

abbrev pub grant_to : World → ℕ → ℕ → Far → ℕ
grant_to w m k Nowhere = 0
grant_to w m k (At n l) = pick (may_grant w n.0 l) (by_count w m k) 0

-- what the receiver at link k of node m grants now, to the link that its cable leads to
unfoldable pub grant_due : World → ℕ → ℕ → ℕ
grant_due w m k = grant_to w m k (far_of (w.net.links.cables m k))

-- the grant is counted, and goes on the line back
abbrev pub issued_more : Net → ℕ → ℕ → ℕ → Net
issued_more s m k g = with_issued s m k (s.lines.issued m k + g)

abbrev pub issues : World → ℕ → ℕ → ℕ → World
issues w m k g = put_on (with_net w (issued_more w.net m k g)) m k (credit_word g)

-- "considers a grant .. at each arrival and taking"
unfoldable pub grants_back : World → ℕ → ℕ → World
grants_back w m k = pick (eqb (grant_due w m k) 0) w (issues w m k (grant_due w m k))

-- HELLO. "HELLO on an enabled link sets its own credit to 0" (document 01), when it is sent; "one sent to an absent or disabled end is
-- lost"
abbrev pub credit_lost : Net → ℕ → ℕ → Net
credit_lost s n l = with_flow s n l (credit_as (s.links.flows n l) 0)

unfoldable pub says_hello : World → ℕ → ℕ → World
says_hello w n l =
    let z = with_net w (credit_lost w.net n l) in
    pick (far_enabled w.net (w.net.links.cables n l)) (put_on z n l hello_word) z

-- DISABLING. "Disabling zeroes and un-greets both ends" (document 01, "Credits"), their counts too: "which an arriving HELLO and a disabling
-- set to 0"; the far end stays enabled
abbrev pub silenced : Flow
silenced = record { greeted = 0; credit = 0 }

abbrev pub zeroed : Net → ℕ → ℕ → Net
zeroed s n l = with_issued (with_flow s n l silenced) n l 0

abbrev pub far_zeroed : Net → Far → Net
far_zeroed s Nowhere = s
far_zeroed s (At m k) = zeroed s m.0 k

unfoldable pub disabled : Net → ℕ → ℕ → Net
disabled s n l =
    far_zeroed (with_setup (zeroed s n l) n l (enabled_as (s.links.setups n l) 0)) (far_of (s.links.cables n l))

-- A TOKEN SENT: "Each token moved over a link, header included, costs one credit", and goes on the line
abbrev pub paid_one : Net → ℕ → ℕ → Net
paid_one s n l = with_flow s n l (credit_as (s.links.flows n l) ((s.links.flows n l).credit - 1))

abbrev pub sends_on : World → ℕ → ℕ → ℕ → World
sends_on w n l x = put_on (with_net w (paid_one w.net n l)) n l x

-- ARRIVALS at link k of node m, from link l of node n. A token is put into the port, and is one less that is issued
abbrev pub received : Net → ℕ → ℕ → Net
received s m k = with_issued s m k (s.lines.issued m k - 1)

abbrev pub token_in : World → ℕ → ℕ → ℕ → World
token_in w m k x = let y = pushed w m k x in with_net y (received y.net m k)

-- a credit is the link's own that it comes to
abbrev pub credit_in : Net → ℕ → ℕ → ℕ → Net
credit_in s m k g = with_flow s m k (credit_as (s.links.flows m k) ((s.links.flows m k).credit + g))

-- "A link becomes greeted when its HELLO arrives"; the count is "set to 0" by it
abbrev pub hello_in : Net → ℕ → ℕ → ℕ → ℕ → Net
hello_in s n l m k = with_issued (with_flow s n l (greeted_as (s.links.flows n l) 1)) m k 0

-- what arrives, with the grant that it brings: one is considered "at each arrival" of a token or a HELLO, none at a credit's
abbrev pub greets : World → ℕ → ℕ → ℕ → ℕ → World
greets w n l m k = with_net w (hello_in w.net n l m k)

abbrev pub arrives_at : World → ℕ → ℕ → ℕ → ℕ → ℕ → World
arrives_at w n l m k x =
    pick (is_hello x) (grants_back (greets w n l m k) m k)
    (pick (eqb (credit_of x) 0) (grants_back (token_in w m k x) m k) (with_net w (credit_in w.net m k (credit_of x))))

abbrev pub arrival_grant : World → ℕ → ℕ → ℕ → ℕ → ℕ → ℕ
arrival_grant w n l m k x =
    pick (is_hello x) (grant_due (greets w n l m k) m k) (pick (eqb (credit_of x) 0) (grant_due (token_in w m k x) m k) 0)

-- A LINE'S STEP: "a line step takes one off the far end: Moved, with any grant, or Idle"
abbrev pub line_empty : World → ℕ → ℕ → Bool
line_empty w n l = eqb (w.net.lines.rings n l).held 0

abbrev pub came_by : World → ℕ → ℕ → Far → Option ℕ
came_by w n l Nowhere = None
came_by w n l (At m k) = pick (line_empty w n l) None (Some (arrival_grant (taken_off w n l) n l m.0 k (first_on w n l)))

abbrev pub left_by : World → ℕ → ℕ → Far → World
left_by w n l Nowhere = w
left_by w n l (At m k) = pick (line_empty w n l) w (arrives_at (taken_off w n l) n l m.0 k (first_on w n l))

unfoldable pub line_came : World → ℕ → ℕ → Option ℕ
line_came w n l = came_by w n l (far_of (w.net.links.cables n l))

unfoldable pub line_stepped : World → ℕ → ℕ → World
line_stepped w n l = left_by w n l (far_of (w.net.links.cables n l))
