-- What an answer can bear: the number of a refusal is one of the paper's twelve, a grant one of its four, a token a byte, a link one of
-- eight. So every answer of a call has its place in 64 bits. Assumes nothing.
use Prim.{Unit, tt}
use Prim.Native.Nat.{ℕ, ◌<◌, ◌≤◌}
use mathlib.Core.Bool.{Bool, true, false, not, ◌||◌}
use native.Mathlib.Omega.{arith}
use lib.Dec.{eqb, ltb, lit≤}
use Rattle.laws.specs.Pick.{pick}
use Rattle.laws.proofs.Order.{by_test}
use Rattle.names.specs.Size.{links, tile_links, reply_port}
use Rattle.names.specs.No as Names
use Rattle.names.specs.declared.no.No.{No as Why}
use Rattle.names.specs.declared.no.No.TheVariants as Whys
use Rattle.circuits.specs.declared.Hop.{Hop}
use Rattle.circuits.specs.declared.Hop.TheVariants as Hops
use Rattle.circuits.specs.declared.Cause.TheVariants.{Split, NoRoute}
use Rattle.tokens.specs.declared.header.Target.{Target}
use Rattle.tokens.specs.declared.header.Target.TheVariants as Targets
use Rattle.routing.specs.Way.{way_to, Way, ThisNode, OtherNode}
use Rattle.routing.specs.Direction.{entry_of}
use Rattle.answers.specs.Answer.{answer_value}
use Rattle.answers.specs.Rows.{checked}
use Rattle.answers.specs.Answered.{No, Done, Granted, Token, Idle, Waiting, Moved, OpenedLink, OpenedChannel}
use Rattle.answers.specs.Answered.{Answered, OpenedUnit, Refused, Dropped, Malformed, Unheard, Arrived}
use Rattle.answers.proofs.Refusals.{by_check}
use Rattle.credits.specs.Grant as Grant
use Rattle.cells.specs.View.{Net}
use Rattle.lines.specs.Load.{is_hello, credit_of}
use Rattle.cells.specs.World.{World, far_of, hop, Far, Nowhere, At}
use Rattle.acts.specs.Acts.{width_at, number_at, word_at, channel_claimed, channel_full}
use Rattle.settings.specs.declared.Setting.TheVariants as Settings
use Rattle.plans.specs.Plan.{marked_width, size_of, same_width, target_at, network_at, lowest_tile, here_plan, number_in, step_by_way, way_plan}
use Rattle.plans.specs.Plan.{header_plan, by_hop, step_plan}
use Rattle.plans.specs.declared.Plan.{Plan}
use Rattle.plans.specs.declared.Plan.TheVariants as Plans
use Rattle.plans.proofs.Routes.{Routed, opens, waits, discards, routed}
use Rattle.switch.specs.Step.{step_performed}
use Rattle.switch.proofs.Stepped.{heard_answers}
use Rattle.travel.specs.Travel.{taken_off, first_on, token_in, greets, line_empty, came_by, line_came}
use Rattle.travel.proofs.Granted.{due_granted}
use Rattle.bench.specs.Calls.{came_answer}
use Rattle.bench.specs.Calls.{Call, Begin, Wire, Set, Aim, Output, Input, Step, Line, Steps, rows, made, apply}

abbrev pub Bounded : Answered → Type 0
Bounded (No n) = (1 ≤ Names.number n) × (Names.number n ≤ 12)
Bounded Done = Unit
Bounded (Granted g) = Grant.Granted g
Bounded (Token v) = v < 256
Bounded Idle = Unit
Bounded Waiting = Unit
Bounded Moved = Unit
Bounded (OpenedLink l) = l < links
Bounded OpenedChannel = Unit
Bounded OpenedUnit = Unit
Bounded (Refused c) = Unit
Bounded (Dropped c) = Unit
Bounded Malformed = Unit
Bounded Unheard = Unit
Bounded (Arrived g) = Grant.Granted g

-- Refusals

twelve : (k : Why) → (1 ≤ Names.number k) × (Names.number k ≤ 12)
twelve Whys.Unsound = (lit≤ tt, lit≤ tt)
twelve Whys.NoSuch = (lit≤ tt, lit≤ tt)
twelve Whys.Value = (lit≤ tt, lit≤ tt)
twelve Whys.Busy = (lit≤ tt, lit≤ tt)
twelve Whys.Unaimed = (lit≤ tt, lit≤ tt)
twelve Whys.Open = (lit≤ tt, lit≤ tt)
twelve Whys.Hardware = (lit≤ tt, lit≤ tt)
twelve Whys.Privileged = (lit≤ tt, lit≤ tt)
twelve Whys.Narrow = (lit≤ tt, lit≤ tt)
twelve Whys.Full = (lit≤ tt, lit≤ tt)
twelve Whys.Empty = (lit≤ tt, lit≤ tt)
twelve Whys.Trap = (lit≤ tt, lit≤ tt)

-- Steps: the link that a circuit opens by

abbrev ToLink : Plan → Type 0
ToLink Plans.Idle = Unit
ToLink Plans.Wait = Unit
ToLink (Plans.OpenOut l) = l < links
ToLink (Plans.OpenChannel c t) = Unit
ToLink Plans.OpenUnit = Unit
ToLink (Plans.Refuse x) = Unit
ToLink (Plans.MoveOut l) = Unit
ToLink (Plans.Hand c t) = Unit
ToLink Plans.Hear = Unit
ToLink (Plans.Drop x) = Unit

-- either of two plans
one_of : (b : Bool) (x y : Plan) → ToLink x → ToLink y → ToLink (pick b x y)
one_of true x y h k = h
one_of false x y h k = k

of_route : {s : Net} {n d v : ℕ} {x : Plan} → Routed s n d v x → ToLink x
of_route (opens l h f g) = h
of_route (waits l h f g) = tt
of_route (discards f) = tt

by_here : (s : Net) (n : ℕ) (g : Target) → ToLink (here_plan s n g)
by_here s n (Targets.Channel m c) =
    let t = lowest_tile s n in
    one_of (eqb t tile_links) Plans.Wait (pick (channel_claimed s n c) Plans.Wait (Plans.OpenChannel c t)) tt
    (one_of (channel_claimed s n c) Plans.Wait (Plans.OpenChannel c t) tt tt)
by_here s n (Targets.Unit m) =
    let serves = not (eqb (s.units.serving n 0).kind 0) in
    one_of (serves || not (eqb (s.ports.counters n reply_port).held 0)) Plans.Wait Plans.OpenUnit tt tt

by_way : (s : Net) (n p : ℕ) (g : Target) (x : Way) → ToLink (step_by_way s n p g x)
by_way s n p g ThisNode = by_here s n g
by_way s n p g (OtherNode b) = of_route (routed s n (entry_of (s.own n 0).directions b) (network_at s n p))

by_header : (w : World) (n p : ℕ) → ToLink (header_plan w n p)
by_header w n p =
    let g = target_at w n p in
    let k = marked_width (word_at w n p 0) in
    let other = not (same_width k (width_at w.net n)) in
    one_of (ltb (w.net.ports.counters n p).held (size_of k)) Plans.Wait (pick other (Plans.Refuse Split) (way_plan w.net n p g)) tt
    (one_of other (Plans.Refuse Split) (way_plan w.net n p g) tt
    (by_way w.net n p g (way_to (width_at w.net n) (number_in g) (number_at w.net n))))

by_hop_lem : (w : World) (n p : ℕ) (h : Hop) → ToLink (by_hop w n p h)
by_hop_lem w n p Hops.Shut = by_header w n p
by_hop_lem w n p (Hops.Out l) = one_of (eqb (w.net.links.flows n l).credit 0) Plans.Wait (Plans.MoveOut l) tt tt
by_hop_lem w n p (Hops.Channel c t) = one_of (channel_full w.net n c (word_at w n p 0)) Plans.Wait (Plans.Hand c t) tt tt
by_hop_lem w n p Hops.Unit = tt
by_hop_lem w n p (Hops.Dropped x) = tt

planned : (w : World) (n p : ℕ) → ToLink (step_plan w n p)
unfolding step_plan
planned w n p =
    one_of (eqb (w.net.ports.counters n p).held 0) Plans.Idle (by_hop w n p (hop w.net n p)) tt (by_hop_lem w n p (hop w.net n p))

performed : (w : World) (n p : ℕ) (x : Plan) → ToLink x → Bounded (step_performed w n p x).answer
performed w n p Plans.Idle h = tt
performed w n p Plans.Wait h = tt
performed w n p (Plans.OpenOut l) h = h
performed w n p (Plans.OpenChannel c t) h = tt
performed w n p Plans.OpenUnit h = tt
performed w n p (Plans.Refuse x) h = tt
performed w n p (Plans.MoveOut l) h = tt
performed w n p (Plans.Hand c t) h = tt
performed w n p Plans.Hear h = heard_answers Bounded tt tt tt w n p
performed w n p (Plans.Drop x) h = tt

-- Line steps: the grant that an arrival brings

came_bounded : (w : World) (n l : ℕ) (f : Far) → Bounded (came_answer (came_by w n l f))
came_bounded w n l Nowhere = tt
came_bounded w n l (At m k) =
    let y = taken_off w n l in
    let x = first_on w n l in
    by_test (line_empty w n l)
    (λ e. rw e tt)
    (λ e. rw e (by_test (is_hello x)
    (λ d. rw d (due_granted (greets y n l m.0 k) m.0 k))
    (λ d. rw d (by_test (eqb (credit_of x) 0) (λ g. rw g (due_granted (token_in y m.0 k x) m.0 k)) (λ g. rw g Grant.none)))))

line_bounded : (w : World) (n l : ℕ) → Bounded (came_answer (line_came w n l))
unfolding line_came
line_bounded w n l = came_bounded w n l (far_of (w.net.links.cables n l))

-- Calls

made_bounded : (w : World) (c : Call) → Bounded (made w c).answer
made_bounded w (Begin s n) = tt
made_bounded w (Wire a l b k) = tt
made_bounded w (Set a (Settings.Number v)) = tt
made_bounded w (Set a (Settings.Width v)) = tt
made_bounded w (Set a (Settings.Direction b v)) = tt
made_bounded w (Set a (Settings.LinkDirection l v)) = tt
made_bounded w (Set a (Settings.Network l v)) = tt
made_bounded w (Set a (Settings.Enable l v)) = tt
made_bounded w (Set a (Settings.Hello l)) = Grant.none
made_bounded w (Aim a c g v) = tt
made_bounded w (Output a c x) = tt
made_bounded w (Input a c k) = omega arith
made_bounded w (Step a p) = performed w a.0 p (step_plan w a.0 p) (planned w a.0 p)
made_bounded w (Line a l) = line_bounded w a.0 l
made_bounded w (Steps n xs) = tt

-- every answer of every call, whatever the arguments and the memories
pub bounded : (w : World) (c : Call) → Bounded (apply w c).answer
unfolding apply
bounded w c =
    by_check (checked (rows w c))
    (λ e. rw e (made_bounded w c))
    (λ k e. rw e (twelve k))

-- Grants

some_grant : (g : ℕ) → Grant.Granted g → g ≤ 64
some_grant g Grant.none = lit≤ tt
some_grant g Grant.eight = lit≤ tt
some_grant g Grant.sixteen = lit≤ tt
some_grant g Grant.all = lit≤ tt

-- the number that an answer bears is below 256
pub small_value : (a : Answered) → Bounded a → answer_value a < 256
small_value (No n) h = let z = h.1 in omega arith
small_value Done h = lit≤ tt
small_value (Granted g) h = let z = some_grant g h in omega arith
small_value (Token v) h = h
small_value Idle h = lit≤ tt
small_value Waiting h = lit≤ tt
small_value Moved h = lit≤ tt
small_value (OpenedLink l) h = omega arith
small_value OpenedChannel h = lit≤ tt
small_value OpenedUnit h = lit≤ tt
small_value (Refused Split) h = lit≤ tt
small_value (Refused NoRoute) h = lit≤ tt
small_value (Dropped Split) h = lit≤ tt
small_value (Dropped NoRoute) h = lit≤ tt
small_value Malformed h = lit≤ tt
small_value Unheard h = lit≤ tt
small_value (Arrived g) h = let z = some_grant g h in omega arith
