-- The view of the real state through changes: an entry written, tokens put and taken at ports and on lines, and what the view does not see.
-- Assumes nothing.
use Prim.Native.Nat.{ℕ, ◌<◌}
use mathlib.Core.Path.{◌≡◌, refl, sym, ap, ◌∙◌}
use mathlib.Core.Bool.{Bool, true, false}
use mathlib.Core.List.{List, [], ◌++◌}
use native.Mathlib.Omega.{arith}
use lib.Dec.{ltb}
use borrow.Author.Tests.{lt-ltb, ltb-true}
use Rattle.laws.specs.Pick.{pick}
use Rattle.laws.specs.Table as Two
use Rattle.laws.proofs.Order.{by_test}
use Rattle.laws.proofs.Table.{upd_hit, upd_miss}
use Rattle.names.specs.Size.{links, ports, ends}
use Rattle.circuits.specs.Circuit.{peer_of}
use Rattle.circuits.specs.declared.Circuit.{Circuit}
use Rattle.ports.specs.Memory.{place, held}
use Rattle.lines.specs.Line.{line_place, on_line}
use Rattle.lines.specs.Load.{tokens_of}
use Rattle.cells.specs.View as Cells
use Rattle.cells.specs.World.{World, far_of, hop, queue, line_from}
use Rattle.cells.specs.declared.link.Cable.{Cable}
use Rattle.cells.specs.declared.port.Leg.{Leg}
use Rattle.acts.specs.Acts.{with_net}
use Rattle.kept.proofs.Grants.{Quiet}
use Rattle.kept.proofs.Fills.{Filled}
use Rattle.kept.proofs.Empties.{Emptied}
use Rattle.streams.specs.Model.{alter, push_all, port_no, door_no, doors_each, Out}
use Rattle.streams.specs.Model.{Use}
use Rattle.streams.specs.Model.{Sender, Moving}
use Rattle.streams.specs.View.{flat, nth, out_by, out_of, use_by, sender_by, far_end, use_of}
use Rattle.streams.specs.View.{cable_of, sender_of, outs, users_of, busy_of, cables_of, queues, lines_of}
use Rattle.streams.specs.View.{moving}
use Rattle.streams.proofs.Flat.{flat_at, flat_same, flat_put}

-- tables that are the same, one by one
pub net_as : {q q' l l' : ℕ → List ℕ} {o o' : ℕ → Out} {u u' c c' : ℕ → Use} {b b' : ℕ → Sender}
    → q ≡ q'
    → o ≡ o'
    → u ≡ u'
    → b ≡ b'
    → c ≡ c'
    → l ≡ l'
    → ◌≡◌ {A = Moving} (record { queue = q; out = o; user = u; busy = b; cable = c; line = l })
    (record { queue = q'; out = o'; user = u'; busy = b'; cable = c'; line = l' })
net_as eq eo eu eb ec el = rw (eq, eo, eu, eb, ec, el)

-- AN ENTRY WRITTEN
flat_upd : {A B : Type 0} (k : ℕ) (f : ℕ → ℕ → A) (r : ℕ → ℕ → A → B) (n i : ℕ) (a : A) → i < k
    → flat k (λ m j. r m j (Two.upd f n i a m j)) ≡ alter (flat k (λ m j. r m j (f m j))) (nth k n i) (r n i a)
flat_upd k f r n i a h =
    flat_put k (λ m j. r m j (f m j)) (λ m j. r m j (Two.upd f n i a m j)) n i (r n i a) h
    (ap (r n i) (upd_hit f n i a n i refl refl))
    (λ m j hj o. ap (r m j) (upd_miss f n i a m j o))

module _ (n : ℕ) where
  pub out_put : (legs : ℕ → ℕ → Leg) (p : ℕ) (k : Leg) → p < ports → outs (Two.upd legs n p k) ≡ alter (outs legs) (port_no n p) (out_of n k)
  out_put legs p k h = flat_upd ports legs (λ m j x. out_of m x) n p k h

  pub user_put : (users : ℕ → ℕ → Circuit) (l : ℕ) (c : Circuit) → l < links
      → users_of (Two.upd users n l c) ≡ alter (users_of users) (port_no n l) (use_by n (peer_of c))
  user_put users l c h =
      flat_upd ports users use_of n l c (omega (arith, h)) ∙ ap (alter (users_of users) (port_no n l)) (rw (lt-ltb l links h))

  pub busy_put : (sendings : ℕ → ℕ → Circuit) (e : ℕ) (c : Circuit) → e < ends
      → busy_of (Two.upd sendings n e c) ≡ alter (busy_of sendings) (door_no n e) (sender_by n (peer_of c))
  busy_put sendings e c h =
      flat_upd doors_each sendings sender_of n e c (omega (arith, h)) ∙ ap (alter (busy_of sendings) (door_no n e)) (rw (lt-ltb e ends h))

  pub cable_put : (cables : ℕ → ℕ → Cable) (l : ℕ) (k : Cable) → l < links
      → cables_of (Two.upd cables n l k) ≡ alter (cables_of cables) (port_no n l) (far_end (far_of k))
  cable_put cables l k h =
      flat_upd ports cables (λ m j x. cable_of j x) n l k (omega (arith, h))
      ∙ ap (alter (cables_of cables) (port_no n l)) (rw (lt-ltb l links h))

-- THE TOKENS ON LINES: on every line as they were, or but for one
abbrev line_at : World → ℕ → ℕ → List ℕ
line_at w n l = pick (ltb l links) (tokens_of (line_from w n l)) []

module _ (w z : World) where
  at_link : (n l : ℕ) → (l < links → tokens_of (line_from z n l) ≡ tokens_of (line_from w n l)) → line_at z n l ≡ line_at w n l
  at_link n l e = by_test (ltb l links) (λ t. rw t (e (ltb-true l links t))) (λ t. rw t)

  pub lines_same : ((a j : ℕ) → j < links → tokens_of (line_from z a j) ≡ tokens_of (line_from w a j)) → lines_of z ≡ lines_of w
  lines_same e = flat_same ports (line_at w) (line_at z) (omega arith) (λ a j hj. at_link a j (e a j))

  pub line_put : (n l : ℕ) (ts : List ℕ) → l < links → tokens_of (line_from z n l) ≡ ts
      → ((a j : ℕ) → j < links → Two.Off n l a j → tokens_of (line_from z a j) ≡ tokens_of (line_from w a j))
      → lines_of z ≡ alter (lines_of w) (port_no n l) ts
  line_put n l ts h e off =
      flat_put ports (line_at w) (line_at z) n l ts (omega (arith, h)) (rw (lt-ltb l links h) e)
      (λ a j hj o. at_link a j (λ hl. off a j hl o))

-- tokens put into a port, and taken off it
module _ (w z : World) (n p : ℕ) (ts : List ℕ) (h : p < ports) where
  pub queue_filled : Filled w z n p ts → queues z ≡ alter (queues w) (port_no n p) (queue w n p ++ ts)
  queue_filled f = flat_put ports (queue w) (queue z) n p _ h f.here (λ m j hj o. f.away m j hj o)

  pub queue_emptied : Emptied w z n p ts → queues z ≡ alter (queues w) (port_no n p) (queue z n p)
  queue_emptied f = flat_put ports (queue w) (queue z) n p _ h refl (λ m j hj o. f.away m j hj o)

-- nothing else is changed by tokens put into a port
pub filled_seen : (w z : World) (n p : ℕ) (ts : List ℕ) → p < ports → Filled w z n p ts
    → moving z
    ≡ record {
      queue = push_all (moving w).queue (port_no n p) ts;
      out = (moving w).out;
      user = (moving w).user;
      busy = (moving w).busy;
      cable = (moving w).cable;
      line = (moving w).line;
    }
filled_seen w z n p ts h f =
    net_as
    (queue_filled w z n p ts h f ∙ ap (λ (q : List ℕ). alter (queues w) (port_no n p) (q ++ ts)) (sym (flat_at ports n p h (queue w))))
    (ap (λ (s : Cells.Net). outs s.ports.legs) f.net)
    (ap (λ (s : Cells.Net). users_of s.links.users) f.net)
    (ap (λ (s : Cells.Net). busy_of s.ends.sendings) f.net)
    (ap (λ (s : Cells.Net). cables_of s.links.cables) f.net)
    (lines_same w z (λ a j hj.
    ap (λ (s : Cells.Net). tokens_of (on_line (s.lines.rings a j) z.line_memory (line_place a j))) f.net
    ∙ ap (λ (m : List ℕ). tokens_of (on_line (w.net.lines.rings a j) m (line_place a j))) f.lines))

-- .. nor by tokens taken off it
pub emptied_seen : (w z : World) (n p : ℕ) (ts : List ℕ) → p < ports → Emptied w z n p ts
    → moving z
    ≡ record {
      queue = alter (moving w).queue (port_no n p) (queue z n p);
      out = (moving w).out;
      user = (moving w).user;
      busy = (moving w).busy;
      cable = (moving w).cable;
      line = (moving w).line;
    }
emptied_seen w z n p ts h f =
    net_as (queue_emptied w z n p ts h f)
    (ap (λ (s : Cells.Net). outs s.ports.legs) f.net)
    (ap (λ (s : Cells.Net). users_of s.links.users) f.net)
    (ap (λ (s : Cells.Net). busy_of s.ends.sendings) f.net)
    (ap (λ (s : Cells.Net). cables_of s.links.cables) f.net)
    (lines_same w z f.tokens)

-- WHAT THE VIEW READS
module _ (w : World) (n : ℕ) where
  pub view_queue : (p : ℕ) → p < ports → (moving w).queue (port_no n p) ≡ queue w n p
  view_queue p h = flat_at ports n p h (queue w)

  pub view_out : (p : ℕ) → p < ports → (moving w).out (port_no n p) ≡ out_by n (hop w.net n p)
  view_out p h = flat_at ports n p h (λ m j. out_of m (w.net.ports.legs m j))

  pub view_user : (l : ℕ) → l < links → (moving w).user (port_no n l) ≡ use_by n (peer_of (w.net.links.users n l))
  view_user l h = flat_at ports n l (omega (arith, h)) (λ m j. use_of m j (w.net.links.users m j)) ∙ rw (lt-ltb l links h)

  pub view_busy : (e : ℕ) → e < ends → (moving w).busy (door_no n e) ≡ sender_by n (peer_of (w.net.ends.sendings n e))
  view_busy e h = flat_at doors_each n e (omega (arith, h)) (λ m j. sender_of m j (w.net.ends.sendings m j)) ∙ rw (lt-ltb e ends h)

  pub view_cable : (l : ℕ) → l < links → (moving w).cable (port_no n l) ≡ far_end (far_of (w.net.links.cables n l))
  view_cable l h = flat_at ports n l (omega (arith, h)) (λ m j. cable_of j (w.net.links.cables m j)) ∙ rw (lt-ltb l links h)

  pub view_line : (l : ℕ) → l < links → (moving w).line (port_no n l) ≡ tokens_of (line_from w n l)
  view_line l h = flat_at ports n l (omega (arith, h)) (line_at w) ∙ rw (lt-ltb l links h)

-- WHAT THE VIEW DOES NOT SEE: settings, credits, tile links, claims, buffers, control units; nor what is on a line that is no token
pub signals_seen : (w z : World) → z.net.ports ≡ w.net.ports → z.net.links.users ≡ w.net.links.users
    → z.net.links.cables ≡ w.net.links.cables
    → z.net.ends.sendings ≡ w.net.ends.sendings
    → z.memory ≡ w.memory
    → ((a j : ℕ) → j < links → tokens_of (line_from z a j) ≡ tokens_of (line_from w a j))
    → moving z ≡ moving w
signals_seen w z p u c e m t =
    net_as (ap (λ (x : Cells.PortTables). queues_in x z.memory) p ∙ ap (queues_in w.net.ports) m)
    (ap (λ (x : Cells.PortTables). outs x.legs) p) (ap users_of u) (ap busy_of e) (ap cables_of c) (lines_same w z t)
  where
    queues_in : Cells.PortTables → List ℕ → ℕ → List ℕ
    queues_in x m = flat ports (λ n p. held (x.counters n p) m (place n p))

-- a grant
pub quiet_seen : {w z : World} → Quiet w z → moving z ≡ moving w
quiet_seen {w} {z} q =
    signals_seen w z (ap (λ (s : Cells.Net). s.ports) q.net) (ap (λ (s : Cells.Net). s.links.users) q.net)
    (ap (λ (s : Cells.Net). s.links.cables) q.net) (ap (λ (s : Cells.Net). s.ends.sendings) q.net) q.memory q.tokens

-- tables that the view sees the same in
pub record Alike (s z : Cells.Net) : Type 0 where
  pub nodes : z.nodes ≡ s.nodes
  pub ports : z.ports ≡ s.ports
  pub users : z.links.users ≡ s.links.users
  pub cables : z.links.cables ≡ s.links.cables
  pub sendings : z.ends.sendings ≡ s.ends.sendings
  pub lines : z.lines ≡ s.lines

-- the six, one by one
pub alike : {s z : Cells.Net} → z.nodes ≡ s.nodes → z.ports ≡ s.ports → z.links.users ≡ s.links.users
    → z.links.cables ≡ s.links.cables
    → z.ends.sendings ≡ s.ends.sendings
    → z.lines ≡ s.lines
    → Alike s z
alike n p u c e l = record { nodes = n; ports = p; users = u; cables = c; sendings = e; lines = l }

pub alike_all : (s : Cells.Net) → Alike s s
alike_all s = alike refl refl refl refl refl refl

pub alike_then : {s y z : Cells.Net} → Alike s y → Alike y z → Alike s z
alike_then a b =
    record {
      nodes = b.nodes ∙ a.nodes;
      ports = b.ports ∙ a.ports;
      users = b.users ∙ a.users;
      cables = b.cables ∙ a.cables;
      sendings = b.sendings ∙ a.sendings;
      lines = b.lines ∙ a.lines;
    }

pub alike_pick : (b : Bool) {s x y : Cells.Net} → Alike s x → Alike s y → Alike s (pick b x y)
alike_pick true h k = h
alike_pick false h k = k

pub unseen : (w : World) (s z : Cells.Net) → Alike s z → moving (with_net w z) ≡ moving (with_net w s)
unseen w s z a =
    signals_seen (with_net w s) (with_net w z) a.ports a.users a.cables a.sendings refl
    (λ m j h. ap (λ (t : Cells.LineTables). tokens_of (on_line (t.rings m j) w.line_memory (line_place m j))) a.lines)
