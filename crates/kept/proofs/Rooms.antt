-- A port of what is kept, and a line: its stretch of the memory is there, its counters are fair, and it holds as many tokens as they say.
-- Assumes nothing.
use Prim.Native.Nat.{ℕ, ◌+◌, ◌<◌, ◌≤◌}
use mathlib.Core.Path.{◌≡◌}
use mathlib.Core.Bool.{true}
use mathlib.Core.List.{[]}
use native.Mathlib.Omega.{arith}
use lib.ListN.{length}
use Rattle.laws.proofs.All.{also, as_is, at_most, equal}
use Rattle.names.specs.Size.{nodes, links, ports}
use Rattle.ports.specs.Ring.{ring}
use Rattle.ports.specs.Queue.{capacity}
use Rattle.ports.specs.Memory.{place, stretch}
use Rattle.ports.proofs.Rings.{ring_long}
use Rattle.lines.specs.Line.{line_capacity, line_place}
use Rattle.cells.specs.World.{World, shaped, is_empty, queue, token_words, line_words}
use Rattle.acts.specs.Needs.{Room, Holds}
use Rattle.kept.specs.Kept.{Kept}

-- what the shape says of the lengths of both memories
pub lengths : (w : World) → shaped w ≡ true
    → (length w.memory ≡ token_words w.net.nodes) × (length w.line_memory ≡ line_words w.net.nodes)
unfolding shaped
lengths w h =
    let n = w.net.nodes in
    let long = also (equal (length w.memory) (token_words n)) (equal (length w.line_memory) (line_words n)) in
    ((also (as_is (is_empty w.net.rest)) (also (at_most 1 n) (also (at_most n nodes) long))).sure h).1.1.1

pub reaches : (w : World) → shaped w ≡ true → (n p : ℕ) → n < w.net.nodes → p < ports → place n p + capacity ≤ length w.memory
reaches w h n p hn hp = omega (arith, (lengths w h).0)

pub line_reaches : (w : World) → shaped w ≡ true → (n l : ℕ) → n < w.net.nodes → l < links
    → line_place n l + line_capacity ≤ length w.line_memory
line_reaches w h n l hn hl = omega (arith, (lengths w h).1)

module _ (w : World) (k : Kept w) (n p i : ℕ) (hn : n < w.net.nodes) (hp : p < ports) where
  -- the tokens that it holds can be taken, and others find the room that is left
  pub kept_holds : i ≤ (w.net.ports.counters n p).held → Holds w n p i
  kept_holds h = record { node = hn; port = hp; fair = k.counters n p hn hp; held = h; reaches = reaches w k.shape n p hn hp }

  pub has_room : (w.net.ports.counters n p).held + i ≤ capacity → Room w n p i
  has_room h = record { node = hn; port = hp; fair = k.counters n p hn hp; room = h; reaches = reaches w k.shape n p hn hp }

module _ (w : World) (n p : ℕ) where
  pub queue_long : length (queue w n p) ≡ (w.net.ports.counters n p).held
  queue_long =
      let c = w.net.ports.counters n p in
      ring_long capacity (stretch w.memory (place n p)) c.head c.held

  pub nothing_held : (w.net.ports.counters n p).held ≡ 0 → queue w n p ≡ []
  unfolding ring
  nothing_held e = rw e
