-- A port that is ready: the memory reaches past its stretch, its counters are those of a ring, and the stages read off its tokens are those
-- of the port. Assumes nothing.
use Prim.Native.Nat.{ℕ, ◌+◌, ◌*◌, ◌/◌, ◌≤◌, ◌<◌}
use mathlib.Core.Bool.{true, false, not}
use mathlib.Core.List.{List, []}
use mathlib.Core.Path.{◌≡◌, refl, sym, ap}
use native.Mathlib.Omega.{arith}
use lib.ListN.{length}
use Rattle.laws.specs.All.{Means}
use Rattle.laws.proofs.All.{also, same_as, below, at_most}
use Rattle.laws.proofs.Order.{by_test}
use Rattle.names.specs.Size.{ports}
use Rattle.circuits.specs.Circuit.{hop_of}
use Rattle.circuits.specs.declared.Hop.{Hop}
use Rattle.circuits.specs.declared.Hop.TheVariants as Hops
use Rattle.ports.specs.Ring.{ring}
use Rattle.ports.specs.Queue.{capacity, Fair, contents}
use Rattle.ports.specs.Memory.{place, stretch, held}
use Rattle.grammar.specs.Stage.{is_bad}
use Rattle.grammar.specs.Walk.{back_of, stages_of}
use Rattle.grammar.specs.declared.port.Stages.{Stages}
use Rattle.cells.specs.View.{whole_port}
use Rattle.cells.specs.World.{World, hop}
use Rattle.cells.specs.declared.port.Port.{Port}
use Rattle.clauses.specs.Contents.{ready, stages}
use Rattle.clauses.specs.Contents as Contents

module _ (w : World) (n p : ℕ) where
  -- the four tests, each as a fact
  pub record Ready : Type 0 where
    pub node : n < length w.memory / (ports * capacity)
    pub port : p < ports
    pub head : (w.net.ports.counters n p).head < capacity
    pub held : (w.net.ports.counters n p).held ≤ capacity

  readies : Means (ready w n p) Ready
  readies =
      same_as
      (λ z. record { node = z.0; port = z.1.0; head = z.1.1.0; held = z.1.1.1 })
      (λ f. (f.node, (f.port, (f.head, f.held))))
      (also (below _ _) (also (below _ _) (also (below _ _) (at_most _ _))))

  pub is_ready : ready w n p ≡ true → Ready
  is_ready = readies.sure

  pub made_ready : Ready → ready w n p ≡ true
  made_ready = readies.back

  module _ (e : ready w n p ≡ true) where
    pub reaches : place n p + capacity ≤ length w.memory
    reaches = let z = is_ready e in omega arith

    pub fair : Fair (w.net.ports.counters n p)
    fair = let z = is_ready e in record { head_in = z.head; held_in = z.held }

    -- what is read off the port's record and what it holds
    pub read_held : {k : Port} {h : Hop} {q : List ℕ} {r : Stages}
        → k ≡ whole_port w.net n p
        → h ≡ hop_of k.leg.circuit k.leg.tile
        → q ≡ held k.counters w.memory (place n p)
        → r ≡ stages_of h q
        → r ≡ stages w n p
    read_held ek eh eq er = rw (er, eq, eh, ek, e)

    -- .. and off its stretch
    pub read_off : {k : Port} {h : Hop} {s : List ℕ} {r : Stages}
        → k ≡ whole_port w.net n p
        → h ≡ hop_of k.leg.circuit k.leg.tile
        → s ≡ stretch w.memory (place n p)
        → r ≡ stages_of h (contents k.counters s)
        → r ≡ stages w n p
    read_off ek eh es er = rw (er, es, eh, ek, e)

-- a port that holds nothing holds nothing wrong
nothing_wrong : (h : Hop) → is_bad (back_of h []) ≡ false
nothing_wrong Hops.Shut = refl
nothing_wrong (Hops.Out l) = refl
nothing_wrong (Hops.Channel c t) = refl
nothing_wrong Hops.Unit = refl
nothing_wrong (Hops.Dropped c) = refl

pub empty_port : (w : World) (n p : ℕ) → (w.net.ports.counters n p).held ≡ 0 → ready w n p ≡ Contents.contents w n p
unfolding ring
empty_port w n p e =
    by_test (ready w n p)
    (λ r. rw (r, e) (sym (ap not (nothing_wrong (hop w.net n p)))))
    (λ r. rw r)
