-- What END and PAUSE free (document 01, "What a Step does": "END and PAUSE close the hop").
use Rattle.std.specs.Prelude.{ℕ, ◌≡◌, Bool, true, false, eqb}
use Rattle.names.specs.Size.{sink}
use Rattle.circuits.specs.Circuit.{of_peer}
use Rattle.circuits.specs.declared.Hop.{Hop}
use Rattle.circuits.specs.declared.Hop.TheVariants as Hops
use Rattle.circuits.specs.declared.Peer.TheVariants.{Nobody}
use Rattle.answers.specs.Answered.{Answered}
use Rattle.answers.specs.Answered as A
use Rattle.cells.specs.View.{Net}
use Rattle.cells.specs.World.{hop}

-- the answers of a Step that took one token of a circuit: to where the circuit goes ("Moved, but for the two end answers"), or dropped
abbrev pub took_one : Answered → Bool
took_one (A.No n) = false
took_one A.Done = false
took_one (A.Granted g) = false
took_one (A.Token v) = false
took_one A.Idle = false
took_one A.Waiting = false
took_one A.Moved = true
took_one (A.OpenedLink l) = false
took_one A.OpenedChannel = false
took_one A.OpenedUnit = false
took_one (A.Refused c) = false
took_one (A.Dropped c) = true
took_one A.Malformed = true
took_one A.Unheard = true
took_one (A.Arrived g) = false

-- what a hop of node n held is held by nobody: outward the link; to a channel the tile link, and the claim (the sink has none); the control
-- unit. A circuit that is dropped held its port alone, and where there was no circuit no such Step was made
abbrev pub Freed : Hop → Net → ℕ → Type 0
Freed Hops.Shut s n = ⊥
Freed (Hops.Out l) s n = s.links.users n l ≡ of_peer Nobody
Freed (Hops.Channel c t) s n = ((s.tiles n t).user ≡ of_peer Nobody) × (eqb c sink ≡ false → s.ends.claims n c ≡ of_peer Nobody)
Freed Hops.Unit s n = s.units.serving n 0 ≡ of_peer Nobody
Freed (Hops.Dropped x) s n = Prim.Unit

-- port p has no circuit any more, and what its hop held is free
pub record Closed (h : Hop) (s : Net) (n p : ℕ) : Type 0 where
  pub shut : hop s n p ≡ Hops.Shut
  pub freed : Freed h s n
