-- A Step that plans and carries out meets its one definition. Assumes nothing.
use Prim.Native.Nat.{ℕ, ◌<◌}
use mathlib.Core.Path.{◌≡◌, refl, ap}
use mathlib.Core.Bool.{true, false}
use mathlib.Core.List.{List}
use lib.Dec.{eqb}
use Rattle.laws.specs.Pick.{pick}
use Rattle.laws.proofs.All.{also, below}
use Rattle.laws.proofs.Order.{by_test}
use Rattle.names.specs.Size.{ports}
use Rattle.names.specs.declared.no.No.TheVariants.{NoSuch}
use Rattle.circuits.specs.declared.Hop.{Hop}
use Rattle.circuits.specs.declared.Hop.TheVariants as Hops
use Rattle.answers.specs.Out.{out}
use Rattle.answers.specs.Answered.{Answered, No, Moved, Malformed, Unheard}
use Rattle.cells.specs.View.{Net}
use Rattle.cells.specs.World.{World, hop}
use Rattle.tokens.specs.Word.{closes}
use Rattle.acts.specs.Acts.{with_net, first_at}
use Rattle.travel.proofs.Lent.{with_line_memory}
use Rattle.messages.proofs.Answers.{end_answers}
use Rattle.plans.specs.Plan.{by_hop, step_plan}
use Rattle.plans.specs.declared.Plan.TheVariants.{Idle}
use Rattle.moves.specs.Moves.{took, closes_unit}
use Rattle.switch.specs.Step.{hears, port_at, step_made, step}

pub port_there : (s : Net) (n p : ℕ) → port_at s n p ≡ true → (n < s.nodes) × (p < ports)
port_there s n p e = (also (below n s.nodes) (below p ports)).sure e

-- a plan is read off the state and the tokens, with no line at hand
pub plan_lent : (w : World) (ls : List ℕ) (n p : ℕ) → step_plan (with_line_memory w ls) n p ≡ step_plan w n p
unfolding step_plan
plan_lent w ls n p = ap (pick (eqb (w.net.ports.counters n p).held 0) Idle) (at_hop (hop w.net n p))
  where
    at_hop : (h : Hop) → by_hop (with_line_memory w ls) n p h ≡ by_hop w n p h
    at_hop Hops.Shut = refl
    at_hop (Hops.Out l) = refl
    at_hop (Hops.Channel c t) = refl
    at_hop Hops.Unit = refl
    at_hop (Hops.Dropped x) = refl

module _ (w : World) (n p : ℕ) where
  pub not_there : port_at w.net n p ≡ false → out (No NoSuch) w ≡ step w n p
  unfolding step
  not_there e = rw e

  pub stepped : port_at w.net n p ≡ true → step_made w n p ≡ step w n p
  unfolding step
  stepped e = rw e

-- what a control unit's token may be answered with
pub heard_answers : (P : Answered → Type 0) → P Moved → P Malformed → P Unheard → (w : World) (n p : ℕ) → P (hears w n p).answer
heard_answers P a b c w n p =
    by_test (closes (first_at w n p))
    (λ e. rw e (end_answers P a b c (with_net (took w n p) (closes_unit (took w n p).net n p)) n (first_at w n p)))
    (λ e. rw e a)
