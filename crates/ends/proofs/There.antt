-- What a call on a channel-end that is not refused has. Assumes nothing.
use Prim.{tt}
use Prim.Native.Nat.{ℕ, ◌<◌}
use mathlib.Core.Path.{◌≡◌}
use mathlib.Core.Bool.{true}
use native.Mathlib.Omega.{arith}
use borrow.Author.Tests.{eqb-false, not-false}
use lib.Dec.{ltb}
use Rattle.laws.proofs.All.{also, below, as_is}
use Rattle.names.specs.Size.{ends, networks}
use Rattle.names.specs.Number.{is_number}
use Rattle.names.proofs.Ranges.{number_fits}
use Rattle.std.specs.Prelude.{Ok}
use Rattle.tokens.specs.Shape.{legal_channel}
use Rattle.answers.specs.Rows.{checked}
use Rattle.answers.proofs.Refusals.{all_clear}
use Rattle.cells.specs.View.{Net}
use Rattle.ends.specs.Ends.{end_at}
use Rattle.ends.specs.Aim.{goal_ranged, aim_rows}
use Rattle.ends.specs.Needs.{GoalFits}
use Rattle.ends.specs.Input.{input_rows}
use Rattle.ends.specs.declared.aim.Goal.{Goal}
use Rattle.ends.specs.declared.aim.Goal.TheVariants.{Channel, Unit}
use Rattle.ends.specs.declared.Wanted.{Wanted}

pub is_there : (s : Net) (n c : ℕ) → end_at s n c ≡ true → (n < s.nodes) × (c < ends)
is_there s n c e = (also (below n s.nodes) (below c ends)).sure e

pub aim_there : (s : Net) (n c : ℕ) (g : Goal) (v : ℕ) → checked (aim_rows s n c g v) ≡ Ok tt → (n < s.nodes) × (c < ends)
aim_there s n c g v e = is_there s n c (not-false _ (all_clear (aim_rows s n c g v) e).0)

-- its number has sixteen bits
goal_fits : (g : Goal) → goal_ranged g ≡ true → GoalFits g
goal_fits (Channel m c) e = number_fits m ((also (as_is (is_number m)) (as_is (legal_channel c))).sure e).0
goal_fits (Unit m) e = number_fits m e

pub aim_fits : (s : Net) (n c : ℕ) (g : Goal) (v : ℕ) → checked (aim_rows s n c g v) ≡ Ok tt → GoalFits g
aim_fits s n c g v e =
    let ranged = (all_clear (aim_rows s n c g v) e).1.0 in
    goal_fits g ((also (as_is (goal_ranged g)) (as_is (ltb v networks))).sure (not-false _ ranged)).0

pub input_there : (s : Net) (n c : ℕ) (k : Wanted) → checked (input_rows s n c k) ≡ Ok tt → (n < s.nodes) × (c < ends)
input_there s n c k e = is_there s n c (not-false _ (all_clear (input_rows s n c k) e).0)

-- a token that Input can take
pub some_held : (s : Net) (n c : ℕ) (k : Wanted) → checked (input_rows s n c k) ≡ Ok tt → 0 < (s.ends.buffers n c).held
some_held s n c k e =
    above (s.ends.buffers n c).held (eqb-false _ _ (all_clear (input_rows s n c k) e).1.0)
  where
    above : (h : ℕ) → (h ≡ 0 → ⊥) → 0 < h
    above h ne = omega arith
