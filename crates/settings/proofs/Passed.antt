-- What a Wire or Set that is not refused has: its nodes and links are there, and a Set is not Busy. Assumes nothing.
use Prim.{Unit, tt}
use Prim.Native.Nat.{ℕ, ◌<◌}
use mathlib.Core.Path.{◌≡◌, ap}
use mathlib.Core.Bool.{true, false, not, ◌&&◌}
use lib.Dec.{ltb}
use borrow.Author.Tests.{ltb-true, not-false}
use Rattle.laws.proofs.All.{also, as_is, below}
use Rattle.names.specs.Size.{links}
use Rattle.names.proofs.Ranges.{number_fits}
use Rattle.std.specs.Prelude.{Result, Ok, Err, IsErr}
use Rattle.std.specs.Result.{IsErrAnd}
use Rattle.names.specs.declared.no.No.{No as Why}
use Rattle.answers.specs.Rows.{checked}
use Rattle.answers.specs.Out.{Out, out}
use Rattle.answers.specs.Answered.{Answered, Done}
use Rattle.answers.proofs.Refusals.{all_clear, hands_on, goes_on_lem}
use Rattle.cells.specs.View.{Net}
use Rattle.cells.specs.World.{World}
use Rattle.settings.specs.Set.{set_rows, link_there, in_range, set_busy, set_answer, set_made, set_call}
use Rattle.settings.specs.Needs.{Settable}
use Rattle.settings.specs.Wire.{wire_rows, wired, wire}
use Rattle.settings.specs.declared.Setting.{Setting}
use Rattle.settings.specs.declared.Setting.TheVariants.{Number, Width, Direction, LinkDirection, Network, Enable, Hello}

settable : (x : Setting) → link_there x ≡ true → in_range x ≡ true → Settable x
settable (Number v) e r = number_fits v r
settable (Width v) e r = tt
settable (Direction b v) e r = tt
settable (LinkDirection l v) e r = ltb-true l links e
settable (Network l v) e r = ltb-true l links e
settable (Enable l v) e r = ltb-true l links e
settable (Hello l) e r = ltb-true l links e

pub there_set : (N n : ℕ) (x : Setting) → not (ltb n N && link_there x) ≡ false → not (in_range x) ≡ false → (n < N) × Settable x
there_set N n x e r =
    let z = (also (below n N) (as_is (link_there x))).sure (not-false _ e) in (z.0, settable x z.1 (not-false _ r))

pub set_there : (w : World) (n : ℕ) (x : Setting) → checked (set_rows w n x) ≡ Ok tt
    → (n < w.net.nodes) × Settable x × (set_busy w n x ≡ false)
set_there w n x e =
    let h = all_clear (set_rows w n x) e in
    let z = there_set w.net.nodes n x h.0 h.1.0 in
    (z.0, z.1, h.1.1.0)

-- both link ends are there
pub record Ends (s : Net) (n l m k : ℕ) : Type 0 where
  pub one : (n < s.nodes) × (l < links)
  pub other : (m < s.nodes) × (k < links)

pub wire_there : (s : Net) (n l m k : ℕ) → checked (wire_rows s n l m k) ≡ Ok tt → Ends s n l m k
wire_there s n l m k e =
    let h = (all_clear (wire_rows s n l m k) e).0 in
    let z = (also (also (below n s.nodes) (below l links)) (also (below m s.nodes) (below k links))).sure (not-false _ h) in
    record { one = z.0; other = z.1 }

-- Refused, or gone on with, as the rows say
module _ (w : World) (n : ℕ) (x : Setting) (r : Result Unit Why) (e : r ≡ checked (set_rows w n x)) where
  pub set_refuses : (a : Answered) (k : Why) → IsErr a × IsErrAnd a (λ j. j ≡ k) → r ≡ Err k → out a w ≡ set_call w n x
  unfolding set_call
  set_refuses = hands_on (set_rows w n x) w (out (set_answer x) (set_made w n x)) r e

  pub set_goes_on : (o : Out World) → r ≡ Ok tt → o ≡ out (set_answer x) (set_made w n x) → o ≡ set_call w n x
  unfolding set_call
  set_goes_on o h q = goes_on_lem (set_rows w n x) w (out (set_answer x) (set_made w n x)) r e h q

module _ (s : Net) (n l m j : ℕ) (r : Result Unit Why) (e : r ≡ checked (wire_rows s n l m j)) where
  pub wire_refuses : (a : Answered) (k : Why) → IsErr a × IsErrAnd a (λ j. j ≡ k) → r ≡ Err k → out a s ≡ wire s n l m j
  unfolding wire
  wire_refuses = hands_on (wire_rows s n l m j) s (out Done (wired s n l m j)) r e

  pub wire_goes_on : (z : Net) → r ≡ Ok tt → z ≡ wired s n l m j → out Done z ≡ wire s n l m j
  unfolding wire
  wire_goes_on z h q = goes_on_lem (wire_rows s n l m j) s (out Done (wired s n l m j)) r e h (ap (out Done) q)
