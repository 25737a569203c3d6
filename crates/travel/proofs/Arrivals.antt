-- What arrives, by the contracts of what takes it off the line, brings it in and considers a grant. Assumes nothing.
use Prim.Native.Nat.{ℕ, ◌+◌, ◌^◌, ◌<◌}
use mathlib.Core.Path.{◌≡◌, sym, ap, ◌∙◌}
use mathlib.Core.Bool.{Bool, false}
use mathlib.Core.List.{List, []}
use native.Mathlib.Omega.{arith}
use borrow.Author.Tests.{eq-eqb}
use Rattle.std.specs.Prelude.{Some}
use Rattle.lines.specs.Load.{is_hello, credit_of}
use Rattle.lines.proofs.Loads.{credit_most}
use Rattle.names.specs.declared.Slot.{Slot}
use Rattle.cells.specs.View.{Net}
use Rattle.cells.specs.World.{World, At}
use Rattle.acts.specs.Needs.{Room}
use Rattle.travel.specs.Travel.{taken_off, first_on, grant_due, grants_back, token_in, arrival_grant, arrives_at}
use Rattle.travel.specs.Travel.{line_empty, came_by, left_by}
use Rattle.travel.specs.Needs.{Grants, Arrives}
use Rattle.travel.proofs.Lent.{with_line_memory, came_lent, grants_lent, considered_lent}

-- What may be done with what arrives and is no HELLO, by the tests that the code makes
module _ {w : World} {n l m k x g : ℕ} {b : Bool} (z : Arrives w n l m k x) (d : b ≡ is_hello x) (f : b ≡ false) (e : g ≡ credit_of x) where
  pub token_may : g ≡ 0 → Room w m k 1 × Grants (token_in w m k x) m k
  token_may o = z.token (sym d ∙ f) (eq-eqb (credit_of x) 0 (sym e ∙ o))

  pub credit_may : (w.net.links.flows m k).credit + g < 2 ^ 32
  credit_may = omega (arith, z.credit (sym d ∙ f), credit_most x)

-- A token came to a port, and a grant is considered there
module _ (w : World) (s : Net) (m ls : List ℕ) (j k x : ℕ) (e : record { net = s; memory = m; line_memory = [] } ≡ token_in w j k x) where
  pub token_grants : Grants (token_in (with_line_memory w ls) j k x) j k → Grants (record { net = s; memory = []; line_memory = ls }) j k
  token_grants h = grants_lent (record { net = s; memory = []; line_memory = ls }) m j k (rw (came_lent w _ ls j k x e) h)

  pub token_arrives : (z : Net) (b : List ℕ) (g : ℕ)
      → (g ≡ grant_due (record { net = s; memory = []; line_memory = ls }) j k)
      × (record { net = z; memory = []; line_memory = b } ≡ grants_back (record { net = s; memory = []; line_memory = ls }) j k)
      → (g ≡ grant_due (token_in (with_line_memory w ls) j k x) j k)
      × (record { net = z; memory = m; line_memory = b } ≡ grants_back (token_in (with_line_memory w ls) j k x) j k)
  token_arrives z b g h =
      let here = came_lent w _ ls j k x e in
      let all = considered_lent _ _ m j k g h in
      (all.0 ∙ ap (λ (y : World). grant_due y j k) here, all.1 ∙ ap (λ (y : World). grants_back y j k) here)

-- What came off a line that was not empty has arrived
module _ (w : World) (n l : ℕ) (b : Slot) (k : ℕ) (some : line_empty w n l ≡ false) where
  pub moved : (y : World) (x : ℕ) → y ≡ taken_off w n l → x ≡ first_on w n l → (g : ℕ) (z : World)
      → (g ≡ arrival_grant y n l b.0 k x) × (z ≡ arrives_at y n l b.0 k x)
      → (Some g ≡ came_by w n l (At b k)) × (z ≡ left_by w n l (At b k))
  moved y x d e g z h =
      rw some (
        ap Some (h.0 ∙ ap (λ (v : World). arrival_grant v n l b.0 k x) d ∙ ap (arrival_grant (taken_off w n l) n l b.0 k) e),
        h.1 ∙ ap (λ (v : World). arrives_at v n l b.0 k x) d ∙ ap (arrives_at (taken_off w n l) n l b.0 k) e,
      )
