-- Every Output that is not refused keeps all that is kept, whatever its plan. Assumes nothing.
use Prim.Native.Nat.{ℕ, ◌<◌}
use mathlib.Core.Path.{◌≡◌, refl}
use mathlib.Core.Bool.{Bool, false, ◌||◌}
use mathlib.Core.Logic.{inl, inr, ⊎_elim}
use native.Mathlib.Omega.{arith}
use lib.Dec.{eqb, ltb}
use borrow.Author.Tests.{ltb-true}
use Rattle.laws.proofs.All.{either, equal}
use Rattle.laws.proofs.Order.{by_test, clash}
use Rattle.tokens.specs.Control.{writec, readc, output_checked, output_no}
use Rattle.tokens.specs.declared.header.Target.{Target}
use Rattle.cells.specs.World.{World}
use Rattle.ends.specs.Plan.{target_of, lowest_free, output_plan}
use Rattle.ends.specs.Output.{byte_of, word_of, is_unit, token_no, output_performed}
use Rattle.ends.specs.declared.Token.{Token}
use Rattle.ends.specs.declared.Token.TheVariants.{Data, Control}
use Rattle.ends.specs.declared.plan.Plan.{Plan}
use Rattle.kept.specs.Kept.{Kept}
use Rattle.kept.proofs.Ends.{Sender, keep_straight}
use Rattle.kept.proofs.Outputs.{keep_behind, keep_opens_by}
use Rattle.kept.proofs.Chosen.{Found, narrow, full, opens, behind, starts, goes_on, output_found}

-- A TOKEN THAT OUTPUT LETS OUT is data, or control below 0xC2
control_small : (v : ℕ) (u : Bool) → eqb (output_no v u) 7 ≡ false → eqb (output_no v u) 8 ≡ false → v < 0xC2
unfolding output_checked
control_small v u hard privileged =
    by_test (ltb v 0x80)
    (λ e. omega (arith, ltb-true v 0x80 e))
    (λ e. by_test (ltb v 0xC0)
    (λ f. omega (arith, ltb-true v 0xC0 f))
    (λ f. by_test (ltb v 0xE0)
    (λ g. by_test (eqb v writec || eqb v readc)
    (λ h. ⊎_elim (λ d. omega (arith, d)) (λ d. omega (arith, d)) ((either (equal v writec) (equal v readc)).sure h))
    (λ h. clash (rw (e, f, g, h) at privileged)))
    (λ g. clash (rw (e, f, g) at hard))))

pub token_small : (x : Token) (g : Target) → eqb (token_no x g) 7 ≡ false → eqb (token_no x g) 8 ≡ false → word_of x < 0x1C2
token_small (Data v) g hard privileged = omega arith
token_small (Control v) g hard privileged = omega (arith, control_small (byte_of v) (is_unit g) hard privileged)

module _ (w : World) (k : Kept w) (n c t : ℕ) (s : Sender w.net n c) (small : t < 0x1C2) where
  abbrev target : Target
  target = target_of (w.net.ends.aims n c)

  keep_found : {x : Plan} → Found w n c t x → Kept (output_performed w n c target t x)
  keep_found narrow = k
  keep_found full = k
  keep_found (opens z away free) = keep_opens_by w k n c (lowest_free w.net n) t target s z.shut refl z.wide free small
  keep_found (behind p e room) = keep_behind w k n c p t s e room small
  keep_found (starts z m d named here unclaimed given) = keep_straight w k n c d t s (inr (z.shut, unclaimed)) small given
  keep_found (goes_on d e given) = keep_straight w k n c d t s (inl e) small given

  pub keep_sent : Kept (output_performed w n c target t (output_plan w.net n c target t))
  keep_sent = keep_found (output_found w k n c t s)
