-- Every Step keeps all that is kept, whatever its plan: what the plan found is what the act asks for. Assumes nothing.
use Prim.Native.Nat.{ℕ, ◌<◌}
use mathlib.Core.Path.{◌≡◌, refl, sym}
use mathlib.Core.Bool.{true}
use Rattle.laws.proofs.Order.{clash}
use Rattle.names.specs.Size.{ports}
use Rattle.circuits.specs.declared.Cause.TheVariants.{Split, NoRoute}
use Rattle.tokens.specs.declared.header.Width.{Width}
use Rattle.tokens.specs.declared.header.Width.TheVariants as Widths
use Rattle.cells.specs.World.{World}
use Rattle.acts.specs.Acts.{width_at, word_at}
use Rattle.plans.specs.Plan.{marked_width, size_of, same_width}
use Rattle.plans.specs.declared.Plan.{Plan}
use Rattle.switch.specs.Step.{step_performed, step_made}
use Rattle.kept.specs.Kept.{Kept}
use Rattle.kept.proofs.Opens.{keep_opens_out, keep_refused}
use Rattle.kept.proofs.Lands.{keep_lands_channel, keep_lands_unit}
use Rattle.kept.proofs.Moves.{keep_drops, keep_moves_out}
use Rattle.kept.proofs.Hands.{keep_hands}
use Rattle.kept.proofs.Hears.{keep_hears}
use Rattle.kept.proofs.Found.{Legible, Found, idle, waits, splits, unrouted, routes, lands_channel, lands_unit, step_found}
use Rattle.kept.proofs.Found.{moves, hands, hears, drops}

same_width_lem : (a b : Width) → same_width a b ≡ true → size_of b ≡ size_of a
same_width_lem Widths.One Widths.One e = refl
same_width_lem Widths.One Widths.Three e = clash (sym e)
same_width_lem Widths.Three Widths.One e = clash (sym e)
same_width_lem Widths.Three Widths.Three e = refl

module _ (w : World) (k : Kept w) (n p : ℕ) where
  -- this switch removes as many tokens as the header has
  pub as_long : Legible w n p → size_of (width_at w.net n) ≡ size_of (marked_width (word_at w n p 0))
  as_long z = same_width_lem (marked_width (word_at w n p 0)) (width_at w.net n) z.fits

  keep_found : {x : Plan} → Found w n p x → Kept (step_performed w n p x).next
  keep_found (idle none) = k
  keep_found (waits unsplit) = k
  keep_found (splits z f) = keep_refused w k n p Split z
  keep_found (unrouted z) = keep_refused w k n p NoRoute z.headed
  keep_found (routes z l hl free on) = keep_opens_out w k n p l z.headed hl free on
  keep_found (lands_channel z m c t named door there tile claim) =
      keep_lands_channel w k n p c t z.legible.headed (as_long z.legible) door there tile claim
  keep_found (lands_unit z m named free empty) = keep_lands_unit w k n p z.legible.headed (as_long z.legible) free empty
  keep_found (moves l g m j leads credit) = keep_moves_out w k n p l m j g.holds g.goes leads credit
  keep_found (hands c t g given) = keep_hands w k n p c t g.holds g.goes given
  keep_found (hears g) = keep_hears w k n p g.holds g.goes
  keep_found (drops x g) = keep_drops w k n p x g.holds g.goes

  pub keep_step : n < w.net.nodes → p < ports → Kept (step_made w n p).next
  keep_step hn hp = keep_found (step_found w k n p hn hp)
