-- What an Output comes to where the lines are lent too: they are passed through. Assumes nothing.
use Prim.Native.Nat.{ℕ}
use mathlib.Core.Path.{◌≡◌, refl, ap}
use mathlib.Core.List.{List, [], ◌∷◌}
use Rattle.answers.proofs.Refusals.{by_check}
use Rattle.tokens.specs.Header.{header_of, words}
use Rattle.tokens.specs.declared.header.Target.{Target}
use Rattle.answers.specs.Rows.{checked}
use Rattle.answers.specs.Out.{Out, out}
use Rattle.cells.specs.World.{World}
use Rattle.acts.specs.Acts.{width_at, pushed, pushed_all, with_net, networked}
use Rattle.ends.specs.Plan.{target_of, output_plan}
use Rattle.ends.specs.Output.{word_of, goes_by, output_performed, output_rows, output}
use Rattle.ends.specs.Needs.{with_lines}
use Rattle.ends.specs.declared.Token.{Token}
use Rattle.ends.specs.declared.plan.Plan.{Plan}
use Rattle.ends.specs.declared.plan.Plan.TheVariants.{Narrow, Full, Opens, Behind, Straight}

-- what comes of a call, with these words on the lines
abbrev pub lent_out : Out World → List ℕ → Out World
lent_out o ls = out o.answer (with_lines o.next ls)

module _ (ls : List ℕ) where
  all_lent : (ts : List ℕ) (w : World) (n p : ℕ) → pushed_all (with_lines w ls) n p ts ≡ with_lines (pushed_all w n p ts) ls
  unfolding pushed
  all_lent [] w n p = refl
  all_lent (t ∷ ts) w n p = all_lent ts (pushed w n p t) n p

  performed_lent : (w : World) (n c : ℕ) (g : Target) (t : ℕ) (x : Plan)
      → output_performed (with_lines w ls) n c g t x ≡ with_lines (output_performed w n c g t x) ls
  unfolding pushed
  performed_lent w n c g t Narrow = refl
  performed_lent w n c g t Full = refl
  performed_lent w n c g t (Opens p) =
      ap (λ (y : World).
      let z = pushed y n p t in with_net z (goes_by (networked z.net n p (w.net.ends.aims n c).network) n c p t))
      (all_lent (words (header_of g (width_at w.net n))) w n p)
  performed_lent w n c g t (Behind p) = refl
  performed_lent w n c g t (Straight d) = refl

  pub output_lent : (w : World) (n c : ℕ) (x : Token) → lent_out (output w n c x) ls ≡ output (with_lines w ls) n c x
  unfolding output
  output_lent w n c x =
      let g = target_of (w.net.ends.aims n c) in
      let same = performed_lent w n c g (word_of x) (output_plan w.net n c g (word_of x)) in
      by_check (checked (output_rows w.net n c x)) (λ e. rw (e, same)) (λ k e. rw e)
