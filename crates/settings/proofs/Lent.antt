-- A Set touches no port: with the token memory lent, too, it is passed through. Assumes nothing.
use Prim.Native.Nat.{ℕ}
use mathlib.Core.Path.{◌≡◌, refl, sym, ap, ◌∙◌}
use mathlib.Core.List.{List}
use Rattle.laws.proofs.Order.{by_test}
use Rattle.answers.proofs.Refusals.{by_check}
use Rattle.answers.specs.Rows.{Row, checked}
use Rattle.answers.specs.Out.{Out, out, attempt}
use Rattle.answers.specs.Answered.{Answered}
use Rattle.cells.specs.World.{World}
use Rattle.clauses.specs.Cables.{far_enabled}
use Rattle.travel.specs.Travel.{put_on, says_hello}
use Rattle.travel.proofs.Lent.{with_memory, there_lent}
use Rattle.settings.specs.Set.{set_rows, set_answer, set_made, set_call}
use Rattle.settings.specs.Needs.{Settled}
use Rattle.settings.specs.declared.Setting.{Setting}
use Rattle.settings.specs.declared.Setting.TheVariants.{Number, Width, Direction, LinkDirection, Network, Enable, Hello}

-- an outcome with another token memory
abbrev pub out_memory : Out World → List ℕ → Out World
out_memory o m = out o.answer (with_memory o.next m)

module _ (w : World) (m : List ℕ) where
  pub settled_lent : Settled (with_memory w m) → Settled w
  settled_lent h n l hn hl =
      let z = h n l hn hl in record { cabled = z.cabled; line = there_lent w m n l z.line; tokens = z.tokens }

  module _ (n : ℕ) where
    rows_lent : (x : Setting) → set_rows (with_memory w m) n x ≡ set_rows w n x
    rows_lent (Number v) = refl
    rows_lent (Width v) = refl
    rows_lent (Direction b v) = refl
    rows_lent (LinkDirection l v) = refl
    rows_lent (Network l v) = refl
    rows_lent (Enable l v) = refl
    rows_lent (Hello l) = refl

    made_lent : (x : Setting) → set_made (with_memory w m) n x ≡ with_memory (set_made w n x) m
    unfolding says_hello put_on
    made_lent (Number v) = refl
    made_lent (Width v) = refl
    made_lent (Direction b v) = refl
    made_lent (LinkDirection l v) = refl
    made_lent (Network l v) = refl
    made_lent (Enable l v) = refl
    made_lent (Hello l) = by_test (far_enabled w.net (w.net.links.cables n l)) (λ e. rw e) (λ e. rw e)

    pub set_lent : (x : Setting) → set_call (with_memory w m) n x ≡ out_memory (set_call w n x) m
    unfolding set_call
    set_lent x =
        ap (λ (rs : List Row). attempt rs (with_memory w m) (out (set_answer x) (set_made (with_memory w m) n x))) (rows_lent x)
        ∙ by_check (checked (set_rows w n x)) (λ e. rw e (ap (out (set_answer x)) (made_lent x))) (λ k e. rw e)

-- .. what a function did that is lent no port
pub called_lent : (w z : World) (a : Answered) (m : List ℕ) (n : ℕ) (x : Setting) → out a z ≡ set_call w n x
    → out a (with_memory z m) ≡ set_call (with_memory w m) n x
called_lent w z a m n x e = ap (λ (o : Out World). out_memory o m) e ∙ sym (set_lent w m n x)
