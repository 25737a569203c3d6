-- NO SET IS AN EVENT, nor is what a switch message writes: a HELLO that goes on a line is no token. Assumes nothing.
use Prim.Native.Nat.{ℕ, ◌<◌}
use mathlib.Core.Path.{◌≡◌, refl, ap, ◌∙◌}
use mathlib.Core.Bool.{true, false}
use mathlib.Core.List.{List, [], ◌∷◌}
use lib.Dec.{eqb}
use borrow.Author.Tests.{ltb-true, not-false}
use Rattle.laws.proofs.All.{also, as_is, below}
use Rattle.laws.proofs.Order.{by_test, clash}
use Rattle.names.specs.Size.{links}
use Rattle.answers.specs.Rows.{Passes}
use Rattle.lines.specs.Line.{line_place, on_line}
use Rattle.lines.specs.Load.{tokens_of}
use Rattle.cells.specs.View.{Net, EndTables, with_setup}
use Rattle.cells.specs.World.{World, far_of, line_from, Far, Nowhere, At}
use Rattle.cells.specs.Changes.{enabled_as}
use Rattle.clauses.specs.Cables.{enabled}
use Rattle.ports.specs.declared.Counters.{Counters}
use Rattle.travel.specs.Travel.{zeroed, far_zeroed, disabled}
use Rattle.settings.specs.Set.{link_there, set_busy, set_rows, set_made, set_call}
use Rattle.settings.specs.declared.Setting.{Setting}
use Rattle.settings.specs.declared.Setting.TheVariants.{Number, Width, Direction, LinkDirection, Network, Enable, Hello}
use Rattle.settings.proofs.Leaves.{setting_leaves}
use Rattle.messages.specs.Write.{accepted, made_all, written}
use Rattle.kept.specs.Kept.{Kept}
use Rattle.kept.proofs.Links.{hello_tokens}
use Rattle.kept.proofs.Sets.{attempted, keep_set}
use Rattle.streams.specs.View.{moving}
use Rattle.streams.proofs.View.{signals_seen}

-- a link that is disabled: counts alone are written
far_rings : (s : Net) (f : Far) → (far_zeroed s f).lines.rings ≡ s.lines.rings
far_rings s Nowhere = refl
far_rings s (At m j) = refl

disabled_rings : (s : Net) (n l : ℕ) → (disabled s n l).lines.rings ≡ s.lines.rings
unfolding disabled
disabled_rings s n l =
    far_rings (with_setup (zeroed s n l) n l (enabled_as (s.links.setups n l) 0)) (far_of (s.links.cables n l))

module _ (w : World) (k : Kept w) (n : ℕ) where
  abbrev Same : World → Type 0
  Same z = (a i : ℕ) → i < links → tokens_of (line_from z a i) ≡ tokens_of (line_from w a i)

  set_tokens : n < w.net.nodes → (x : Setting) → link_there x ≡ true → set_busy w n x ≡ false → Same (set_made w n x)
  set_tokens hn (Number v) h b a i hi = refl
  set_tokens hn (Width v) h b a i hi = refl
  set_tokens hn (Direction d v) h b a i hi = refl
  set_tokens hn (LinkDirection l v) h b a i hi = refl
  set_tokens hn (Network l v) h b a i hi = refl
  set_tokens hn (Enable l v) h b a i hi =
      by_test (eqb v 0)
      (λ e. rw e (ap (λ (r : ℕ → ℕ → Counters). tokens_of (on_line (r a i) w.line_memory (line_place a i))) (disabled_rings w.net n l)))
      (λ e. rw e)
  set_tokens hn (Hello l) h b a i hi =
      by_test (enabled w.net n l)
      (λ on. hello_tokens w k n l hn (ltb-true l links h) (rw on at b) a i hi)
      (λ off. clash (rw off at b))

  pub set_seen : (x : Setting) → Passes (set_rows w n x) → moving (set_made w n x) ≡ moving w
  set_seen x p =
      let there = (also (below n w.net.nodes) (as_is (link_there x))).sure (not-false _ p.0) in
      let z = setting_leaves w n x in
      signals_seen w (set_made w n x) z.ports z.users z.cables (ap (λ (t : EndTables). t.sendings) z.ends) z.memory
      (set_tokens there.0 x there.1 p.1.1.0)

-- refused or made
call_seen : (w : World) → Kept w → (n : ℕ) (x : Setting) → moving (set_call w n x).next ≡ moving w
unfolding set_call
call_seen w k n x = attempted (λ (z : World). moving z ≡ moving w) (set_rows w n x) w _ refl (set_seen w k n x)

all_seen : (xs : List Setting) (w : World) → Kept w → (n : ℕ) → moving (made_all w n xs) ≡ moving w
all_seen [] w k n = refl
all_seen (x ∷ xs) w k n = all_seen xs (set_call w n x).next (keep_set w k n x) n ∙ call_seen w k n x

pub written_seen : (w : World) → Kept w → (n : ℕ) (xs : List Setting) → moving (written w n xs) ≡ moving w
unfolding written
written_seen w k n xs = by_test (accepted w n xs) (λ e. rw e (all_seen xs w k n)) (λ e. rw e)
