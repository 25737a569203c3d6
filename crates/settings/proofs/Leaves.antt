-- What no Set changes: how many nodes there are, what ports hold, where cables lead, who uses links, channel-ends and control units, and
-- the token memory. Assumes nothing.
use Prim.Native.Nat.{ℕ}
use mathlib.Core.Path.{◌≡◌, refl, ◌∙◌}
use lib.Dec.{eqb}
use Rattle.laws.proofs.Order.{by_test}
use Rattle.answers.proofs.Refusals.{by_check}
use Rattle.answers.specs.Rows.{checked}
use Rattle.cells.specs.View.{with_setup}
use Rattle.cells.specs.World.{World, far_of, Far, Nowhere, At}
use Rattle.cells.specs.Changes.{enabled_as}
use Rattle.clauses.specs.Cables.{far_enabled}
use Rattle.acts.specs.Acts.{with_net}
use Rattle.travel.specs.Travel.{put_on, says_hello, zeroed, far_zeroed, disabled}
use Rattle.settings.specs.Set.{set_rows, set_made, set_call}
use Rattle.settings.specs.declared.Setting.{Setting}
use Rattle.settings.specs.declared.Setting.TheVariants.{Number, Width, Direction, LinkDirection, Network, Enable, Hello}

pub record Leaves (w z : World) : Type 0 where
  pub nodes : z.net.nodes ≡ w.net.nodes
  pub ports : z.net.ports ≡ w.net.ports
  pub cables : z.net.links.cables ≡ w.net.links.cables
  pub users : z.net.links.users ≡ w.net.links.users
  pub ends : z.net.ends ≡ w.net.ends
  pub units : z.net.units ≡ w.net.units
  pub memory : z.memory ≡ w.memory

pub leaves_all : (w : World) → Leaves w w
leaves_all w = record { nodes = refl; ports = refl; cables = refl; users = refl; ends = refl; units = refl; memory = refl }

pub and_then : {w y z : World} → Leaves w y → Leaves y z → Leaves w z
and_then a b =
    record {
      nodes = b.nodes ∙ a.nodes;
      ports = b.ports ∙ a.ports;
      cables = b.cables ∙ a.cables;
      users = b.users ∙ a.users;
      ends = b.ends ∙ a.ends;
      units = b.units ∙ a.units;
      memory = b.memory ∙ a.memory;
    }

of_far : (w : World) (f : Far) → Leaves w (with_net w (far_zeroed w.net f))
of_far w Nowhere = leaves_all w
of_far w (At m j) =
    record { nodes = refl; ports = refl; cables = refl; users = refl; ends = refl; units = refl; memory = refl }

module _ (w : World) (n : ℕ) where
  pub disabled_leaves : (l : ℕ) → Leaves w (with_net w (disabled w.net n l))
  unfolding disabled
  disabled_leaves l =
      let s = w.net in
      let z = of_far (with_net w (with_setup (zeroed s n l) n l (enabled_as (s.links.setups n l) 0))) (far_of (s.links.cables n l)) in
      record {
        nodes = z.nodes;
        ports = z.ports;
        cables = z.cables;
        users = z.users;
        ends = z.ends;
        units = z.units;
        memory = z.memory;
      }

  pub setting_leaves : (x : Setting) → Leaves w (set_made w n x)
  unfolding says_hello put_on
  setting_leaves (Number v) =
      record { nodes = refl; ports = refl; cables = refl; users = refl; ends = refl; units = refl; memory = refl }
  setting_leaves (Width v) =
      record { nodes = refl; ports = refl; cables = refl; users = refl; ends = refl; units = refl; memory = refl }
  setting_leaves (Direction b v) =
      record { nodes = refl; ports = refl; cables = refl; users = refl; ends = refl; units = refl; memory = refl }
  setting_leaves (LinkDirection l v) =
      record { nodes = refl; ports = refl; cables = refl; users = refl; ends = refl; units = refl; memory = refl }
  setting_leaves (Network l v) =
      record { nodes = refl; ports = refl; cables = refl; users = refl; ends = refl; units = refl; memory = refl }
  setting_leaves (Enable l v) =
      let s = w.net in
      let whole : Leaves w (with_net w (with_setup s n l (enabled_as (s.links.setups n l) 1))) =
      record { nodes = refl; ports = refl; cables = refl; users = refl; ends = refl; units = refl; memory = refl } in
      by_test (eqb v 0) (λ e. rw e (disabled_leaves l)) (λ e. rw e whole)
  setting_leaves (Hello l) =
      by_test (far_enabled w.net (w.net.links.cables n l))
      (λ e. rw e (record { nodes = refl; ports = refl; cables = refl; users = refl; ends = refl; units = refl; memory = refl }))
      (λ e. rw e (record { nodes = refl; ports = refl; cables = refl; users = refl; ends = refl; units = refl; memory = refl }))

  pub set_leaves : (x : Setting) → Leaves w (set_call w n x).next
  unfolding set_call
  set_leaves x =
      by_check (checked (set_rows w n x)) (λ e. rw e (setting_leaves x)) (λ k e. rw e (leaves_all w))
