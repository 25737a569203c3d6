-- The cables of a sound state lead to links that are there, its lines can be read, and its links may grant: Sets can be made on it. Assumes
-- nothing.
use Prim.{tt}
use Prim.Native.Nat.{ℕ, ◌+◌, ◌<◌, ◌≤◌}
use mathlib.Core.Path.{◌≡◌, refl}
use mathlib.Core.Bool.{true}
use mathlib.Core.Logic.{⊎_elim}
use native.Mathlib.Omega.{arith}
use Rattle.laws.proofs.Order.{never}
use Rattle.names.specs.Size.{links}
use Rattle.names.specs.declared.Slot.{Slot}
use Rattle.ports.specs.Queue.{capacity}
use Rattle.cells.specs.World.{World, far_of, Far, Nowhere, At}
use Rattle.cells.specs.declared.link.Cable.{Cable}
use Rattle.travel.specs.Travel.{load_from}
use Rattle.travel.specs.Needs.{Leads, Cabled, LineThere, FarLine, Grants}
use Rattle.travel.proofs.Loads.{load_held}
use Rattle.settings.specs.Needs.{Settled}
use Rattle.sound.specs.Sound.{sound}
use Rattle.sound.proofs.Facts.{cable_facts, link_facts, line_facts, line_fair, line_reaches, unlined_facts, room_facts}

leads : (nodes : ℕ) (f : Far) → ((m : Slot) (k : ℕ) → f ≡ At m k → (m.0 < nodes) × (k < links)) → Leads nodes f
leads nodes Nowhere h = tt
leads nodes (At m k) h = h m k refl

pub cabled : (w : World) → sound w ≡ true → (n l : ℕ) → n < w.net.nodes → l < links → Cabled w.net n l
cabled w s n l hn hl =
    leads w.net.nodes (far_of (w.net.links.cables n l)) (λ m k e. let j = cable_facts w s n hn l hl m k e in (j.node, j.link))

wired_leads : (k : Cable) → k.wired ≡ 1 → far_of k ≡ Nowhere → ⊥
wired_leads k e f = let z : At (record { 0 = k.far_slot }) k.far_link ≡ Nowhere = rw e at f in never (cc)

module _ (w : World) (s : sound w ≡ true) where
  pub line_there : (n l : ℕ) → n < w.net.nodes → l < links → LineThere w n l
  line_there n l hn hl = record { node = hn; link = hl; fair = line_fair w s n hn l hl; reaches = line_reaches w s n hn l hl }

  far_line : (f : Far) → Leads w.net.nodes f → FarLine w f
  far_line Nowhere h = tt
  far_line (At m k) h = line_there m.0 k h.0 h.1

  module _ (n l : ℕ) (hn : n < w.net.nodes) (hl : l < links) where
    pub grants : Grants w n l
    grants =
        record {
          here = line_there n l hn hl;
          far = far_line (far_of (w.net.links.cables n l)) (cabled w s n l hn hl);
          fits = omega (arith, (line_facts w s n hn l hl).issued);
        }

    -- credit in hand and tokens on the line are no more than the far port holds; without a cable nothing is on the line
    pub few_tokens : (w.net.links.flows n l).credit + (load_from w n l).tokens ≤ capacity
    few_tokens = by_far (far_of (w.net.links.cables n l)) refl
      where
        by_far : (f : Far) → far_of (w.net.links.cables n l) ≡ f → (w.net.links.flows n l).credit + (load_from w n l).tokens ≤ capacity
        by_far Nowhere e =
            ⊎_elim
            (λ wired. absurd (wired_leads (w.net.links.cables n l) wired e))
            (λ z. omega (arith, load_held w n l (line_there n l hn hl), z.0, (link_facts w s n hn l hl).credit))
            (unlined_facts w s n hn l hl)
        by_far (At m k) e = omega (arith, room_facts w s n hn l hl m k e)

  pub settled : Settled w
  settled n l hn hl =
      record { cabled = cabled w s n l hn hl; line = line_there n l hn hl; tokens = omega (arith, few_tokens n l hn hl) }
