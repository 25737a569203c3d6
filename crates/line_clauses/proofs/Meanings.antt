-- What each test of lines means, both ways: from the test to the facts, from the facts to the test. Assumes nothing.
use Prim.Native.Nat.{ℕ, ◌+◌, ◌≤◌}
use mathlib.Core.Path.{◌≡◌, refl, sym, ap, ◌∙◌}
use mathlib.Core.Bool.{Bool, false}
use mathlib.Core.Logic.{◌⊎◌}
use Rattle.laws.specs.All.{Means}
use Rattle.laws.proofs.All.{also, either, denied, equal, at_most}
use Rattle.laws.proofs.Order.{clash, never}
use Rattle.names.specs.declared.Slot.{Slot}
use Rattle.ports.specs.Queue.{capacity}
use Rattle.cells.specs.World.{World, far_of, Far, Nowhere, At}
use Rattle.cells.specs.declared.link.Cable.{Cable}
use Rattle.cells.proofs.Fars.{same_far}
use Rattle.clauses.specs.Cables.{on_far}
use Rattle.clauses.proofs.Meanings.{on_far_lem, Hears, far_enabled_lem}
use Rattle.line_clauses.specs.Lines.{load_at, few_on, unlined, room_over, counted, between, is_greeted, towards, no_credit, hello_last}

-- a far end of which P holds
pub record Beyond (k : Cable) (P : ℕ → ℕ → Type 0) : Type 0 where
  pub slot : Slot
  pub link : ℕ
  pub leads : far_of k ≡ At slot link
  pub holds : P slot.0 link

beyond : {P : ℕ → ℕ → Type 0} (k : Cable) (c : Far) (f : ℕ → ℕ → Bool) → far_of k ≡ c → ((m j : ℕ) → Means (f m j) (P m j))
    → Means (on_far c false f) (Beyond k P)
beyond k Nowhere f e t = record { sure = λ h. clash (sym h); back = λ z. let q = z.leads in never (cc) }
beyond {P} k (At m j) f e t =
    record {
      sure = λ h. record { slot = m; link = j; leads = e; holds = (t m.0 j).sure h };
      back = λ z.
          let q : At m j ≡ At z.slot z.link = sym e ∙ z.leads in
          let d : m ≡ z.slot = (same_far q).0 in
          let g : j ≡ z.link = (same_far q).1 in
          ap (λ (x : Slot). f x.0 j) d ∙ ap (f z.slot.0) g ∙ (t z.slot.0 z.link).back z.holds;
    }

module _ (w : World) (n l : ℕ) where
  pub few_means : Means (few_on w n l) (((load_at w n l).credits ≤ 1) × ((load_at w n l).hellos ≤ 1))
  few_means = also (at_most _ _) (at_most _ _)

  pub unlined_means : Means (unlined w n l)
      (((w.net.links.cables n l).wired ≡ 1) ⊎ (((w.net.lines.rings n l).held ≡ 0) × (w.net.lines.issued n l ≡ 0)))
  unlined_means = either (equal _ _) (also (equal _ _) (equal _ _))

  pub room_means : Means (room_over w n l)
      ((m : Slot) (k : ℕ) → far_of (w.net.links.cables n l) ≡ At m k
      → (w.net.links.flows n l).credit + (load_at w m.0 k).credit
      + ((load_at w n l).tokens + (w.net.ports.counters m.0 k).held) ≤ capacity)
  room_means =
      on_far_lem {P = λ m k.
      (w.net.links.flows n l).credit + (load_at w m.0 k).credit
      + ((load_at w n l).tokens + (w.net.ports.counters m.0 k).held) ≤ capacity}
      (far_of (w.net.links.cables n l)) _ (λ m k. at_most _ _)

  pub count_means : Means (counted w n l)
      ((m : Slot) (k : ℕ) → far_of (w.net.links.cables n l) ≡ At m k
      → ((load_at w m.0 k).hellos ≡ 0 → ⊥)
      ⊎ (w.net.lines.issued n l ≡ (w.net.links.flows m.0 k).credit + (load_at w n l).credit + (load_at w m.0 k).tokens))
  count_means =
      on_far_lem {P = λ m k.
      ((load_at w m.0 k).hellos ≡ 0 → ⊥)
      ⊎ (w.net.lines.issued n l ≡ (w.net.links.flows m.0 k).credit + (load_at w n l).credit + (load_at w m.0 k).tokens)}
      (far_of (w.net.links.cables n l)) _ (λ m k. either (denied (equal _ _)) (equal _ _))

  pub between_means : Means (between w n l)
      (((w.net.lines.rings n l).held ≡ 0)
      ⊎ (((w.net.links.setups n l).enabled ≡ 1) × Hears w.net (w.net.links.cables n l)))
  between_means =
      either (equal _ _)
      (also (equal _ _) (far_enabled_lem w.net (w.net.links.cables n l) (far_of (w.net.links.cables n l)) refl))

  pub towards_means : Means (towards w n l)
      (((load_at w n l).credits ≡ 0)
      ⊎ Beyond (w.net.links.cables n l) (λ m k. (w.net.links.flows m k).greeted ≡ 1))
  towards_means =
      either (equal _ _)
      (beyond (w.net.links.cables n l) (far_of (w.net.links.cables n l)) (is_greeted w) refl (λ m k. equal _ _))

  pub last_means : Means (hello_last w n l)
      (((load_at w n l).hellos ≡ 0)
      ⊎ (((w.net.links.flows n l).credit ≡ 0)
      × (((load_at w n l).behind ≡ 0) × Beyond (w.net.links.cables n l) (λ m k. (load_at w m k).credits ≡ 0))))
  last_means =
      either (equal _ _)
      (also (equal _ _)
      (also (equal _ _)
      (beyond (w.net.links.cables n l) (far_of (w.net.links.cables n l)) (no_credit w) refl (λ m k. equal _ _))))
