-- What a state that is kept has, as a reader would ask for it: a disabled link has no credit, is not greeted and is used by nobody, and
-- nothing is on its line; what may still come over a cable finds room; disabling a disabled link changes nothing; by a link with no cable
-- nothing has gone out. Assumes nothing.
use Prim.Native.Nat.{ℕ, zero, suc, ◌+◌, ◌<◌, ◌≤◌}
use mathlib.Core.Path.{◌≡◌, refl, sym, ap, ◌∙◌}
use mathlib.Core.Bool.{Bool, true, false}
use mathlib.Core.Logic.{◌⊎◌, inl, inr, ⊎_elim}
use native.Mathlib.Omega.{arith}
use Rattle.laws.proofs.Table.{upd_own}
use Rattle.laws.proofs.Order.{never}
use Rattle.names.specs.Size.{links, ports}
use Rattle.names.specs.declared.Slot.{Slot}
use Rattle.circuits.specs.Circuit.{peer_of}
use Rattle.circuits.specs.declared.Hop.TheVariants.{Out}
use Rattle.ports.specs.Queue.{capacity}
use Rattle.grammar.specs.Stage.{due, crossed}
use Rattle.grammar.specs.Walk.{threes, begins_one}
use Rattle.grammar.specs.declared.stage.Stage.TheVariants.{Fresh}
use Rattle.lines.specs.Load.{load_of, no_load}
use Rattle.cells.specs.View.{Net, with_flow, with_setup, with_issued}
use Rattle.cells.specs.World.{World, far_of, hop, queue, Far, Nowhere, At}
use Rattle.cells.specs.Changes.{enabled_as}
use Rattle.cells.specs.declared.link.Setup.{Setup}
use Rattle.cells.specs.declared.link.Flow.{Flow}
use Rattle.clauses.specs.Pairs.{link_of}
use Rattle.acts.specs.Acts.{with_net}
use Rattle.travel.specs.Travel.{load_from, silenced, zeroed, far_zeroed, disabled}
use Rattle.travel.proofs.Loads.{line_none}
use Rattle.settings.specs.Set.{set_made}
use Rattle.settings.specs.declared.Setting.TheVariants.{Enable}
use Rattle.kept.specs.Kept.{Joined, Hears, Kept}
use Rattle.kept.proofs.Grants.{hears_here}
use Rattle.kept.proofs.Parts.{unset, owed}
use Rattle.kept.proofs.Stages.{names_port}

-- a circuit of which nothing has gone out, by what stands at its port's front
nothing_gone : (t : ℕ) (one : Bool) → crossed (due t one) ≡ Fresh → (t ≡ 3) ⊎ (one ≡ true)
nothing_gone zero true e = inr refl
nothing_gone zero false e = never (cc)
nothing_gone (suc zero) one e = never (cc)
nothing_gone (suc (suc zero)) one e = never (cc)
nothing_gone (suc (suc (suc zero))) one e = inl refl
nothing_gone (suc (suc (suc (suc t)))) one e = never (cc)

module _ (w : World) (k : Kept w) (n l : ℕ) (hn : n < w.net.nodes) (hl : l < links) where
  -- credit in hand and on the line to it, and tokens on the line from it and held at the far end, are at most 64
  pub room_left : (m : Slot) (j : ℕ) → far_of (w.net.links.cables n l) ≡ At m j
      → (w.net.links.flows n l).credit + (load_from w m.0 j).credit
      + ((load_from w n l).tokens + (w.net.ports.counters m.0 j).held) ≤ capacity
  room_left m j e = (k.accounts.joined n l hn hl m j e).room

  -- a circuit that leaves by an unwired link has its whole header at its port's front, three tokens or one
  pub whole_header : ((w.net.links.cables n l).wired ≡ 1 → ⊥) → (p : ℕ) → p < ports → hop w.net n p ≡ Out l
      → (threes (queue w n p) ≡ 3) ⊎ (begins_one (queue w n p) ≡ true)
  whole_header loose p hp e =
      let user = names_port (peer_of (w.net.links.users n l)) p (k.port_link.out n p hn hp l (ap link_of e)).1 in
      let kept = ⊎_elim (λ z. absurd (loose z)) (λ z. z) (k.carries.unsent n l hn hl) in
      nothing_gone (threes (queue w n p)) (begins_one (queue w n p)) (rw (user, e) at kept)

  module _ (off : (w.net.links.setups n l).enabled ≡ 1 → ⊥) where
    -- "A disabled link's credit is 0 and ungreeted."
    pub not_greeted : (w.net.links.flows n l).greeted ≡ 1 → ⊥
    not_greeted g = off (k.greeted n l hn hl g).0

    pub no_credit_lem : (w.net.links.flows n l).credit ≡ 0
    no_credit_lem = ⊎_elim (λ e. e) (λ g. absurd (not_greeted g)) (owed w k n l hn hl).earned

    pub unused : (w.net.links.users n l).kind ≡ 0
    unused = ⊎_elim (λ e. absurd (off e)) (λ e. e) (k.idle n l hn hl)

    flow_silent : w.net.links.flows n l ≡ silenced
    flow_silent =
        let g = unset (w.net.links.flows n l).greeted (owed w k n l hn hl).greeted not_greeted in
        λ i. record { greeted = g i; credit = no_credit_lem i }

    stays_off : enabled_as (w.net.links.setups n l) 0 ≡ w.net.links.setups n l
    stays_off =
        let x = w.net.links.setups n l in
        let e = unset x.enabled (k.setups n l hn hl).0 off in
        λ i. record { enabled = sym e i; direction = x.direction; network = x.network }

    -- nothing is on its line
    pub no_line : (w.net.lines.rings n l).held ≡ 0
    no_line = ⊎_elim (λ e. e) (λ y. absurd (off y.0)) (k.between n l hn hl)

    -- and its far end hears nobody either: it is not greeted, and nothing is on the line from it
    module _ (m : Slot) (j : ℕ) (e : far_of (w.net.links.cables n l) ≡ At m j) where
      far : Joined w.net.nodes w.net.links.cables n l m j
      far = k.cabled.agree n l hn hl m j e

      deaf : Hears w.net.links.setups (w.net.links.cables m.0 j) → ⊥
      deaf heard = off (hears_here w.net.links.setups (w.net.links.cables m.0 j) n l far.back heard)

      far_mute : (w.net.links.flows m.0 j).greeted ≡ 1 → ⊥
      far_mute g = deaf (k.greeted m.0 j far.node far.link g).1

      far_line : (w.net.lines.rings m.0 j).held ≡ 0
      far_line = ⊎_elim (λ z. z) (λ y. absurd (deaf y.1)) (k.between m.0 j far.node far.link)

      far_credit : (w.net.links.flows m.0 j).credit ≡ 0
      far_credit = ⊎_elim (λ z. z) (λ g. absurd (far_mute g)) (owed w k m.0 j far.node far.link).earned

      far_silent : w.net.links.flows m.0 j ≡ silenced
      far_silent =
          let g = unset (w.net.links.flows m.0 j).greeted (owed w k m.0 j far.node far.link).greeted far_mute in
          λ i. record { greeted = g i; credit = far_credit i }

      -- so neither end counts anything as issued
      here_none : load_from w n l ≡ no_load
      here_none = ap load_of (line_none w n l no_line)

      there_none : load_from w m.0 j ≡ no_load
      there_none = ap load_of (line_none w m.0 j far_line)

      far_issued : w.net.lines.issued m.0 j ≡ 0
      far_issued =
          let count = (k.accounts.joined n l hn hl m j e).count in
          omega (arith, (rw (here_none, there_none) at count) refl, no_credit_lem)

      here_issued : w.net.lines.issued n l ≡ 0
      here_issued =
          let count = (k.accounts.joined m.0 j far.node far.link (record { 0 = n }) l far.back).count in
          omega (arith, (rw (here_none, there_none) at count) refl, far_credit)

    none_issued : w.net.lines.issued n l ≡ 0
    none_issued = by_far (far_of (w.net.links.cables n l)) refl
      where
        by_far : (f : Far) → far_of (w.net.links.cables n l) ≡ f → w.net.lines.issued n l ≡ 0
        by_far Nowhere e = (k.accounts.alone n l hn hl e).issued
        by_far (At m j) e = here_issued m j e

-- an end that owes nothing is zeroed already
zeroed_own : (s : Net) (n l : ℕ) → s.links.flows n l ≡ silenced → s.lines.issued n l ≡ 0 → zeroed s n l ≡ s
zeroed_own s n l flow none =
    ap (λ (f : Flow). with_issued (with_flow s n l f) n l 0) (sym flow)
    ∙ ap (λ (i : ℕ). with_issued (with_flow s n l (s.links.flows n l)) n l i) (sym none)
    ∙ rw (upd_own s.links.flows n l, upd_own s.lines.issued n l)

pub disable_twice : (w : World) → Kept w → (n l : ℕ) → n < w.net.nodes → l < links → ((w.net.links.setups n l).enabled ≡ 1 → ⊥)
    → set_made w n (Enable l 0) ≡ w
unfolding disabled
disable_twice w k n l hn hl off =
    let s = w.net in
    ap (λ (z : Net). with_net w z)
    (ap (λ (z : Net). far_zeroed z (far_of (s.links.cables n l)))
    (ap (λ (z : Net). with_setup z n l (enabled_as (s.links.setups n l) 0))
    (zeroed_own s n l (flow_silent w k n l hn hl off) (none_issued w k n l hn hl off))
    ∙ ap (λ (x : Setup). with_setup s n l x) (stays_off w k n l hn hl off)
    ∙ rw (upd_own s.links.setups n l))
    ∙ far_too (far_of (s.links.cables n l)) refl)
  where
    far_too : (f : Far) → far_of (w.net.links.cables n l) ≡ f → far_zeroed w.net f ≡ w.net
    far_too Nowhere e = refl
    far_too (At m j) e =
        zeroed_own w.net m.0 j (far_silent w k n l hn hl off m j e) (far_issued w k n l hn hl off m j e)
