-- What leaves the accounts of a state in order where no cable carries anything new: a token taken, with its grant, a token put into a port
-- that no link feeds, a HELLO that is lost, a link disabled, and two ends joined by a cable. Assumes nothing.
use Prim.Native.Nat.{ℕ, ◌<◌, ◌≤◌}
use mathlib.Core.Path.{◌≡◌, refl, sym, subst, ap, ◌∙◌}
use mathlib.Core.Bool.{true, false}
use mathlib.Core.Logic.{⊎_elim}
use native.Mathlib.Omega.{arith}
use lib.Dec.{ltb}
use borrow.Author.Tests.{ltb-true}
use Rattle.laws.specs.Pick.{pick}
use Rattle.laws.specs.Table.{upd, Off}
use Rattle.laws.proofs.Order.{by_test, clash}
use Rattle.laws.proofs.Table.{upd_own, upd_all, upd_same, upd_miss}
use Rattle.names.specs.Size.{links}
use Rattle.names.specs.declared.Slot.{Slot}
use Rattle.ports.specs.Queue.{capacity, take_counters}
use Rattle.lines.specs.Load.{hello_word, load_of, no_load}
use Rattle.cells.specs.View.{with_flow, with_cable, with_setup}
use Rattle.cells.specs.World.{World, far_of, Far, Nowhere, At}
use Rattle.cells.specs.Changes.{enabled_as}
use Rattle.cells.specs.declared.link.Cable as Wire
use Rattle.clauses.specs.Cables.{on_far, enabled, far_enabled}
use Rattle.acts.specs.Acts.{with_net, pushed, popped}
use Rattle.travel.specs.Travel.{load_from, put_on, grants_back, credit_lost, says_hello, silenced, zeroed, far_zeroed, disabled}
use Rattle.travel.specs.Needs.{LineThere}
use Rattle.travel.specs.Accounts.{End, Clean, end_at, InOrder}
use Rattle.travel.proofs.Accounts.{issued_to, clean_cable}
use Rattle.travel.proofs.Cables.{Backs, other_cables, other_alone, same_cables, less_held, two_joined}
use Rattle.travel.proofs.Changed.{flow_as, flow_here, flow_away, issued_here, issued_away, pushed_away}
use Rattle.travel.proofs.Keeps.{both_ends, hello_in_order}
use Rattle.travel.proofs.Granted.{granted_in_order}
use Rattle.travel.proofs.Loads.{line_none}

-- an end that is zeroed
module _ (w : World) (n l : ℕ) where
  zeroed_here : end_at (with_net w (zeroed w.net n l)) n l ≡ issued_to (flow_as (end_at w n l) silenced) 0
  zeroed_here =
      issued_here (with_net w (with_flow w.net n l silenced)) n l 0 ∙ ap (λ (e : End). issued_to e 0) (flow_here w n l silenced)

  zeroed_away : (a j : ℕ) → Off n l a j → end_at (with_net w (zeroed w.net n l)) a j ≡ end_at w a j
  zeroed_away a j o = issued_away (with_net w (with_flow w.net n l silenced)) n l 0 a j o ∙ flow_away w n l silenced a j o

-- .. owes nothing, where nothing is on its line
at_rest : (e : End) → e.load ≡ no_load → e.held ≤ capacity → Clean (issued_to (flow_as e silenced) 0)
at_rest e none few = record { credit = refl; greeted = refl; issued = refl; load = none; held = few }

-- A TOKEN TAKEN off any port
pub popped_in_order : (w : World) → InOrder w → (n p : ℕ) → InOrder (popped w n p)
unfolding popped
popped_in_order w z n p =
    let c = w.net.ports.counters in
    let t = take_counters (c n p) in
    less_held (λ a j. (upd c n p t a j).held) z
    (λ a j. upd_all (λ b i k. k.held ≤ (c b i).held) c n p t a j (λ ea ej. rw (ea, ej) (omega arith)) (λ o. omega arith))

-- A TOKEN PUT into a port that no link feeds
pub unfed_in_order : (w : World) → Backs w.net.nodes w.net.links.cables → InOrder w → (n p x : ℕ) → links ≤ p
    → InOrder (pushed w n p x)
unfolding pushed
unfed_in_order w back z n p x high =
    same_cables back z (λ a j hj. pushed_away w n p x a j (λ ea ej. absurd (omega arith)))

-- TWO ENDS JOINED, neither of which had a cable
pub joined_in_order : (w : World) → InOrder w → (n l m k : ℕ) (c d : Wire.Cable)
    → n < w.net.nodes → l < links
    → m < w.net.nodes → k < links
    → far_of (w.net.links.cables n l) ≡ Nowhere
    → far_of (w.net.links.cables m k) ≡ Nowhere
    → Off n l m k
    → far_of c ≡ At (record { 0 = m }) k
    → far_of d ≡ At (record { 0 = n }) l
    → InOrder (with_net w (with_cable (with_cable w.net n l c) m k d))
joined_in_order w z n l m k c d hn hl hm hk loose-n loose-m off leads home =
    let f = w.net.links.cables in
    two_joined z n l (record { 0 = m }) k (z.alone n l hn hl loose-n) (z.alone m k hm hk loose-m)
    (ap far_of (upd_miss (upd f n l c) m k d n l (λ a b. off (sym a) (sym b)) ∙ upd_same f n l c) ∙ leads)
    (ap far_of (upd_same (upd f n l c) m k d) ∙ home)
    (λ a j here there. upd_miss (upd f n l c) m k d a j there ∙ upd_miss f n l c a j here)

-- credit that is lost where there is none
lost_nothing : (w : World) (n l : ℕ) → (w.net.links.flows n l).credit ≡ 0 → credit_lost w.net n l ≡ w.net
lost_nothing w n l e =
    let f = w.net.links.flows in
    let same : upd f n l (record { greeted = (f n l).greeted; credit = 0 }) ≡ f = rw (← e) (upd_own f n l) in
    rw same

module _ (w : World) (back : Backs w.net.nodes w.net.links.cables) (z : InOrder w) (n l : ℕ) (hn : n < w.net.nodes)
    (apart : (m : Slot) (k : ℕ) → far_of (w.net.links.cables n l) ≡ At m k → Off n l m.0 k) where
  -- A TOKEN TAKEN, with the grant that is considered for it at a port that a link feeds
  pub taken_in_order : (l < links → LineThere w n l) → InOrder (pick (ltb l links) (grants_back (popped w n l) n l) (popped w n l))
  unfolding popped
  taken_in_order line =
      by_test (ltb l links)
      (λ e.
      let hl = ltb-true l links e in
      let y = line hl in
      let there : LineThere (popped w n l) n l = record { node = y.node; link = y.link; fair = y.fair; reaches = y.reaches } in
      rw e (granted_in_order (popped w n l) back (popped_in_order w z n l) n l hn hl apart there))
      (λ e. rw e (popped_in_order w z n l))

  module _ (hl : l < links) where
    -- A HELLO, which is lost where the far end is absent or disabled. Its sender is not greeted there, so it has no credit to lose
    module _ (deaf : far_enabled w.net (w.net.links.cables n l) ≡ false → (w.net.links.flows n l).greeted ≡ 1 → ⊥) where
      no_credit_lem : far_enabled w.net (w.net.links.cables n l) ≡ false → (w.net.links.flows n l).credit ≡ 0
      no_credit_lem off = by_far (far_of (w.net.links.cables n l)) refl
        where
          by_far : (f : Far) → far_of (w.net.links.cables n l) ≡ f → (w.net.links.flows n l).credit ≡ 0
          by_far Nowhere e = (z.alone n l hn hl e).credit
          by_far (At m k) e = ⊎_elim (λ c. c) (λ g. absurd (deaf off g)) (z.joined n l hn hl m k e).earned

      pub hello_lost : far_enabled w.net (w.net.links.cables n l) ≡ false → says_hello w n l ≡ w
      unfolding says_hello
      hello_lost off = rw (off, lost_nothing w n l (no_credit_lem off))

      pub hello_said : LineThere w n l
          → ((m : Slot) (k : ℕ) → far_of (w.net.links.cables n l) ≡ At m k
          → ((load_from w n l).credits ≡ 0) × ((load_from w n l).hellos ≡ 0) × ((load_from w m.0 k).credits ≡ 0))
          → InOrder (says_hello w n l)
      unfolding says_hello
      hello_said line clear =
          by_test (far_enabled w.net (w.net.links.cables n l))
          (λ e. rw e (sent (far_of (w.net.links.cables n l)) refl e))
          (λ e. rw (hello_lost e) z)
        where
          sent : (f : Far) → far_of (w.net.links.cables n l) ≡ f → on_far f false (enabled w.net) ≡ true
              → InOrder (put_on (with_net w (credit_lost w.net n l)) n l hello_word)
          sent Nowhere e h = clash (sym h)
          sent (At m k) e h = hello_in_order w back z n l m k hn hl e (apart m k e) line (clear m k e)

    abbrev v : World
    v = with_net w (with_setup (zeroed w.net n l) n l (enabled_as (w.net.links.setups n l) 0))

    -- A LINK DISABLED, while nothing is on either line: neither end owes anything
    pub disabled_in_order : ((m : Slot) (k : ℕ) → far_of (w.net.links.cables n l) ≡ At m k
        → ((w.net.lines.rings n l).held ≡ 0) × ((w.net.lines.rings m.0 k).held ≡ 0))
        → InOrder (with_net w (disabled w.net n l))
    unfolding disabled
    disabled_in_order none = by_far (far_of (w.net.links.cables n l)) refl
      where
        by_far : (f : Far) → far_of (w.net.links.cables n l) ≡ f → InOrder (with_net w (far_zeroed v.net f))
        by_far Nowhere e =
            let old = z.alone n l hn hl e in
            other_alone back z n l e (λ a j hj o. zeroed_away w n l a j o)
            (rw (zeroed_here w n l) (at_rest (end_at w n l) old.load old.held))
        by_far (At m k) e =
            let both = both_ends w back z n l m k hn hl e (apart m k e) in
            let o = apart m k e in
            let empty = none m k e in
            let away : end_at v m.0 k ≡ end_at w m.0 k = zeroed_away w n l m.0 k o in
            other_cables back z n l m k hn hl e
            (λ a j hj here there. zeroed_away v m.0 k a j there ∙ zeroed_away w n l a j here)
            (clean_cable
            (rw (zeroed_away v m.0 k n l (λ a b. o (sym a) (sym b)), zeroed_here w n l)
            (at_rest (end_at w n l) (ap load_of (line_none w n l empty.0)) (omega (arith, both.back.room))))
            (rw (zeroed_here v m.0 k)
            (subst (λ (x : End). Clean (issued_to (flow_as x silenced) 0)) (sym away)
            (at_rest (end_at w m.0 k) (ap load_of (line_none w m.0 k empty.1)) (omega (arith, both.there.room))))))
