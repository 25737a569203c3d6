-- Each act of a cable, on a state whose accounts are in order, leaves them in order: a token sent for a credit, what arrives, a grant, a
-- HELLO sent. Assumes nothing.
use Prim.Native.Nat.{ℕ, ◌+◌, ◌-◌, ◌<◌, ◌≤◌}
use mathlib.Core.Path.{◌≡◌, refl, sym, ap, ◌∙◌, subst}
use mathlib.Core.Bool.{true, false}
use native.Mathlib.Omega.{arith}
use lib.Dec.{eqb}
use borrow.Author.Tests.{eqb-false}
use Rattle.laws.specs.Table.{Off}
use Rattle.laws.proofs.Order.{by_test}
use Rattle.names.specs.Size.{links}
use Rattle.names.specs.declared.Slot.{Slot}
use Rattle.ports.specs.Queue.{capacity}
use Rattle.lines.specs.Line.{line_capacity}
use Rattle.lines.specs.Load.{hello_word, credit_word, is_hello, credit_of, credit_before, before}
use Rattle.lines.specs.declared.load.Load.{Load}
use Rattle.lines.proofs.Ends.{token_last, credit_last, hello_last_lem, load_worth}
use Rattle.cells.specs.Changes.{credit_as, greeted_as}
use Rattle.cells.specs.World.{World, far_of, line_from, At}
use Rattle.acts.specs.Acts.{with_net, pushed}
use Rattle.cells.specs.View.{with_flow}
use Rattle.credits.specs.Grant.{Granted}
use Rattle.credits.proofs.Grants.{granted, grant_within}
use Rattle.travel.specs.Travel.{load_from, put_on, taken_off, first_on, paid_one, sends_on, credit_lost, token_in, credit_in, greets}
use Rattle.travel.specs.Travel.{grant_due, issued_more, issues, grants_back}
use Rattle.travel.specs.Needs.{LineThere}
use Rattle.travel.specs.Accounts.{End, Cable, end_at, InOrder}
use Rattle.travel.proofs.Accounts.{line_as, issued_to, held_to, keep_sent, room_sent, keep_token, keep_credit, keep_hello}
use Rattle.travel.proofs.Accounts.{keep_grant, keep_hello_sent, room_hello}
use Rattle.travel.proofs.Cables.{Backs, other_cables}
use Rattle.travel.proofs.Changed.{flow_as, flow_here, flow_away, issued_here, issued_away, pushed_here, pushed_away}
use Rattle.travel.proofs.Changed.{put_here, put_away, off_here, off_away}
use Rattle.travel.proofs.Loads.{load_held, put_load, off_load}
use Rattle.travel.proofs.There.{there_net}
use Rattle.travel.proofs.Due.{due_room, due_count, due_low, due_may, word_is}

-- a cable from link l of node n to link k of node m
module _ (w : World) (back : Backs w.net.nodes w.net.links.cables) (z : InOrder w) (n l : ℕ) (m : Slot) (k : ℕ)
    (hn : n < w.net.nodes) (hl : l < links) (leads : far_of (w.net.links.cables n l) ≡ At m k) (apart : Off n l m.0 k) where
  home : (m.0 < w.net.nodes) × (k < links) × (far_of (w.net.links.cables m.0 k) ≡ At (record { 0 = n }) l)
  home = back n l hn hl m k leads

  pub both_ends : Cable (end_at w n l) (end_at w m.0 k)
  both_ends =
      record {
        there = z.joined n l hn hl m k leads;
        back = z.joined m.0 k home.0 home.1 (record { 0 = n }) l home.2;
      }

  away : Off m.0 k n l
  away a b = apart (sym a) (sym b)

  -- a state of the same cables, of which these two ends alone are others
  again : (y : World) (a b : End) → y.net.nodes ≡ w.net.nodes → y.net.links.cables ≡ w.net.links.cables
      → ((c j : ℕ) → j < links → Off n l c j → Off m.0 k c j → end_at y c j ≡ end_at w c j)
      → end_at y n l ≡ a
      → end_at y m.0 k ≡ b
      → Cable a b
      → InOrder y
  again y a b en ec same here there now =
      rw (en, ec) (other_cables back z n l m k hn hl leads same (rw (here, there) now))

  -- A TOKEN SENT
  module _ (line : LineThere w n l) (has : 0 < (w.net.links.flows n l).credit) (x : ℕ) (plain : is_hello x ≡ false)
      (token : eqb (credit_of x) 0 ≡ true) where
    pub sends_room : (w.net.lines.rings n l).held < line_capacity
    sends_room = omega (arith, load_held w n l line, room_sent both_ends has)

    pub sends_in_order : InOrder (sends_on w n l x)
    unfolding put_on
    sends_in_order =
        let f = credit_as (w.net.links.flows n l) ((w.net.links.flows n l).credit - 1) in
        let y = with_net w (paid_one w.net n l) in
        let there : LineThere y n l = there_net refl refl line in
        again (sends_on w n l x) _ _ refl refl
        (λ c j hj here far. put_away y n l there x c j hj here ∙ flow_away w n l f c j here)
        (put_here y n l x
        ∙ ap (λ (e : End). line_as e (load_from (put_on y n l x) n l)) (flow_here w n l f)
        ∙ ap (line_as (flow_as (end_at w n l) f)) (put_load y n l there x sends_room ∙ token_last x plain token (line_from w n l)))
        (put_away y n l there x m.0 k home.1 apart ∙ flow_away w n l f m.0 k apart)
        (keep_sent both_ends has)

  -- A HELLO SENT to an end that is enabled, while no credit is on either line and no HELLO on its own
  module _ (line : LineThere w n l)
      (clear : ((load_from w n l).credits ≡ 0) × ((load_from w n l).hellos ≡ 0) × ((load_from w m.0 k).credits ≡ 0)) where
    pub hello_room : (w.net.lines.rings n l).held < line_capacity
    hello_room = omega (arith, load_held w n l line, room_hello both_ends clear)

    pub hello_in_order : InOrder (put_on (with_net w (credit_lost w.net n l)) n l hello_word)
    unfolding put_on
    hello_in_order =
        let f = credit_as (w.net.links.flows n l) 0 in
        let y = with_net w (credit_lost w.net n l) in
        let there : LineThere y n l = there_net refl refl line in
        again (put_on y n l hello_word) _ _ refl refl
        (λ c j hj here far. put_away y n l there hello_word c j hj here ∙ flow_away w n l f c j here)
        (put_here y n l hello_word
        ∙ ap (λ (e : End). line_as e (load_from (put_on y n l hello_word) n l)) (flow_here w n l f)
        ∙ ap (line_as (flow_as (end_at w n l) f)) (put_load y n l there hello_word hello_room ∙ hello_last_lem hello_word refl (line_from w n l)))
        (put_away y n l there hello_word m.0 k home.1 apart ∙ flow_away w n l f m.0 k apart)
        (keep_hello_sent both_ends clear)

  -- WHAT ARRIVES, the first off the line
  module _ (line : LineThere w n l) (some : 0 < (w.net.lines.rings n l).held) where
    abbrev left : Load
    left = load_from (taken_off w n l) n l

    abbrev first : ℕ
    first = first_on w n l

    -- the cable as it was, with what was first on the line told apart
    led : (k' : Load) → before first left ≡ k' → Cable (line_as (end_at w n l) k') (end_at w m.0 k)
    led k' e =
        subst (λ (a : End). Cable a (end_at w m.0 k))
        (ap (line_as (end_at w n l)) (off_load w n l line some ∙ e))
        both_ends

    off_far : end_at (taken_off w n l) m.0 k ≡ end_at w m.0 k
    off_far = off_away w n l line m.0 k home.1 apart

    -- a token
    pub token_in_order : is_hello first ≡ false → eqb (credit_of first) 0 ≡ true → InOrder (token_in (taken_off w n l) m.0 k first)
    unfolding before taken_off pushed
    token_in_order plain token =
        let y = taken_off w n l in
        let u = pushed y m.0 k first in
        let i = w.net.lines.issued m.0 k - 1 in
        again (token_in y m.0 k first) _ _ refl refl
        (λ c j hj here far.
        issued_away u m.0 k i c j far ∙ pushed_away y m.0 k first c j far ∙ off_away w n l line c j hj here)
        (issued_away u m.0 k i n l away ∙ pushed_away y m.0 k first n l away ∙ off_here w n l)
        (issued_here u m.0 k i
        ∙ ap (λ (e : End). issued_to e i) (pushed_here y m.0 k first)
        ∙ ap (λ (e : End). issued_to (held_to e ((w.net.ports.counters m.0 k).held + 1)) i) off_far)
        (keep_token (end_at w n l) left (led _ (rw (plain, token))))

    -- a credit
    pub credit_in_order : is_hello first ≡ false → eqb (credit_of first) 0 ≡ false
        → InOrder (with_net (taken_off w n l) (credit_in (taken_off w n l).net m.0 k (credit_of first)))
    unfolding before taken_off
    credit_in_order plain credit =
        let y = taken_off w n l in
        let g = credit_of first in
        let f = credit_as (w.net.links.flows m.0 k) ((w.net.links.flows m.0 k).credit + g) in
        again (with_net y (credit_in y.net m.0 k g)) _ _ refl refl
        (λ c j hj here far. flow_away y m.0 k f c j far ∙ off_away w n l line c j hj here)
        (flow_away y m.0 k f n l away ∙ off_here w n l)
        (flow_here y m.0 k f ∙ ap (λ (e : End). flow_as e f) off_far)
        (keep_credit (end_at w n l) left g (led _ (rw (plain, credit))) (load_worth (line_from y n l)))

    -- a HELLO
    pub hello_arrives_in_order : is_hello first ≡ true → InOrder (greets (taken_off w n l) n l m.0 k)
    unfolding before taken_off
    hello_arrives_in_order said =
        let y = taken_off w n l in
        let f = greeted_as (w.net.links.flows n l) 1 in
        let u = with_net y (with_flow y.net n l f) in
        again (greets y n l m.0 k) _ _ refl refl
        (λ c j hj here far. issued_away u m.0 k 0 c j far ∙ flow_away y n l f c j here ∙ off_away w n l line c j hj here)
        (issued_away u m.0 k 0 n l away ∙ flow_here y n l f ∙ ap (λ (e : End). flow_as e f) (off_here w n l))
        (issued_here u m.0 k 0 ∙ ap (λ (e : End). issued_to e 0) (flow_away y n l f m.0 k apart ∙ off_far))
        (keep_hello (end_at w n l) left (led _ (rw said)))

  -- A GRANT, if one is due, at link k of node m
  -- what there is to a grant that is made
  record Made (g : ℕ) : Type 0 where
    greeted : (w.net.links.flows n l).greeted ≡ 1
    none : (load_from w n l).hellos ≡ 0
    room : (w.net.lines.rings m.0 k).held < line_capacity
    low : w.net.lines.issued m.0 k < 8
    size : Granted g
    fits : (w.net.ports.counters m.0 k).held + w.net.lines.issued m.0 k + g ≤ capacity

  made : (grant_due w m.0 k ≡ 0 → ⊥) → Made (grant_due w m.0 k)
  made some =
      let i = w.net.lines.issued m.0 k in
      let h = (w.net.ports.counters m.0 k).held in
      let s = both_ends.there in
      let may = due_may w m.0 k (record { 0 = n }) l home.2 some in
      let held : i + h ≤ capacity = omega (arith, s.count may.1, s.room) in
      let is = due_count w m.0 k some in
      record {
        greeted = may.0;
        none = may.1;
        room = due_room w m.0 k _ refl some;
        low = due_low w m.0 k some;
        size = rw is (granted i h);
        fits = omega (arith, is, grant_within i h held);
      }

  pub grant_in_order : LineThere w m.0 k → InOrder (grants_back w m.0 k)
  unfolding grants_back put_on
  grant_in_order line =
      let g = grant_due w m.0 k in
      by_test (eqb g 0) (λ e. rw e z) (λ e. rw e (goes (made (eqb-false g 0 e)) (eqb-false g 0 e)))
    where
      goes : Made (grant_due w m.0 k) → (grant_due w m.0 k ≡ 0 → ⊥) → InOrder (issues w m.0 k (grant_due w m.0 k))
      goes d some =
          let g = grant_due w m.0 k in
          let i = w.net.lines.issued m.0 k + g in
          let x = credit_word g in
          let y = with_net w (issued_more w.net m.0 k g) in
          let there : LineThere y m.0 k = there_net refl refl line in
          let c = word_is d.size some in
          again (issues w m.0 k g) _ _ refl refl
          (λ b j hj here far. put_away y m.0 k there x b j hj far ∙ issued_away w m.0 k i b j far)
          (put_away y m.0 k there x n l hl away ∙ issued_away w m.0 k i n l away)
          (put_here y m.0 k x
          ∙ ap (λ (e : End). line_as e (load_from (put_on y m.0 k x) m.0 k)) (issued_here w m.0 k i)
          ∙ ap (line_as (issued_to (end_at w m.0 k) i))
          (put_load y m.0 k there x d.room
          ∙ credit_last x c.0 c.1 (line_from w m.0 k)
          ∙ ap (λ (v : ℕ). credit_before v (load_from w m.0 k)) c.2))
          (keep_grant g both_ends d.greeted d.none d.low c.3 d.fits)
