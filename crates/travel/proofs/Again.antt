-- After a grant every table but those of lines is as it was, and the count takes the next grant. Assumes nothing.
use Prim.Native.Nat.{ℕ, ◌+◌, ◌^◌, ◌<◌}
use mathlib.Core.Path.{◌≡◌, refl, sym, ap, ◌∙◌, subst}
use native.Mathlib.Omega.{arith}
use lib.Dec.{eqb}
use borrow.Author.Tests.{eqb-false}
use Rattle.laws.specs.Table.{Off}
use Rattle.laws.proofs.Order.{by_test}
use Rattle.laws.proofs.Table.{upd_same}
use Rattle.names.specs.Size.{links}
use Rattle.lines.specs.Load.{credit_word, credit_before}
use Rattle.lines.specs.declared.load.Load.{Load}
use Rattle.lines.proofs.Ends.{credit_last}
use Rattle.credits.proofs.Grants.{most}
use Rattle.cells.specs.View.{Net, LinkTables, with_lines}
use Rattle.cells.specs.World.{World, far_of, line_from, Far, Nowhere, At}
use Rattle.acts.specs.Acts.{with_net}
use Rattle.travel.specs.Travel.{load_from, put_on, grant_due, issued_more, issues, grants_back}
use Rattle.travel.specs.Needs.{LineThere, FarLine, Grants}
use Rattle.travel.proofs.There.{there_net}
use Rattle.travel.proofs.Due.{due_count, due_low, due_room, word_is}
use Rattle.travel.proofs.Loads.{put_load, put_load_away}
use Rattle.travel.proofs.Granted.{due_granted, signals}

module _ (w : World) (m k : ℕ) where
  abbrev after : World
  after = grants_back w m k

  -- nothing is granted, or what is due is issued
  pub by_due : (P : World → Type 0) → P w → ((grant_due w m k ≡ 0 → ⊥) → P (issues w m k (grant_due w m k))) → P (grants_back w m k)
  unfolding grants_back
  by_due P a b =
      by_test (eqb (grant_due w m k) 0) (λ e. rw e a) (λ e. rw e (b (eqb-false (grant_due w m k) 0 e)))

  -- ALL BUT LINES is as it was
  pub back_net : after.net ≡ with_lines w.net after.net.lines
  unfolding put_on
  back_net = by_due (λ y. y.net ≡ with_lines w.net y.net.lines) refl (λ some. refl)

  pub back_memory : after.memory ≡ w.memory
  unfolding put_on
  back_memory = by_due (λ y. y.memory ≡ w.memory) refl (λ some. refl)

  pub back_nodes : after.net.nodes ≡ w.net.nodes
  back_nodes = ap (λ (s : Net). s.nodes) back_net

  pub back_links : after.net.links ≡ w.net.links
  back_links = ap (λ (s : Net). s.links) back_net

  pub back_ports : after.net.ports ≡ w.net.ports
  back_ports = ap (λ (s : Net). s.ports) back_net

  pub back_ends : after.net.ends ≡ w.net.ends
  back_ends = ap (λ (s : Net). s.ends) back_net

  -- a count that took one grant takes another: it was below 8
  back_fits : w.net.lines.issued m k + 64 < 2 ^ 32 → after.net.lines.issued m k + 64 < 2 ^ 32
  unfolding put_on
  back_fits h =
      by_due (λ y. y.net.lines.issued m k + 64 < 2 ^ 32) h
      (λ some. rw (upd_same w.net.lines.issued m k (w.net.lines.issued m k + grant_due w m k))
      (omega (arith, due_low w m k some, due_count w m k some, most (w.net.lines.issued m k) (w.net.ports.counters m k).held)))

  pub grants_again : Grants w m k → Grants after m k
  grants_again z =
      let still = (signals w m k z.here).there in
      record {
        here = still m k z.here;
        far = subst (λ (t : LinkTables). FarLine after (far_of (t.cables m k))) (sym back_links)
            (far_there still (far_of (w.net.links.cables m k)) z.far);
        fits = back_fits z.fits;
      }
    where
      far_there : ((a j : ℕ) → LineThere w a j → LineThere after a j) → (f : Far) → FarLine w f → FarLine after f
      far_there still Nowhere h = tt
      far_there still (At n l) h = still n.0 l h

  -- HOW MUCH IS ON LINES: on the one back a credit more, on others what was
  module _ (z : LineThere w m k) where
    abbrev counted : World
    counted = with_net w (issued_more w.net m k (grant_due w m k))

    issued_load : (grant_due w m k ≡ 0 → ⊥) → load_from (issues w m k (grant_due w m k)) m k ≡ credit_before (grant_due w m k) (load_from w m k)
    issued_load some =
        let g = grant_due w m k in
        let c = word_is (due_granted w m k) some in
        put_load counted m k (there_net refl refl z) (credit_word g) (due_room w m k g refl some)
        ∙ credit_last (credit_word g) c.0 c.1 (line_from w m k)
        ∙ ap (λ (v : ℕ). credit_before v (load_from w m k)) c.2

    pub back_load : (P : Load → Type 0) → P (load_from w m k)
        → ((grant_due w m k ≡ 0 → ⊥) → P (credit_before (grant_due w m k) (load_from w m k)))
        → P (load_from after m k)
    back_load P a b = by_due (λ y. P (load_from y m k)) a (λ some. rw (issued_load some) (b some))

    pub back_load_away : (a j : ℕ) → j < links → Off m k a j → load_from after a j ≡ load_from w a j
    back_load_away a j hj o =
        by_due (λ y. load_from y a j ≡ load_from w a j) refl
        (λ some. put_load_away counted m k (there_net refl refl z) (credit_word (grant_due w m k)) a j hj o)
