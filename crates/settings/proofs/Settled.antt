-- A Set on a state whose Sets can be made (`Settled`): what it asks of lines is there, a HELLO that is heard finds room on its line, and
-- the state that it leaves is settled too. Assumes nothing.
use Prim.{tt}
use Prim.Native.Nat.{ℕ, ◌<◌}
use mathlib.Core.Path.{◌≡◌, refl, sym, ◌∙◌}
use mathlib.Core.Bool.{Bool, true, false, not, ◌||◌}
use native.Mathlib.Omega.{arith}
use lib.Dec.{eqb}
use borrow.Author.Tests.{eqb-true, not-false}
use Rattle.laws.proofs.Order.{by_test, clash}
use Rattle.laws.proofs.Table.{place}
use Rattle.names.specs.Size.{links}
use Rattle.lines.specs.Line.{line_capacity}
use Rattle.lines.specs.Load.{hello_word}
use Rattle.lines.proofs.Ends.{hello_last_lem}
use Rattle.answers.proofs.Refusals.{by_check}
use Rattle.answers.specs.Rows.{checked}
use Rattle.cells.specs.View.{Net, with_setup}
use Rattle.cells.specs.World.{World, far_of, line_from, Far, Nowhere, At}
use Rattle.cells.specs.Changes.{enabled_as}
use Rattle.clauses.specs.Cables.{on_far, enabled, far_enabled}
use Rattle.acts.specs.Acts.{with_net}
use Rattle.travel.specs.Travel.{load_from, put_on, credit_lost, says_hello, zeroed, far_zeroed, disabled}
use Rattle.travel.specs.Needs.{Leads, LineThere, FarLine}
use Rattle.travel.proofs.There.{there_put}
use Rattle.travel.proofs.Loads.{load_held, put_load, put_load_away}
use Rattle.settings.specs.Set.{signalled, hello_busy, set_busy, set_rows, enabled_or, set_made, set_call}
use Rattle.settings.specs.Needs.{Settable, LinkReady, Settled}
use Rattle.settings.specs.declared.Setting.{Setting}
use Rattle.settings.specs.declared.Setting.TheVariants.{Number, Width, Direction, LinkDirection, Network, Enable, Hello}
use Rattle.settings.proofs.Passed.{set_there}
use Rattle.settings.proofs.Leaves.{Leaves, setting_leaves}

-- neither of two tests holds
pub neither : (a b : Bool) → (a || b) ≡ false → (a ≡ false) × (b ≡ false)
neither true b e = clash e
neither false b e = (refl, e)

-- BOTH LINES of a link's cable can be read
far_line : {w : World} → Settled w → (f : Far) → Leads w.net.nodes f → FarLine w f
far_line h Nowhere c = tt
far_line h (At m k) c = (h m.0 k c.0 c.1).line

pub both_lines : (w : World) → Settled w → (n l : ℕ) → n < w.net.nodes → l < links
    → LineThere w n l × FarLine w (far_of (w.net.links.cables n l))
both_lines w h n l hn hl =
    let z = h n l hn hl in (z.line, far_line h (far_of (w.net.links.cables n l)) z.cabled)

-- HELLO'S ROOM: where it is heard no credit and no HELLO is on its line, and at most 64 tokens
clear_here : (w : World) (n l : ℕ) (f : Far) → on_far f false (λ m k. signalled w n l || signalled w m k) ≡ false
    → on_far f false (enabled w.net) ≡ true
    → signalled w n l ≡ false
clear_here w n l Nowhere e heard = clash (sym heard)
clear_here w n l (At m k) e heard = (neither (signalled w n l) (signalled w m.0 k) e).0

none_on_lem : (a b : ℕ) → (not (eqb a 0) || not (eqb b 0)) ≡ false → (a ≡ 0) × (b ≡ 0)
none_on_lem a b e =
    let z = neither (not (eqb a 0)) (not (eqb b 0)) e in
    (eqb-true a 0 (not-false (eqb a 0) z.0), eqb-true b 0 (not-false (eqb b 0) z.1))

pub hello_room : (w : World) (n l : ℕ) → LinkReady w n l → hello_busy w n l ≡ false
    → far_enabled w.net (w.net.links.cables n l) ≡ true
    → (w.net.lines.rings n l).held < line_capacity
hello_room w n l z e heard =
    let far = far_of (w.net.links.cables n l) in
    let free = (neither (not (enabled w.net n l)) (on_far far false (λ m k. signalled w n l || signalled w m k)) e).1 in
    let k = load_from w n l in
    let none = none_on_lem k.credits k.hellos (clear_here w n l far free heard) in
    omega (arith, load_held w n l z.line, none.0, none.1, z.tokens)

-- STILL SETTLED. Where no line is touched
settled_still : {w z : World} → Leaves w z → z.net.lines.rings ≡ w.net.lines.rings → z.line_memory ≡ w.line_memory → Settled w
    → Settled z
settled_still v r m h a j ha hj =
    let y = h a j (rw v.nodes at ha) hj in
    record {
      cabled = rw (v.nodes, v.cables) y.cabled;
      line = record { node = ha; link = hj; fair = rw r y.line.fair; reaches = rw m y.line.reaches };
      tokens = rw (r, m) y.tokens;
    }

far_rings : (s : Net) (f : Far) → (far_zeroed s f).lines.rings ≡ s.lines.rings
far_rings s Nowhere = refl
far_rings s (At m k) = refl

pub enable_rings : (s : Net) (n l v : ℕ) → (enabled_or s n l v).lines.rings ≡ s.lines.rings
unfolding disabled
enable_rings s n l v =
    let z = with_setup (zeroed s n l) n l (enabled_as (s.links.setups n l) 0) in
    by_test (eqb v 0) (λ e. rw e (far_rings z (far_of (s.links.cables n l)))) (λ e. rw e)

-- .. and where a HELLO is put on one
settled_hello : (w : World) (n l : ℕ) → Settled w → n < w.net.nodes → l < links → (w.net.lines.rings n l).held < line_capacity
    → Settled (put_on w n l hello_word)
unfolding put_on
settled_hello w n l h hn hl room a j ha hj =
    let z = h n l hn hl in
    let y = h a j ha hj in
    record {
      cabled = y.cabled;
      line = there_put w n l hello_word z.line room a j y.line;
      tokens = place n l a j
          (λ da dj. rw (da, dj, put_load w n l z.line hello_word room ∙ hello_last_lem hello_word refl (line_from w n l)) z.tokens)
          (λ o. rw (put_load_away w n l z.line hello_word a j hj o) y.tokens);
    }

module _ (w : World) (n : ℕ) (h : Settled w) where
  pub made_settled : (x : Setting) → (n < w.net.nodes) × Settable x × (set_busy w n x ≡ false) → Settled (set_made w n x)
  unfolding says_hello
  made_settled (Number v) p = settled_still (setting_leaves w n (Number v)) refl refl h
  made_settled (Width v) p = settled_still (setting_leaves w n (Width v)) refl refl h
  made_settled (Direction b v) p = settled_still (setting_leaves w n (Direction b v)) refl refl h
  made_settled (LinkDirection l v) p = settled_still (setting_leaves w n (LinkDirection l v)) refl refl h
  made_settled (Network l v) p = settled_still (setting_leaves w n (Network l v)) refl refl h
  made_settled (Enable l v) p = settled_still (setting_leaves w n (Enable l v)) (enable_rings w.net n l v) refl h
  made_settled (Hello l) p =
      let lost : Settled (with_net w (credit_lost w.net n l)) =
      settled_still
      (record { nodes = refl; ports = refl; cables = refl; users = refl; ends = refl; units = refl; memory = refl })
      refl refl h in
      by_test (far_enabled w.net (w.net.links.cables n l))
      (λ e. rw e (settled_hello (with_net w (credit_lost w.net n l)) n l lost p.0 p.1
      (hello_room w n l (h n l p.0 p.1) p.2 e)))
      (λ e. rw e lost)

  pub still_settled : (x : Setting) → Settled (set_call w n x).next
  unfolding set_call
  still_settled x =
      by_check (checked (set_rows w n x))
      (λ e. rw e (made_settled x (set_there w n x e)))
      (λ k e. rw e h)
