-- On a sound state what comes off a line can arrive: a token finds room, a credit is a number of 32 bits with what the link has, and the
-- receiver may grant. Assumes nothing.
use Prim.{tt}
use Prim.Native.Nat.{ℕ, ◌+◌, ◌-◌, ◌<◌, ◌≤◌}
use mathlib.Core.Path.{◌≡◌, refl, sym, ap, ◌∙◌, subst}
use mathlib.Core.Bool.{true, false}
use native.Mathlib.Omega.{arith}
use lib.Dec.{eqb}
use Rattle.laws.proofs.Table.{upd_same}
use Rattle.names.specs.Size.{links, ports}
use Rattle.names.specs.declared.Slot.{Slot}
use Rattle.ports.specs.Queue.{capacity}
use Rattle.lines.specs.Load.{is_hello, credit_of, before}
use Rattle.lines.specs.declared.load.Load.{Load}
use Rattle.cells.specs.World.{World, far_of, Far, Nowhere, At}
use Rattle.acts.specs.Acts.{pushed}
use Rattle.acts.specs.Needs.{Room}
use Rattle.travel.specs.Travel.{load_from, taken_off, first_on, token_in, greets}
use Rattle.travel.specs.Needs.{LineThere, FarLine, Grants, Arrives, StepsTo, LineSteps}
use Rattle.travel.proofs.Loads.{off_load}
use Rattle.travel.proofs.Stepped.{there_off}
use Rattle.sound.specs.Sound.{sound}
use Rattle.sound.proofs.Facts.{fair, reaches, cable_facts, link_facts, line_facts, room_facts}
use Rattle.switch.proofs.Cabled.{line_there}

-- a token that is first on a line is one of its tokens
first_token : (x : ℕ) (k : Load) → is_hello x ≡ false → eqb (credit_of x) 0 ≡ true → (before x k).tokens ≡ k.tokens + 1
unfolding before
first_token x k e g = rw (e, g)

module _ (w : World) (s : sound w ≡ true) (n l : ℕ) (hn : n < w.net.nodes) (hl : l < links) where
  here : LineThere w n l
  here = line_there w s n l hn hl

  module _ (m : Slot) (k : ℕ) (leads : far_of (w.net.links.cables n l) ≡ At m k) (some : 0 < (w.net.lines.rings n l).held) where
    abbrev x : ℕ
    x = first_on w n l

    there : LineThere w m.0 k
    there = let j = cable_facts w s n hn l hl m k leads in line_there w s m.0 k j.node j.link

    -- the receiver may grant in any world of the same lines and cables whose count is one
    may : (z : World) → ((a j : ℕ) → LineThere w a j → LineThere z a j)
        → far_of (z.net.links.cables m.0 k) ≡ At (record { 0 = n }) l
        → z.net.lines.issued m.0 k ≤ capacity
        → Grants z m.0 k
    may z still home low =
        record {
          here = still m.0 k there;
          far = subst (FarLine z) (sym home) (still n l here);
          fits = omega arith;
        }

    token_grants : Grants (token_in (taken_off w n l) m.0 k x) m.0 k
    unfolding taken_off pushed
    token_grants =
        let j = cable_facts w s n hn l hl m k leads in
        may (token_in (taken_off w n l) m.0 k x)
        (λ a i y.
        let t = there_off w n l here some a i y in
        record { node = t.node; link = t.link; fair = t.fair; reaches = t.reaches })
        j.back
        (rw (upd_same w.net.lines.issued m.0 k (w.net.lines.issued m.0 k - 1))
        (omega (arith, (line_facts w s m.0 j.node k j.link).issued)))

    hello_grants : Grants (greets (taken_off w n l) n l m.0 k) m.0 k
    unfolding taken_off
    hello_grants =
        may (greets (taken_off w n l) n l m.0 k)
        (λ a i y.
        let t = there_off w n l here some a i y in
        record { node = t.node; link = t.link; fair = t.fair; reaches = t.reaches })
        (cable_facts w s n hn l hl m k leads).back
        (rw (upd_same w.net.lines.issued m.0 k 0) (omega arith))

    token_room : is_hello x ≡ false → eqb (credit_of x) 0 ≡ true → Room (taken_off w n l) m.0 k 1
    unfolding taken_off
    token_room plain token =
        let j = cable_facts w s n hn l hl m k leads in
        let first : (load_from w n l).tokens ≡ (load_from (taken_off w n l) n l).tokens + 1 =
        ap (λ (q : Load). q.tokens) (off_load w n l here some) ∙ first_token x (load_from (taken_off w n l) n l) plain token in
        let port : k < ports = omega (arith, j.link) in
        record {
          node = j.node;
          port = port;
          fair = fair w s m.0 j.node k port;
          room = omega (arith, room_facts w s n hn l hl m k leads, first);
          reaches = reaches w s m.0 j.node k port;
        }

    arrives : Arrives (taken_off w n l) n l m.0 k x
    unfolding taken_off
    arrives =
        let j = cable_facts w s n hn l hl m k leads in
        record {
          token = λ plain token. (token_room plain token, token_grants);
          credit = λ plain. omega (arith, (link_facts w s m.0 j.node k j.link).credit);
          hello = λ said. hello_grants;
          node = (hn, j.node);
          link = (hl, j.link);
        }

  pub line_possible : LineSteps w n l
  line_possible = by_far (far_of (w.net.links.cables n l)) refl
    where
      by_far : (f : Far) → far_of (w.net.links.cables n l) ≡ f → StepsTo w n l f
      by_far Nowhere e = tt
      by_far (At m k) e = λ some. (here, arrives m k e some)
