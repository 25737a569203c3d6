-- WHAT COMES OFF A LINE: a token that arrives is an event; a credit and a HELLO are none, nor is the grant that one brings. Assumes nothing.
use Prim.Native.Nat.{ℕ, ◌<◌}
use mathlib.Core.Path.{◌≡◌, refl, sym, ap, ◌∙◌}
use mathlib.Core.Bool.{true, false}
use mathlib.Core.List.{[], ◌∷◌}
use native.Mathlib.Omega.{arith}
use lib.Dec.{eqb}
use Rattle.laws.proofs.Table.{place}
use Rattle.names.specs.Size.{links}
use Rattle.names.specs.declared.Slot.{Slot}
use Rattle.lines.specs.Load.{is_hello, credit_of, is_token, tokens_of}
use Rattle.cells.specs.World.{World, far_of, line_from, At}
use Rattle.acts.specs.Acts.{with_net, pushed}
use Rattle.travel.specs.Travel.{taken_off, first_on, token_in, credit_in, greets, grants_back}
use Rattle.travel.specs.Needs.{LineThere}
use Rattle.travel.proofs.Tokens.{token_is, credit_none, hello_none, off_token, off_none, off_tokens_away}
use Rattle.kept.specs.Kept.{Joined, Kept}
use Rattle.kept.proofs.Grants.{kept_credited, line_there, quiet_grant}
use Rattle.kept.proofs.Arrivals.{filled, keep_token, keep_hello}
use Rattle.streams.specs.Model.{alter, tl, port_no}
use Rattle.streams.specs.Events.{Arrives, effect}
use Rattle.streams.specs.View.{moving, far_end, lines_of}
use Rattle.streams.proofs.View.{net_as, line_put, filled_seen, view_cable, view_line, signals_seen, quiet_seen}
use Rattle.streams.proofs.Acts.{Does}

-- at link j of node m, the first on the line that starts at link l of node n
module _ (w : World) (k : Kept w) (n l : ℕ) (hn : n < w.net.nodes) (hl : l < links) (m : Slot) (j : ℕ)
    (leads : far_of (w.net.links.cables n l) ≡ At m j) (some : 0 < (w.net.lines.rings n l).held) where
  abbrev y : World
  y = taken_off w n l

  abbrev x : ℕ
  x = first_on w n l

  here : LineThere w n l
  here = line_there w (kept_credited w k) n l hn hl

  far : Joined w.net.nodes w.net.links.cables n l m j
  far = k.cabled.agree n l hn hl m j leads

  -- WHAT IS NO TOKEN
  off_seen : is_token x ≡ false → moving y ≡ moving w
  unfolding taken_off
  off_seen none =
      signals_seen w y refl refl refl refl refl
      (λ a i hi. place n l a i (λ ea ei. rw (ea, ei) (sym (off_none w n l here some none))) (off_tokens_away w n l here a i hi))

  pub credit_seen : is_hello x ≡ false → eqb (credit_of x) 0 ≡ false
      → moving (with_net y (credit_in y.net m.0 j (credit_of x))) ≡ moving w
  credit_seen plain credit = off_seen (credit_none x plain credit)

  pub hello_seen : is_hello x ≡ true → moving (grants_back (greets y n l m.0 j) m.0 j) ≡ moving w
  unfolding taken_off
  hello_seen said =
      let z = greets y n l m.0 j in
      quiet_seen (quiet_grant z (kept_credited z (keep_hello w k n l hn hl m j leads some said)) m.0 j far.node far.link)
      ∙ off_seen (hello_none x said)

  -- A TOKEN, off the line's front and behind what the port holds
  module _ (plain : is_hello x ≡ false) (token : eqb (credit_of x) 0 ≡ true) where
    first_on_lem : (moving w).line (port_no n l) ≡ x ∷ tokens_of (line_from y n l)
    first_on_lem = view_line w n l hl ∙ off_token w n l here some (token_is x plain token)

    left_on : lines_of y ≡ alter (moving w).line (port_no n l) (tl ((moving w).line (port_no n l)))
    left_on =
        line_put w y n l (tokens_of (line_from y n l)) hl refl (off_tokens_away w n l here)
        ∙ ap (alter (moving w).line (port_no n l)) (sym (ap tl first_on_lem))

    pub does_arrives : Does (Arrives (port_no n l) (port_no m.0 j) x) w (grants_back (token_in y m.0 j x) m.0 j)
    unfolding effect taken_off pushed
    does_arrives =
        let z = token_in y m.0 j x in
        let hj = far.link in
        let kept = keep_token w k n l hn hl m j leads some plain token in
        record {
          ok = (_, first_on_lem, view_cable w n l hl ∙ ap far_end leads);
          is =
              quiet_seen (quiet_grant z (kept_credited z kept) m.0 j far.node far.link)
              ∙ filled_seen y (pushed y m.0 j x) m.0 j (x ∷ []) (omega arith) (filled w k n l hn hl m j leads some plain token)
              ∙ net_as refl refl refl refl refl left_on;
        }
