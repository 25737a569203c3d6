-- A token that a control unit hears keeps all that is kept: it is kept behind those heard, or it ends the message, which is obeyed once the
-- unit is free. Assumes nothing.
use Prim.Native.Nat.{ℕ, ◌<◌}
use mathlib.Core.Path.{◌≡◌, refl, sym, ap, ◌∙◌, subst}
use mathlib.Core.Bool.{Bool, true, false}
use mathlib.Core.Logic.{◌⊎◌, inl, inr, ⊎_elim}
use native.Mathlib.Omega.{arith}
use lib.Dec.{eqb, ltb}
use borrow.Author.Tests.{ltb-true, lt-ltb}
use Rattle.laws.specs.Pick.{pick}
use Rattle.laws.specs.Table.{upd}
use Rattle.laws.proofs.Table.{upd_same, upd_all}
use Rattle.laws.proofs.Order.{by_test, clash, never}
use Rattle.names.specs.Size.{ports, reply_port, unit_buffer}
use Rattle.circuits.specs.Circuit.{of_peer}
use Rattle.circuits.specs.declared.Circuit.{Circuit}
use Rattle.circuits.specs.declared.Hop.{Hop}
use Rattle.circuits.specs.declared.Hop.TheVariants.{Shut, Unit}
use Rattle.circuits.specs.declared.Peer.TheVariants.{Nobody}
use Rattle.tokens.specs.Control.{end, pause}
use Rattle.tokens.specs.Word.{control_word, closes}
use Rattle.cells.specs.View.{Net, UnitTables, with_units}
use Rattle.cells.specs.World.{World, shaped, hop}
use Rattle.cells.specs.declared.unit.Hearing.{Hearing}
use Rattle.clauses.specs.Contents.{legal_word}
use Rattle.clauses.specs.Pairs.{link_of, tile_of, unit_of, claim_of, Named, Nothing, One}
use Rattle.acts.specs.Acts.{with_net, first_at, leg_of}
use Rattle.acts.specs.Needs.{Holds}
use Rattle.messages.specs.Heard.{hears_word, listens}
use Rattle.moves.specs.Moves.{took, closes_unit}
use Rattle.switch.specs.Step.{hears}
use Rattle.kept.specs.Kept.{All, PortOk, HearingOk, Silent, Pair, leg_unit, port_in, Kept}
use Rattle.kept.proofs.Tables.{all_upd, all_at, pair_first, pair_leave}
use Rattle.kept.proofs.Stages.{carries_away}
use Rattle.kept.proofs.Words.{words_more}
use Rattle.kept.proofs.Walks.{past_small}
use Rattle.kept.proofs.Leaves.{token_taken, taken_is, shut_if_lem, left, Left, pair_left, leaves}
use Rattle.kept.proofs.Messages.{Ready, keep_ended}

-- a token that ends no message may be kept
plain_legal : (x : ℕ) → x < 0x1C2 → closes x ≡ false → legal_word false x ≡ true
unfolding closes
plain_legal x small more =
    by_test (eqb x (control_word end))
    (λ e. clash (rw e at more))
    (λ e. by_test (eqb x (control_word pause)) (λ f. clash (rw (e, f) at more)) (λ f. rw (lt-ltb x 0x1C2 small, e, f)))

-- what is kept behind the words heard: each is one of them, the new one, or 0
heard_more : (c : Circuit) (h : Hearing) (x : ℕ) → HearingOk c h → legal_word false x ≡ true → HearingOk c (hears_word h x)
heard_more c h x ok legal =
    ⊎_elim inl
    (λ old. inr (by_test (ltb h.heard unit_buffer)
    (λ e. rw e (
      omega (arith, ltb-true h.heard unit_buffer e),
      words_more (λ y. legal_word false y ≡ true) h.tokens h.heard x legal refl old.1,
    ))
    (λ e. rw e old)))
    ok

module _ (w : World) (k : Kept w) (n p : ℕ) (r : Holds w n p 1) (e : hop w.net n p ≡ Unit) where
  abbrev closing : Bool
  closing = closes (first_at w n p)

  lf : Left w n p
  lf = leaves w k n p r (λ shut. never (let z : Shut ≡ Unit = sym shut ∙ e in cc))

  named : (f : Hop → Named) (x : Named) → f Unit ≡ x → f (hop w.net n p) ≡ x
  named f x h = ap f e ∙ h

  -- while it serves, port 12 is empty
  serves : (w.net.units.serving n 0).kind ≡ 0 → ⊥
  serves none =
      let back = (k.port_unit.out n p r.node r.port 0 (named unit_of (One 0) refl)).1 in
      never (let z : Nothing ≡ One p = sym (unserved (w.net.units.serving n 0) none) ∙ back in cc)
    where
      unserved : (c : Circuit) → c.kind ≡ 0 → port_in c ≡ Nothing
      unserved c q = rw q

  -- whatever becomes of the unit
  keep_unit : (serving : ℕ → ℕ → Circuit) (hearings : ℕ → ℕ → Hearing)
      → All w.net.nodes 1 (λ m i. PortOk (serving m i))
      → All w.net.nodes 1 (λ m i. HearingOk (serving m i) (hearings m i))
      → Pair w.net.nodes ports 1 leg_unit port_in (left w n p).net.ports.legs serving
      → Silent w.net.nodes serving (left w n p).net.ports.counters
      → Kept (with_net (took w n p) (with_units (left w n p).net (record { serving = serving; hearings = hearings })))
  unfolding shaped
  keep_unit serving hearings hs hh pair silent =
      record {
        shape = lf.shape;
        nodes = k.nodes;
        cabled = k.cabled;
        setups = k.setups;
        users = k.users;
        greeted = k.greeted;
        accounts = lf.accounts;
        counters = lf.counters;
        legs = lf.legs;
        networks = lf.networks;
        senders = k.senders;
        tiles = k.tiles;
        aims = k.aims;
        sendings = k.sendings;
        claims = k.claims;
        buffers = k.buffers;
        serving = hs;
        hearings = hh;
        port_link = pair_left w n p k.port_link refl (named link_of Nothing refl);
        port_tile = pair_left w n p k.port_tile refl (named tile_of Nothing refl);
        port_unit = pair;
        port_claim = pair_left w n p k.port_claim refl (named claim_of Nothing refl);
        end_claim = k.end_claim;
        end_port = k.end_port;
        aimed = k.aimed;
        goes = k.goes;
        lines = lf.lines;
        between = lf.between;
        silent = silent;
        backs = lf.backs;
        idle = k.idle;
        carries = carries_away n p k.port_link (named link_of Nothing refl) lf.off lf.reached k.cabled k.carries;
      }

  -- heard, and the message goes on
  keep_listens : closing ≡ false → Kept (with_net (took w n p) (listens (took w n p).net n (first_at w n p)))
  keep_listens more =
      let t = w.net.units in
      let x = first_at w n p in
      let small = past_small x (rw e at lf.good) in
      let h = hears_word (t.hearings n 0) x in
      let is-left : (took w n p).net ≡ (left w n p).net = taken_is w n p ∙ rw more (shut_if_lem false (token_taken w n p) n p) in
      subst (λ (s : Net). Kept (with_net (took w n p) (listens s n x))) (sym is-left)
      (keep_unit t.serving (upd t.hearings n 0 h) k.serving
      (all_at t.hearings n 0 h (λ m i y. HearingOk (t.serving m i) y) k.hearings
      (heard_more (t.serving n 0) (t.hearings n 0) x (k.hearings n 0 r.node (omega arith)) (plain_legal x small more)))
      (pair_first k.port_unit n p _ (rw more))
      lf.silent)

  -- heard, and the message is at its end: the unit is free
  pub keep_freed : closing ≡ true → Kept (with_net (took w n p) (closes_unit (took w n p).net n p))
  keep_freed shuts =
      let t = w.net.units in
      let nobody = of_peer Nobody in
      let free : pick closing nobody (t.serving n 0) ≡ nobody = rw shuts in
      let after : UnitTables = record { serving = upd t.serving n 0 nobody; hearings = t.hearings } in
      let is-left : closes_unit (took w n p).net n p ≡ with_units (left w n p).net after =
      ap (λ (s : Net). closes_unit s n p) (taken_is w n p) ∙ rw shuts in
      subst (λ (s : Net). Kept (with_net (took w n p) s)) (sym is-left)
      (keep_unit (upd t.serving n 0 nobody) t.hearings
      (all_upd t.serving n 0 nobody (λ (y : Circuit). PortOk y) k.serving (omega arith))
      (all_at t.serving n 0 nobody (λ m i y. HearingOk y (t.hearings m i)) k.hearings (inl refl))
      (subst (λ (c : Circuit). Pair w.net.nodes ports 1 leg_unit port_in (left w n p).net.ports.legs (upd t.serving n 0 c)) free
      (pair_leave k.port_unit closing n p 0 (leg_of Shut) nobody r.node r.port (named unit_of (One 0) refl) refl refl))
      (λ m hm. upd_all (λ a i y. (((t.serving a i).kind ≡ 0) ⊎ (((left w n p).net.ports.counters m reply_port).held ≡ 0))
      → (y.kind ≡ 0) ⊎ (((left w n p).net.ports.counters m reply_port).held ≡ 0)) t.serving n 0 nobody m 0
      (λ a b old. inl refl)
      (λ o old. old)
      (lf.silent m hm)))

  pub ready_after : closing ≡ true → Ready (with_net (took w n p) (closes_unit (took w n p).net n p)) n
  ready_after shuts =
      let s = (took w n p).net in
      record {
        node = rw (ap (λ (y : Net). y.nodes) (taken_is w n p)) r.node;
        free = ap (λ (c : Circuit). c.kind) (upd_same s.units.serving n 0 (of_peer Nobody));
        empty = ap (λ (y : Net). (y.ports.counters n reply_port).held) (taken_is w n p)
            ∙ ⊎_elim (λ none. absurd (serves none)) (λ h. h) (lf.silent n r.node);
      }

  pub keep_hears : Kept (hears w n p).next
  keep_hears =
      by_test closing
      (λ shuts.
      let y = with_net (took w n p) (closes_unit (took w n p).net n p) in
      rw shuts (keep_ended y (keep_freed shuts) n (ready_after shuts) (first_at w n p)))
      (λ more. rw more (keep_listens more))
