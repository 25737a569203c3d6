-- A token leaves a port, whatever becomes of it: the port's counters and the lines are as taking leaves them, END and PAUSE close its
-- circuit, and what hangs on that is kept. Assumes nothing.
use Prim.Native.Nat.{ℕ, ◌<◌, ◌≤◌}
use mathlib.Core.Path.{◌≡◌, refl, sym, ap, ◌∙◌, subst}
use mathlib.Core.Bool.{Bool, true, false}
use mathlib.Core.List.{List, ◌∷◌}
use mathlib.Core.Logic.{inl, inr, ⊎_elim}
use native.Mathlib.Omega.{arith}
use lib.Dec.{eqb}
use Rattle.laws.specs.Pick.{pick}
use Rattle.laws.specs.Table.{Off}
use Rattle.laws.proofs.Table.{upd_same, upd_miss, upd_all, upd_own, place}
use Rattle.names.specs.Size.{links, ports, reply_port, networks}
use Rattle.circuits.specs.Circuit.{hop_of}
use Rattle.circuits.specs.declared.Hop.{Hop}
use Rattle.circuits.specs.declared.Hop.TheVariants.{Shut}
use Rattle.tokens.specs.Word.{closes}
use Rattle.tokens.specs.Shape.{shape_of}
use Rattle.ports.specs.Queue.{Fair, take_counters}
use Rattle.ports.specs.declared.Counters.{Counters}
use Rattle.grammar.specs.Stage.{is_bad, next_stage}
use Rattle.grammar.specs.Walk.{front_of, back_of}
use Rattle.grammar.specs.declared.stage.Stage.{Stage}
use Rattle.lines.specs.Line.{LineFair}
use Rattle.cells.specs.View.{Net, with_counters, with_leg, with_network, with_lines}
use Rattle.cells.specs.World.{World, shaped, hop, queue}
use Rattle.cells.specs.declared.port.Leg.{Leg}
use Rattle.clauses.specs.Pairs.{Named, Nothing}
use Rattle.acts.specs.Acts.{with_net, first_at, leg_of, network_left, shut}
use Rattle.acts.specs.Needs.{Holds}
use Rattle.moves.specs.Moves.{took}
use Rattle.line_clauses.specs.Lines.{coming}
use Rattle.travel.specs.Accounts.{InOrder}
use Rattle.kept.specs.Kept.{All, Between, LegOk, NetworkOk, Silent, Pair, Ends, front_at, back_at, reached_at, Kept}
use Rattle.kept.proofs.Tables.{all_upd, keeps_none, pair_first}
use Rattle.kept.proofs.Comings.{coming_same, reached_as, good_back}
use Rattle.kept.proofs.Grants.{Credited, kept_credited, taken_net}
use Rattle.kept.proofs.Queues.{shape_as}
use Rattle.kept.proofs.Empties.{emptied_one}
use Rattle.kept.proofs.Stages.{read_here, read_off, same_ends}
use Rattle.kept.proofs.Walks.{taken}

-- the state once the oldest token of port p is taken, and a grant considered for it
abbrev pub token_taken : World → ℕ → ℕ → Net
token_taken w n p =
    with_lines (with_counters w.net n p (take_counters (w.net.ports.counters n p))) (took w n p).net.lines

pub taken_is : (w : World) (n p : ℕ) → (took w n p).net ≡ token_taken w n p
taken_is = taken_net

-- "END and PAUSE close the hop": port p without its circuit if b holds, else as it was
abbrev pub shut_if : Bool → Net → ℕ → ℕ → Net
shut_if b s n p =
    with_network (with_leg s n p (pick b (leg_of Shut) (s.ports.legs n p))) n p (pick b (network_left s n p) (s.ports.networks n p))

pub shut_if_lem : (b : Bool) (s : Net) (n p : ℕ) → pick b (shut s n p) s ≡ shut_if b s n p
shut_if_lem true s n p = refl
shut_if_lem false s n p = rw (upd_own s.ports.legs n p, upd_own s.ports.networks n p)

-- THE WORLD THAT A TOKEN LEAVES
abbrev pub left : World → ℕ → ℕ → World
left w n p = with_net (took w n p) (shut_if (closes (first_at w n p)) (token_taken w n p) n p)

pub left_is : (w : World) (n p : ℕ)
    → with_net (took w n p) (pick (closes (first_at w n p)) (shut (took w n p).net n p) (took w n p).net) ≡ left w n p
left_is w n p =
    ap (λ (s : Net). with_net (took w n p) s)
    (shut_if_lem (closes (first_at w n p)) (took w n p).net n p
    ∙ ap (λ (s : Net). shut_if (closes (first_at w n p)) s n p) (taken_is w n p))

pub record Left (w : World) (n p : ℕ) : Type 0 where
  pub shape : shaped (left w n p) ≡ true
  pub accounts : InOrder (left w n p)
  pub lines : All w.net.nodes links (λ m j. LineFair ((left w n p).net.lines.rings m j))
  pub between : Between w.net.nodes w.net.links.cables w.net.links.setups (left w n p).net.lines.rings
  pub counters : All w.net.nodes ports (λ m j. Fair ((left w n p).net.ports.counters m j))
  pub silent : Silent w.net.nodes w.net.units.serving (left w n p).net.ports.counters
  pub legs : All w.net.nodes ports (λ m j. LegOk ((left w n p).net.ports.legs m j))
  pub networks : All w.net.nodes ports
      (λ m j. let s = (left w n p).net.ports in NetworkOk j (s.legs m j) (s.counters m j) (s.networks m j))
  -- the stage goes on by the token, and ports end where they did
  pub good : is_bad (next_stage (front_at w n p) (shape_of (first_at w n p))) ≡ false
  pub front : front_at (left w n p) n p ≡ next_stage (front_at w n p) (shape_of (first_at w n p))
  pub off : All w.net.nodes ports (λ m j. Off n p m j → front_at (left w n p) m j ≡ front_at w m j)
  pub back : All w.net.nodes ports (λ m j. back_at (left w n p) m j ≡ back_at w m j)
  pub coming : All w.net.nodes ports (λ m j. coming (left w n p) m j ≡ coming w m j)
  pub reached : All w.net.nodes ports (λ m j. reached_at (left w n p) m j ≡ reached_at w m j)
  pub backs : Ends w.net.nodes w.net.links.cables w.net.ends.sendings (back_at (left w n p)) (reached_at (left w n p))

-- a role that the port's circuit does not play is played as it was
pub pair_left : (w : World) (n p : ℕ) {B : Type 0} {b : ℕ} {f : Leg → Named} {g : B → Named} {y : ℕ → ℕ → B}
    → Pair w.net.nodes ports b f g w.net.ports.legs y
    → f (leg_of Shut) ≡ Nothing
    → f (w.net.ports.legs n p) ≡ Nothing
    → Pair w.net.nodes ports b f g (left w n p).net.ports.legs y
pair_left w n p {f = f} z none here =
    pair_first z n p _ (keeps_none f (closes (first_at w n p)) (leg_of Shut) (w.net.ports.legs n p) none here)

-- the circuit of a leg that is shut or stays
hop_if : (b : Bool) (k : Leg) → let x = pick b (leg_of Shut) k in hop_of x.circuit x.tile ≡ pick b Shut (hop_of k.circuit k.tile)
hop_if true k = refl
hop_if false k = refl

leg_if : (b : Bool) (k : Leg) → LegOk k → LegOk (pick b (leg_of Shut) k)
leg_if true k h = omega arith
leg_if false k h = h

network_if : (b c : Bool) (v : ℕ) → v < networks → pick b (pick c 0 v) v < networks
network_if true true v h = omega arith
network_if true false v h = h
network_if false c v h = h

module _ (w : World) (k : Kept w) (n p : ℕ) (r : Holds w n p 1) where
  -- no port holds more than it held
  fewer : (m j : ℕ) → ((left w n p).net.ports.counters m j).held ≤ (w.net.ports.counters m j).held
  fewer m j =
      let c = w.net.ports.counters in
      upd_all (λ a i q. q.held ≤ (c a i).held) c n p (take_counters (c n p)) m j (λ em ej. rw (em, ej) (omega arith)) (λ o. omega arith)

  pub leaves : (hop w.net n p ≡ Shut → ⊥) → Left w n p
  leaves going =
      let x = first_at w n p in
      let z = took w n p in
      let y = left w n p in
      let t = w.net.ports in
      let b = closes x in
      let leg = pick b (leg_of Shut) (t.legs n p) in
      let less = take_counters (t.counters n p) in
      let e = emptied_one w n p (kept_credited w k) r in
      let lines : Credited (with_net z (token_taken w n p)) = subst (λ (s : Net). Credited (with_net z s)) (taken_is w n p) e.credited in
      let fair : Fair less =
      rw (ap (λ (s : Net). s.ports.counters n p) (taken_is w n p) ∙ upd_same t.counters n p less) at e.fair in
      -- the tokens
      let same : (m j : ℕ) → queue y m j ≡ queue z m j = λ m j. ap (λ (s : Net). queue (with_net z s) m j) (sym (taken_is w n p)) in
      let here : queue w n p ≡ x ∷ queue y n p = e.here ∙ ap (λ (q : List ℕ). x ∷ q) (sym (same n p)) in
      let away : All w.net.nodes ports (λ m j. Off n p m j → queue y m j ≡ queue w m j) = λ m j hm hj o. same m j ∙ e.away m j hj o in
      -- the stages
      let next = taken (hop w.net n p) x (queue y n p) going (rw here at (good_back w k n p r.node r.port)) in
      let reads : (f : Hop → List ℕ → Stage) → f (hop y.net n p) (queue y n p) ≡ f (pick b Shut (hop w.net n p)) (queue y n p) =
      λ f. read_here f t.legs n p leg (queue w) (queue y) ∙ ap (λ (h : Hop). f h (queue y n p)) (hop_if b (t.legs n p)) in
      let ended : All w.net.nodes ports (λ m j. back_at y m j ≡ back_at w m j) =
      λ m j hm hj. place n p m j
      (λ em ej. rw (em, ej) (reads back_of ∙ next.back ∙ ap (back_of (hop w.net n p)) (sym here)))
      (λ o. read_off back_of t.legs n p leg (queue w) (queue y) m j (away m j hm hj o) o) in
      let come = coming_same w y refl k.cabled (λ m j hm hj. e.tokens m j hj) in
      let reach : All w.net.nodes ports (λ m j. reached_at y m j ≡ reached_at w m j) =
      λ m j hm hj. reached_as w y m j (ended m j hm hj) (come m j hm hj) in
      record {
        shape = shape_as (with_net z (token_taken w n p)) y refl refl refl refl ∙ lines.shape;
        accounts = lines.accounts;
        lines = lines.lines;
        between = lines.between;
        counters = all_upd t.counters n p less (λ (q : Counters). Fair q) k.counters fair;
        silent = λ m hm. ⊎_elim inl (λ none. inr (omega (arith, none, fewer m reply_port))) (k.silent m hm);
        legs = all_upd t.legs n p leg (λ (q : Leg). LegOk q) k.legs (leg_if b (t.legs n p) (k.legs n p r.node r.port));
        networks = λ m j hm hj. place n p m j
            (λ em ej. rw (em, ej) (⊎_elim
            (⊎_elim (λ other. inl (inl other)) (λ free. absurd (omega (arith, free.1, r.held))))
            (λ v. inr (rw (upd_same t.networks n p) (network_if b (eqb (y.net.ports.counters n p).held 0) (t.networks n p) v)))
            (k.networks n p r.node r.port)))
            (λ o. rw (upd_miss t.legs n p leg m j o, upd_miss t.counters n p less m j o, upd_miss t.networks n p _ m j o)
            (k.networks m j hm hj));
        good = rw here next.good;
        front = reads front_of ∙ next.front ∙ ap (λ (q : List ℕ). next_stage (front_of (hop w.net n p) q) (shape_of x)) (sym here);
        off = λ m j hm hj o. read_off front_of t.legs n p leg (queue w) (queue y) m j (away m j hm hj o) o;
        back = ended;
        coming = come;
        reached = reach;
        backs = same_ends ended reach k.goes k.backs;
      }
