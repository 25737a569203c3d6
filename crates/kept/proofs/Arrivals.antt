-- A line's step keeps all that is kept: what arrives is a token, a credit or a HELLO, and a token and a HELLO bring the grant that is
-- considered then. Assumes nothing.
use Prim.Native.Nat.{ℕ, ◌+◌, ◌<◌, ◌≤◌}
use mathlib.Core.Path.{◌≡◌, refl, sym, ap, ◌∙◌, subst}
use mathlib.Core.Bool.{true, false}
use mathlib.Core.List.{List, [], ◌∷◌}
use mathlib.Core.Logic.{◌⊎◌, inl, inr, ⊎_elim}
use native.Mathlib.Omega.{arith}
use lib.Dec.{eqb}
use lib.ListN.{length, length-set}
use borrow.Author.Tests.{eqb-false}
use Rattle.laws.specs.Table.{Off}
use Rattle.laws.proofs.Order.{by_test}
use Rattle.laws.proofs.Table.{upd_same, upd_miss, place}
use Rattle.names.specs.Size.{links, ports, reply_port}
use Rattle.names.specs.declared.Slot.{Slot}
use Rattle.circuits.specs.Circuit.{peer_of}
use Rattle.ports.specs.Queue.{capacity, Fair, put_counters}
use Rattle.ports.specs.declared.Counters.{Counters}
use Rattle.tokens.specs.Shape.{shape_of}
use Rattle.lines.specs.Line.{LineFair, line_place, off_counters}
use Rattle.lines.specs.Load.{is_hello, credit_of, is_token, tokens_of}
use Rattle.grammar.specs.Stage.{is_bad, next_stage}
use Rattle.grammar.specs.Walk.{walk}
use Rattle.grammar.specs.declared.stage.Stage.{Stage}
use Rattle.grammar.proofs.Walks.{good_from}
use Rattle.cells.specs.World.{World, far_of, line_from, Far, Nowhere, At}
use Rattle.cells.specs.Changes.{greeted_as}
use Rattle.cells.specs.declared.link.Flow.{Flow}
use Rattle.acts.specs.Acts.{with_net, pushed}
use Rattle.line_clauses.specs.Lines.{coming}
use Rattle.travel.specs.Travel.{taken_off, first_on, token_in, credit_in, greets, grants_back, arrives_at, line_empty, left_by, line_stepped}
use Rattle.travel.specs.Needs.{LineThere}
use Rattle.travel.specs.Accounts.{InOrder}
use Rattle.travel.proofs.Keeps.{token_in_order, credit_in_order, hello_arrives_in_order}
use Rattle.travel.proofs.Stepped.{positive, there_off}
use Rattle.travel.proofs.Granted.{lines_as, signals}
use Rattle.travel.proofs.Tokens.{token_is, credit_none, hello_none, off_token, off_none, off_tokens_away}
use Rattle.kept.specs.Kept.{All, Joined, Hears, Greeted, Between, NetworkOk, Kept, front_at, back_at, reached_at}
use Rattle.kept.proofs.Comings.{coming_along, coming_off, reached_as}
use Rattle.kept.proofs.Fills.{Filled, filled_one, put_front, put_back, put_off}
use Rattle.kept.proofs.Grants.{Credited, kept_credited, leads_back, leads_off, line_there, greeted_credit, quiet_grant}
use Rattle.kept.proofs.Links.{credited_as, keep_credited}
use Rattle.kept.proofs.Queues.{shape_as}
use Rattle.kept.proofs.Rooms.{reaches}
use Rattle.kept.proofs.Stages.{tile_there, carried_same, used_by, carries_still}
use Rattle.kept.proofs.Tables.{all_at, all_upd}

-- A GRANT that is considered
pub keep_granted : (w : World) → Kept w → (n l : ℕ) → n < w.net.nodes → l < links → Kept (grants_back w n l)
keep_granted w k n l hn hl =
    let z = kept_credited w k in
    let y = grants_back w n l in
    let same : y ≡ lines_as w y.net.lines y.line_memory = (signals w n l (line_there w z n l hn hl)).leaves in
    let quiet = quiet_grant w z n l hn hl in
    subst (λ (v : World). Kept v) (sym same)
    (keep_credited w k w.net.links.flows y.net.lines y.line_memory (subst (λ (v : World). Credited v) same quiet.credited)
    (λ a j ha hj. quiet.tokens a j hj))

-- WHAT ARRIVES at link j of node m, the first on the line that starts at link l of node n
module _ (w : World) (k : Kept w) (n l : ℕ) (hn : n < w.net.nodes) (hl : l < links) (m : Slot) (j : ℕ)
    (leads : far_of (w.net.links.cables n l) ≡ At m j) (some : 0 < (w.net.lines.rings n l).held) where
  abbrev y : World
  y = taken_off w n l

  abbrev x : ℕ
  x = first_on w n l

  here : LineThere w n l
  here = line_there w (kept_credited w k) n l hn hl

  apart : Off n l m.0 j
  apart = leads_off k.cabled n l hn hl m j leads

  -- both ends are enabled, since the line is in use
  both : ((w.net.links.setups n l).enabled ≡ 1) × Hears w.net.links.setups (w.net.links.cables n l)
  both = ⊎_elim (λ none. absurd (omega arith)) (λ up. up) (k.between n l hn hl)

  -- what is left of lines
  fair : All w.net.nodes links (λ a i. LineFair (y.net.lines.rings a i))
  fair a i ha hi = (there_off w n l here some a i (line_there w (kept_credited w k) a i ha hi)).fair

  between : Between w.net.nodes w.net.links.cables w.net.links.setups y.net.lines.rings
  unfolding taken_off
  between =
      let t = w.net.links in
      all_at w.net.lines.rings n l (off_counters (w.net.lines.rings n l))
      (λ a i c. (c.held ≡ 0) ⊎ (((t.setups a i).enabled ≡ 1) × Hears t.setups (t.cables a i))) k.between (inr both)

  long : length y.line_memory ≡ length w.line_memory
  unfolding taken_off
  long = length-set w.line_memory (line_place n l + (w.net.lines.rings n l).head) 0

  -- WHAT IS NO TOKEN: flows and counts alone, beside the line
  keep_signal : (f : ℕ → ℕ → Flow) (i : ℕ → ℕ → ℕ) → is_token x ≡ false
      → Greeted w.net.nodes w.net.links.cables w.net.links.setups f
      → InOrder (credited_as w k f (record { rings = y.net.lines.rings; issued = i }) y.line_memory)
      → Kept (credited_as w k f (record { rings = y.net.lines.rings; issued = i }) y.line_memory)
  keep_signal f i none greeted accounts =
      keep_credited w k f (record { rings = y.net.lines.rings; issued = i }) y.line_memory
      (record {
        shape = shape_as w (credited_as w k f (record { rings = y.net.lines.rings; issued = i }) y.line_memory) refl refl refl long
            ∙ k.shape;
        cabled = k.cabled;
        greeted = greeted;
        accounts = accounts;
        lines = fair;
        between = between;
      })
      (λ a i ha hi. place n l a i (λ ea ei. rw (ea, ei) (sym (off_none w n l here some none))) (off_tokens_away w n l here a i hi))

  -- A CREDIT
  keep_credit : is_hello x ≡ false → eqb (credit_of x) 0 ≡ false → Kept (with_net y (credit_in y.net m.0 j (credit_of x)))
  unfolding taken_off
  keep_credit plain credit =
      let t = w.net.links in
      keep_signal _ w.net.lines.issued (credit_none x plain credit)
      (greeted_credit w.net.nodes t.cables t.setups t.flows m.0 j ((t.flows m.0 j).credit + credit_of x) k.greeted)
      (credit_in_order w (leads_back k.cabled) k.accounts n l m j hn hl leads apart here some plain credit)

  -- A HELLO: its sender is greeted
  pub keep_hello : is_hello x ≡ true → Kept (greets y n l m.0 j)
  unfolding taken_off
  keep_hello said =
      let t = w.net.links in
      keep_signal _ _ (hello_none x said)
      (all_at t.flows n l (greeted_as (t.flows n l) 1)
      (λ a i f. f.greeted ≡ 1 → ((t.setups a i).enabled ≡ 1) × Hears t.setups (t.cables a i)) k.greeted (λ g. both))
      (hello_arrives_in_order w (leads_back k.cabled) k.accounts n l m j hn hl leads apart here some said)

  -- A TOKEN, put behind what the port holds: it ends there as it did with what was on its way, and begins where it did
  module _ (plain : is_hello x ≡ false) (token : eqb (credit_of x) 0 ≡ true) where
    abbrev z : World
    z = token_in y m.0 j x

    abbrev rest : List ℕ
    rest = tokens_of (line_from y n l)

    far : Joined w.net.nodes w.net.links.cables n l m j
    far = k.cabled.agree n l hn hl m j leads

    accounts : InOrder z
    accounts = token_in_order w (leads_back k.cabled) k.accounts n l m j hn hl leads apart here some plain token

    -- the port has room for it, by the accounts
    room : (w.net.ports.counters m.0 j).held + 1 ≤ capacity
    unfolding taken_off pushed
    room =
        let c = w.net.ports.counters in
        omega (
          arith,
          (accounts.joined n l hn hl m j leads).room,
          ap (λ (q : Counters). q.held) (upd_same c m.0 j (put_counters (c m.0 j))),
        )

    pub filled : Filled y (pushed y m.0 j x) m.0 j (x ∷ [])
    unfolding taken_off
    filled =
        let hj = far.link in
        filled_one y m.0 j x (record {
          node = far.node;
          port = omega arith;
          fair = k.counters m.0 j far.node (omega arith);
          room = room;
          reaches = reaches w k.shape m.0 j far.node (omega arith);
        })

    was : reached_at w m.0 j ≡ walk (next_stage (back_at w m.0 j) (shape_of x)) rest
    was =
        ap (walk (back_at w m.0 j))
        (coming_along w m.0 j far.link (record { 0 = n }) l far.back ∙ off_token w n l here some (token_is x plain token))

    good : is_bad (next_stage (back_at w m.0 j) (shape_of x)) ≡ false
    good =
        let hj = far.link in
        good_from (next_stage (back_at w m.0 j) (shape_of x)) rest (sym (ap is_bad was) ∙ k.backs.walks m.0 j far.node (omega arith))

    front : (a i : ℕ) → i < ports → front_at z a i ≡ front_at w a i
    unfolding taken_off
    front = put_front filled good

    back_off : (a i : ℕ) → i < ports → Off m.0 j a i → back_at z a i ≡ back_at w a i
    unfolding taken_off
    back_off = put_off filled good

    reached : All w.net.nodes ports (λ a i. reached_at z a i ≡ reached_at w a i)
    unfolding taken_off pushed
    reached a i ha hi =
        let at_port : reached_at z m.0 j ≡ reached_at w m.0 j =
        ap (λ (s : Stage). walk s (coming z m.0 j)) (put_back filled good)
        ∙ ap (walk (next_stage (back_at w m.0 j) (shape_of x))) (coming_along z m.0 j far.link (record { 0 = n }) l far.back)
        ∙ sym was in
        place m.0 j a i
        (λ ea ei. rw (ea, ei) at_port)
        (λ o. reached_as w z a i (back_off a i hi o)
        (coming_off w z refl k.cabled n l m j hn hl leads (λ b h hb hh q. off_tokens_away w n l here b h hh q) a i ha hi o))

    pub keep_token : Kept z
    unfolding taken_off pushed
    keep_token =
        let c = w.net.ports.counters in
        let d = put_counters (c m.0 j) in
        let t = w.net.links in
        let hj = far.link in
        record {
          shape = shape_as w z refl refl filled.long long ∙ k.shape;
          nodes = k.nodes;
          cabled = k.cabled;
          setups = k.setups;
          users = k.users;
          greeted = k.greeted;
          accounts = accounts;
          counters = all_upd c m.0 j d (λ (q : Counters). Fair q) k.counters
              (record { head_in = (k.counters m.0 j far.node (omega arith)).head_in; held_in = room });
          legs = k.legs;
          networks = all_at c m.0 j d (λ a i q. NetworkOk i (w.net.ports.legs a i) q (w.net.ports.networks a i)) k.networks
              (inl (inl (λ tile. omega (arith, tile.0))));
          senders = k.senders;
          tiles = k.tiles;
          aims = k.aims;
          sendings = k.sendings;
          claims = k.claims;
          buffers = k.buffers;
          serving = k.serving;
          hearings = k.hearings;
          port_link = k.port_link;
          port_tile = k.port_tile;
          port_unit = k.port_unit;
          port_claim = k.port_claim;
          end_claim = k.end_claim;
          end_port = k.end_port;
          aimed = k.aimed;
          goes = k.goes;
          lines = fair;
          between = between;
          silent = λ a ha. ⊎_elim inl
              (λ e. inr (ap (λ (q : Counters). q.held) (upd_miss c m.0 j d a reply_port (λ ea ei. omega arith)) ∙ e)) (k.silent a ha);
          backs = record {
            walks = λ a i ha hi. rw (reached a i ha hi) (k.backs.walks a i ha hi);
            unfed = λ a i ha hi. ⊎_elim inl (λ e. inr (reached a i ha (omega arith) ∙ e)) (k.backs.unfed a i ha hi);
            sends = λ a e ha he p by.
                let tile = tile_there (peer_of (w.net.ends.sendings a e)) p (k.goes a e ha he) by in
                back_off a p (omega (arith, tile.1)) (λ ea ei. omega (arith, tile.0)) ∙ k.backs.sends a e ha he p by;
            replied = λ a ha. back_off a reply_port (omega arith) (λ ea ei. omega arith) ∙ k.backs.replied a ha;
          };
          idle = k.idle;
          carries = carries_still k.cabled (λ a i ha hi. reached a i ha (omega arith))
              (λ a i ha hi. carried_same (peer_of (t.users a i)) (front_at w a) (front_at z a)
              (λ q by. front a q (k.port_link.back a i ha hi q (used_by (peer_of (t.users a i)) q by)).0)) k.carries;
        }

  -- any of them, with the grant that it brings
  keep_arrival : Kept (arrives_at y n l m.0 j x)
  unfolding taken_off pushed
  keep_arrival =
      let far = k.cabled.agree n l hn hl m j leads in
      by_test (is_hello x)
      (λ said. rw said (keep_granted (greets y n l m.0 j) (keep_hello said) m.0 j far.node far.link))
      (λ plain. rw plain (by_test (eqb (credit_of x) 0)
      (λ token. rw token (keep_granted (token_in y m.0 j x) (keep_token plain token) m.0 j far.node far.link))
      (λ credit. rw credit (keep_credit plain credit))))

-- A LINE'S STEP
pub keep_line_step : (w : World) → Kept w → (n l : ℕ) → n < w.net.nodes → l < links → Kept (line_stepped w n l)
unfolding line_stepped
keep_line_step w k n l hn hl = by_far (far_of (w.net.links.cables n l)) refl
  where
    by_far : (f : Far) → far_of (w.net.links.cables n l) ≡ f → Kept (left_by w n l f)
    by_far Nowhere e = k
    by_far (At m j) e =
        by_test (line_empty w n l)
        (λ none. rw none k)
        (λ some. rw some (keep_arrival w k n l hn hl m j e (positive (w.net.lines.rings n l).held (eqb-false _ 0 some))))
