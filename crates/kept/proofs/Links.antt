-- What is done to settings, credit and lines keeps all that is kept: a node's own settings, and of a link HELLO, enabling, disabling,
-- direction and network. Assumes nothing.
use Prim.Native.Nat.{ℕ, ◌+◌, ◌%◌, ◌<◌}
use mathlib.Core.Path.{◌≡◌, refl, sym, ap, ◌∙◌}
use mathlib.Core.Bool.{Bool, true, false, not, ◌&&◌, ◌||◌}
use mathlib.Core.List.{List}
use mathlib.Core.Logic.{◌⊎◌, inl, inr, ⊎_elim}
use native.Mathlib.Decide.{ℕ_discrete}
use native.Mathlib.Omega.{arith}
use lib.Dec.{eqb}
use lib.ListN.{length-set}
use borrow.Author.Tests.{eqb-true, eq-eqb, not-false}
use Rattle.laws.specs.Table.{upd, Off}
use Rattle.laws.proofs.Table.{upd_all, upd_miss, place}
use Rattle.laws.proofs.Order.{by_test, clash, never}
use Rattle.names.specs.Size.{links, ports, directions, networks}
use Rattle.names.specs.declared.Slot.{Slot}
use Rattle.ports.specs.Ring.{put_counters}
use Rattle.lines.specs.Line.{line_capacity, LineFair, line_place}
use Rattle.lines.specs.Load.{hello_word, tokens_of}
use Rattle.cells.specs.View.{LineTables, whole_port, with_node, with_setup}
use Rattle.cells.specs.World.{World, shaped, far_of, line_from, Far, Nowhere, At}
use Rattle.cells.specs.Changes.{credit_as, enabled_as, directed_to, network_as}
use Rattle.cells.specs.declared.node.Node.{Node}
use Rattle.cells.specs.declared.link.Cable.{Cable}
use Rattle.cells.specs.declared.link.Setup.{Setup}
use Rattle.cells.specs.declared.link.Flow.{Flow}
use Rattle.cells.proofs.Fars.{same_far}
use Rattle.clauses.specs.Cables.{on_far, enabled, far_enabled}
use Rattle.clauses.specs.Counts.{is_free}
use Rattle.acts.specs.Acts.{with_net}
use Rattle.line_clauses.specs.Lines.{coming}
use Rattle.travel.specs.Travel.{load_from, put_on, credit_lost, says_hello, silenced, zeroed, far_zeroed, disabled}
use Rattle.travel.specs.Needs.{LineThere}
use Rattle.travel.specs.Accounts.{InOrder}
use Rattle.travel.proofs.Keeps.{hello_in_order, hello_room}
use Rattle.travel.proofs.Tokens.{hello_none, put_none, put_tokens_away}
use Rattle.travel.proofs.There.{there_net}
use Rattle.travel.proofs.Owes.{hello_lost, disabled_in_order}
use Rattle.settings.specs.Set.{end_in_use, far_in_use, in_use, in_transit, signalled, either_line}
use Rattle.kept.specs.Kept.{All, NodeOk, Hears, SetupOk, Unfed, Idle, Carries, front_at, reached_at, Kept}
use Rattle.kept.proofs.Comings.{coming_same, reached_as}
use Rattle.kept.proofs.Grants.{Credited, kept_credited, leads_back, leads_off, line_there, hears_here}
use Rattle.kept.proofs.Queues.{shape_as}
use Rattle.kept.proofs.Tables.{all_at, all_upd}

-- other settings of nodes, cables, settings of links, flows and lines, and everything else as it was
abbrev pub settled_as : World → (ℕ → ℕ → Node) → (ℕ → ℕ → Cable) → (ℕ → ℕ → Setup) → (ℕ → ℕ → Flow) → LineTables → List ℕ → World
settled_as w o c s f t ls =
    let x = w.net in
    record {
      net = record {
        nodes = x.nodes;
        own = o;
        links = record { cables = c; setups = s; flows = f; users = x.links.users };
        ports = x.ports;
        tiles = x.tiles;
        ends = x.ends;
        units = x.units;
        lines = t;
        rest = x.rest;
      };
      memory = w.memory;
      line_memory = ls;
    }

-- what has to hold of them: cables and lines are in order, and the same tokens come to every port
pub record Settled (w : World) (o : ℕ → ℕ → Node) (c : ℕ → ℕ → Cable) (s : ℕ → ℕ → Setup) (f : ℕ → ℕ → Flow) (t : LineTables)
    (ls : List ℕ) : Type 0 where
  pub nodes : All w.net.nodes 1 (λ n i. NodeOk (o n i))
  pub setups : All w.net.nodes links (λ n l. SetupOk (s n l))
  pub credited : Credited (settled_as w o c s f t ls)
  pub coming : All w.net.nodes ports (λ n p. coming (settled_as w o c s f t ls) n p ≡ coming w n p)
  pub unfed : Unfed w.net.nodes c (reached_at w)
  pub idle : Idle w.net.nodes s w.net.links.users
  pub carries : Carries w.net.nodes c w.net.links.users (front_at w) (reached_at w)

pub resettled : (w : World) (o : ℕ → ℕ → Node) (c : ℕ → ℕ → Cable) (s : ℕ → ℕ → Setup) (f : ℕ → ℕ → Flow) (t : LineTables) (ls : List ℕ)
    → Kept w
    → Settled w o c s f t ls
    → Kept (settled_as w o c s f t ls)
resettled w o c s f t ls k z =
    let y = settled_as w o c s f t ls in
    let line = z.credited in
    let reached : All w.net.nodes ports (λ n p. reached_at y n p ≡ reached_at w n p) =
    λ n p hn hp. reached_as w y n p refl (z.coming n p hn hp) in
    record {
      shape = line.shape;
      nodes = z.nodes;
      cabled = line.cabled;
      setups = z.setups;
      users = k.users;
      greeted = line.greeted;
      accounts = line.accounts;
      counters = k.counters;
      legs = k.legs;
      networks = k.networks;
      senders = k.senders;
      tiles = k.tiles;
      aims = k.aims;
      sendings = k.sendings;
      claims = k.claims;
      buffers = k.buffers;
      serving = k.serving;
      hearings = k.hearings;
      port_link = k.port_link;
      port_tile = k.port_tile;
      port_unit = k.port_unit;
      port_claim = k.port_claim;
      end_claim = k.end_claim;
      end_port = k.end_port;
      aimed = k.aimed;
      goes = k.goes;
      lines = line.lines;
      between = line.between;
      silent = k.silent;
      backs = record {
        walks = λ n p hn hp. rw (reached n p hn hp) (k.backs.walks n p hn hp);
        unfed = λ n l hn hl. ⊎_elim inl (λ e. inr (reached n l hn (omega arith) ∙ e)) (z.unfed n l hn hl);
        sends = k.backs.sends;
        replied = k.backs.replied;
      };
      idle = z.idle;
      carries = record {
        fed = λ n l hn hl m j e.
            let far = line.cabled.agree n l hn hl m j e in
            let there = far.link in
            reached m.0 j far.node (omega arith) ∙ z.carries.fed n l hn hl m j e;
        unsent = z.carries.unsent;
      };
    }

-- A NODE'S OWN SETTINGS alone; flows and lines alone, where every line has the tokens that it had; or settings of links alone
module _ (w : World) (k : Kept w) where
  pub keep_own : (n : ℕ) (x : Node) → NodeOk x → Kept (with_net w (with_node w.net n x))
  unfolding shaped
  keep_own n x ok =
      let t = w.net.links in
      resettled w (upd w.net.own n 0 x) t.cables t.setups t.flows w.net.lines w.line_memory k
      (record {
        nodes = all_upd w.net.own n 0 x NodeOk k.nodes ok;
        setups = k.setups;
        credited = record {
          shape = k.shape;
          cabled = k.cabled;
          greeted = k.greeted;
          accounts = k.accounts;
          lines = k.lines;
          between = k.between;
        };
        coming = λ a p ha hp. refl;
        unfed = k.backs.unfed;
        idle = k.idle;
        carries = k.carries;
      })

  abbrev pub credited_as : (ℕ → ℕ → Flow) → LineTables → List ℕ → World
  credited_as f t ls = settled_as w w.net.own w.net.links.cables w.net.links.setups f t ls

  pub keep_credited : (f : ℕ → ℕ → Flow) (t : LineTables) (ls : List ℕ) → Credited (credited_as f t ls)
      → ((a j : ℕ) → a < w.net.nodes → j < links → tokens_of (line_from (credited_as f t ls) a j) ≡ tokens_of (line_from w a j))
      → Kept (credited_as f t ls)
  keep_credited f t ls z same =
      let x = w.net.links in
      resettled w w.net.own x.cables x.setups f t ls k
      (record {
        nodes = k.nodes;
        setups = k.setups;
        credited = z;
        coming = coming_same w (credited_as f t ls) refl k.cabled same;
        unfed = k.backs.unfed;
        idle = k.idle;
        carries = k.carries;
      })

  setup : (s : ℕ → ℕ → Setup)
      → All w.net.nodes links (λ n l. SetupOk (s n l))
      → Credited (settled_as w w.net.own w.net.links.cables s w.net.links.flows w.net.lines w.line_memory)
      → Idle w.net.nodes s w.net.links.users
      → Kept (settled_as w w.net.own w.net.links.cables s w.net.links.flows w.net.lines w.line_memory)
  setup s h z i =
      let x = w.net.links in
      resettled w w.net.own x.cables s x.flows w.net.lines w.line_memory k
      (record {
        nodes = k.nodes;
        setups = h;
        credited = z;
        coming = λ a p ha hp. refl;
        unfed = k.backs.unfed;
        idle = i;
        carries = k.carries;
      })

-- HELLO, while no credit and no HELLO is on either line
hears_far : (s : ℕ → ℕ → Setup) (x : Cable) (f : Far) → far_of x ≡ f → on_far f false (λ m j. eqb (s m j).enabled 1) ≡ true → Hears s x
hears_far s x Nowhere e h = clash (sym h)
hears_far s x (At m j) e h = record { slot = m; link = j; leads = e; enabled = eqb-true (s m.0 j).enabled 1 h }

far_hears : (s : ℕ → ℕ → Setup) (x : Cable) → Hears s x → on_far (far_of x) false (λ m j. eqb (s m j).enabled 1) ≡ true
far_hears s x h = rw h.leads (eq-eqb (s h.slot.0 h.link).enabled 1 h.enabled)

-- a test of two lines that fails does so at both
neither : (a b : Bool) → (a || b) ≡ false → (a ≡ false) × (b ≡ false)
neither true b e = clash e
neither false b e = (refl, e)

zero_of : {x : ℕ} → not (eqb x 0) ≡ false → x ≡ 0
zero_of {x} e = eqb-true x 0 (not-false (eqb x 0) e)

module _ (w : World) (k : Kept w) (n l : ℕ) (hn : n < w.net.nodes) (hl : l < links) where
  on_both : (f : World → ℕ → ℕ → Bool) → either_line f w n l ≡ false → (m : Slot) (j : ℕ) → far_of (w.net.links.cables n l) ≡ At m j
      → (f w n l ≡ false) × (f w m.0 j ≡ false)
  on_both f quiet m j e = neither (f w n l) (f w m.0 j) (rw e at quiet)

  -- no credit and no HELLO is on a line
  unsignalled : (a j : ℕ) → signalled w a j ≡ false → ((load_from w a j).credits ≡ 0) × ((load_from w a j).hellos ≡ 0)
  unsignalled a j e =
      let z = neither (not (eqb (load_from w a j).credits 0)) (not (eqb (load_from w a j).hellos 0)) e in (zero_of z.0, zero_of z.1)

  deaf : far_enabled w.net (w.net.links.cables n l) ≡ false → (w.net.links.flows n l).greeted ≡ 1 → ⊥
  deaf off g = clash (sym (far_hears w.net.links.setups (w.net.links.cables n l) (k.greeted n l hn hl g).1) ∙ off)

  -- HELLO goes on a line that has no signal, nor has the one back
  module _ (quiet : either_line signalled w n l ≡ false) (m : Slot) (j : ℕ) (e : far_of (w.net.links.cables n l) ≡ At m j) where
    line : LineThere w n l
    line = line_there w (kept_credited w k) n l hn hl

    clear : ((load_from w n l).credits ≡ 0) × ((load_from w n l).hellos ≡ 0) × ((load_from w m.0 j).credits ≡ 0)
    clear =
        let none = on_both signalled quiet m j e in
        let here = unsignalled n l none.0 in
        (here.0, here.1, (unsignalled m.0 j none.1).0)

    room : (w.net.lines.rings n l).held < line_capacity
    room = hello_room w (leads_back k.cabled) k.accounts n l m j hn hl e (leads_off k.cabled n l hn hl m j e) line clear

    -- and is no token
    no_token : (a i : ℕ) → i < links
        → tokens_of (line_from (put_on (with_net w (credit_lost w.net n l)) n l hello_word) a i) ≡ tokens_of (line_from w a i)
    no_token a i hi =
        let y = with_net w (credit_lost w.net n l) in
        let there = there_net {w = w} {s = y.net} refl refl line in
        place n l a i
        (λ ea ei. rw (ea, ei) (put_none y n l there hello_word room (hello_none hello_word refl)))
        (λ o. put_tokens_away y n l there hello_word a i hi o)

    said : (w.net.links.setups n l).enabled ≡ 1 → Hears w.net.links.setups (w.net.links.cables n l)
        → Kept (put_on (with_net w (credit_lost w.net n l)) n l hello_word)
    unfolding put_on
    said on hears =
        let t = w.net.links in
        let c = w.net.lines.rings n l in
        let f = credit_as (t.flows n l) 0 in
        let y = with_net w (credit_lost w.net n l) in
        let off = leads_off k.cabled n l hn hl m j e in
        let long = length-set w.line_memory (line_place n l + (c.head + c.held) % line_capacity) hello_word in
        keep_credited w k _ (put_on y n l hello_word).net.lines (put_on y n l hello_word).line_memory
        (record {
          shape = shape_as w (put_on y n l hello_word) refl refl refl long ∙ k.shape;
          cabled = k.cabled;
          greeted = all_at t.flows n l f (λ a i x. x.greeted ≡ 1 → ((t.setups a i).enabled ≡ 1) × Hears t.setups (t.cables a i))
              k.greeted (λ g. (on, hears));
          accounts = hello_in_order w (leads_back k.cabled) k.accounts n l m j hn hl e off line clear;
          lines = all_upd w.net.lines.rings n l (put_counters c) LineFair k.lines
              (record { head_in = line.fair.head_in; held_in = let r = room in omega arith });
          between = all_at w.net.lines.rings n l (put_counters c)
              (λ a i x. (x.held ≡ 0) ⊎ (((t.setups a i).enabled ≡ 1) × Hears t.setups (t.cables a i))) k.between (inr (on, hears));
        })
        (λ a i ha hi. no_token a i hi)

  pub keep_helloed : (w.net.links.setups n l).enabled ≡ 1 → either_line signalled w n l ≡ false → Kept (says_hello w n l)
  unfolding says_hello
  keep_helloed on quiet =
      let t = w.net.links in
      by_test (far_enabled w.net (t.cables n l))
      (λ e.
      let h = hears_far t.setups (t.cables n l) (far_of (t.cables n l)) refl e in
      rw e (said quiet h.slot h.link h.leads on h))
      (λ e.
      rw (hello_lost w (leads_back k.cabled) k.accounts n l hn (leads_off k.cabled n l hn hl) hl deaf e) k)

  -- HELLO leaves every token on its line
  pub hello_tokens : either_line signalled w n l ≡ false → (a i : ℕ) → i < links
      → tokens_of (line_from (says_hello w n l) a i) ≡ tokens_of (line_from w a i)
  unfolding says_hello
  hello_tokens quiet a i hi =
      let t = w.net.links in
      by_test (far_enabled w.net (t.cables n l))
      (λ e.
      let h = hears_far t.setups (t.cables n l) (far_of (t.cables n l)) refl e in
      rw e (no_token quiet h.slot h.link h.leads a i hi))
      (λ e. rw e)

-- DIRECTION, NETWORK AND ENABLE
module _ (w : World) (k : Kept w) (n l : ℕ) (hn : n < w.net.nodes) (hl : l < links) where
  -- a link that is enabled where it was
  keep_as : (x : Setup) → SetupOk x → ((w.net.links.setups n l).enabled ≡ 1 → x.enabled ≡ 1)
      → ((x.enabled ≡ 1) ⊎ ((w.net.links.users n l).kind ≡ 0))
      → Kept (with_net w (with_setup w.net n l x))
  unfolding shaped
  keep_as x ok still idle =
      let t = w.net.links in
      let up : (m j : ℕ) → (t.setups m j).enabled ≡ 1 → (upd t.setups n l x m j).enabled ≡ 1 =
      λ m j. upd_all (λ m j y. (t.setups m j).enabled ≡ 1 → y.enabled ≡ 1) t.setups n l x m j
      (λ a b h. still (rw (a, b) at h))
      (λ o h. h) in
      let both : (a j : ℕ) → ((t.setups a j).enabled ≡ 1) × Hears t.setups (t.cables a j)
      → ((upd t.setups n l x a j).enabled ≡ 1) × Hears (upd t.setups n l x) (t.cables a j) =
      λ a j z.
      let far = z.1 in
      let there = up far.slot.0 far.link far.enabled in
      (up a j z.0, record { slot = far.slot; link = far.link; leads = far.leads; enabled = there }) in
      setup w k (upd t.setups n l x)
      (λ a j ha hj. upd_all (λ a j y. SetupOk y) t.setups n l x a j (λ ea ej. ok) (λ o. k.setups a j ha hj))
      (record {
        shape = k.shape;
        cabled = k.cabled;
        greeted = λ a j ha hj g. both a j (k.greeted a j ha hj g);
        accounts = k.accounts;
        lines = k.lines;
        between = λ a j ha hj. ⊎_elim inl (λ z. inr (both a j z)) (k.between a j ha hj);
      })
      (λ a j ha hj. upd_all (λ a j y. (y.enabled ≡ 1) ⊎ ((t.users a j).kind ≡ 0)) t.setups n l x a j
      (λ ea ej. rw (ea, ej) idle)
      (λ o. k.idle a j ha hj))

  pub keep_directed : (v : ℕ) → v < directions → Kept (with_net w (with_setup w.net n l (directed_to (w.net.links.setups n l) v)))
  keep_directed v h = let z = k.setups n l hn hl in keep_as _ (z.0, h, z.2) (λ e. e) (k.idle n l hn hl)

  pub keep_network : (v : ℕ) → v < networks → Kept (with_net w (with_setup w.net n l (network_as (w.net.links.setups n l) v)))
  keep_network v h = let z = k.setups n l hn hl in keep_as _ (z.0, z.1, h) (λ e. e) (k.idle n l hn hl)

  pub keep_enabled : Kept (with_net w (with_setup w.net n l (enabled_as (w.net.links.setups n l) 1)))
  keep_enabled = let z = k.setups n l hn hl in keep_as _ (omega arith, z.1, z.2) (λ e. refl) (inl refl)

-- DISABLED, where nobody uses the link and nothing is on either line
module _ (w : World) (k : Kept w) (n l : ℕ) (hn : n < w.net.nodes) (hl : l < links) where
  -- (a, j) is neither end
  abbrev Neither : ℕ → ℕ → Type 0
  Neither a j = Off n l a j × ((m : Slot) (i : ℕ) → far_of (w.net.links.cables n l) ≡ At m i → Off m.0 i a j)

  abbrev AtRest : Type 0
  AtRest =
      ((w.net.links.users n l).kind ≡ 0)
      × ((w.net.lines.rings n l).held ≡ 0)
      × ((m : Slot) (i : ℕ) → far_of (w.net.links.cables n l) ≡ At m i → (w.net.lines.rings m.0 i).held ≡ 0)

  abbrev off : ℕ → ℕ → Setup
  off = upd w.net.links.setups n l (enabled_as (w.net.links.setups n l) 0)

  abbrev off_as : (ℕ → ℕ → Flow) → (ℕ → ℕ → ℕ) → World
  off_as f i =
      settled_as w w.net.own w.net.links.cables off f (record { rings = w.net.lines.rings; issued = i }) w.line_memory

  still : (a j : ℕ) → a < w.net.nodes → j < links → Neither a j
      → ((w.net.links.setups a j).enabled ≡ 1) × Hears w.net.links.setups (w.net.links.cables a j)
      → ((off a j).enabled ≡ 1) × Hears off (w.net.links.cables a j)
  still a j ha hj neither y =
      let t = w.net.links in
      let x = enabled_as (t.setups n l) 0 in
      let far = y.1 in
      let back = (k.cabled.agree a j ha hj far.slot far.link far.leads).back in (
        ap (λ (q : Setup). q.enabled) (upd_miss t.setups n l x a j neither.0) ∙ y.0,
        record {
          slot = far.slot;
          link = far.link;
          leads = far.leads;
          enabled = ap (λ (q : Setup). q.enabled)
              (upd_miss t.setups n l x far.slot.0 far.link
              (λ ea ej. neither.1 (record { 0 = a }) j (rw (ea, ej) at back) refl refl))
              ∙ far.enabled;
        },
      )

  keep_off : (f : ℕ → ℕ → Flow) (i : ℕ → ℕ → ℕ) → AtRest
      → ((a j : ℕ) → (f a j).greeted ≡ 1 → Neither a j × ((w.net.links.flows a j).greeted ≡ 1))
      → InOrder (off_as f i)
      → Kept (off_as f i)
  unfolding shaped
  keep_off f i free silent accounts =
      let t = w.net.links in
      let x = enabled_as (t.setups n l) 0 in
      let z = k.setups n l hn hl in
      resettled w w.net.own t.cables off f (record { rings = w.net.lines.rings; issued = i }) w.line_memory k
      (record {
        nodes = k.nodes;
        setups = λ a j ha hj.
            upd_all (λ a j y. SetupOk y) t.setups n l x a j (λ ea ej. (omega arith, z.1, z.2)) (λ o. k.setups a j ha hj);
        credited = record {
          shape = k.shape;
          cabled = k.cabled;
          greeted = λ a j ha hj g. let old = silent a j g in still a j ha hj old.0 (k.greeted a j ha hj old.1);
          accounts = accounts;
          lines = k.lines;
          between = λ a j ha hj. elim (ℕ_discrete (w.net.lines.rings a j).held 0) [
            | yes e ↦ inl e
            | no some ↦ inr
                (still a j ha hj
                (λ ea ej. some (rw (ea, ej) free.1), λ m b e ea ej. some (rw (ea, ej) (free.2 m b e)))
                (⊎_elim (λ e. absurd (some e)) (λ y. y) (k.between a j ha hj)))
          ];
        };
        coming = λ a p ha hp. refl;
        unfed = k.backs.unfed;
        idle = λ a j ha hj. upd_all (λ a j y. (y.enabled ≡ 1) ⊎ ((t.users a j).kind ≡ 0)) t.setups n l x a j
            (λ ea ej. inr (rw (ea, ej) free.0))
            (λ o. k.idle a j ha hj);
        carries = k.carries;
      })

  -- a link that is not enabled is unused anyway, and one that is has been found so
  at_rest : (enabled w.net n l && (in_use w.net n l || either_line in_transit w n l)) ≡ false → AtRest
  at_rest quiet =
      by_test (enabled w.net n l)
      (λ on.
      let free = neither (in_use w.net n l) (either_line in_transit w n l) (rw on at quiet) in
      let alone = neither (end_in_use w.net n l) (far_in_use w.net (far_of (w.net.links.cables n l))) free.0 in
      let nobody = neither (not (is_free (whole_port w.net n l))) (not (eqb (w.net.links.users n l).kind 0)) alone.0 in
      let none : (m : Slot) (i : ℕ) → far_of (w.net.links.cables n l) ≡ At m i
      → (in_transit w n l ≡ false) × (in_transit w m.0 i ≡ false) = on_both w k n l hn hl in_transit free.1 in (
        zero_of nobody.1,
        ⊎_elim (λ e. e) (λ y. let far = y.1 in zero_of (none far.slot far.link far.leads).0) (k.between n l hn hl),
        λ m i e. zero_of (none m i e).1,
      ))
      (λ dark.
      let shut : (w.net.links.setups n l).enabled ≡ 1 → ⊥ = λ on. clash (sym (eq-eqb _ 1 on) ∙ dark) in (
        ⊎_elim (λ on. absurd (shut on)) (λ e. e) (k.idle n l hn hl),
        ⊎_elim (λ e. e) (λ y. absurd (shut y.0)) (k.between n l hn hl),
        λ m i e.
            let joined = k.cabled.agree n l hn hl m i e in
            ⊎_elim (λ e. e)
            (λ y. absurd (shut (hears_here w.net.links.setups (w.net.links.cables m.0 i) n l joined.back y.1)))
            (k.between m.0 i joined.node joined.link),
      ))

  pub keep_disabled : (enabled w.net n l && (in_use w.net n l || either_line in_transit w n l)) ≡ false
      → Kept (with_net w (disabled w.net n l))
  unfolding disabled
  keep_disabled quiet =
      let free = at_rest quiet in
      go (far_of (w.net.links.cables n l)) refl free
      (disabled_in_order w (leads_back k.cabled) k.accounts n l hn (leads_off k.cabled n l hn hl) hl
      (λ m i e. (free.1, free.2 m i e)))
    where
      -- a flow that is silenced is not greeted
      silent : (f : ℕ → ℕ → Flow) (m j a i : ℕ) → (upd f m j silenced a i).greeted ≡ 1 → Off m j a i × ((f a i).greeted ≡ 1)
      silent f m j a i = upd_all (λ a i x. x.greeted ≡ 1 → Off m j a i × ((f a i).greeted ≡ 1)) f m j silenced a i
          (λ d e g. never g)
          (λ o g. (o, g))

      go : (f : Far) → far_of (w.net.links.cables n l) ≡ f → AtRest
          → InOrder (with_net w (far_zeroed (with_setup (zeroed w.net n l) n l (enabled_as (w.net.links.setups n l) 0)) f))
          → Kept (with_net w (far_zeroed (with_setup (zeroed w.net n l) n l (enabled_as (w.net.links.setups n l) 0)) f))
      go Nowhere e free accounts =
          keep_off _ _ free
          (λ a j g. let z = silent w.net.links.flows n l a j g in
          ((z.0, λ m i d. never (let q : Nowhere ≡ At m i = sym e ∙ d in cc)), z.1))
          accounts
      go (At m i) e free accounts =
          keep_off _ _ free
          (λ a j g.
          let y = silent (upd w.net.links.flows n l silenced) m.0 i a j g in
          let z = silent w.net.links.flows n l a j y.1 in (
            (
              z.0,
              λ b c d.
                  let same : At m i ≡ At b c = sym e ∙ d in
                  let slot : m ≡ b = (same_far same).0 in
                  let link : i ≡ c = (same_far same).1 in
                  (λ p q. y.0 (p ∙ ap (λ (s : Slot). s.0) (sym slot)) (q ∙ sym link)),
            ),
            z.1,
          ))
          accounts
