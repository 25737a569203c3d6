-- What is kept of cables and their lines alone, and what taking a token does to it: a grant considered writes lines, and leaves them in
-- order and every token on them where it was. Assumes nothing.
use Prim.Native.Nat.{ℕ, ◌+◌, ◌<◌}
use mathlib.Core.Path.{◌≡◌, refl, sym, ap, ◌∙◌, subst}
use mathlib.Core.Bool.{true}
use mathlib.Core.Logic.{inl, inr, ⊎_elim}
use lib.ListN.{length-set}
use Rattle.laws.specs.Table.{upd, Off}
use Rattle.laws.proofs.Table.{place}
use Rattle.names.specs.Size.{links}
use Rattle.names.specs.declared.Slot.{Slot}
use Rattle.ports.specs.Queue.{take_counters}
use Rattle.ports.specs.Memory as M
use Rattle.ports.specs.declared.Counters.{Counters}
use Rattle.lines.specs.Line.{LineFair}
use Rattle.lines.specs.Load.{tokens_of}
use Rattle.cells.specs.View.{with_counters, with_lines}
use Rattle.cells.specs.World.{World, shaped, far_of, line_from, At}
use Rattle.cells.specs.Changes.{credit_as}
use Rattle.cells.specs.declared.link.Cable.{Cable}
use Rattle.cells.specs.declared.link.Setup.{Setup}
use Rattle.cells.specs.declared.link.Flow.{Flow}
use Rattle.cells.proofs.Fars.{same_far}
use Rattle.acts.specs.Acts.{popped}
use Rattle.travel.specs.Travel.{grants_back}
use Rattle.travel.specs.Needs.{LineThere}
use Rattle.travel.specs.Accounts.{InOrder}
use Rattle.travel.proofs.Cables.{Backs}
use Rattle.travel.proofs.Granted.{lines_as, GoesTo, signals, granted_in_order}
use Rattle.travel.proofs.Owes.{popped_in_order}
use Rattle.moves.specs.Moves.{took}
use Rattle.moves.proofs.Takes.{by_up, up_net}
use Rattle.kept.specs.Kept.{All, Cabled, Hears, Greeted, Between, Kept}
use Rattle.kept.proofs.Tables.{reads}
use Rattle.kept.proofs.Queues.{shape_as}
use Rattle.kept.proofs.Rooms.{line_reaches}

-- CABLES AND THEIR LINES
pub record Credited (w : World) : Type 0 where
  pub shape : shaped w ≡ true
  pub cabled : Cabled w.net.nodes w.net.links.cables
  pub greeted : Greeted w.net.nodes w.net.links.cables w.net.links.setups w.net.links.flows
  pub accounts : InOrder w
  pub lines : All w.net.nodes links (λ n l. LineFair (w.net.lines.rings n l))
  pub between : Between w.net.nodes w.net.links.cables w.net.links.setups w.net.lines.rings

pub kept_credited : (w : World) → Kept w → Credited w
kept_credited w k =
    record {
      shape = k.shape;
      cabled = k.cabled;
      greeted = k.greeted;
      accounts = k.accounts;
      lines = k.lines;
      between = k.between;
    }

-- as the accounts ask for them: cables lead back, to another end, and lines can be read
pub leads_back : {N : ℕ} {cables : ℕ → ℕ → Cable} → Cabled N cables → Backs N cables
leads_back z n l hn hl m k e = let j = z.agree n l hn hl m k e in (j.node, j.link, j.back)

pub leads_off : {N : ℕ} {cables : ℕ → ℕ → Cable} → Cabled N cables → (n l : ℕ) → n < N → l < links
    → (m : Slot) (k : ℕ) → far_of (cables n l) ≡ At m k → Off n l m.0 k
leads_off z n l hn hl m k e a b = (z.agree n l hn hl m k e).other (a, b)

pub line_there : (w : World) → Credited w → (n l : ℕ) → n < w.net.nodes → l < links → LineThere w n l
line_there w z n l hn hl = record { node = hn; link = hl; fair = z.lines n l hn hl; reaches = line_reaches w z.shape n l hn hl }

-- who is greeted, where a credit is written
pub greeted_credit : (N : ℕ) (cables : ℕ → ℕ → Cable) (setups : ℕ → ℕ → Setup) (flows : ℕ → ℕ → Flow) (n l c : ℕ)
    → Greeted N cables setups flows
    → Greeted N cables setups (upd flows n l (credit_as (flows n l) c))
greeted_credit N cables setups flows n l c z m j hm hj e =
    z m j hm hj (sym (reads (λ (f : Flow). f.greeted) flows n l (credit_as (flows n l) c) refl m j) ∙ e)

-- who is heard at the end of a cable that leads here is this link
pub hears_here : (setups : ℕ → ℕ → Setup) (x : Cable) (n l : ℕ) → far_of x ≡ At (record { 0 = n }) l → Hears setups x
    → (setups n l).enabled ≡ 1
hears_here setups x n l back far =
    let same : At far.slot far.link ≡ At (record { 0 = n }) l = sym far.leads ∙ back in
    let slot : far.slot ≡ record { 0 = n } = (same_far same).0 in
    let link : far.link ≡ l = (same_far same).1 in
    ap (λ (s : Slot). (setups s.0 l).enabled) (sym slot) ∙ ap (λ (j : ℕ). (setups far.slot.0 j).enabled) (sym link) ∙ far.enabled

-- a greeted link's far end is enabled, and so is it
pub both_enabled : (w : World) → Credited w → (n l : ℕ) → n < w.net.nodes → l < links → GoesTo w n l
    → ((w.net.links.setups n l).enabled ≡ 1) × Hears w.net.links.setups (w.net.links.cables n l)
both_enabled w z n l hn hl to =
    let m = to.slot in
    let k = to.link in
    let joined = z.cabled.agree n l hn hl m k to.leads in
    let up = z.greeted m.0 k joined.node joined.link to.greeted in (
      hears_here w.net.links.setups (w.net.links.cables m.0 k) n l joined.back up.1,
      record { slot = m; link = k; leads = to.leads; enabled = up.0 },
    )

-- A GRANT CONSIDERED
pub record Quiet (w z : World) : Type 0 where
  pub net : z.net ≡ with_lines w.net z.net.lines
  pub memory : z.memory ≡ w.memory
  pub credited : Credited z
  pub tokens : (a j : ℕ) → j < links → tokens_of (line_from z a j) ≡ tokens_of (line_from w a j)

quiet_none : (w : World) → Credited w → Quiet w w
quiet_none w z = record { net = refl; memory = refl; credited = z; tokens = λ a j hj. refl }

pub quiet_grant : (w : World) → Credited w → (n l : ℕ) → n < w.net.nodes → l < links → Quiet w (grants_back w n l)
quiet_grant w z n l hn hl =
    let line = line_there w z n l hn hl in
    let s = signals w n l line in
    let y = grants_back w n l in
    let same = s.leaves in
    let acc = granted_in_order w (leads_back z.cabled) z.accounts n l hn hl (leads_off z.cabled n l hn hl) line in
    record {
      net = ap (λ (v : World). v.net) same;
      memory = ap (λ (v : World). v.memory) same;
      credited = subst Credited (sym same) (record {
        shape = shape_as w (lines_as w y.net.lines y.line_memory) refl refl refl s.long ∙ z.shape;
        cabled = z.cabled;
        greeted = z.greeted;
        accounts = subst InOrder same acc;
        lines = λ a j ha hj. (s.there a j (line_there w z a j ha hj)).fair;
        between = λ a j ha hj. place n l a j
            (λ ea ej. rw (ea, ej) (⊎_elim
            (λ e. ⊎_elim (λ none. inl (ap (λ (c : Counters). c.held) e ∙ none)) inr (z.between n l hn hl))
            (λ to. inr (both_enabled w z n l hn hl to))
            s.used))
            (λ o. ⊎_elim (λ none. inl (ap (λ (c : Counters). c.held) (s.rings a j o) ∙ none)) inr (z.between a j ha hj));
      });
      tokens = s.tokens;
    }

-- A TOKEN TAKEN, with the grant that is considered for it: of the state, the port's counters and lines are written
pub taken_net : (w : World) (n p : ℕ)
    → (took w n p).net ≡ with_lines (with_counters w.net n p (take_counters (w.net.ports.counters n p))) (took w n p).net.lines
unfolding took popped
taken_net w n p = up_net (popped w n p) n p

popped_credited : (w : World) → Credited w → (n p : ℕ) → Credited (popped w n p)
unfolding popped
popped_credited w z n p =
    let long = length-set w.memory (M.place n p + (w.net.ports.counters n p).head) 0 in
    record {
      shape = shape_as w (popped w n p) refl refl long refl ∙ z.shape;
      cabled = z.cabled;
      greeted = z.greeted;
      accounts = popped_in_order w z.accounts n p;
      lines = z.lines;
      between = z.between;
    }

pub quiet_took : (w : World) → Credited w → (n p : ℕ) → n < w.net.nodes → Quiet (popped w n p) (took w n p)
unfolding took popped
quiet_took w z n p hn =
    let y = popped_credited w z n p in
    by_up (popped w n p) n p (λ v. Quiet (popped w n p) v) (quiet_none (popped w n p) y) (quiet_grant (popped w n p) y n p hn)
