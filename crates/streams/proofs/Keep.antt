-- What an event keeps of a state in which the invariant holds: facts of the cell in front of a port, and the parts of the invariant after a
-- change at one port alone. Assumes nothing.
use Prim.Native.Nat.{ℕ, suc, ◌≤◌, ◌<◌}
use mathlib.Core.Path.{◌≡◌, refl, sym, ap, ◌∙◌}
use mathlib.Core.Bool.{Bool, true, false}
use mathlib.Core.List.{List, [], ◌∷◌}
use native.Mathlib.Decide.{ℕ_discrete, dec_lt}
use native.Mathlib.Nat.{le_refl}
use native.Mathlib.Omega.{arith}
use lib.ListN.{length}
use Rattle.laws.specs.Pick.{pick}
use Rattle.laws.proofs.Order.{never}
use Rattle.circuits.specs.declared.Cause.{Cause}
use Rattle.streams.specs.Model.{Out, Shut, Via, Drops, Use, By, Through, Moving, Cell, Fate, Flying, Info, alter, hd, tl}
use Rattle.streams.specs.Events.{Cursor, Idle, At, Ghost, head_to}
use Rattle.streams.proofs.Basics.{alter_hit, alter_miss, Streams, Good, head_to_other, head_to_none, heads_at}
use Rattle.streams.proofs.Inv.{FedBy, Riding, Own, SendBy, OutBy, Made, CircBy, Unborn, Inv, Front, front_of_lem, fed_keep, circ_keep}
use Rattle.streams.proofs.Inv.{flies, out_keep, SameCircuit, SamePort, send_keep}

-- a port that takes no link takes none after a token either
pub no_via : (b : Bool) (o : Out) → ((l : ℕ) → o ≡ Via l → ⊥) → (l : ℕ) → pick b Shut o ≡ Via l → ⊥
no_via true o h l z = never (cc)
no_via false o h l z = h l z

module _ (link : ℕ → Bool) (n : Moving) (g : Ghost) (iv : Inv link n g) where
  pub front_at_lem : (p x : ℕ) (r : List ℕ) → n.queue p ≡ x ∷ r → Front g.stream (g.cells p) (g.front p) (g.back p) x r
  front_at_lem p x r e = front_of_lem g.stream (n.queue p) (g.cells p) (g.front p) (g.back p) x r (iv.ports p) e

  -- a cell's circuit has been opened
  pub cell_known : (x : Cell) → Good g.stream x → (c : ℕ) → g.now ≤ c → c ≡ x.circuit → ⊥
  cell_known x gd c le e =
      let none = (iv.unborn c le).no_stream in
      let i : x.pos < length {A = ℕ} [] = rw (← e, none) at gd.inside in
      omega arith

  pub cell_born : (x : Cell) → Good g.stream x → x.circuit < g.now
  cell_born x gd =
      elim (dec_lt x.circuit g.now) [
        | yes h ↦ h
        | no ne ↦ absurd (cell_known x gd x.circuit (omega arith) refl)
      ]

  -- a head at the front of a port is where `loc` says
  pub head_at : (p x : ℕ) (r : List ℕ) → n.queue p ≡ x ∷ r → (hd (g.cells p)).pos ≡ 0 → g.loc (hd (g.cells p)).circuit ≡ suc p
  head_at p x r e = heads_at g.cells g.loc iv.head p (hd (g.cells p)) (tl (g.cells p)) (front_at_lem p x r e).is

  -- a circuit whose head is at a port that drops nothing is on its way
  pub flying_at : (c p : ℕ) → g.loc c ≡ suc p → ((q : Cause) → n.out p ≡ Drops q → ⊥) → g.fate c ≡ Flying
  flying_at c p e k =
      flies n.out g.front (g.stream c) (g.handed c) (g.loc c) (g.info c) g.now c p (g.fate c) e k (iv.circs c)

  pub flying_circ : (c : ℕ) → g.fate c ≡ Flying → (g.handed c ≡ []) × (c < g.now → Made (g.stream c) (g.info c))
  flying_circ c e = rw e at (iv.circs c)

  -- the first cell of a port that serves nothing is the head of a circuit that is still on its way
  pub record Begins (p : ℕ) : Type 0 where
    pub first : (hd (g.cells p)).pos ≡ 0
    pub at_port : g.loc (hd (g.cells p)).circuit ≡ suc p
    pub on_way : g.fate (hd (g.cells p)).circuit ≡ Flying

  pub begins : (p t : ℕ) (r : List ℕ) → n.queue p ≡ t ∷ r → n.out p ≡ Shut → Begins p
  begins p t r eq eo =
      let fi : g.front p ≡ Idle = rw eo at (iv.outs p) in
      let z : (hd (g.cells p)).pos ≡ 0 = rw fi at (front_at_lem p t r eq).fits in
      let there = head_at p t r eq z in
      record { first = z; at_port = there; on_way = flying_at (hd (g.cells p)).circuit p there (λ q d. never (cc)) }

  -- a circuit whose first token is at a port is on no line
  pub off_road : (c p : ℕ) → g.loc c ≡ suc p → g.way c ≡ 0
  off_road c p e =
      elim (ℕ_discrete (g.way c) 0) [
        | yes z ↦ z
        | no ne ↦ absurd (let u = (iv.ways c (omega arith)).no_port in omega arith)
      ]

  -- a cell that leaves a port changes nothing for those on a line
  pub ways_pop : (y : Cell) (c : ℕ) → 0 < g.way c → Riding (head_to 0 y g.loc c) (g.fate c) g.now c
  ways_pop y c h =
      let u = iv.ways c h in
      record { no_port = head_to_none y g.loc c u.no_port; no_fate = u.no_fate; known = u.known }

  -- so a fate that such a circuit gets is none of theirs
  pub ways_fate : (c p : ℕ) (f : Fate) → g.loc c ≡ suc p → (c' : ℕ) → 0 < g.way c' → alter g.fate c f c' ≡ Flying
  ways_fate c p f e c' h =
      let w = off_road c p e in
      alter_miss _ _ _ c' (λ m. let v : g.way c' ≡ 0 = rw m w in omega arith) ∙ (iv.ways c' h).no_fate

  -- a cell that goes from a port or a line to v is of no circuit that is unborn
  pub unborn_move : (v : ℕ) (y : Cell) → Good g.stream y → (c : ℕ) → g.now ≤ c
      → Unborn (g.stream c) (g.handed c) (head_to v y g.loc c) (g.fate c)
  unborn_move v y gd c le =
      let u = iv.unborn c le in
      let stays = head_to_other v y g.loc c (λ z. cell_known y gd c le (sym z.1)) in
      record { no_stream = u.no_stream; no_handed = u.no_handed; no_place = stays ∙ u.no_place; no_fate = u.no_fate }

  -- two senders' circuits differ
  pub apart : (e j c c' : ℕ) → Own c e g.info g.now → Own c' j g.info g.now → (j ≡ e → ⊥) → c' ≡ c → ⊥
  apart e j c c' o o' ne q = ne (sym o'.owned ∙ ap (λ (x : ℕ). (g.info x).sender) q ∙ o.owned)

  -- a circuit at v', after a change of some ports
  pub circ_same : (out' : ℕ → Out) (front' : ℕ → Cursor) (c v' : ℕ) → v' ≡ g.loc c
      → ((p : ℕ) (q : Cause) → n.out p ≡ Drops q → g.front p ≡ At c 0 → (out' p ≡ n.out p) × (front' p ≡ g.front p))
      → CircBy out' front' (g.stream c) (g.handed c) v' (g.info c) g.now c (g.fate c)
  circ_same out' front' c v' e k =
      circ_keep n.out g.front (g.stream c) (g.handed c) (g.loc c) (g.info c) g.now c out' front' v' (g.fate c) e k
      (iv.circs c)

  -- a sender, after a change that is not its own
  pub send_same : (holder' : ℕ → Use) (back' : ℕ → Cursor) (st' : Streams) (fate' : ℕ → Fate) (info' : ℕ → Info) (now' e : ℕ)
      → g.now ≤ now'
      → (Own (g.mine e) e g.info g.now → SameCircuit (g.mine e) g.stream st' g.fate fate' g.info info')
      → ((d : ℕ) → n.busy e ≡ Through d → link d ≡ false → g.holder d ≡ By e → SamePort d g.back back' g.holder holder')
      → SendBy link holder' back' (g.mine e) e st' fate' info' now' (n.busy e)
  send_same holder' back' st' fate' info' now' e le h k =
      send_keep link g.holder holder' g.back back' (g.mine e) e g.stream st' g.fate fate' g.info info' g.now now' le
      (n.busy e) h k (iv.send e)

  -- a fate changes, of a circuit that was on its way
  pub send_fate : (c : ℕ) (f : Fate) → g.fate c ≡ Flying → (e : ℕ)
      → SendBy link g.holder g.back (g.mine e) e g.stream (alter g.fate c f) g.info g.now (n.busy e)
  send_fate c f fl e =
      send_same g.holder g.back g.stream (alter g.fate c f) g.info g.now e (le_refl _)
      (λ ow. (refl, refl, λ k w. alter_miss _ _ _ _ (λ m. never (cc))))
      (λ d od lk hl. (refl, refl))

  pub out_fate : (c : ℕ) (f : Fate) → g.fate c ≡ Flying → (j : ℕ)
      → OutBy g.stream g.handed (alter g.fate c f) g.info j (n.out j) (g.front j)
  out_fate c f fl j =
      out_keep g.stream g.handed g.handed g.fate (alter g.fate c f) g.info j (n.out j) (g.front j)
      (λ c' v fc. (alter_miss _ _ _ c' (λ m. never (cc)), refl))
      (λ c' q fc. alter_miss _ _ _ c' (λ m. never (cc)))
      (iv.outs j)

  pub unborn_fate : (y : Cell) (f : Fate) → Good g.stream y → (c : ℕ) → g.now ≤ c → alter g.fate y.circuit f c ≡ Flying
  unborn_fate y f gd c le = alter_miss _ _ _ c (λ m. cell_known y gd c le m) ∙ (iv.unborn c le).no_fate

  -- port p alone changes what it serves
  module _ (p : ℕ) (o : Out) (f : Cursor) where
    pub circ_port : (c v' : ℕ) → v' ≡ g.loc c → ((q : Cause) → n.out p ≡ Drops q → g.front p ≡ At c 0 → ⊥)
        → CircBy (alter n.out p o) (alter g.front p f) (g.stream c) (g.handed c) v' (g.info c) g.now c (g.fate c)
    circ_port c v' e k =
        circ_same (alter n.out p o) (alter g.front p f) c v' e
        (λ j q d f0.
        let ne : j ≡ p → ⊥ = λ m. k q (rw m at d) (rw m at f0) in
        (alter_miss _ p _ j ne, alter_miss _ p _ j ne))

    -- and serves no link before
    module _ (away : (l : ℕ) → n.out p ≡ Via l → ⊥) where
      pub fed_away : (l : ℕ) → FedBy (alter n.out p o) (alter g.front p f) (g.tail l) l (n.user l)
      fed_away l =
          fed_keep n.out (alter n.out p o) g.front (alter g.front p f) (g.tail l) l (n.user l)
          (λ q z. let d : q ≡ p → ⊥ = λ m. away l (rw m at z) in (alter_miss _ p _ q d, alter_miss _ p _ q d))
          (iv.fed l)

      -- nor after
      pub used_away : ((l : ℕ) → o ≡ Via l → ⊥) → (q l : ℕ) → alter n.out p o q ≡ Via l → n.user l ≡ By q
      used_away none q l z =
          elim (ℕ_discrete q p) [
            | yes e ↦ absurd (none l (sym (alter_hit n.out p o q e) ∙ z))
            | no ne ↦ iv.used q l (sym (alter_miss n.out p o q ne) ∙ z)
          ]
