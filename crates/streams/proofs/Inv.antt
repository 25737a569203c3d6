-- THE INVARIANT of demand 3, and what keeps its parts. Each part speaks of one port and what feeds it: there is no path of hops, no sum
-- over ports, and nothing of settings, numbers, widths or routes. Assumes nothing.
use Prim.{Unit}
use Prim.Native.Nat.{ℕ, suc, ◌≤◌, ◌<◌}
use mathlib.Core.Path.{◌≡◌, refl, sym, ap, ◌∙◌}
use mathlib.Core.Bool.{Bool, true, false}
use mathlib.Core.List.{List, [], ◌∷◌, ◌++◌, append_assoc}
use native.Mathlib.Nat.{zero-add}
use native.Mathlib.Omega.{arith}
use lib.ListN.{length, take, length-append}
use lib.Seq.{take-append-le}
use Rattle.laws.proofs.Order.{never}
use Rattle.names.specs.declared.NodeNumber.{NodeNumber}
use Rattle.circuits.specs.declared.Cause.{Cause}
use Rattle.tokens.specs.Header.{Carried}
use Rattle.plans.specs.Plan.{size_of}
use Rattle.streams.specs.Model.{no_pause, body, Plain, Place, ToChannel, place_of, encode, Out, Shut, Via, Into, Drops, Use}
use Rattle.streams.specs.Model.{Nobody, By, Sender, Closed, Through, Direct, Moving, Cell, Fate, Flying}
use Rattle.streams.specs.Model.{Lost, Landed, Here, Info, alter}
use Rattle.streams.specs.Model.{hd, tl, pop, push, push_all, cells_of}
use Rattle.streams.specs.Events.{Cursor, Idle, At, Ghost, next}
use Rattle.streams.specs.Demand.{Names, tokens_of}
use Rattle.streams.proofs.Basics.{alter_same, alter_miss, at_or, Fits, Streams, Good, Chain, chain_snoc, chain_append, Grows}
use Rattle.streams.proofs.Basics.{chain_grow, norm, Heads, cells_chain}

-- A QUEUE
-- it holds its cells' tokens, and they are a chain from its front to its back
pub record PortOK (st : Streams) (q : List ℕ) (cs : List Cell) (f b : Cursor) : Type 0 where
  pub tokens : q ≡ tokens_of cs
  pub chain : Chain st f cs b

-- A LINK
-- in use by port p: what comes next at the line's back is what comes next at p's front
abbrev pub FedBy : (ℕ → Out) → (ℕ → Cursor) → Cursor → ℕ → Use → Type 0
FedBy out front b l Nobody = b ≡ Idle
FedBy out front b l (By p) = (out p ≡ Via l) × (b ≡ norm (front p))

-- the first token of a circuit is on a line: it is at no port, and the circuit is known and on its way
pub record Riding (v : ℕ) (f : Fate) (now c : ℕ) : Type 0 where
  pub no_port : v ≡ 0
  pub no_fate : f ≡ Flying
  pub known : c < now

-- A SENDER
-- an open sender's circuit is its own
pub record Own (c e : ℕ) (info : ℕ → Info) (now : ℕ) : Type 0 where
  pub owned : (info c).sender ≡ e
  pub known : c < now

-- through port d: the port expects the next place of its stream
pub record Open (back : ℕ → Cursor) (link : ℕ → Bool) (holder : ℕ → Use) (d c e : ℕ) (st : Streams) (info : ℕ → Info) (now : ℕ)
    : Type 0 where
  pub own : Own c e info now
  pub next_place : back d ≡ At c (length (st c))
  pub begun : 0 < length (st c)
  pub skips : 0 < (info c).skip
  pub tile : link d ≡ false
  pub held : holder d ≡ By e

-- within its node
pub record Local (ch c e : ℕ) (fate : ℕ → Fate) (info : ℕ → Info) (now : ℕ) : Type 0 where
  pub own : Own c e info now
  pub number : NodeNumber
  pub at_home : fate c ≡ Here number
  pub place : place_of (info c).dest ≡ ToChannel ch

abbrev pub SendBy : (ℕ → Bool) → (ℕ → Use) → (ℕ → Cursor) → ℕ → ℕ → Streams → (ℕ → Fate) → (ℕ → Info) → ℕ → Sender → Type 0
SendBy link holder back c e st fate info now Closed = Unit
SendBy link holder back c e st fate info now (Through d) = Open back link holder d c e st info now
SendBy link holder back c e st fate info now (Direct ch) = Local ch c e fate info now

-- A PORT'S CIRCUIT
-- one that hands: the first i of its stream have come out of the port
pub record Handing (st handed : Streams) (fate : ℕ → Fate) (info : ℕ → Info) (p : ℕ) (a : Place) (f : Cursor) : Type 0 where
  pub c : ℕ
  pub i : ℕ
  pub front : f ≡ At c i
  pub number : NodeNumber
  pub to : fate c ≡ Landed p number
  pub place : place_of (info c).dest ≡ a
  pub so_far : handed c ≡ body (info c).skip (take i (st c))
  pub past : (info c).skip ≤ i
  pub inside : i ≤ length (st c)

abbrev pub OutBy : Streams → Streams → (ℕ → Fate) → (ℕ → Info) → ℕ → Out → Cursor → Type 0
OutBy st handed fate info p Shut f = f ≡ Idle
OutBy st handed fate info p (Via l) f = (c : ℕ) × (i : ℕ) × (f ≡ At c i)
OutBy st handed fate info p (Into a) f = Handing st handed fate info p a f
OutBy st handed fate info p (Drops q) f = (c : ℕ) × (i : ℕ) × (f ≡ At c i) × (fate c ≡ Lost q)

-- A CIRCUIT
-- on its way it begins with its header
pub record Made (s : List ℕ) (o : Info) : Type 0 where
  pub more : List ℕ
  pub is : s ≡ encode o.width o.dest ++ more
  pub skips : o.skip ≡ size_of o.width
  pub carried : Carried o.width o.dest

-- what it has handed is the body of a front of its stream
pub record Handed (s h : List ℕ) (o : Info) : Type 0 where
  pub i : ℕ
  pub inside : i ≤ length s
  pub is : h ≡ body o.skip (take i s)

-- within its node: all that was put out is handed
pub record Told (s h : List ℕ) (o : Info) (k : NodeNumber) : Type 0 where
  pub all : h ≡ no_pause s
  pub skips : o.skip ≡ 0
  pub names : Names o k

-- by its fate: its stream s, what is handed h, where its head is v
abbrev pub CircBy : (ℕ → Out) → (ℕ → Cursor) → List ℕ → List ℕ → ℕ → Info → ℕ → ℕ → Fate → Type 0
CircBy out front s h v o now c Flying = (h ≡ []) × (c < now → Made s o)
CircBy out front s h v o now c (Lost q) = (h ≡ []) × ((p : ℕ) → v ≡ suc p → (out p ≡ Drops q) × (front p ≡ At c 0))
CircBy out front s h v o now c (Landed p k) = (v ≡ 0) × Handed s h o × Names o k
CircBy out front s h v o now c (Here k) = (v ≡ 0) × Told s h o k

-- not yet opened
pub record Unborn (s h : List ℕ) (v : ℕ) (f : Fate) : Type 0 where
  pub no_stream : s ≡ []
  pub no_handed : h ≡ []
  pub no_place : v ≡ 0
  pub no_fate : f ≡ Flying

module _ (link : ℕ → Bool) where
  pub record Inv (n : Moving) (g : Ghost) : Type 0 where
    pub ports : (p : ℕ) → PortOK g.stream (n.queue p) (g.cells p) (g.front p) (g.back p)
    -- cables agree at both ends
    pub cabled : (l m : ℕ) → n.cable l ≡ By m → (n.cable m ≡ By l) × (link m ≡ true)
    -- a line ends where the far port begins to be filled, and begins where the port that uses its link goes on
    pub lines : (l m : ℕ) → n.cable l ≡ By m → PortOK g.stream (n.line l) (g.on l) (g.back m) (g.tail l)
    pub unlined : (l : ℕ) → n.cable l ≡ Nobody → (n.line l ≡ []) × (g.on l ≡ [])
    pub fed : (l : ℕ) → FedBy n.out g.front (g.tail l) l (n.user l)
    pub unfed : (m : ℕ) → link m ≡ true → n.cable m ≡ Nobody → g.back m ≡ Idle
    -- by a link with no cable nothing has gone out: the port that uses it has the whole circuit still, from its first token
    pub unsent : (l : ℕ) → n.cable l ≡ Nobody → g.tail l ≡ Idle
    -- a port from the tile and its sender, a link and its user determine each other
    pub tiles : (d : ℕ) → link d ≡ false → g.holder d ≡ Nobody → g.back d ≡ Idle
    pub doors : (d e : ℕ) → g.holder d ≡ By e → n.busy e ≡ Through d
    pub used : (p l : ℕ) → n.out p ≡ Via l → n.user l ≡ By p
    pub send : (e : ℕ) → SendBy link g.holder g.back (g.mine e) e g.stream g.fate g.info g.now (n.busy e)
    -- the first token of a circuit is at one port or on one line at most
    pub head : Heads g.cells g.loc
    pub road : Heads g.on g.way
    pub ways : (c : ℕ) → 0 < g.way c → Riding (g.loc c) (g.fate c) g.now c
    pub outs : (p : ℕ) → OutBy g.stream g.handed g.fate g.info p (n.out p) (g.front p)
    pub circs : (c : ℕ) → CircBy n.out g.front (g.stream c) (g.handed c) (g.loc c) (g.info c) g.now c (g.fate c)
    pub unborn : (c : ℕ) → g.now ≤ c → Unborn (g.stream c) (g.handed c) (g.loc c) (g.fate c)

-- QUEUES
-- the front of one that is not empty
pub record Front (st : Streams) (cs : List Cell) (f b : Cursor) (x : ℕ) (r : List ℕ) : Type 0 where
  pub is : cs ≡ hd cs ∷ tl cs
  pub token : (hd cs).token ≡ x
  pub fits : Fits f (hd cs)
  pub good : Good st (hd cs)
  pub rest : Chain st (next (hd cs)) (tl cs) b
  pub tokens : r ≡ tokens_of (tl cs)

pub front_of_lem : (st : Streams) (q : List ℕ) (cs : List Cell) (f b : Cursor) (x : ℕ) (r : List ℕ) → PortOK st q cs f b → q ≡ x ∷ r
    → Front st cs f b x r
front_of_lem st q [] f b x r ok e = never (cc ok.tokens)
front_of_lem st q (y ∷ ys) f b x r ok e =
    record {
      is = refl;
      token = cc ok.tokens;
      fits = ok.chain.0;
      good = ok.chain.1;
      rest = ok.chain.2;
      tokens = cc ok.tokens;
    }

tokens_append : (cs ds : List Cell) → tokens_of (cs ++ ds) ≡ tokens_of cs ++ tokens_of ds
tokens_append [] ds = refl
tokens_append (y ∷ ys) ds = rw (tokens_append ys ds)

tokens_back : (c i : ℕ) (ts : List ℕ) → tokens_of (cells_of c i ts) ≡ ts
tokens_back c i [] = refl
tokens_back c i (t ∷ ts) = rw (tokens_back c (suc i) ts)

pub port_push : (st : Streams) (q : List ℕ) (cs : List Cell) (f b : Cursor) (x : Cell)
    → PortOK st q cs f b
    → Fits b x
    → Good st x
    → PortOK st (q ++ (x.token ∷ [])) (cs ++ (x ∷ [])) f (next x)
port_push st q cs f b x ok ft gd =
    record { tokens = rw (tokens_append cs (x ∷ []), ok.tokens); chain = chain_snoc st f cs b x ok.chain ft gd }

pub port_grow : (st st' : Streams) → Grows st st' → (q : List ℕ) (cs : List Cell) (f b : Cursor) → PortOK st q cs f b
    → PortOK st' q cs f b
port_grow st st' gr q cs f b ok = record { tokens = ok.tokens; chain = chain_grow st st' gr f cs b ok.chain }

-- all of them, after a change of one
module _ (st : Streams) (queue : ℕ → List ℕ) (cells : ℕ → List Cell) (front back : ℕ → Cursor)
    (ok : (j : ℕ) → PortOK st (queue j) (cells j) (front j) (back j)) where
  front_at_lem : (p x : ℕ) (r : List ℕ) → queue p ≡ x ∷ r → Front st (cells p) (front p) (back p) x r
  front_at_lem p x r e = front_of_lem st (queue p) (cells p) (front p) (back p) x r (ok p) e

  pub pops : (p x : ℕ) (r : List ℕ) → queue p ≡ x ∷ r → (j : ℕ)
      → PortOK st (pop queue p j) (pop cells p j) (alter front p (next (hd (cells p))) j) (back j)
  pops p x r e =
      let fr = front_at_lem p x r e in
      at_or _ p (simp alter_same (record { tokens = rw e fr.tokens; chain = fr.rest })) (λ j ne. simp alter_miss (ok j))

  pub pushes : (r : ℕ) (x : Cell) (t : ℕ) → x.token ≡ t → Fits (back r) x → Good st x → (j : ℕ)
      → PortOK st (push queue r t j) (push cells r x j) (front j) (alter back r (next x) j)
  pushes r x t e ft gd =
      let pushed = port_push st (queue r) (cells r) (front r) (back r) x (ok r) ft gd in
      at_or _ r (simp alter_same (rw (← e) pushed)) (λ j ne. simp alter_miss (ok j))

  pushes_more : (r c t : ℕ) (ts m : List ℕ) → back r ≡ Idle → st c ≡ (t ∷ ts) ++ m → Plain (t ∷ ts) → (j : ℕ)
      → PortOK st (push_all queue r (t ∷ ts) j) (push_all cells r (cells_of c 0 (t ∷ ts)) j) (front j) (alter back r (At c (suc (length ts))) j)
  pushes_more r c t ts m bi e pl =
      let ch = cells_chain st c 0 (t ∷ ts) m e pl in
      let cs = cells_of c 0 (t ∷ ts) in
      let end = At c (suc (length ts)) in
      let ch' : Chain st Idle cs end = (refl, ch.1, rw zero-add at ch.2) in
      at_or _ r
      (simp alter_same (record {
        tokens = rw (tokens_append (cells r) cs, tokens_back c 1 ts, (ok r).tokens);
        chain = chain_append st (front r) (cells r) Idle cs end (rw bi at (ok r).chain) ch';
      }))
      (λ j ne. simp alter_miss (ok j))

  -- a whole header
  pub pushes_all : (r c : ℕ) (hs : List ℕ) (t : ℕ) (ts m : List ℕ) → hs ≡ t ∷ ts → back r ≡ Idle → st c ≡ hs ++ m → Plain (t ∷ ts)
      → (j : ℕ)
      → PortOK st (push_all queue r hs j) (push_all cells r (cells_of c 0 hs) j) (front j) (alter back r (At c (length hs)) j)
  pushes_all r c hs t ts m e bi q pl = rw e (pushes_more r c t ts m bi (rw e at q) pl)

  -- a circuit is begun at the front
  pub refronts : (p x : ℕ) (r : List ℕ) → queue p ≡ x ∷ r → front p ≡ Idle → (j : ℕ)
      → PortOK st (queue j) (cells j) (alter front p (At (hd (cells p)).circuit 0) j) (back j)
  refronts p x r e fi =
      let fr = front_at_lem p x r e in
      let ft : Fits Idle (hd (cells p)) = rw fi at fr.fits in
      at_or _ p
      (simp alter_same (record { tokens = (ok p).tokens; chain = rw fr.is ((refl, ft), fr.good, fr.rest) }))
      (λ j ne. simp alter_miss (ok j))

-- LINKS
pub fed_keep : (out out' : ℕ → Out) (front front' : ℕ → Cursor) (b : Cursor) (l : ℕ) (u : Use)
    → ((p : ℕ) → out p ≡ Via l → (out' p ≡ out p) × (front' p ≡ front p))
    → FedBy out front b l u
    → FedBy out' front' b l u
fed_keep out out' front front' b l Nobody k h = h
fed_keep out out' front front' b l (By p) k h = let e = k p h.0 in (e.0 ∙ h.0, rw e.1 h.1)

-- CIRCUITS
module _ (out : ℕ → Out) (front : ℕ → Cursor) (s h : List ℕ) (v : ℕ) (o : Info) (now c : ℕ) where
  -- its head stands still, and so does what drops it
  pub circ_keep : (out' : ℕ → Out) (front' : ℕ → Cursor) (v' : ℕ) (f : Fate) → v' ≡ v
      → ((p : ℕ) (q : Cause) → out p ≡ Drops q → front p ≡ At c 0 → (out' p ≡ out p) × (front' p ≡ front p))
      → CircBy out front s h v o now c f
      → CircBy out' front' s h v' o now c f
  circ_keep out' front' v' Flying e k z = z
  circ_keep out' front' v' (Lost q) e k z =
      (z.0, λ p r. let w = z.1 p (sym e ∙ r) in let m = k p q w.0 w.1 in (m.0 ∙ w.0, m.1 ∙ w.1))
  circ_keep out' front' v' (Landed p n) e k z = (e ∙ z.0, z.1, z.2)
  circ_keep out' front' v' (Here n) e k z = (e ∙ z.0, z.1)

  -- its head is at a port that drops nothing: it is on its way
  pub flies : (p : ℕ) (f : Fate) → v ≡ suc p → ((q : Cause) → out p ≡ Drops q → ⊥) → CircBy out front s h v o now c f → f ≡ Flying
  flies p Flying e k z = refl
  flies p (Lost q) e k z = absurd (k q (z.1 p e).0)
  flies p (Landed r n) e k z = absurd (let w = z.0 in omega arith)
  flies p (Here n) e k z = absurd (let w = z.0 in omega arith)

  -- its head leaves a port, and goes nowhere
  pub circ_gone : (out' : ℕ → Out) (front' : ℕ → Cursor) (v' p : ℕ) (f : Fate) → v ≡ suc p → v' ≡ 0
      → CircBy out front s h v o now c f
      → CircBy out' front' s h v' o now c f
  circ_gone out' front' v' p Flying e e' z = z
  circ_gone out' front' v' p (Lost q) e e' z = (z.0, λ r w. absurd (omega arith))
  circ_gone out' front' v' p (Landed r n) e e' z = absurd (let w = z.0 in omega arith)
  circ_gone out' front' v' p (Here n) e e' z = absurd (let w = z.0 in omega arith)

  -- its stream grows; not for one within a node, whose tokens are handed as they are put out
  pub circ_grow : (m : List ℕ) (f : Fate) → ((k : NodeNumber) → f ≡ Here k → ⊥)
      → CircBy out front s h v o now c f
      → CircBy out front (s ++ m) h v o now c f
  circ_grow m Flying away z = (
    z.0,
    λ le.
        let w = z.1 le in
        record {
          more = w.more ++ m;
          is = rw (w.is, append_assoc (encode o.width o.dest) w.more m);
          skips = w.skips;
          carried = w.carried;
        },
  )
  circ_grow m (Lost q) away z = z
  circ_grow m (Landed p n) away z =
      let b = z.1.inside in
      let Front-same = take-append-le z.1.i s m b in
      (z.0, record { i = z.1.i; inside = rw length-append (omega arith); is = rw Front-same z.1.is }, z.2)
  circ_grow m (Here k) away z = absurd (away k refl)

  -- one more circuit is known
  pub circ_later : (o' : Info) (f : Fate) → (c ≡ now → ⊥) → o' ≡ o → CircBy out front s h v o now c f
      → CircBy out front s h v o' (suc now) c f
  circ_later o' f ne e z = rw e (go f z)
    where
      go : (f : Fate) → CircBy out front s h v o now c f → CircBy out front s h v o (suc now) c f
      go Flying z = (z.0, λ le. z.1 (omega arith))
      go (Lost q) z = z
      go (Landed p k) z = z
      go (Here k) z = z

-- WHAT PORTS DO
pub out_keep : (st handed handed' : Streams) (fate fate' : ℕ → Fate) (info : ℕ → Info) (p : ℕ) (o : Out) (f : Cursor)
    → ((c : ℕ) (v : NodeNumber) → fate c ≡ Landed p v → (fate' c ≡ fate c) × (handed' c ≡ handed c))
    → ((c : ℕ) (q : Cause) → fate c ≡ Lost q → fate' c ≡ fate c)
    → OutBy st handed fate info p o f
    → OutBy st handed' fate' info p o f
out_keep st handed handed' fate fate' info p Shut f k m z = z
out_keep st handed handed' fate fate' info p (Via l) f k m z = z
out_keep st handed handed' fate fate' info p (Into a) f k m z =
    let q = k z.c z.number z.to in
    record {
      c = z.c;
      i = z.i;
      front = z.front;
      number = z.number;
      to = q.0 ∙ z.to;
      place = z.place;
      so_far = q.1 ∙ z.so_far;
      past = z.past;
      inside = z.inside;
    }
out_keep st handed handed' fate fate' info p (Drops q) f k m z = (z.0, z.1, z.2, m z.0 q z.3 ∙ z.3)

-- streams only grow: what was true of their fronts stays; so do the openings of circuits that are known
pub out_grow : (st st' handed : Streams) (fate : ℕ → Fate) (info info' : ℕ → Info) (p : ℕ) (o : Out) (f : Cursor) → Grows st st'
    → ((c : ℕ) (v : NodeNumber) → fate c ≡ Landed p v → info' c ≡ info c)
    → OutBy st handed fate info p o f
    → OutBy st' handed fate info' p o f
out_grow st st' handed fate info info' p Shut f gr k z = z
out_grow st st' handed fate info info' p (Via l) f gr k z = z
out_grow st st' handed fate info info' p (Into a) f gr k z =
    let (m, q) = gr z.c in
    let e = k z.c z.number z.to in
    let b = z.inside in
    record {
      c = z.c;
      i = z.i;
      front = z.front;
      number = z.number;
      to = z.to;
      place = rw e z.place;
      so_far = rw (e, q, take-append-le z.i (st z.c) m b) z.so_far;
      past = rw e z.past;
      inside = rw (q, length-append) (omega arith);
    }
out_grow st st' handed fate info info' p (Drops q) f gr k z = z

-- SENDERS. What is said of one hangs on its own circuit and its own port alone
abbrev pub SameCircuit : ℕ → Streams → Streams → (ℕ → Fate) → (ℕ → Fate) → (ℕ → Info) → (ℕ → Info) → Type 0
SameCircuit c st st' fate fate' info info' =
    (st' c ≡ st c) × (info' c ≡ info c) × ((k : NodeNumber) → fate c ≡ Here k → fate' c ≡ fate c)

abbrev pub SamePort : ℕ → (ℕ → Cursor) → (ℕ → Cursor) → (ℕ → Use) → (ℕ → Use) → Type 0
SamePort d back back' holder holder' = (back' d ≡ back d) × (holder' d ≡ holder d)

own_later : (c e : ℕ) (info info' : ℕ → Info) (now now' : ℕ) → now ≤ now' → info' c ≡ info c → Own c e info now → Own c e info' now'
own_later c e info info' now now' le b w =
    let kn = w.known in
    record { owned = ap (λ (o : Info). o.sender) b ∙ w.owned; known = omega arith }

module _ (link : ℕ → Bool) (holder holder' : ℕ → Use) (back back' : ℕ → Cursor) (c e : ℕ) (st st' : Streams) (fate fate' : ℕ → Fate)
    (info info' : ℕ → Info) (now now' : ℕ) (le : now ≤ now') where
  pub send_keep : (o : Sender)
      → (Own c e info now → SameCircuit c st st' fate fate' info info')
      → ((d : ℕ) → o ≡ Through d → link d ≡ false → holder d ≡ By e → SamePort d back back' holder holder')
      → SendBy link holder back c e st fate info now o
      → SendBy link holder' back' c e st' fate' info' now' o
  send_keep Closed h k z = z
  send_keep (Through d) h k z =
      let (a, b, f) = h z.own in
      let (q, r) = k d refl z.tile z.held in
      record {
        own = own_later c e info info' now now' le b z.own;
        next_place = rw (q, a) z.next_place;
        begun = rw a z.begun;
        skips = rw b z.skips;
        tile = z.tile;
        held = r ∙ z.held;
      }
  send_keep (Direct ch) h k z =
      let (a, b, f) = h z.own in
      record {
        own = own_later c e info info' now now' le b z.own;
        number = z.number;
        at_home = f z.number z.at_home ∙ z.at_home;
        place = rw b z.place;
      }
