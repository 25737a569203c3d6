-- DEMAND 3: what is promised of the books after any run of calls from Fresh or blank, sentence by sentence of the order (`Demand3`), and
-- that the books are the bench's (`Ties`). `bench_3` in proofs/Faithfully.antt is the theorem.
use Rattle.std.specs.Prelude.{ℕ, zero, suc, ◌<◌, ◌≡◌, Bool, true, List, [], ◌∷◌, ◌++◌, map, eqb, ltb, length, take, drop, get_or}
use Rattle.laws.specs.All.{Each}
use Rattle.laws.specs.Pick.{pick}
use Rattle.names.specs.Size.{links, ports, ends, unit_buffer}
use Rattle.names.specs.declared.NodeNumber.{NodeNumber}
use Rattle.circuits.specs.Circuit.{peer_of}
use Rattle.circuits.specs.declared.Cause.{Cause}
use Rattle.circuits.specs.declared.Cause.TheVariants.{Split}
use Rattle.circuits.specs.declared.Peer.TheVariants.{Port}
use Rattle.tokens.specs.Word.{is_header, is_three, wide}
use Rattle.tokens.specs.Header.{compared}
use Rattle.lines.specs.Load as Load
use Rattle.cells.specs.World.{World, queue, line_from}
use Rattle.plans.specs.Plan.{number_in}
use Rattle.streams.specs.Model.{body, place_of, ToUnit, port_no, door_no, node_of_port, node_of_door, end_at, Cell, Fate, Flying, Lost}
use Rattle.streams.specs.Model.{Landed, Here, Info, Given, Books, Notes, hd}

-- A CIRCUIT
-- the destination named that number, in the bits that its width compares
abbrev pub Names : Info → NodeNumber → Type 0
Names o k = compared o.width (number_in o.dest) ≡ compared o.width k

-- of circuit c
pub record Faithful (g : Books) (c : ℕ) : Type 0 where
  pub how_many : ℕ
  pub in_order : g.handed c ≡ take how_many (body (g.info c).skip (g.stream c))
  -- where it landed: the node had that number when its switch read the header
  pub landed : (p : ℕ) (k : NodeNumber) → g.fate c ≡ Landed p k → Names (g.info c) k
  -- within a node: it had that number when the circuit was opened
  pub at_home : (k : NodeNumber) → g.fate c ≡ Here k → Names (g.info c) k
  pub not_yet : g.fate c ≡ Flying → g.handed c ≡ []
  pub refused : (q : Cause) → g.fate c ≡ Lost q → g.handed c ≡ []

-- A DOOR
-- a circuit's tokens among those that a door was handed
abbrev pub of : ℕ → List Given → List ℕ
of c [] = []
of c (x ∷ xs) = pick (eqb x.circuit c) (x.token ∷ of c xs) (of c xs)

-- what a door has of a circuit that has handed h: all of it, if it is the destination's door at the node that its fate names; else nothing
abbrev pub share : ℕ → Info → Fate → List ℕ → List ℕ
share d o Flying h = []
share d o (Lost q) h = []
share d o (Landed p k) h = pick (eqb (end_at (node_of_port p) (place_of o.dest)) d) h []
share d o (Here k) h = pick (eqb (end_at (node_of_door o.sender) (place_of o.dest)) d) h []

-- THE ORDER'S SENTENCES, of the books, and of the circuits whose header a switch of the other width has read
pub record Demand3 (k : Books) (other : ℕ → Bool) : Type 0 where
  -- "the tokens that a channel-end was handed by one circuit are the first so many that its sender put out on that circuit after its
  -- header, pauses left out, in order"; "the sender's destination, as it stood when it opened the circuit, named .. in the bits compared,
  -- the number that the node had when the circuit opened to it"
  pub circuits : (c : ℕ) → Faithful k c
  -- ".. named that channel"
  pub doors : (c d : ℕ) → of c (k.log d) ≡ share d (k.info c) (k.fate c) (k.handed c)
  -- "a circuit is refused as Split exactly when a switch of the other header width reads its header, and it then hands nothing to any
  -- channel-end or control unit"
  pub split : (c : ℕ) → k.fate c ≡ Lost Split → other c ≡ true
  pub split_so : (c : ℕ) → other c ≡ true → (k.fate c ≡ Lost Split) × (k.handed c ≡ [])

-- THE BOOKS ARE THE BENCH'S
-- what a door has put out, by the books: the streams of its circuits among the first m, without their headers, in their order
abbrev pub sent_in : (ℕ → Info) → (ℕ → List ℕ) → ℕ → ℕ → List ℕ
sent_in info stream d zero = []
sent_in info stream d (suc c) = sent_in info stream d c ++ pick (eqb (info c).sender d) (drop (info c).skip (stream c)) []

abbrev pub sent_by : Books → ℕ → List ℕ
sent_by k d = sent_in k.info k.stream d k.now

-- what a door was handed, in the order of the run
abbrev pub tokens_given : List Given → List ℕ
tokens_given xs = map (λ (x : Given). x.token) xs

-- what a channel-end holds, oldest first, and what a control unit has heard of the message that it hears
abbrev pub held_at : World → ℕ → ℕ → List ℕ
held_at w n e = take (w.net.ends.buffers n e).held (w.net.ends.buffers n e).tokens

abbrev pub heard_at : World → ℕ → List ℕ
heard_at w n = take (w.net.units.hearings n 0).heard (w.net.units.hearings n 0).tokens

-- the control unit of node n, which serves port p, has heard what one circuit has handed that landed there: at most eleven tokens of it
pub record Hears (w : World) (k : Books) (n p : ℕ) : Type 0 where
  pub circuit : ℕ
  pub number : NodeNumber
  pub landed : k.fate circuit ≡ Landed (port_no n p) number
  pub named : place_of (k.info circuit).dest ≡ ToUnit
  pub words : heard_at w n ≡ take unit_buffer (k.handed circuit)
  -- what it will hear next is of that circuit too
  pub next : (x : ℕ) (q : List ℕ) → queue w n p ≡ x ∷ q → (hd (k.cells (port_no n p))).circuit ≡ circuit

-- cells with their marks taken off
abbrev pub tokens_of : List Cell → List ℕ
tokens_of cs = map (λ (x : Cell). x.token) cs

-- the token t at place i of a circuit's stream: if it is of the header it bears the mark and the circuit's width; no other bears the mark
abbrev pub Marked : Info → ℕ → ℕ → Type 0
Marked o i t = (is_header t ≡ ltb i o.skip) × (is_header t ≡ true → is_three t ≡ wide o.width)

-- a token on its way is the very one that was put out, its mark with it
pub record Intact (k : Books) (x : Cell) : Type 0 where
  pub inside : x.pos < length (k.stream x.circuit)
  pub same : get_or (k.stream x.circuit) x.pos 0 ≡ x.token
  pub marked : Marked (k.info x.circuit) x.pos x.token

pub record Ties (w : World) (k : Books) (o : Notes) : Type 0 where
  -- senders: what a channel-end's circuits have put out is what its Outputs were given that answered Done (that a circuit's destination
  -- is what the latest Aim gave is how the observer writes it)
  pub sent : (n e : ℕ) → e < ends → o.put (door_no n e) ≡ sent_by k (door_no n e)
  -- receivers: all that a channel-end was handed is what Input took, then what it holds
  pub received : (n e : ℕ) → e < ends → tokens_given (k.log (door_no n e)) ≡ o.taken (door_no n e) ++ held_at w n e
  pub heard : (n p : ℕ) → n < w.net.nodes → peer_of (w.net.units.serving n 0) ≡ Port p → Hears w k n p
  -- on the way: each port's tokens are its cells, and so are those on each line, between two ports
  pub held : (n p : ℕ) → p < ports → queue w n p ≡ tokens_of (k.cells (port_no n p))
  pub lines : (n l : ℕ) → l < links → Load.tokens_of (line_from w n l) ≡ tokens_of (k.on (port_no n l))
  pub intact : (p : ℕ) → Each (Intact k) (k.cells p)
  pub carried : (l : ℕ) → Each (Intact k) (k.on l)
