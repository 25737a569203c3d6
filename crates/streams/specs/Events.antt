-- What can happen to tokens, for the proof: events, what each does to the network and to the books, and when it may happen. `Ghost` is the
-- books and, beside them, what only the proof wants. No function of the network takes a Ghost, and no statement names an event.
use Prim.{Unit}
use Rattle.std.specs.Prelude.{ℕ, suc, ◌≡◌, Bool, true, false, List, [], ◌∷◌, ◌++◌, eqb, length, drop, get_or}
use Rattle.laws.specs.Pick.{pick}
use Rattle.names.specs.declared.NodeNumber.{NodeNumber}
use Rattle.circuits.specs.declared.Cause.{Cause}
use Rattle.tokens.specs.Word.{closes, is_three, wide}
use Rattle.tokens.specs.Header.{compared, Carried}
use Rattle.tokens.specs.declared.header.Width.{Width}
use Rattle.tokens.specs.declared.header.Target.{Target}
use Rattle.plans.specs.Plan.{size_of, number_in}
use Rattle.streams.specs.Model.{keeps, Plain, Place, ToChannel, place_of, encode, read_in, node_of_port, node_of_door, end_at, Shut, Via}
use Rattle.streams.specs.Model.{Into, Drops, Use, Nobody, By, Closed, Through, Direct, Moving, Cell, Fate, Flying, Lost, Landed, Here}
use Rattle.streams.specs.Model.{Info, Given, Books, no_info, alter, hd, pop, push, push_all, cells_of, marks}

-- EVENTS. Doors, ports and links by their numbers through all slots, tokens, then the rest
pub data Event : Type 0 where
  -- the door opens a circuit through the port: its header goes in; then a token more
  Opens : (door port : ℕ) → Width → Target → Event
  Puts : (door port token : ℕ) → Event
  -- the door opens one within its node, whose number is given, to the channel; then a token, handed at once
  Starts : (door : ℕ) → NodeNumber → Width → Target → (channel : ℕ) → Event
  Tells : (door channel token : ℕ) → Event
  -- the port's circuit goes over the link
  Takes : (port link : ℕ) → Event
  -- the header, of that width and these tokens, is read and removed: the circuit goes to the place; the node has that number
  Lands : (port : ℕ) → Width → List ℕ → Place → NodeNumber → Event
  Refuses : (port : ℕ) → Cause → Event
  -- from the port on to the link's line; off the line's front into the far port
  Enters : (port link token : ℕ) → Event
  Arrives : (link far token : ℕ) → Event
  -- from the port to the place; from the port, forgotten
  Hands : (port : ℕ) → Place → (token : ℕ) → Event
  Loses : (port : ℕ) → Cause → (token : ℕ) → Event
  -- a cable between two links, in use or not
  Wires : (link far : ℕ) → Event

-- THE PROOF'S BOOKS
-- what comes next at an end of a queue: the first token of some circuit, or the i-th of circuit c
pub data Cursor : Type 0 where
  Idle : Cursor
  At : ℕ → ℕ → Cursor

pub record Ghost : Type 0 where
  pub cells : ℕ → List Cell
  pub on : ℕ → List Cell
  pub stream : ℕ → List ℕ
  pub handed : ℕ → List ℕ
  pub fate : ℕ → Fate
  pub info : ℕ → Info
  pub mine : ℕ → ℕ
  pub now : ℕ
  pub log : ℕ → List Given
  -- of a port: what comes next at its front and at its back; of a link: what comes next at its line's back
  pub front : ℕ → Cursor
  pub back : ℕ → Cursor
  pub tail : ℕ → Cursor
  -- of a circuit: the port, the line where its first token is, one more than its number; 0 for none
  pub loc : ℕ → ℕ
  pub way : ℕ → ℕ
  -- of a port: the door that has a circuit through it
  pub holder : ℕ → Use

abbrev pub books_of : Ghost → Books
books_of g =
    record {
      cells = g.cells;
      on = g.on;
      stream = g.stream;
      handed = g.handed;
      fate = g.fate;
      info = g.info;
      mine = g.mine;
      now = g.now;
      log = g.log;
    }

abbrev pub after : Bool → ℕ → ℕ → Cursor
after true c i = Idle
after false c i = At c (suc i)

-- what comes after a cell
abbrev pub next : Cell → Cursor
next x = after (closes x.token) x.circuit x.pos

-- the cell, if it is the first of its circuit, is now at v
unfoldable pub head_to : ℕ → Cell → (ℕ → ℕ) → ℕ → ℕ
head_to v x loc = pick (eqb x.pos 0) (alter loc x.circuit v) loc

-- WHAT AN EVENT DOES
unfoldable pub effect : Event → Moving → Moving
effect (Opens e d w a) n =
    record {
      queue = push_all n.queue d (encode w a);
      out = n.out;
      user = n.user;
      busy = alter n.busy e (Through d);
      cable = n.cable;
      line = n.line;
    }
effect (Puts e d t) n =
    record {
      queue = push n.queue d t;
      out = n.out;
      user = n.user;
      busy = alter n.busy e (pick (closes t) Closed (Through d));
      cable = n.cable;
      line = n.line;
    }
effect (Starts e k w a ch) n =
    record {
      queue = n.queue;
      out = n.out;
      user = n.user;
      busy = alter n.busy e (Direct ch);
      cable = n.cable;
      line = n.line;
    }
effect (Tells e ch t) n =
    record {
      queue = n.queue;
      out = n.out;
      user = n.user;
      busy = alter n.busy e (pick (closes t) Closed (Direct ch));
      cable = n.cable;
      line = n.line;
    }
effect (Takes p l) n =
    record {
      queue = n.queue;
      out = alter n.out p (Via l);
      user = alter n.user l (By p);
      busy = n.busy;
      cable = n.cable;
      line = n.line;
    }
effect (Lands p w hs a k) n =
    record {
      queue = alter n.queue p (drop (length hs) (n.queue p));
      out = alter n.out p (Into a);
      user = n.user;
      busy = n.busy;
      cable = n.cable;
      line = n.line;
    }
effect (Refuses p q) n =
    record {
      queue = n.queue;
      out = alter n.out p (Drops q);
      user = n.user;
      busy = n.busy;
      cable = n.cable;
      line = n.line;
    }
effect (Enters p l x) n =
    record {
      queue = pop n.queue p;
      out = alter n.out p (pick (closes x) Shut (Via l));
      user = alter n.user l (pick (closes x) Nobody (By p));
      busy = n.busy;
      cable = n.cable;
      line = push n.line l x;
    }
effect (Arrives l m x) n =
    record {
      queue = push n.queue m x;
      out = n.out;
      user = n.user;
      busy = n.busy;
      cable = n.cable;
      line = pop n.line l;
    }
effect (Hands p a x) n =
    record {
      queue = pop n.queue p;
      out = alter n.out p (pick (closes x) Shut (Into a));
      user = n.user;
      busy = n.busy;
      cable = n.cable;
      line = n.line;
    }
effect (Loses p q x) n =
    record {
      queue = pop n.queue p;
      out = alter n.out p (pick (closes x) Shut (Drops q));
      user = n.user;
      busy = n.busy;
      cable = n.cable;
      line = n.line;
    }
effect (Wires l m) n =
    record {
      queue = n.queue;
      out = n.out;
      user = n.user;
      busy = n.busy;
      cable = alter (alter n.cable l (By m)) m (By l);
      line = n.line;
    }

unfoldable pub note : Event → Ghost → Ghost
note (Opens e d w a) g =
    let c = g.now in
    let hs = encode w a in
    record {
      cells = push_all g.cells d (cells_of c 0 hs);
      on = g.on;
      stream = alter g.stream c hs;
      handed = g.handed;
      fate = g.fate;
      info = alter g.info c (record { sender = e; dest = a; width = w; skip = size_of w });
      mine = alter g.mine e c;
      now = suc c;
      log = g.log;
      front = g.front;
      back = alter g.back d (At c (size_of w));
      tail = g.tail;
      loc = alter g.loc c (suc d);
      way = g.way;
      holder = alter g.holder d (By e);
    }
note (Puts e d t) g =
    let c = g.mine e in
    let x : Cell = record { token = t; circuit = c; pos = length (g.stream c) } in
    record {
      cells = push g.cells d x;
      on = g.on;
      stream = alter g.stream c (g.stream c ++ (t ∷ []));
      handed = g.handed;
      fate = g.fate;
      info = g.info;
      mine = g.mine;
      now = g.now;
      log = g.log;
      front = g.front;
      back = alter g.back d (next x);
      tail = g.tail;
      loc = g.loc;
      way = g.way;
      holder = alter g.holder d (pick (closes t) Nobody (By e));
    }
note (Starts e k w a ch) g =
    let c = g.now in
    record {
      cells = g.cells;
      on = g.on;
      stream = g.stream;
      handed = g.handed;
      fate = alter g.fate c (Here k);
      info = alter g.info c (record { sender = e; dest = a; width = w; skip = 0 });
      mine = alter g.mine e c;
      now = suc c;
      log = g.log;
      front = g.front;
      back = g.back;
      tail = g.tail;
      loc = g.loc;
      way = g.way;
      holder = g.holder;
    }
note (Tells e ch t) g =
    let c = g.mine e in
    record {
      cells = g.cells;
      on = g.on;
      stream = alter g.stream c (g.stream c ++ (t ∷ []));
      handed = alter g.handed c (g.handed c ++ keeps t);
      fate = g.fate;
      info = g.info;
      mine = g.mine;
      now = g.now;
      log = push_all g.log (end_at (node_of_door e) (ToChannel ch)) (marks c (keeps t));
      front = g.front;
      back = g.back;
      tail = g.tail;
      loc = g.loc;
      way = g.way;
      holder = g.holder;
    }
note (Takes p l) g =
    record {
      cells = g.cells;
      on = g.on;
      stream = g.stream;
      handed = g.handed;
      fate = g.fate;
      info = g.info;
      mine = g.mine;
      now = g.now;
      log = g.log;
      front = alter g.front p (At (hd (g.cells p)).circuit 0);
      back = g.back;
      tail = g.tail;
      loc = g.loc;
      way = g.way;
      holder = g.holder;
    }
note (Lands p w hs a k) g =
    let y = hd (g.cells p) in
    record {
      cells = alter g.cells p (drop (length hs) (g.cells p));
      on = g.on;
      stream = g.stream;
      handed = g.handed;
      fate = alter g.fate y.circuit (Landed p k);
      info = g.info;
      mine = g.mine;
      now = g.now;
      log = g.log;
      front = alter g.front p (At y.circuit (length hs));
      back = g.back;
      tail = g.tail;
      loc = head_to 0 y g.loc;
      way = g.way;
      holder = g.holder;
    }
note (Refuses p q) g =
    record {
      cells = g.cells;
      on = g.on;
      stream = g.stream;
      handed = g.handed;
      fate = alter g.fate (hd (g.cells p)).circuit (Lost q);
      info = g.info;
      mine = g.mine;
      now = g.now;
      log = g.log;
      front = alter g.front p (At (hd (g.cells p)).circuit 0);
      back = g.back;
      tail = g.tail;
      loc = g.loc;
      way = g.way;
      holder = g.holder;
    }
note (Enters p l x) g =
    let y = hd (g.cells p) in
    record {
      cells = pop g.cells p;
      on = push g.on l y;
      stream = g.stream;
      handed = g.handed;
      fate = g.fate;
      info = g.info;
      mine = g.mine;
      now = g.now;
      log = g.log;
      front = alter g.front p (next y);
      back = g.back;
      tail = alter g.tail l (next y);
      loc = head_to 0 y g.loc;
      way = head_to (suc l) y g.way;
      holder = g.holder;
    }
note (Arrives l m x) g =
    let y = hd (g.on l) in
    record {
      cells = push g.cells m y;
      on = pop g.on l;
      stream = g.stream;
      handed = g.handed;
      fate = g.fate;
      info = g.info;
      mine = g.mine;
      now = g.now;
      log = g.log;
      front = g.front;
      back = alter g.back m (next y);
      tail = g.tail;
      loc = head_to (suc m) y g.loc;
      way = head_to 0 y g.way;
      holder = g.holder;
    }
note (Hands p a x) g =
    let y = hd (g.cells p) in
    record {
      cells = pop g.cells p;
      on = g.on;
      stream = g.stream;
      handed = alter g.handed y.circuit (g.handed y.circuit ++ keeps x);
      fate = g.fate;
      info = g.info;
      mine = g.mine;
      now = g.now;
      log = push_all g.log (end_at (node_of_port p) a) (marks y.circuit (keeps x));
      front = alter g.front p (next y);
      back = g.back;
      tail = g.tail;
      loc = head_to 0 y g.loc;
      way = g.way;
      holder = g.holder;
    }
note (Loses p q x) g =
    let y = hd (g.cells p) in
    record {
      cells = pop g.cells p;
      on = g.on;
      stream = g.stream;
      handed = g.handed;
      fate = g.fate;
      info = g.info;
      mine = g.mine;
      now = g.now;
      log = g.log;
      front = alter g.front p (next y);
      back = g.back;
      tail = g.tail;
      loc = head_to 0 y g.loc;
      way = g.way;
      holder = g.holder;
    }
note (Wires l m) g = g

-- one after the other
abbrev pub effects : List Event → Moving → Moving
effects [] n = n
effects (v ∷ vs) n = effects vs (effect v n)

abbrev pub notes : List Event → Ghost → Ghost
notes [] g = g
notes (v ∷ vs) g = notes vs (note v g)

-- before all of them
unfoldable pub empty : Moving
empty =
    record {
      queue = λ p. [];
      out = λ p. Shut;
      user = λ l. Nobody;
      busy = λ e. Closed;
      cable = λ l. Nobody;
      line = λ l. [];
    }

unfoldable pub new_ghost : Ghost
new_ghost =
    record {
      cells = λ p. [];
      on = λ l. [];
      stream = λ c. [];
      handed = λ c. [];
      fate = λ c. Flying;
      info = λ c. no_info;
      mine = λ e. 0;
      now = 0;
      log = λ d. [];
      front = λ p. Idle;
      back = λ p. Idle;
      tail = λ l. Idle;
      loc = λ c. 0;
      way = λ c. 0;
      holder = λ d. Nobody;
    }

-- WHEN IT MAY HAPPEN
-- the tokens at the front of a queue are a whole header of that width, and a switch of it reads there the place and, in the bits compared,
-- the number
pub record Landing (q : List ℕ) (w : Width) (hs : List ℕ) (a : Place) (k : NodeNumber) : Type 0 where
  pub rest : List ℕ
  pub is : q ≡ hs ++ rest
  pub size : length hs ≡ size_of w
  pub plain : Plain hs
  pub marked : is_three (get_or hs 0 0) ≡ wide w
  pub bits : compared w (number_in (read_in w hs)) ≡ compared w k
  pub place : place_of (read_in w hs) ≡ a

-- which of the ports are links
module _ (link : ℕ → Bool) where
  abbrev pub Ok : Moving → Event → Type 0
  Ok n (Opens e d w a) =
      (n.busy e ≡ Closed) × (link d ≡ false) × ((j : ℕ) → n.busy j ≡ Through d → ⊥) × Carried w a
  Ok n (Puts e d t) = n.busy e ≡ Through d
  Ok n (Starts e k w a ch) =
      (n.busy e ≡ Closed) × (place_of a ≡ ToChannel ch) × (compared w (number_in a) ≡ compared w k)
  Ok n (Tells e ch t) = n.busy e ≡ Direct ch
  Ok n (Takes p l) = (t : ℕ) × (r : List ℕ) × (n.queue p ≡ t ∷ r) × (n.out p ≡ Shut) × (n.user l ≡ Nobody)
  Ok n (Lands p w hs a k) = Landing (n.queue p) w hs a k × (n.out p ≡ Shut)
  Ok n (Refuses p q) = (t : ℕ) × (r : List ℕ) × (n.queue p ≡ t ∷ r) × (n.out p ≡ Shut)
  Ok n (Enters p l x) =
      (r : List ℕ) × (n.queue p ≡ x ∷ r) × (n.out p ≡ Via l) × ((m : ℕ) × (n.cable l ≡ By m))
  Ok n (Arrives l m x) = (r : List ℕ) × (n.line l ≡ x ∷ r) × (n.cable l ≡ By m)
  Ok n (Hands p a x) = (r : List ℕ) × (n.queue p ≡ x ∷ r) × (n.out p ≡ Into a)
  Ok n (Loses p q x) = (r : List ℕ) × (n.queue p ≡ x ∷ r) × (n.out p ≡ Drops q)
  Ok n (Wires l m) =
      (l ≡ m → ⊥) × (link l ≡ true) × (link m ≡ true)
      × (n.cable l ≡ Nobody) × (n.cable m ≡ Nobody)

  -- each, after those before it
  abbrev pub OkAll : List Event → Moving → Type 0
  OkAll [] n = Unit
  OkAll (v ∷ vs) n = Ok n v × OkAll vs (effect v n)
