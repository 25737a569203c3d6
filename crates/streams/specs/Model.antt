-- The moving parts of a network without its settings, and the books that an observer of a run keeps of them. A token is a word of token
-- memory. Ports and doors are numbered through all slots. Demand.antt says what is promised of the books.
use Rattle.std.specs.Prelude.{ℕ, suc, ◌+◌, ◌*◌, ◌/◌, ◌%◌, ◌≡◌, Bool, false, List, [], ◌∷◌, ◌++◌, eqb, ltb, drop, get_or}
use Rattle.laws.specs.All.{Each}
use Rattle.laws.specs.Pick.{pick}
use Rattle.names.specs.Size.{links, ports, ends}
use Rattle.names.specs.declared.NodeNumber.{NodeNumber}
use Rattle.circuits.specs.declared.Cause.{Cause}
use Rattle.tokens.specs.Word.{closes, is_pause}
use Rattle.tokens.specs.Header.{words, header_of, read_one, read_three}
use Rattle.tokens.specs.declared.header.Width.{Width}
use Rattle.tokens.specs.declared.header.Width.TheVariants.{One, Three}
use Rattle.tokens.specs.declared.header.Target.{Target}
use Rattle.tokens.specs.declared.header.Target.TheVariants as Targets

-- TOKENS
-- PAUSE is never handed on
abbrev pub keeps : ℕ → List ℕ
keeps t = pick (is_pause t) [] (t ∷ [])

abbrev pub no_pause : List ℕ → List ℕ
no_pause [] = []
no_pause (t ∷ ts) = keeps t ++ no_pause ts

-- what follows the k header tokens, pauses left out
abbrev pub body : ℕ → List ℕ → List ℕ
body k s = no_pause (drop k s)

-- none of them closes
abbrev pub Plain : List ℕ → Type 0
Plain ts = Each (λ t. closes t ≡ false) ts

-- HEADERS
-- where in a node a destination is: a channel, of which the sink is one, or the control unit
pub data Place : Type 0 where
  ToChannel : ℕ → Place
  ToUnit : Place

abbrev pub place_of : Target → Place
place_of (Targets.Channel n c) = ToChannel c
place_of (Targets.Unit n) = ToUnit

-- the tokens of the header of a destination
abbrev pub encode : Width → Target → List ℕ
encode w d = words (header_of d w)

-- what a switch of that width reads in the tokens of a whole header
abbrev pub read_in : Width → List ℕ → Target
read_in One hs = read_one (get_or hs 0 0)
read_in Three hs = read_three (get_or hs 0 0) (get_or hs 1 0) (get_or hs 2 0)

-- PORTS AND DOORS. A door is where tokens are put out and handed: a node's channel-ends, then its control unit, then its sink
abbrev pub port_no : ℕ → ℕ → ℕ
port_no n p = n * ports + p

abbrev pub doors_each : ℕ
doors_each = ends + 2

abbrev pub door_no : ℕ → ℕ → ℕ
door_no n d = n * doors_each + d

abbrev pub unit_door : ℕ
unit_door = ends

abbrev pub sink_door : ℕ
sink_door = ends + 1

-- the node that has it
abbrev pub node_of_port : ℕ → ℕ
node_of_port p = p / ports

abbrev pub node_of_door : ℕ → ℕ
node_of_door d = d / doors_each

-- a port to which a cable can come
abbrev pub is_link : ℕ → Bool
is_link p = ltb (p % ports) links

-- the door of a place of a node
abbrev pub end_at : ℕ → Place → ℕ
end_at n (ToChannel c) = door_no n (pick (ltb c ends) c sink_door)
end_at n ToUnit = door_no n unit_door

-- THE NETWORK
-- where a port's circuit goes: there is none, over a link, to a place of this node, nowhere
pub data Out : Type 0 where
  Shut : Out
  Via : ℕ → Out
  Into : Place → Out
  Drops : Cause → Out

-- who uses a link, a cable's other end, who holds a port
pub data Use : Type 0 where
  Nobody : Use
  By : ℕ → Use

-- a sender: closed, sending through a port, or straight to a channel of its own node
pub data Sender : Type 0 where
  Closed : Sender
  Through : ℕ → Sender
  Direct : ℕ → Sender

pub record Moving : Type 0 where
  -- of a port: its tokens, its circuit
  pub queue : ℕ → List ℕ
  pub out : ℕ → Out
  -- of a link: the port that uses it
  pub user : ℕ → Use
  -- of a door: the circuit that it has opened
  pub busy : ℕ → Sender
  -- of a link: the other end of its cable, and what is on its way there
  pub cable : ℕ → Use
  pub line : ℕ → List ℕ

-- THE BOOKS. Circuits are numbered as they are opened
-- a token with its circuit and its place in the circuit's stream
pub record Cell : Type 0 where
  pub token : ℕ
  pub circuit : ℕ
  pub pos : ℕ

pub data Fate : Type 0 where
  Flying : Fate
  Lost : Cause → Fate
  -- the port, and the number that the node had when the header was read
  Landed : ℕ → NodeNumber → Fate
  -- within a node: its number when the circuit was opened
  Here : NodeNumber → Fate

-- a circuit at its opening; skip is how many tokens its header has
pub record Info : Type 0 where
  pub sender : ℕ
  pub dest : Target
  pub width : Width
  pub skip : ℕ

-- a token that a door was handed, and of which circuit
pub record Given : Type 0 where
  pub token : ℕ
  pub circuit : ℕ

pub record Books : Type 0 where
  -- of a port, and of the line that starts at a link
  pub cells : ℕ → List Cell
  pub on : ℕ → List Cell
  -- of a circuit: all that was put out, all that was handed, what became of it, its opening
  pub stream : ℕ → List ℕ
  pub handed : ℕ → List ℕ
  pub fate : ℕ → Fate
  pub info : ℕ → Info
  -- of a door: the circuit that it has opened last; how many there are
  pub mine : ℕ → ℕ
  pub now : ℕ
  -- of a door: what it was handed, in the order of the run
  pub log : ℕ → List Given

-- before any circuit
abbrev pub no_info : Info
no_info = record { sender = 0; dest = Targets.Unit (record { 0 = 0 }); width = Three; skip = 0 }

unfoldable pub no_books : Books
no_books =
    record {
      cells = λ p. [];
      on = λ l. [];
      stream = λ c. [];
      handed = λ c. [];
      fate = λ c. Flying;
      info = λ c. no_info;
      mine = λ e. 0;
      now = 0;
      log = λ d. [];
    }

-- NOTES: what an observer writes down who sees the calls and their answers, and nothing else
pub record Notes : Type 0 where
  -- of a channel-end, by its door: the destination that its latest Aim gave; all that its Outputs put out; all that Input took of it
  pub aimed : ℕ → Target
  pub put : ℕ → List ℕ
  pub taken : ℕ → List ℕ

abbrev pub no_notes : Notes
no_notes = record { aimed = λ e. Targets.Unit (record { 0 = 0 }); put = λ e. []; taken = λ e. [] }

-- WRITING
-- entry i is a, and every other is as it was
unfoldable pub alter {ℓ} : {A : Type ℓ} → (ℕ → A) → ℕ → A → ℕ → A
alter f i a j = pick (eqb j i) a (f j)

abbrev pub hd : List Cell → Cell
hd [] = record { token = 0; circuit = 0; pos = 0 }
hd (x ∷ xs) = x

abbrev pub tl {ℓ} : {A : Type ℓ} → List A → List A
tl [] = []
tl (x ∷ xs) = xs

-- off the front of a list of a table, and on to its back
abbrev pub pop {ℓ} : {A : Type ℓ} → (ℕ → List A) → ℕ → ℕ → List A
pop q p = alter q p (tl (q p))

abbrev pub push {ℓ} : {A : Type ℓ} → (ℕ → List A) → ℕ → A → ℕ → List A
push q p x = alter q p (q p ++ (x ∷ []))

abbrev pub push_all {ℓ} : {A : Type ℓ} → (ℕ → List A) → ℕ → List A → ℕ → List A
push_all q p xs = alter q p (q p ++ xs)

-- a circuit's tokens from a place on, as cells
abbrev pub cells_of : ℕ → ℕ → List ℕ → List Cell
cells_of c i [] = []
cells_of c i (t ∷ ts) = record { token = t; circuit = c; pos = i } ∷ cells_of c (suc i) ts

-- tokens of a circuit, as a door's log has them
abbrev pub marks : ℕ → List ℕ → List Given
marks c [] = []
marks c (t ∷ ts) = record { token = t; circuit = c } ∷ marks c ts
