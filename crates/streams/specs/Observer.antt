-- THE OBSERVER: what a person beside the bench writes down of each call, who sees the state before it, the call and its answer, and has his
-- own notes: no plan, no event, nothing that a header says. Document 01 is all that he knows: an Output that is done opens a circuit where
-- the channel-end had none, within the node or through the lowest free port; a Step that answers Moved takes the port's first word; a line
-- step that takes one off takes the first word on the line (document 02, Ask 4).
-- A list of steps he sees as its Steps, each with the state before it and its result (Statement.antt): of `Steps` itself nothing is
-- written here.
use Rattle.std.specs.Prelude.{ℕ, suc, Bool, true, false, not, ◌&&◌, List, [], ◌∷◌, ◌++◌, leb, length, drop}
use Rattle.laws.specs.Pick.{pick}
use Rattle.names.specs.Size.{reply_port}
use Rattle.names.specs.declared.NodeNumber.{NodeNumber}
use Rattle.circuits.specs.Circuit.{peer_of}
use Rattle.circuits.specs.declared.Cause.{Cause}
use Rattle.circuits.specs.declared.Hop.{Hop}
use Rattle.circuits.specs.declared.Hop.TheVariants as Hops
use Rattle.circuits.specs.declared.Peer.{Peer}
use Rattle.circuits.specs.declared.Peer.TheVariants as Peers
use Rattle.tokens.specs.Control.{end}
use Rattle.tokens.specs.Word.{closes, data_word, control_word}
use Rattle.tokens.specs.declared.header.Width.{Width}
use Rattle.tokens.specs.declared.header.Target.{Target}
use Rattle.tokens.specs.declared.header.Target.TheVariants.{Channel, Unit}
use Rattle.routing.specs.Way.{way_to, Way, ThisNode, OtherNode}
use Rattle.answers.specs.Answered.{Answered}
use Rattle.answers.specs.Answered as Answers
use Rattle.cells.specs.World.{World, far_of, hop, Far, Nowhere, At}
use Rattle.acts.specs.Acts.{width_at, number_at, word_at, first_at}
use Rattle.lines.specs.Load.{is_token}
use Rattle.travel.specs.Travel.{first_on}
use Rattle.plans.specs.Plan.{marked_width, size_of, same_width}
use Rattle.messages.specs.Register.{fields_of, read_of}
use Rattle.messages.specs.Heard.{message_of}
use Rattle.messages.specs.Write.{accepted, written}
use Rattle.messages.specs.Ended.{said}
use Rattle.messages.specs.declared.heard.Message.{Message}
use Rattle.messages.specs.declared.heard.Message.TheVariants.{Malformed, Wrong, Read, Write}
use Rattle.messages.specs.declared.reply.Reply.{Reply}
use Rattle.messages.specs.declared.reply.Reply.TheVariants.{Nack, Ack, Value}
use Rattle.ends.specs.Plan.{lowest_free}
use Rattle.ends.specs.Output.{word_of}
use Rattle.ends.specs.declared.Wanted.{Wanted}
use Rattle.ends.specs.declared.Wanted.TheVariants as Wants
use Rattle.ends.specs.declared.aim.Goal.{Goal}
use Rattle.ends.specs.declared.aim.Goal.TheVariants as Goals
use Rattle.switch.specs.Step.{port_at}
use Rattle.bench.specs.Calls.{Call, Begin, Wire, Set, Aim, Output, Input, Step, Line, Steps, apply}
use Rattle.bench.specs.Writes.{hop_closed}
use Rattle.streams.specs.Model.{keeps, Place, ToChannel, ToUnit, encode, port_no, door_no, unit_door, node_of_port, node_of_door, end_at}
use Rattle.streams.specs.Model.{Lost, Landed, Here, Books, Notes, alter, hd, pop, push, push_all, cells_of, marks}

-- WHAT CAN BE WRITTEN
-- the door opens a circuit through the port: the header goes in
abbrev pub opened : ℕ → ℕ → Width → Target → Books → Books
opened e d w a k =
    record {
      cells = push_all k.cells d (cells_of k.now 0 (encode w a));
      on = k.on;
      stream = alter k.stream k.now (encode w a);
      handed = k.handed;
      fate = k.fate;
      info = alter k.info k.now (record { sender = e; dest = a; width = w; skip = size_of w });
      mine = alter k.mine e k.now;
      now = suc k.now;
      log = k.log;
    }

-- the door's circuit has a token more, in the port
abbrev pub put_out : ℕ → ℕ → ℕ → Books → Books
put_out e d t k =
    let c = k.mine e in
    record {
      cells = push k.cells d (record { token = t; circuit = c; pos = length (k.stream c) });
      on = k.on;
      stream = alter k.stream c (k.stream c ++ (t ∷ []));
      handed = k.handed;
      fate = k.fate;
      info = k.info;
      mine = k.mine;
      now = k.now;
      log = k.log;
    }

abbrev pub put_all : ℕ → ℕ → List ℕ → Books → Books
put_all e d [] k = k
put_all e d (t ∷ ts) k = put_all e d ts (put_out e d t k)

-- the door opens a circuit within its node, which has that number: no header
abbrev pub opened_here : ℕ → NodeNumber → Width → Target → Books → Books
opened_here e n w a k =
    record {
      cells = k.cells;
      on = k.on;
      stream = k.stream;
      handed = k.handed;
      fate = alter k.fate k.now (Here n);
      info = alter k.info k.now (record { sender = e; dest = a; width = w; skip = 0 });
      mine = alter k.mine e k.now;
      now = suc k.now;
      log = k.log;
    }

-- the door's circuit has a token more, handed at once to the channel
abbrev pub told : ℕ → ℕ → ℕ → Books → Books
told e ch t k =
    let c = k.mine e in
    record {
      cells = k.cells;
      on = k.on;
      stream = alter k.stream c (k.stream c ++ (t ∷ []));
      handed = alter k.handed c (k.handed c ++ keeps t);
      fate = k.fate;
      info = k.info;
      mine = k.mine;
      now = k.now;
      log = push_all k.log (end_at (node_of_door e) (ToChannel ch)) (marks c (keeps t));
    }

-- the circuit in front of the port has landed at a node of that number; so many header tokens are removed
abbrev pub landed : ℕ → ℕ → NodeNumber → Books → Books
landed p size n k =
    record {
      cells = alter k.cells p (drop size (k.cells p));
      on = k.on;
      stream = k.stream;
      handed = k.handed;
      fate = alter k.fate (hd (k.cells p)).circuit (Landed p n);
      info = k.info;
      mine = k.mine;
      now = k.now;
      log = k.log;
    }

-- .. is refused
abbrev pub refused : ℕ → Cause → Books → Books
refused p q k =
    record {
      cells = k.cells;
      on = k.on;
      stream = k.stream;
      handed = k.handed;
      fate = alter k.fate (hd (k.cells p)).circuit (Lost q);
      info = k.info;
      mine = k.mine;
      now = k.now;
      log = k.log;
    }

-- the token in front of the port goes: on to a link's line; to a place of this node, the word x; away
abbrev pub entered : ℕ → ℕ → Books → Books
entered p l k =
    record {
      cells = pop k.cells p;
      on = push k.on l (hd (k.cells p));
      stream = k.stream;
      handed = k.handed;
      fate = k.fate;
      info = k.info;
      mine = k.mine;
      now = k.now;
      log = k.log;
    }

abbrev pub handed_on : ℕ → Place → ℕ → Books → Books
handed_on p a x k =
    let c = (hd (k.cells p)).circuit in
    record {
      cells = pop k.cells p;
      on = k.on;
      stream = k.stream;
      handed = alter k.handed c (k.handed c ++ keeps x);
      fate = k.fate;
      info = k.info;
      mine = k.mine;
      now = k.now;
      log = push_all k.log (end_at (node_of_port p) a) (marks c (keeps x));
    }

abbrev pub dropped : ℕ → Books → Books
dropped p k =
    record {
      cells = pop k.cells p;
      on = k.on;
      stream = k.stream;
      handed = k.handed;
      fate = k.fate;
      info = k.info;
      mine = k.mine;
      now = k.now;
      log = k.log;
    }

-- the first token of a link's line goes into the port that the cable leads to
abbrev pub arrived : ℕ → ℕ → Books → Books
arrived l m k =
    record {
      cells = push k.cells m (hd (k.on l));
      on = pop k.on l;
      stream = k.stream;
      handed = k.handed;
      fate = k.fate;
      info = k.info;
      mine = k.mine;
      now = k.now;
      log = k.log;
    }

-- AN OUTPUT THAT IS DONE
abbrev pub write_through : World → ℕ → ℕ → Target → ℕ → Books → Books
write_through w n c g t k =
    let d = port_no n (lowest_free w.net n) in
    put_out (door_no n c) d t (opened (door_no n c) d (width_at w.net n) g k)

abbrev pub write_way : World → ℕ → ℕ → Target → ℕ → ℕ → Way → Books → Books
write_way w n c g d t ThisNode k = told (door_no n c) d t (opened_here (door_no n c) (number_at w.net n) (width_at w.net n) g k)
write_way w n c g d t (OtherNode b) k = write_through w n c g t k

-- the first token of a circuit: "If the destination matches this node at that width and is a channel, tokens go straight"
abbrev pub write_first : World → ℕ → ℕ → ℕ → Target → Books → Books
write_first w n c t (Channel m d) k =
    write_way w n c (Channel m d) d t (way_to (width_at w.net n) m (number_at w.net n)) k
write_first w n c t (Unit m) k = write_through w n c (Unit m) t k

-- by what the channel-end has open; the first token opens towards g
abbrev pub write_output : World → ℕ → ℕ → Target → ℕ → Peer → Books → Books
write_output w n c g t Peers.Nobody k = write_first w n c t g k
write_output w n c g t (Peers.Port p) k = put_out (door_no n c) (port_no n p) t k
write_output w n c g t (Peers.End d) k = told (door_no n c) d t k

-- A REPLY: its header and what it says, by port 12
abbrev pub write_reply : World → ℕ → Target → Reply → Books → Books
write_reply w n g x k =
    let e = door_no n unit_door in
    let d = port_no n reply_port in
    put_all e d (said x ++ (control_word end ∷ [])) (opened e d (width_at w.net n) g k)

abbrev pub write_obeyed : World → ℕ → Message → Books → Books
write_obeyed w n Malformed k = k
write_obeyed w n (Wrong g) k = write_reply w n g Nack k
write_obeyed w n (Read g r) k = write_reply w n g (Value (read_of w.net n r)) k
write_obeyed w n (Write g r v) k =
    write_reply (written w n (fields_of r v)) n g (pick (accepted w n (fields_of r v)) Ack Nack) k

-- a message that END has ended and that is replied to, once its hop is closed
abbrev pub write_end : World → ℕ → ℕ → Books → Books
write_end w n p k =
    let y = hop_closed w n p in
    pick (closes (first_at w n p)) (write_obeyed y n (message_of (y.net.units.hearings n 0) (first_at w n p)) k) k

-- A STEP, by its answer and by where the port's circuit goes
abbrev pub write_moved : World → ℕ → ℕ → Hop → Books → Books
write_moved w n p Hops.Shut k = k
write_moved w n p (Hops.Out l) k = entered (port_no n p) (port_no n l) k
write_moved w n p (Hops.Channel c t) k = handed_on (port_no n p) (ToChannel c) (first_at w n p) k
write_moved w n p Hops.Unit k = write_end w n p (handed_on (port_no n p) ToUnit (first_at w n p) k)
write_moved w n p (Hops.Dropped x) k = k

abbrev pub write_step : World → ℕ → ℕ → Answered → Books → Books
write_step w n p (Answers.No x) k = k
write_step w n p Answers.Done k = k
write_step w n p (Answers.Granted x) k = k
write_step w n p (Answers.Token x) k = k
write_step w n p Answers.Idle k = k
write_step w n p Answers.Waiting k = k
write_step w n p Answers.Moved k = write_moved w n p (hop w.net n p) k
write_step w n p (Answers.OpenedLink l) k = k
write_step w n p Answers.OpenedChannel k = landed (port_no n p) (size_of (width_at w.net n)) (number_at w.net n) k
write_step w n p Answers.OpenedUnit k = landed (port_no n p) (size_of (width_at w.net n)) (number_at w.net n) k
write_step w n p (Answers.Refused x) k = refused (port_no n p) x k
write_step w n p (Answers.Dropped x) k = dropped (port_no n p) k
-- the two end answers: the last token is heard, and there is no reply
write_step w n p Answers.Malformed k = handed_on (port_no n p) ToUnit (first_at w n p) k
write_step w n p Answers.Unheard k = handed_on (port_no n p) ToUnit (first_at w n p) k
write_step w n p (Answers.Arrived x) k = k

-- A LINE STEP that takes one off: a token arrives; of a credit or a HELLO nothing is written
abbrev pub write_arrival : ℕ → ℕ → ℕ → Far → Books → Books
write_arrival n l x Nowhere k = k
write_arrival n l x (At m j) k = pick (is_token x) (arrived (port_no n l) (port_no m.0 j) k) k

abbrev pub write_line : World → ℕ → ℕ → Answered → Books → Books
write_line w n l (Answers.No x) k = k
write_line w n l Answers.Done k = k
write_line w n l (Answers.Granted x) k = k
write_line w n l (Answers.Token x) k = k
write_line w n l Answers.Idle k = k
write_line w n l Answers.Waiting k = k
write_line w n l Answers.Moved k = k
write_line w n l (Answers.OpenedLink x) k = k
write_line w n l Answers.OpenedChannel k = k
write_line w n l Answers.OpenedUnit k = k
write_line w n l (Answers.Refused x) k = k
write_line w n l (Answers.Dropped x) k = k
write_line w n l Answers.Malformed k = k
write_line w n l Answers.Unheard k = k
write_line w n l (Answers.Arrived x) k = write_arrival n l (first_on w n l) (far_of (w.net.links.cables n l)) k

-- where a call is done
abbrev pub when_done : {A : Type 0} → Answered → A → A → A
when_done (Answers.No x) k old = old
when_done Answers.Done k old = k
when_done (Answers.Granted x) k old = old
when_done (Answers.Token x) k old = old
when_done Answers.Idle k old = old
when_done Answers.Waiting k old = old
when_done Answers.Moved k old = old
when_done (Answers.OpenedLink l) k old = old
when_done Answers.OpenedChannel k old = old
when_done Answers.OpenedUnit k old = old
when_done (Answers.Refused x) k old = old
when_done (Answers.Dropped x) k old = old
when_done Answers.Malformed k old = old
when_done Answers.Unheard k old = old
when_done (Answers.Arrived x) k old = old

-- THE BOOKS AFTER A CALL. A circuit's destination is what the channel-end's latest Aim gave, by the notes (o). A start that is done opens
-- new books (Watch.antt)
abbrev pub write : Notes → World → Call → Answered → Books → Books
write o w (Begin s n) x k = k
write o w (Wire a l b j) x k = k
write o w (Set a y) x k = k
write o w (Aim a c g v) x k = k
write o w (Output a c t) x k =
    when_done x (write_output w a.0 c (o.aimed (door_no a.0 c)) (word_of t) (peer_of (w.net.ends.sendings a.0 c)) k) k
write o w (Input a c y) x k = k
write o w (Step a p) x k = write_step w a.0 p x k
write o w (Line a l) x k = write_line w a.0 l x k
write o w (Steps n xs) x k = k

-- THE NOTES AFTER A CALL: of the call and its answer alone
abbrev pub given : Goal → Target
given (Goals.Channel m c) = Channel (record { 0 = m }) c
given (Goals.Unit m) = Unit (record { 0 = m })

-- the token of a value that was asked for as data or as control
abbrev pub word_as : Wanted → ℕ → ℕ
word_as Wants.Data v = data_word v
word_as Wants.Control v = control_word v

abbrev pub jot_aimed : ℕ → Target → Notes → Notes
jot_aimed e g k = record { aimed = alter k.aimed e g; put = k.put; taken = k.taken }

abbrev pub jot_put : ℕ → ℕ → Notes → Notes
jot_put e t k = record { aimed = k.aimed; put = push k.put e t; taken = k.taken }

abbrev pub jot_taken : ℕ → ℕ → Notes → Notes
jot_taken e t k = record { aimed = k.aimed; put = k.put; taken = push k.taken e t }

abbrev pub jot_input : ℕ → Wanted → Answered → Notes → Notes
jot_input e y (Answers.No x) k = k
jot_input e y Answers.Done k = k
jot_input e y (Answers.Granted x) k = k
jot_input e y (Answers.Token v) k = jot_taken e (word_as y v) k
jot_input e y Answers.Idle k = k
jot_input e y Answers.Waiting k = k
jot_input e y Answers.Moved k = k
jot_input e y (Answers.OpenedLink l) k = k
jot_input e y Answers.OpenedChannel k = k
jot_input e y Answers.OpenedUnit k = k
jot_input e y (Answers.Refused x) k = k
jot_input e y (Answers.Dropped x) k = k
jot_input e y Answers.Malformed k = k
jot_input e y Answers.Unheard k = k
jot_input e y (Answers.Arrived x) k = k

abbrev pub jot : Call → Answered → Notes → Notes
jot (Begin s n) x k = k
jot (Wire a l b j) x k = k
jot (Set a y) x k = k
jot (Aim a c g v) x k = when_done x (jot_aimed (door_no a.0 c) (given g) k) k
jot (Output a c t) x k = when_done x (jot_put (door_no a.0 c) (word_of t) k) k
jot (Input a c y) x k = jot_input (door_no a.0 c) y x k
jot (Step a p) x k = k
jot (Line a l) x k = k
jot (Steps n xs) x k = k

-- NEW BOOKS: after a start that is done; one that is refused changes none
abbrev pub renews : Call → Answered → Bool
renews (Begin s n) x = when_done x true false
renews (Wire a l b j) x = false
renews (Set a y) x = false
renews (Aim a c g v) x = false
renews (Output a c t) x = false
renews (Input a c y) x = false
renews (Step a p) x = false
renews (Line a l) x = false
renews (Steps n xs) x = false

abbrev pub anew : World → Call → Bool
anew w c = renews c (apply w c).answer

-- "READS", said over the state: a Step that is not refused, of a port without a circuit, whose front is a whole header. Here: one of the
-- other width than the switch's
abbrev pub is_shut : Hop → Bool
is_shut Hops.Shut = true
is_shut (Hops.Out l) = false
is_shut (Hops.Channel c t) = false
is_shut Hops.Unit = false
is_shut (Hops.Dropped x) = false

abbrev pub misread : World → ℕ → ℕ → Bool
misread w n p =
    let width = marked_width (word_at w n p 0) in
    port_at w.net n p
    && (is_shut (hop w.net n p)
    && (leb (size_of width) (w.net.ports.counters n p).held && not (same_width width (width_at w.net n))))

abbrev pub misreads : World → Call → Bool
misreads w (Begin s n) = false
misreads w (Wire a l b j) = false
misreads w (Set a x) = false
misreads w (Aim a c g v) = false
misreads w (Output a c x) = false
misreads w (Input a c x) = false
misreads w (Step a p) = misread w a.0 p
misreads w (Line a l) = false
misreads w (Steps n xs) = false

-- the port that a Step is of
abbrev pub port_in : Call → ℕ
port_in (Begin s n) = 0
port_in (Wire a l b j) = 0
port_in (Set a x) = 0
port_in (Aim a c g v) = 0
port_in (Output a c x) = 0
port_in (Input a c x) = 0
port_in (Step a p) = port_no a.0 p
port_in (Line a l) = 0
port_in (Steps n xs) = 0
