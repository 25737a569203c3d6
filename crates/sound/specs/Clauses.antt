-- The Sound list (document 01): one row a test, with the number of the clause that it belongs to. What is asked, found and proved of the
-- list goes by its rows, whatever they are.
use Rattle.std.specs.Prelude.{ℕ, Bool, true, ◌&&◌, ◌||◌, List, [], ◌∷◌, ◌++◌, eqb, leb}
use Rattle.laws.specs.Pick.{pick}
use Rattle.cells.specs.World.{World}
use Rattle.clauses.specs.declared.pairs.Role.TheVariants.{PortLink, LinkPort, PortTile, TilePort, PortUnit, UnitPort}
use Rattle.clauses.specs.declared.pairs.Role.TheVariants.{PortClaim, ClaimPort, EndClaim, ClaimEnd, EndPort, PortEnd}
use Rattle.sound.specs.Tests.{holds, holds_at, places}
use Rattle.sound.specs.declared.tests.Test.{Test}
use Rattle.sound.specs.declared.tests.Test.TheVariants.{Nodes, Links, Ports, Tiles, Ends, Units, Credited, Greeted, Room, Cable}
use Rattle.sound.specs.declared.tests.Test.TheVariants.{Contents, Held, Agrees, OpenEnd, Silent, Heard, Lines, Few, Counted, Unlined}

pub record Clause : Type 0 where
  pub number : ℕ
  pub test : Test

abbrev pub clause : ℕ → Test → Clause
clause k t = record { number = k; test = t }

-- 2: "counts within their limits"
abbrev pub counts : List Clause
counts =
    clause 2 Nodes
    ∷ clause 2 Links
    ∷ clause 2 Ports
    ∷ clause 2 Tiles
    ∷ clause 2 Ends
    ∷ clause 2 Units
    ∷ clause 2 Lines
    ∷ []

-- 3: "credit only where greeted"; 4: "greeted only where wired with both ends enabled"; 5: "credit plus tokens held at the far end at
-- most 64", with what is on the lines between them (document 02, Ask 4: "Sound counts tokens on a line"); 6: "cables agree at both ends"
abbrev pub cables : List Clause
cables =
    clause 3 Credited
    ∷ clause 4 Greeted
    ∷ clause 5 Room
    ∷ clause 6 Cable
    ∷ []

-- 7: "tokens and headers are legal; a port with no circuit is empty or starts with a header, and so does what follows an END or PAUSE;
-- .."; 8: "tokens .. are legal", in a channel-end or control unit
abbrev pub tokens : List Clause
tokens =
    clause 7 Contents
    ∷ clause 8 Held
    ∷ clause 8 Heard
    ∷ []

-- 9: "a port's output names that port back and no other"
abbrev pub outputs : List Clause
outputs =
    clause 9 (Agrees PortLink)
    ∷ clause 9 (Agrees LinkPort)
    ∷ clause 9 (Agrees PortTile)
    ∷ clause 9 (Agrees TilePort)
    ∷ clause 9 (Agrees PortUnit)
    ∷ clause 9 (Agrees UnitPort)
    ∷ []

-- 10: "each claim .. names one circuit that exists"
abbrev pub claims : List Clause
claims =
    clause 10 (Agrees PortClaim)
    ∷ clause 10 (Agrees ClaimPort)
    ∷ clause 10 (Agrees EndClaim)
    ∷ clause 10 (Agrees ClaimEnd)
    ∷ []

-- 11: "each .. open channel-end names one circuit that exists"; 12: "port 12 is empty while the control unit serves a circuit"
abbrev pub openings : List Clause
openings =
    clause 11 (Agrees EndPort)
    ∷ clause 11 (Agrees PortEnd)
    ∷ clause 11 OpenEnd
    ∷ clause 12 Silent
    ∷ []

-- the rows on circuits
abbrev pub circuits : List Clause
circuits = outputs ++ (claims ++ openings)

-- what lines bring (document 02, Ask 4). 13: "allows one credit and one HELLO there"; 14: "while no HELLO is coming to a receiver, holds its
-- count to ..."; 15: an end without a cable has no line
abbrev pub travels : List Clause
travels =
    clause 13 Few
    ∷ clause 14 Counted
    ∷ clause 15 Unlined
    ∷ []

-- the whole list, in document 01's order, and what document 02 adds behind it
abbrev pub sound_clauses : List Clause
sound_clauses = counts ++ (cables ++ (tokens ++ (circuits ++ travels)))

-- every row's test holds at every place
abbrev pub all_hold : List Clause → World → Bool
all_hold [] w = true
all_hold (c ∷ l) w = holds c.test w && all_hold l w

-- the clause past clause k that fails first: the one found before this row, else this row's where its test fails; 0 where none is found
unfoldable pub ask : ℕ → ℕ → Clause → World → ℕ
ask k found c w = pick (eqb found 0) (pick (leb c.number k || holds c.test w) 0 c.number) found

abbrev pub ask_all : ℕ → ℕ → List Clause → World → ℕ
ask_all k found [] w = found
ask_all k found (c ∷ l) w = ask_all k (ask k found c w) l w

-- all that the rows ask at place i of a table that has m places a node: the test of each row that is made at so many
abbrev pub asked : List Clause → ℕ → World → ℕ → ℕ → Bool
asked [] m w n i = true
asked (c ∷ l) m w n i = pick (eqb (places c.test) m) (holds_at c.test w n i) true && asked l m w n i
