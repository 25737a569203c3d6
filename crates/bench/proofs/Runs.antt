-- Runs of calls on two boards, computed: an update during which circuits are open; the two examples of document 01, "Both sides of the
-- line", that need a network; boards as the boot ROM leaves them (document 02, Ask 7), and the same from blank. What an observer has then
-- written down is in streams/proofs/Runs.antt. Assumes nothing.
use Prim.Native.Nat.{ℕ}
use mathlib.Core.Path.{◌≡◌, refl}
use mathlib.Core.List.{List, [], ◌∷◌, ◌++◌, map}
use lib.ListN.{replicate}
use Rattle.names.specs.declared.Slot.{Slot}
use Rattle.circuits.specs.declared.Cause.TheVariants.{NoRoute, Split}
use Rattle.answers.specs.Answered.{No, Done, Granted, Idle, Moved, OpenedLink, OpenedChannel}
use Rattle.answers.specs.Answered.{Answered, OpenedUnit, Refused, Dropped, Waiting, Arrived}
use Rattle.answers.specs.Answered as Answers
use Rattle.names.specs.declared.no.No.TheVariants.{Busy, Empty}
use Rattle.settings.specs.declared.Setting.TheVariants.{Number, Width, Network, Enable, Hello}
use Rattle.ends.specs.declared.Token.{Token}
use Rattle.ends.specs.declared.Token.TheVariants.{Data, Control}
use Rattle.ends.specs.declared.Wanted.TheVariants as Wanted
use Rattle.ends.specs.declared.aim.Goal.TheVariants.{Channel, Unit}
use Rattle.fresh.specs.declared.Start.TheVariants.{Fresh, Blank}
use Rattle.kept.proofs.Computes.{computes}
use Rattle.bench.specs.Calls.{Call, Wire, Set, Aim, Output, Input, Step, Line, Steps}
use Rattle.bench.specs.Runs.{flat}
use Rattle.bench.proofs.Computed.{Script, calls, Runs, runs}

-- CALLS OF ONE KIND
-- so many Steps of a port, all with one answer
abbrev steps : ℕ → Slot → ℕ → Answered → Script
steps k a p x = replicate k (Step a p, x)

-- so many tokens go on from a port, over the line of a link, and arrive; none brings a grant
abbrev crossing : ℕ → Slot → ℕ → ℕ → Script
crossing k a p l = replicate k (Step a p, Moved) ++ replicate k (Line a l, Arrived 0)

-- HELLO goes over a link, and the credit of 64 comes back by the far end's
abbrev greeting : Slot → ℕ → Slot → ℕ → Script
greeting a l b k = (Set a (Hello l), Granted 0) ∷ (Line a l, Arrived 64) ∷ (Line b k, Arrived 0) ∷ []

-- tokens put out by a channel-end
abbrev outputs : Slot → ℕ → List Token → Script
outputs a c ts = map (λ t. (Output a c t, Done)) ts

-- tokens that a channel-end holds, taken
abbrev taken : Slot → ℕ → Token → Call × Answered
taken a c (Data v) = (Input a c Wanted.Data, Answers.Token v)
taken a c (Control v) = (Input a c Wanted.Control, Answers.Token v)

abbrev inputs : Slot → ℕ → List Token → Script
inputs a c ts = map (taken a c) ts

-- TWO BOARDS
abbrev hub : Slot
hub = record { 0 = 0 }

abbrev lane : Slot
lane = record { 0 = 1 }

-- joined by their links A, which are enabled and greet each other: number 0 and number 1
abbrev joined : Script
joined =
    ((Wire hub 0 lane 0, Done) ∷ (Set hub (Enable 0 1), Done) ∷ (Set lane (Enable 0 1), Done) ∷ (Set lane (Number 1), Done) ∷ [])
    ++ greeting hub 0 lane 0
    ++ greeting lane 0 hub 0

-- to a control unit, reply to channel 3 of number 0, that is to the hub. READC, register 5: the number. WRITEC, register 4, value 1: the
-- width, one-byte
abbrev read_number : List Token
read_number = Control 0xC1 ∷ Data 0 ∷ Data 0 ∷ Data 3 ∷ Data 0 ∷ Data 5 ∷ Control 1 ∷ []

abbrev write_width : List Token
write_width = Control 0xC0 ∷ Data 0 ∷ Data 0 ∷ Data 3 ∷ Data 0 ∷ Data 4 ∷ Data 0 ∷ Data 0 ∷ Data 0 ∷ Data 1 ∷ Control 1 ∷ []

-- AN UPDATE: the lane is renumbered and the hub set to one-byte width, each while a circuit is on its way to it
abbrev pub update : Script
update =
    joined
    -- the hub opens a circuit to channel 5 of number 2, which no board has
    ++ ((Aim hub 0 (Channel 2 5) 0, Done) ∷ [])
    ++ outputs hub 0 (Data 7 ∷ Control 1 ∷ [])
    ++ ((Step hub 8, OpenedLink 0) ∷ [])
    ++ crossing 3 hub 8 0
    -- its header is at the lane, not yet read, when the lane becomes number 2
    ++ ((Set lane (Number 2), Done) ∷ [])
    ++ crossing 2 hub 8 0
    ++ ((Step lane 0, OpenedChannel) ∷ [])
    ++ steps 2 lane 0 Moved
    ++ inputs lane 5 (Data 7 ∷ Control 1 ∷ [])
    -- a message to the lane's control unit, and its answer: ACK, the number 2, END
    ++ ((Aim hub 1 (Unit 2) 0, Done) ∷ [])
    ++ outputs hub 1 read_number
    ++ ((Step hub 8, OpenedLink 0) ∷ [])
    ++ crossing 10 hub 8 0
    ++ ((Step lane 0, OpenedUnit) ∷ [])
    ++ steps 7 lane 0 Moved
    ++ ((Step lane 12, OpenedLink 0) ∷ [])
    ++ crossing 9 lane 12 0
    ++ ((Step hub 0, OpenedChannel) ∷ [])
    ++ steps 6 hub 0 Moved
    ++ inputs hub 3 (Control 3 ∷ Data 0 ∷ Data 0 ∷ Data 0 ∷ Data 2 ∷ Control 1 ∷ [])
    -- the lane opens a circuit to the hub, and halfway over the link the hub is set to one-byte width
    ++ ((Aim lane 0 (Channel 0 6) 0, Done) ∷ [])
    ++ outputs lane 0 (Data 9 ∷ Control 1 ∷ [])
    ++ ((Step lane 8, OpenedLink 0) ∷ [])
    ++ crossing 2 lane 8 0
    ++ ((Set hub (Width 1), Done) ∷ [])
    ++ crossing 3 lane 8 0
    ++ ((Step hub 0, Refused Split) ∷ [])
    ++ steps 5 hub 0 (Dropped Split)
    ++ ((Step hub 0, Idle) ∷ [])
    -- a circuit within the hub: at one-byte width number 8 is the hub's own
    ++ ((Aim hub 2 (Channel 8 4) 0, Done) ∷ [])
    ++ outputs hub 2 (Data 1 ∷ Control 1 ∷ [])
    ++ inputs hub 4 (Data 1 ∷ Control 1 ∷ [])
    -- both boards at one-byte width: in the bits compared number 10 is the lane's, while that is 2 and when it has become 18. PAUSE closes
    -- the circuit and is not handed
    ++ ((Set lane (Width 1), Done) ∷ (Aim hub 0 (Channel 10 5) 0, Done) ∷ [])
    ++ outputs hub 0 (Data 6 ∷ Control 2 ∷ [])
    ++ ((Step hub 8, OpenedLink 0) ∷ [])
    ++ crossing 3 hub 8 0
    ++ ((Set lane (Number 18), Done) ∷ (Step lane 0, OpenedChannel) ∷ [])
    ++ steps 2 lane 0 Moved
    ++ inputs lane 5 (Data 6 ∷ [])
    ++ ((Input lane 5 Wanted.Control, No Empty) ∷ [])

-- "Hub at one-byte, lane at three-byte: the lane opens, the hub's step says Refused, Split; three header tokens and the rest are Dropped."
abbrev pub halfway : Script
halfway =
    joined
    ++ ((Set hub (Width 1), Done) ∷ (Aim lane 0 (Channel 0 5) 0, Done) ∷ [])
    ++ outputs lane 0 (Data 7 ∷ Control 1 ∷ [])
    ++ ((Step lane 8, OpenedLink 0) ∷ [])
    ++ crossing 5 lane 8 0
    ++ ((Step hub 0, Refused Split) ∷ [])
    ++ steps 5 hub 0 (Dropped Split)
    ++ ((Step hub 0, Idle) ∷ [])

-- "A message sets a node to one-byte: the ACK leaves with a one-byte header and is Split at a neighbour still at three.": the
-- node is the lane, the neighbour the hub
abbrev pub narrowed : Script
narrowed =
    joined
    ++ ((Aim hub 0 (Unit 1) 0, Done) ∷ [])
    ++ outputs hub 0 write_width
    ++ ((Step hub 8, OpenedLink 0) ∷ [])
    ++ crossing 14 hub 8 0
    ++ ((Step lane 0, OpenedUnit) ∷ [])
    ++ steps 11 lane 0 Moved
    -- the reply: one header token, ACK, END
    ++ ((Step lane 12, OpenedLink 0) ∷ [])
    ++ crossing 3 lane 12 0
    ++ ((Step lane 12, Idle) ∷ (Step hub 0, Refused Split) ∷ [])
    ++ steps 3 hub 0 (Dropped Split)
    ++ ((Step hub 0, Idle) ∷ [])

-- the half-done update once more, its Steps as two lists: the lane's port 8, then, once the line is empty, the hub's port 0
abbrev pub halfway_by_lists : List Call
halfway_by_lists =
    calls joined
    ++ (Set hub (Width 1) ∷ Aim lane 0 (Channel 0 5) 0 ∷ [])
    ++ calls (outputs lane 0 (Data 7 ∷ Control 1 ∷ []))
    ++ (Steps 6 (replicate 6 (record { slot = 1; port = 8 })) ∷ [])
    ++ replicate 5 (Line lane 0)
    ++ (Steps 7 (replicate 7 (record { slot = 0; port = 0 })) ∷ [])

-- .. is that very run
pub by_lists : flat halfway_by_lists ≡ calls halfway
by_lists = refl

-- AS THE BOOT ROM LEAVES THEM: a circuit for a number of another board
abbrev early : Script
early = ((Set lane (Number 1), Done) ∷ (Aim hub 0 (Channel 1 5) 0, Done) ∷ []) ++ outputs hub 0 (Data 7 ∷ Control 1 ∷ [])

-- from Fresh it opens to link E, which leads nowhere, and waits there
abbrev pub booted : Script
booted =
    early
    ++ ((Step hub 8, OpenedLink 4) ∷ (Step hub 8, Waiting) ∷ [])
    -- Busy: the network of an enabled link
    ++ ((Set hub (Network 4 1), No Busy) ∷ [])
    -- a cable between two enabled ends, one of them in use; once it is greeted the circuit goes on, and arrives whole
    ++ ((Wire hub 4 lane 5, Done) ∷ (Step hub 8, Waiting) ∷ [])
    ++ greeting hub 4 lane 5
    ++ crossing 5 hub 8 4
    ++ ((Step lane 5, OpenedChannel) ∷ [])
    ++ steps 2 lane 5 Moved
    ++ inputs lane 5 (Data 7 ∷ Control 1 ∷ [])
    -- the other way: to link E, the lowest, which leads nowhere, until that is disabled; then to link F
    ++ greeting lane 5 hub 4
    ++ ((Set lane (Enable 4 0), Done) ∷ (Aim lane 0 (Channel 0 6) 0, Done) ∷ [])
    ++ outputs lane 0 (Control 1 ∷ [])
    ++ ((Step lane 8, OpenedLink 5) ∷ [])
    ++ crossing 4 lane 8 5
    ++ ((Step hub 4, OpenedChannel) ∷ (Step hub 4, Moved) ∷ [])
    ++ inputs hub 6 (Control 1 ∷ [])
    -- Busy: a wired end. Disabled, the link changes its network
    ++ ((Wire hub 4 lane 6, No Busy) ∷ (Set hub (Enable 4 0), Done) ∷ (Set hub (Network 4 1), Done) ∷ [])

-- from blank there is no way out
abbrev pub blanked : Script
blanked =
    early
    ++ ((Step hub 8, Refused NoRoute) ∷ [])
    ++ steps 5 hub 8 (Dropped NoRoute)
    ++ ((Set hub (Network 4 1), Done) ∷ (Set hub (Network 4 0), Done) ∷ [])

-- THE ANSWERS, one by one
pub update_answers : Runs Fresh 2 update
unfolding computes
update_answers = runs Fresh 2 update refl refl refl

pub halfway_answers : Runs Fresh 2 halfway
unfolding computes
halfway_answers = runs Fresh 2 halfway refl refl refl

pub narrowed_answers : Runs Fresh 2 narrowed
unfolding computes
narrowed_answers = runs Fresh 2 narrowed refl refl refl

pub booted_answers : Runs Fresh 2 booted
unfolding computes
booted_answers = runs Fresh 2 booted refl refl refl

pub blanked_answers : Runs Blank 2 blanked
unfolding computes
blanked_answers = runs Blank 2 blanked refl refl refl
