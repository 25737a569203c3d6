-- "If an answer is an enum, a definition gives this paper's number and values for each of its cases." (document 01, "Where each form
-- belongs")
use Rattle.std.specs.Prelude.{ℕ, ◌+◌, ◌*◌}
use Rattle.names.specs.No.{number, passes}
use Rattle.circuits.specs.declared.Cause.{Cause}
use Rattle.circuits.specs.declared.Cause.TheVariants.{Split, NoRoute}
use Rattle.answers.specs.Answered.{No, Done, Granted, Token, Idle, Waiting, Moved, OpenedLink, OpenedChannel}
use Rattle.answers.specs.Answered.{Answered, OpenedUnit, Refused, Dropped, Malformed, Unheard, Arrived}

-- "A refused call returns its number": the number for no, and none for every other answer
abbrev pub number_of : Answered → ℕ
number_of (No n) = number n
number_of Done = passes
number_of (Granted g) = passes
number_of (Token v) = passes
number_of Idle = passes
number_of Waiting = passes
number_of Moved = passes
number_of (OpenedLink l) = passes
number_of OpenedChannel = passes
number_of OpenedUnit = passes
number_of (Refused c) = passes
number_of (Dropped c) = passes
number_of Malformed = passes
number_of Unheard = passes
number_of (Arrived g) = passes

-- which case it is, in the order in which they are listed
abbrev pub case_of : Answered → ℕ
case_of (No n) = 0
case_of Done = 1
case_of (Granted g) = 2
case_of (Token v) = 3
case_of Idle = 4
case_of Waiting = 5
case_of Moved = 6
case_of (OpenedLink l) = 7
case_of OpenedChannel = 8
case_of OpenedUnit = 9
case_of (Refused c) = 10
case_of (Dropped c) = 11
case_of Malformed = 12
case_of Unheard = 13
case_of (Arrived g) = 14

-- "it has a cause and no number"
abbrev pub cause_of : Cause → ℕ
cause_of Split = 0
cause_of NoRoute = 1

-- the number that its case bears: a refusal's, "The answer to HELLO gives the grant", the token that Input took, the link that a circuit
-- opened by, a circuit's cause, the grant that an arrival brought
abbrev pub answer_value : Answered → ℕ
answer_value (No n) = number n
answer_value Done = 0
answer_value (Granted g) = g
answer_value (Token v) = v
answer_value Idle = 0
answer_value Waiting = 0
answer_value Moved = 0
answer_value (OpenedLink l) = l
answer_value OpenedChannel = 0
answer_value OpenedUnit = 0
answer_value (Refused c) = cause_of c
answer_value (Dropped c) = cause_of c
answer_value Malformed = 0
answer_value Unheard = 0
answer_value (Arrived g) = g

-- outside, an enum is one number of 64 bits: which case it is in the upper half, the number that the case bears in the lower
abbrev pub packed : ℕ → ℕ → ℕ
packed case value = case * 4294967296 + value

-- what a call answers: its case, and the number that the case bears
abbrev pub answer_number : Answered → ℕ
answer_number a = packed (case_of a) (answer_value a)
