-- What a call answers, case by case: why it is refused, or what came of it.
use Rattle.std.specs.Prelude.{ℕ, Result, Ok, Err}
use Rattle.names.specs.declared.no.No.{No as Why}
use Rattle.circuits.specs.declared.Cause.{Cause}
use Rattle.answers.specs.declared.Answer.{Answer}
use Rattle.answers.specs.declared.Answer.TheVariants as Made

abbrev pub Answered : Type 0
Answered = Result Answer Why

pattern abbrev pub No : Why → Answered
No k = Err k

pattern abbrev pub Done : Answered
Done = Ok Made.Done

pattern abbrev pub Granted : ℕ → Answered
Granted g = Ok (Made.Granted g)

pattern abbrev pub Token : ℕ → Answered
Token v = Ok (Made.Token v)

pattern abbrev pub Idle : Answered
Idle = Ok Made.Idle

pattern abbrev pub Waiting : Answered
Waiting = Ok Made.Waiting

pattern abbrev pub Moved : Answered
Moved = Ok Made.Moved

pattern abbrev pub OpenedLink : ℕ → Answered
OpenedLink l = Ok (Made.OpenedLink l)

pattern abbrev pub OpenedChannel : Answered
OpenedChannel = Ok Made.OpenedChannel

pattern abbrev pub OpenedUnit : Answered
OpenedUnit = Ok Made.OpenedUnit

pattern abbrev pub Refused : Cause → Answered
Refused c = Ok (Made.Refused c)

pattern abbrev pub Dropped : Cause → Answered
Dropped c = Ok (Made.Dropped c)

pattern abbrev pub Malformed : Answered
Malformed = Ok Made.Malformed

pattern abbrev pub Unheard : Answered
Unheard = Ok Made.Unheard

pattern abbrev pub Arrived : ℕ → Answered
Arrived g = Ok (Made.Arrived g)
