-- What comes of a call: its one answer, and the whole of what it was made on as it is after it.
use Prim.{Unit}
use Rattle.std.specs.Prelude.{List, Result, Ok, Err}
use Rattle.names.specs.declared.no.No.{No as Why}
use Rattle.answers.specs.Rows.{Row, checked}
use Rattle.answers.specs.Answered.{Answered, No}

pub record Out (S : Type 0) : Type 0 where
  pub answer : Answered
  pub next : S

abbrev pub out : {S : Type 0} → Answered → S → Out S
out a s = record { answer = a; next = s }

-- "A refused call returns its number and leaves the state as it was": what is done where the test lets pass, else its refusal and s itself
abbrev pub unless : {S : Type 0} → Result Unit Why → S → Out S → Out S
unless (Ok u) s done = done
unless (Err k) s done = out (No k) s

-- .. by the rows of a call
abbrev pub attempt : {S : Type 0} → List Row → S → Out S → Out S
attempt rs s done = unless (checked rs) s done
