-- The two calls over any form: "the first found from the front is given, NoSuch last, and all return no tokens and fill nothing" (document
-- 02, Ask 8).
use Rattle.std.specs.Prelude.{ℕ, ◌*◌, ◌%◌, List, ◌++◌, ltb, leb, eqb, length, drop, Ok, Err}
use Rattle.laws.specs.Pick.{pick}
use Rattle.probe.specs.Form.{Form, transitions, first_unwritable, whole, tokens, first_meaningless}
use Rattle.probe.specs.Serial.{serial}
use Rattle.probe.specs.Fast.{fast}
use Rattle.probe.specs.Answer.{Answer}
use Rattle.probe.specs.declared.answer.Refusal.TheVariants.{Bad, Cut, NoSuch}
use Rattle.probe.specs.declared.form.Mode.{Mode}
use Rattle.probe.specs.declared.form.Mode.TheVariants.{Serial, Fast}

-- "a slow serial mode that uses two wires in each direction .. and a fast, wide mode that needs five wires" (002, 4)
abbrev pub form_of : Mode → Form
form_of Serial = serial
form_of Fast = fast

-- the answer, and the caller's buffer
pub record Out : Type 0 where
  pub answer : Answer
  pub buffer : List ℕ

abbrev pub out : Answer → List ℕ → Out
out a b = record { answer = a; buffer = b }

-- the result in front, and the words behind it as they were
abbrev pub filled : List ℕ → List ℕ → List ℕ
filled ys buffer = ys ++ drop (length ys) buffer

unfoldable pub delivered : List ℕ → List ℕ → Out
delivered ys buffer =
    pick (leb (length ys) (length buffer)) (out (Ok (length ys)) (filled ys buffer)) (out (Err NoSuch) buffer)

unfoldable pub writing : Form → List ℕ → List ℕ → Out
writing F ts buffer =
    pick (ltb (first_unwritable F ts) (length ts)) (out (Err (Bad (first_unwritable F ts))) buffer) (delivered (transitions F ts) buffer)

-- the place of a sequence is that of its first transition, counted from 0
unfoldable pub reading : Form → List ℕ → List ℕ → Out
reading F xs buffer =
    pick (ltb (first_meaningless F xs) (whole F xs)) (out (Err (Bad (first_meaningless F xs * F.width))) buffer)
    (pick (eqb (length xs % F.width) 0) (delivered (tokens F xs) buffer) (out (Err Cut) buffer))
