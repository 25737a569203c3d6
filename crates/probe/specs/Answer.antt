-- What a call answers, with its number. "Refusals: a sequence of no meaning or bad parity names its place, a short capture says Cut, an
-- output buffer too short for the whole result is NoSuch" (document 02, Ask 8).
use Rattle.std.specs.Prelude.{ℕ, Result, Ok, Err}
use Rattle.names.specs.No.{number, passes}
use Rattle.names.specs.declared.no.No.TheVariants as No
use Rattle.probe.specs.declared.answer.Refusal.{Refusal}
use Rattle.probe.specs.declared.answer.Refusal.TheVariants.{Bad, Cut, NoSuch}

-- so many words of the buffer were filled, or a refusal
abbrev pub Answer : Type 0
Answer = Result ℕ Refusal

-- 2 NoSuch is the paper's; Bad and Cut have no number there, and take the next two above Ask 10's 13
abbrev pub answer_number : Answer → ℕ
answer_number (Ok n) = passes
answer_number (Err (Bad p)) = 14
answer_number (Err Cut) = 15
answer_number (Err NoSuch) = number No.NoSuch

-- the count of what was filled, the place of what is bad
abbrev pub answer_value : Answer → ℕ
answer_value (Ok n) = n
answer_value (Err (Bad p)) = p
answer_value (Err Cut) = 0
answer_value (Err NoSuch) = 0
