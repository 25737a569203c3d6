-- `states::say::say_failing`: each clause that it comes to is a number of 32 bits, past the one before. Assumes nothing.
use Rattle.std.proofs.Common.{ℕ, ◌-◌, ◌<◌, nat_eq}
use Rattle.laws.specs.Pick.{pick}
use Rattle.states.proofs.say.say_failing.Given as goal

-- how many numbers there are past a clause; none is sought past 0
abbrev pub left : ℕ → ℕ
left k = pick (nat_eq k 0) 0 (0x100000000 - k)

abbrev pub invariant-loop-clause : goal.invariant-loop-clause
invariant-loop-clause g l = l.clause < 0x100000000

abbrev pub decreases-loop-clause : goal.decreases-loop-clause
decreases-loop-clause g l = left l.clause
