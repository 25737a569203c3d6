-- What an observer has written down of a run of calls on a bench of n boards, from Fresh or from blank on. A list of steps is seen as its
-- Steps, one by one, as it is made (`flat`; the states between are those that the Steps leave, bench/proofs/Lists.antt).
use Rattle.std.specs.Prelude.{ℕ, List}
use Rattle.cells.specs.World.{World}
use Rattle.fresh.specs.Fresh.{start_of}
use Rattle.fresh.specs.declared.Start.{Start}
use Rattle.bench.specs.Calls.{Call, apply}
use Rattle.bench.specs.Runs.{flat}
use Rattle.streams.specs.Watch.{Seen, unseen, seen}
use Rattle.streams.specs.Observer.{write, jot, anew, misreads, port_in}

abbrev pub observed : Start → ℕ → List Call → Seen
observed s n cs =
    seen (λ (w : World) (c : Call). (apply w c).next) anew (λ w c. (apply w c).answer) write jot misreads port_in (start_of s n) unseen
    (flat cs)
