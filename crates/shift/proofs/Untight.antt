-- WHY A LIST ASKS FOR MORE THAN SOUND before it leaves its records untested: a board that passes the list "Sound" and not the ties, from
-- which a Step leads to a state that does not pass it. The list's results are computed: Unsound begins in its middle. Assumes nothing.
use Prim.Native.Nat.{ℕ}
use mathlib.Core.Path.{◌≡◌, refl}
use mathlib.Core.Bool.{true, false}
use mathlib.Core.List.{List, [], ◌∷◌}
use lib.ListN.{set}
use Rattle.laws.specs.All.{all, every}
use Rattle.circuits.specs.Circuit.{of_peer, of_hop}
use Rattle.circuits.specs.declared.Cause.TheVariants.{NoRoute}
use Rattle.circuits.specs.declared.Hop.TheVariants.{Dropped}
use Rattle.circuits.specs.declared.Peer.TheVariants.{Port, End}
use Rattle.tokens.specs.Control.{end}
use Rattle.tokens.specs.Word.{control_word}
use Rattle.ports.specs.Memory.{place}
use Rattle.answers.specs.Answered as Answers
use Rattle.names.specs.declared.no.No.TheVariants.{Unsound, NoSuch}
use Rattle.cells.specs.View.{Net, with_counters, with_leg, with_sender, with_aim, with_sending}
use Rattle.cells.specs.World.{World}
use Rattle.cells.specs.Start.{start_net, start_world, none_on}
use Rattle.sound.specs.Tests.{holds}
use Rattle.sound.specs.Questions.{everywhere}
use Rattle.sound.specs.Sound.{sound, tight}
use Rattle.kept.proofs.Computes.{computes}
use Rattle.bench.specs.declared.StepRecord.{StepRecord}
use Rattle.bench.specs.Calls.{results}

-- one board. Channel-end 0 has a circuit open by port 8; the port drops that circuit, and holds its END already
abbrev board : Net
board =
    with_sending (with_aim (with_sender (with_leg (with_counters (start_net none_on 1)
    0 8 (record { head = 0; held = 1 }))
    0 8 (record { circuit = of_hop (Dropped NoRoute); tile = 0 }))
    0 8 (of_peer (End 0)))
    0 0 (record { kind = 1; number = 0; channel = 0; network = 0 }))
    0 0 (of_peer (Port 8))

abbrev untight : World
untight = record { net = board; memory = set (start_world none_on 1).memory (place 0 8) (control_word end); line_memory = (start_world none_on 1).line_memory }

pub passes : sound untight ≡ true
unfolding computes sound holds every all
passes = refl

pub fails : tight untight ≡ false
unfolding computes tight everywhere every all
fails = refl

-- a port that holds nothing, a board that is not there, port 8 twice, and the first two once more
abbrev list : List StepRecord
list = at 0 0 ∷ at 1 0 ∷ at 0 8 ∷ at 0 8 ∷ at 0 0 ∷ at 1 0 ∷ []
  where
    at : ℕ → ℕ → StepRecord
    at s p = record { slot = s; port = p }

-- the third record's Step drops END, and with it the port's circuit; channel-end 0 names a circuit from then on that is not there. A list
-- that had asked for sound alone, once, would say Idle, Idle and NoSuch in the end
pub unsound_in_the_middle : results untight list
    ≡ Answers.Idle ∷ Answers.No NoSuch ∷ Answers.Dropped NoRoute ∷ Answers.No Unsound ∷ Answers.No Unsound ∷ Answers.No Unsound ∷ []
unfolding computes sound holds every all
unsound_in_the_middle = refl
