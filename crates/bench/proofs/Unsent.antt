-- WHY TIGHT HAS THE TIE `unsent`: boards that pass the list "Sound" and every other tie, and from which Wire, HELLO, its credit and a Step lead to a
-- state that does not pass the list. The answers are computed: Unsound stands at the end. Assumes nothing.
use mathlib.Core.Path.{◌≡◌, refl}
use mathlib.Core.Bool.{true, false, ◌&&◌}
use mathlib.Core.List.{List, [], ◌∷◌}
use lib.ListN.{set}
use Rattle.laws.specs.All.{all, every}
use Rattle.names.specs.Size.{links}
use Rattle.names.specs.declared.Slot.{Slot}
use Rattle.circuits.specs.Circuit.{of_peer, of_hop}
use Rattle.circuits.specs.declared.Hop.TheVariants.{Out}
use Rattle.circuits.specs.declared.Peer.TheVariants.{Port}
use Rattle.tokens.specs.Control.{end}
use Rattle.tokens.specs.Word.{control_word}
use Rattle.ports.specs.Memory.{place}
use Rattle.answers.specs.Answered.{No, Done, Granted, Moved, Arrived}
use Rattle.names.specs.declared.no.No.TheVariants.{Unsound}
use Rattle.cells.specs.View.{Net, with_counters, with_leg, with_user}
use Rattle.cells.specs.World.{World}
use Rattle.fresh.specs.Fresh.{start_of}
use Rattle.fresh.specs.declared.Start.TheVariants.{Fresh}
use Rattle.clauses.specs.Ties.{unfed, unsent, idle}
use Rattle.line_clauses.specs.Lines.{fed_over, between, towards, hello_last}
use Rattle.settings.specs.declared.Setting.TheVariants.{Hello}
use Rattle.sound.specs.Tests.{holds}
use Rattle.sound.specs.Questions.{everywhere}
use Rattle.sound.specs.Sound.{sound, tight}
use Rattle.sound.specs.declared.questions.Question.TheVariants.{Sends, Replied}
use Rattle.kept.proofs.Computes.{computes}
use Rattle.bench.specs.Calls.{Call, Wire, Set, Step, Line, apply}
use Rattle.bench.specs.Runs.{run}

-- two boards as Fresh leaves them, but that port 8 of the first has a circuit out by link E, which leads nowhere, and holds its END: the
-- header has gone
abbrev boards : Net
boards =
    with_user (with_leg (with_counters (start_of Fresh 2).net
    0 8 (record { head = 0; held = 1 }))
    0 8 (record { circuit = of_hop (Out 4); tile = 0 }))
    0 4 (of_peer (Port 8))

abbrev begun : World
begun =
    record {
      net = boards;
      memory = set (start_of Fresh 2).memory (place 0 8) (control_word end);
      line_memory = (start_of Fresh 2).line_memory;
    }

pub passes : sound begun ≡ true
unfolding computes sound holds every all
passes = refl

pub other_ties : (every 2 links (λ n l.
    fed_over begun n l && (unfed begun n l && (idle begun.net n l
    && (between begun n l && (towards begun n l && hello_last begun n l))))) ≡ true)
    × (everywhere Sends begun ≡ true) × (everywhere Replied begun ≡ true)
unfolding computes everywhere every all
other_ties = (refl, refl, refl)

pub fails : (unsent begun 0 4 ≡ false) × (tight begun ≡ false)
unfolding computes tight everywhere every all
fails = (refl, refl)

-- a cable from link E to link E, HELLO and its credit, and the port's Step: END is alone on its way to the far port, where a header must be
abbrev one : Slot
one = record { 0 = 0 }

abbrev other : Slot
other = record { 0 = 1 }

abbrev calls : List Call
calls = Wire one 4 other 4 ∷ Set one (Hello 4) ∷ Line one 4 ∷ Line other 4 ∷ Step one 8 ∷ Step other 4 ∷ []

pub unsound_at_the_end : (run begun calls).answers ≡ Done ∷ Granted 0 ∷ Arrived 64 ∷ Arrived 0 ∷ Moved ∷ No Unsound ∷ []
unfolding computes apply sound holds every all
unsound_at_the_end = refl
