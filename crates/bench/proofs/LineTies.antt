-- WHY TIGHT HAS THE TIES OF LINES (document 02, Ask 4): of each a board that passes the list "Sound" and every other tie, and from which a
-- line's step leads to a state that does not pass the list. The answers are computed: Unsound stands at the end. Assumes nothing.
use Prim.Native.Nat.{ℕ}
use mathlib.Core.Path.{◌≡◌, refl}
use mathlib.Core.Bool.{Bool, true, false, ◌&&◌}
use mathlib.Core.List.{List, [], ◌∷◌}
use lib.ListN.{set}
use Rattle.laws.specs.All.{all, every}
use Rattle.names.specs.Size.{links}
use Rattle.names.specs.declared.Slot.{Slot}
use Rattle.tokens.specs.Word.{control_word, header_word}
use Rattle.tokens.specs.declared.header.Width.TheVariants.{One}
use Rattle.lines.specs.Line.{line_place}
use Rattle.lines.specs.Load.{hello_word, credit_word}
use Rattle.answers.specs.Answered.{Answered, No, Arrived}
use Rattle.names.specs.declared.no.No.TheVariants.{Unsound}
use Rattle.cells.specs.View.{Net, with_flow, with_setup, with_ring, with_issued}
use Rattle.cells.specs.World.{World}
use Rattle.cells.specs.Start.{start_net, start_world, none_on}
use Rattle.cells.specs.Changes.{enabled_as}
use Rattle.travel.specs.Travel.{put_on}
use Rattle.clauses.specs.Ties.{unfed, unsent, idle}
use Rattle.line_clauses.specs.Lines.{fed_over, between, towards, hello_last}
use Rattle.settings.specs.Wire.{wired}
use Rattle.sound.specs.Tests.{holds}
use Rattle.sound.specs.Questions.{everywhere}
use Rattle.sound.specs.Sound.{sound}
use Rattle.sound.specs.declared.questions.Question.TheVariants.{Sends, Replied}
use Rattle.kept.proofs.Computes.{computes}
use Rattle.bench.specs.Calls.{Line, apply}
use Rattle.bench.specs.Runs.{run}

-- what is asked of each: the list, the ties that were there before, and the three of lines
abbrev at_links : World → (World → ℕ → ℕ → Bool) → Bool
at_links w f = every 1 links (f w)

abbrev before : World → ℕ → ℕ → Bool
before w n l = fed_over w n l && (unfed w n l && (unsent w n l && idle w.net n l))

abbrev asked : World → List Bool
asked w =
    sound w ∷ (at_links w before && (everywhere Sends w && everywhere Replied w))
    ∷ at_links w between ∷ at_links w towards ∷ at_links w hello_last ∷ []

-- the line that starts at link A steps, and once more
abbrev answered : World → List Answered
answered w = (run w (Line one 0 ∷ Line one 0 ∷ [])).answers
  where
    one : Slot
    one = record { 0 = 0 }

-- of the five asked these hold, and the first step leads out of the list
abbrev LeadsOut : World → List Bool → ℕ → Type 0
LeadsOut w held g = (asked w ≡ held) × (answered w ≡ Arrived g ∷ No Unsound ∷ [])

-- one board with a cable from its link A to its link B, disabled and enabled, and one thing on the line that starts at A
abbrev joined : Net
joined = wired (start_net none_on 1) 0 0 0 1

abbrev cabled : Net
cabled = on (on joined 0) 1
  where
    on : Net → ℕ → Net
    on s l = with_setup s 0 l (enabled_as (s.links.setups 0 l) 1)

abbrev greeted : Net
greeted = with_flow cabled 0 0 (record { greeted = 1; credit = 0 })

abbrev with : Net → ℕ → World
with s x =
    record {
      net = with_ring s 0 0 (record { head = 0; held = 1 });
      memory = (start_world none_on 1).memory;
      line_memory = set (start_world none_on 1).line_memory (line_place 0 0) x;
    }

-- "a line is in use only where both ends are enabled": a HELLO greets a link that is disabled
abbrev between_disabled : World
between_disabled = with joined hello_word

pub without_between : LeadsOut between_disabled (true ∷ true ∷ false ∷ true ∷ true ∷ []) 64
unfolding computes apply sound holds everywhere every all
without_between = (refl, refl)

-- "a credit is on a line only towards a greeted end": credit comes to a link that is not
abbrev ungreeted : World
ungreeted = with (with_issued cabled 0 0 8) (credit_word 8)

pub without_towards : LeadsOut ungreeted (true ∷ true ∷ true ∷ false ∷ true ∷ []) 0
unfolding computes apply sound holds everywhere every all
without_towards = (refl, refl)

-- "while a HELLO is on a line its sender's credit is 0": one credit in hand, and 64 more are granted
abbrev in_hand : World
in_hand = with (with_flow cabled 0 0 (record { greeted = 1; credit = 1 })) hello_word

pub without_none_in_hand : LeadsOut in_hand (true ∷ true ∷ true ∷ true ∷ false ∷ []) 64
unfolding computes apply sound holds everywhere every all
without_none_in_hand = (refl, refl)

-- ".. no credit is on the line back": the HELLO that arrives forgets what was issued, and 64 more are granted behind it
abbrev coming_back : World
coming_back = put_on (with (with_issued greeted 0 1 8) hello_word) 0 1 (credit_word 8)

pub without_none_back : LeadsOut coming_back (true ∷ true ∷ true ∷ true ∷ false ∷ []) 64
unfolding computes apply sound holds everywhere every all
without_none_back = (refl, refl)

-- ".. no token stands behind it": a circuit of two, which are not among the 64 that the HELLO's arrival grants
abbrev followed : World
followed = put_on (put_on (with greeted hello_word) 0 0 (header_word 0 One)) 0 0 (control_word 1)

pub without_none_behind : LeadsOut followed (true ∷ true ∷ true ∷ true ∷ false ∷ []) 64
unfolding computes apply sound holds everywhere every all
without_none_behind = (refl, refl)
