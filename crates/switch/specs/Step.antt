-- "What a Step does" (document 01), done: a plan carried out.
use Rattle.std.specs.Prelude.{ℕ, Bool, not, ◌&&◌, List, [], ◌∷◌, ltb}
use Rattle.laws.specs.Pick.{pick}
use Rattle.names.specs.Size.{ports}
use Rattle.names.specs.declared.no.No.TheVariants.{NoSuch}
use Rattle.circuits.specs.declared.Hop.TheVariants as Hops
use Rattle.tokens.specs.Word.{closes}
use Rattle.answers.specs.Rows.{Row, refused_if}
use Rattle.answers.specs.Out.{Out, out, attempt}
use Rattle.answers.specs.Answered as Answers
use Rattle.cells.specs.View.{Net}
use Rattle.cells.specs.World.{World}
use Rattle.acts.specs.Acts.{with_net, first_at, hopped}
use Rattle.messages.specs.Heard.{listens}
use Rattle.messages.specs.Ended.{ended}
use Rattle.moves.specs.Moves.{took, opens_out, lands_channel, lands_unit, closes_unit, moves_out, hands, drops}
use Rattle.plans.specs.Plan.{step_plan}
use Rattle.plans.specs.declared.Plan.{Plan}
use Rattle.plans.specs.declared.Plan.TheVariants.{Idle, Wait, OpenOut, OpenChannel, OpenUnit, Refuse, MoveOut, Hand, Hear, Drop}

-- "To the control unit: Moved, but for the two end answers": "The hop closes first, with any grant that the taking of its last token
-- brings", and then the message is at its end
abbrev pub hears : World → ℕ → ℕ → Out World
hears w n p =
    pick (closes (first_at w n p))
    (ended (with_net (took w n p) (closes_unit (took w n p).net n p)) n (first_at w n p))
    (out Answers.Moved (with_net (took w n p) (listens (took w n p).net n (first_at w n p))))

-- a plan carried out, and its answer: "answering Opened with the link, Waiting, or Refused, NoRoute .. Moved .. Dropped, with the cause"
abbrev pub step_performed : World → ℕ → ℕ → Plan → Out World
step_performed w n p Idle = out Answers.Idle w
step_performed w n p Wait = out Answers.Waiting w
step_performed w n p (OpenOut l) = out (Answers.OpenedLink l) (with_net w (opens_out w.net n p l))
step_performed w n p (OpenChannel c t) = out Answers.OpenedChannel (lands_channel w n p c t)
step_performed w n p OpenUnit = out Answers.OpenedUnit (lands_unit w n p)
step_performed w n p (Refuse x) = out (Answers.Refused x) (with_net w (hopped w.net n p (Hops.Dropped x)))
step_performed w n p (MoveOut l) = out Answers.Moved (moves_out w n p l)
step_performed w n p (Hand c t) = out Answers.Moved (hands w n p c t)
step_performed w n p Hear = hears w n p
step_performed w n p (Drop x) = out (Answers.Dropped x) (drops w n p)

-- "port not present" is NoSuch
abbrev pub port_at : Net → ℕ → ℕ → Bool
port_at s n p = ltb n s.nodes && ltb p ports

abbrev pub step_rows : Net → ℕ → ℕ → List Row
step_rows s n p = refused_if (not (port_at s n p)) NoSuch ∷ []

-- what a Step makes: its plan, carried out
abbrev pub step_made : World → ℕ → ℕ → Out World
step_made w n p = step_performed w n p (step_plan w n p)

unfoldable pub step : World → ℕ → ℕ → Out World
step w n p = attempt (step_rows w.net n p) w (step_made w n p)
