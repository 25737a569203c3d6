-- What a run of calls computes through: a proof that unfolds `computes` has every shut definition on a run's way open. Assumes nothing.
use Prim.{Unit, tt}
use Rattle.laws.specs.Table.{upd}
use Rattle.laws.specs.All.{first}
use Rattle.tokens.specs.Control.{output_checked}
use Rattle.tokens.specs.Word.{closes}
use Rattle.tokens.specs.Shape.{legal_channel, three_shape, shape_of}
use Rattle.tokens.specs.Header.{header_of, read_one, read_three}
use Rattle.routing.specs.Way.{highest}
use Rattle.routing.specs.Direction.{field, with_field, entry_of, with_entry}
use Rattle.ports.specs.Ring.{ring}
use Rattle.lines.specs.Load.{credit_of, is_token, before}
use Rattle.credits.specs.Grant.{grant_of}
use Rattle.cells.specs.World.{shaped}
use Rattle.acts.specs.Acts.{pushed, popped}
use Rattle.line_clauses.specs.Lines.{load_at, reached}
use Rattle.travel.specs.Travel.{put_on, taken_off, grant_due, grants_back, says_hello, disabled, line_came, line_stepped}
use Rattle.settings.specs.Set.{set_call}
use Rattle.messages.specs.Heard.{message_of}
use Rattle.messages.specs.Write.{written}
use Rattle.messages.specs.Ended.{ended}
use Rattle.moves.specs.Moves.{took}
use Rattle.ends.specs.Plan.{output_plan}
use Rattle.plans.specs.Plan.{step_plan}

unfoldable pub computes : Unit {0}
unfolding
    upd first output_checked closes legal_channel three_shape shape_of header_of read_one read_three highest field with_field entry_of with_entry ring
    credit_of is_token before grant_of shaped pushed popped load_at reached put_on taken_off grant_due grants_back says_hello disabled line_came
    line_stepped set_call message_of written ended took output_plan step_plan
computes = tt
