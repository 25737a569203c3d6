-- "Output a token." (document 01, "Calls"): a plan carried out by the acts, and when it is refused.
use Prim.{Unit, tt}
use Rattle.std.specs.Prelude.{ℕ, ◌%◌, Bool, true, false, not, List, [], ◌∷◌, Result, Ok, eqb}
use Rattle.names.specs.No as Names
use Rattle.names.specs.declared.no.No.{No as Why}
use Rattle.names.specs.declared.no.No.TheVariants as Whys
use Rattle.circuits.specs.declared.Peer.TheVariants as Peers
use Rattle.tokens.specs.Control.{output_checked}
use Rattle.tokens.specs.Word.{data_word, control_word}
use Rattle.tokens.specs.Header.{header_of, words}
use Rattle.tokens.specs.declared.header.Target.{Target}
use Rattle.tokens.specs.declared.header.Target.TheVariants as Targets
use Rattle.answers.specs.Rows.{Row, refused_if}
use Rattle.answers.specs.Out.{Out, out, attempt}
use Rattle.answers.specs.Answered.{Done}
use Rattle.cells.specs.View.{Net}
use Rattle.cells.specs.World.{World}
use Rattle.acts.specs.Acts.{with_net, width_at, pushed, pushed_all, networked, sent_by, sends_to, until_closed, claimed_by, handed}
use Rattle.ends.specs.Ends.{end_at}
use Rattle.ends.specs.Plan.{target_of, output_plan}
use Rattle.ends.specs.declared.Token.{Token}
use Rattle.ends.specs.declared.Token.TheVariants.{Data, Control}
use Rattle.ends.specs.declared.plan.Plan.{Plan}
use Rattle.ends.specs.declared.plan.Plan.TheVariants.{Narrow, Full, Opens, Behind, Straight}

-- "Data tokens are 0..255": of what a caller gives, the low eight bits
abbrev pub byte_of : ℕ → ℕ
byte_of v = v % 256

-- the word of a token
abbrev pub word_of : Token → ℕ
word_of (Data v) = data_word (byte_of v)
word_of (Control v) = control_word (byte_of v)

abbrev pub is_unit : Target → Bool
is_unit (Targets.Channel m c) = false
is_unit (Targets.Unit m) = true

-- 7 or 8, for a control token towards a destination
abbrev pub token_checked : Token → Target → Result Unit Why
token_checked (Data v) g = Ok tt
token_checked (Control v) g = output_checked (byte_of v) (is_unit g)

-- .. by its number
abbrev pub token_no : Token → Target → ℕ
token_no x g = Names.number_by (token_checked x g)

-- the circuit of channel-end c goes by port p, until this token closes it
abbrev pub goes_by : Net → ℕ → ℕ → ℕ → ℕ → Net
goes_by s n c p t = sends_to (sent_by s n p (until_closed t (Peers.End c))) n c (until_closed t (Peers.Port p))

-- "the lowest free port 8..11 is taken and receives header and token": the network is the circuit's
abbrev pub opens_by : World → ℕ → ℕ → Target → ℕ → ℕ → World
opens_by w n c g p t =
    let z = pushed (pushed_all w n p (words (header_of g (width_at w.net n)))) n p t in
    with_net z (goes_by (networked z.net n p (w.net.ends.aims n c).network) n c p t)

-- later tokens go behind, in the same port
abbrev pub goes_behind : World → ℕ → ℕ → ℕ → ℕ → World
goes_behind w n c p t = with_net (pushed w n p t) (goes_by (pushed w n p t).net n c p t)

-- "tokens go straight to that channel-end with no header and no link, and the channel-end is claimed until END or PAUSE"
abbrev pub goes_straight : Net → ℕ → ℕ → ℕ → ℕ → Net
goes_straight s n c d t =
    sends_to (claimed_by (handed s n d t) n d (until_closed t (Peers.End c))) n c (until_closed t (Peers.End d))

-- a plan carried out
abbrev pub output_performed : World → ℕ → ℕ → Target → ℕ → Plan → World
output_performed w n c g t Narrow = w
output_performed w n c g t Full = w
output_performed w n c g t (Opens p) = opens_by w n c g p t
output_performed w n c g t (Behind p) = goes_behind w n c p t
output_performed w n c g t (Straight d) = with_net w (goes_straight w.net n c d t)

abbrev pub is_narrow_plan : Plan → Bool
is_narrow_plan Narrow = true
is_narrow_plan Full = false
is_narrow_plan (Opens p) = false
is_narrow_plan (Behind p) = false
is_narrow_plan (Straight d) = false

abbrev pub is_full_plan : Plan → Bool
is_full_plan Narrow = false
is_full_plan Full = true
is_full_plan (Opens p) = false
is_full_plan (Behind p) = false
is_full_plan (Straight d) = false

-- what refuses a plan; a token towards a destination; and an Output. "After 1 and 2, Output looks at the destination before the token"
abbrev pub plan_rows : Plan → List Row
plan_rows x = refused_if (is_narrow_plan x) Whys.Narrow ∷ refused_if (is_full_plan x) Whys.Full ∷ []

abbrev pub send_rows : Net → ℕ → ℕ → Target → Token → List Row
send_rows s n c g x =
    refused_if (eqb (token_no x g) (Names.number Whys.Hardware)) Whys.Hardware
    ∷ refused_if (eqb (token_no x g) (Names.number Whys.Privileged)) Whys.Privileged
    ∷ plan_rows (output_plan s n c g (word_of x))

abbrev pub output_rows : Net → ℕ → ℕ → Token → List Row
output_rows s n c x =
    refused_if (not (end_at s n c)) Whys.NoSuch
    ∷ refused_if (eqb (s.ends.aims n c).kind 0) Whys.Unaimed
    ∷ send_rows s n c (target_of (s.ends.aims n c)) x

-- what comes of a token towards a destination, and of an Output
abbrev pub token_sent : World → ℕ → ℕ → Target → Token → World
token_sent w n c g x = output_performed w n c g (word_of x) (output_plan w.net n c g (word_of x))

abbrev pub output_made : World → ℕ → ℕ → Token → World
output_made w n c x = token_sent w n c (target_of (w.net.ends.aims n c)) x

unfoldable pub output : World → ℕ → ℕ → Token → Out World
output w n c x = attempt (output_rows w.net n c x) w (out Done (output_made w n c x))
