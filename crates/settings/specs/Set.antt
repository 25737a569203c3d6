-- "Set: a node's number, width, one direction entry; a link's direction, network, enable, HELLO." (document 01, "Calls")
use Rattle.std.specs.Prelude.{ℕ, Bool, true, false, not, ◌&&◌, ◌||◌, List, [], ◌∷◌, eqb, ltb, leb}
use Rattle.laws.specs.Pick.{pick}
use Rattle.names.specs.Size.{links, networks, directions, bits}
use Rattle.names.specs.declared.no.No.TheVariants.{NoSuch, Value, Busy}
use Rattle.names.specs.Number.{is_number}
use Rattle.routing.specs.Direction.{with_entry}
use Rattle.answers.specs.Rows.{Row, refused_if}
use Rattle.answers.specs.Out.{Out, out, attempt}
use Rattle.answers.specs.Answered.{Answered, Done, Granted}
use Rattle.cells.specs.View.{Net, whole_port, with_node, with_setup}
use Rattle.cells.specs.World.{World, far_of, Far}
use Rattle.cells.specs.Changes.{numbered_as, width_as, directions_as, directed_to, network_as, enabled_as}
use Rattle.clauses.specs.Cables.{enabled, on_far}
use Rattle.clauses.specs.Counts.{is_free}
use Rattle.acts.specs.Acts.{with_net}
use Rattle.travel.specs.Travel.{load_from, says_hello, disabled}
use Rattle.settings.specs.declared.Setting.{Setting}
use Rattle.settings.specs.declared.Setting.TheVariants.{Number, Width, Direction, LinkDirection, Network, Enable, Hello}

-- the link that is set is present, if a link is
abbrev pub link_there : Setting → Bool
link_there (Number v) = true
link_there (Width v) = true
link_there (Direction b v) = true
link_there (LinkDirection l v) = ltb l links
link_there (Network l v) = ltb l links
link_there (Enable l v) = ltb l links
link_there (Hello l) = ltb l links

-- "Value: a setting or direction bit out of range"
abbrev pub in_range : Setting → Bool
in_range (Number v) = is_number v
in_range (Width v) = eqb v 1 || eqb v 3
in_range (Direction b v) = ltb b bits && ltb v directions
in_range (LinkDirection l v) = ltb v directions
in_range (Network l v) = ltb v networks
in_range (Enable l v) = leb v 1
in_range (Hello l) = true

-- "either end's buffer holds a token or either direction is in a circuit": one end, with a hop of its port
abbrev pub end_in_use : Net → ℕ → ℕ → Bool
end_in_use s n l = not (is_free (whole_port s n l)) || not (eqb (s.links.users n l).kind 0)

abbrev pub far_in_use : Net → Far → Bool
far_in_use s f = on_far f false (end_in_use s)

abbrev pub in_use : Net → ℕ → ℕ → Bool
in_use s n l = end_in_use s n l || far_in_use s (far_of (s.links.cables n l))

-- "network changed to another while enabled"
abbrev pub changes_network : Net → ℕ → ℕ → ℕ → Bool
changes_network s n l v = enabled s n l && not (eqb (s.links.setups n l).network v)

-- "on either line" (document 02, Ask 4): a test of the two lines of a link's cable; an unwired link has none
abbrev pub either_line : (World → ℕ → ℕ → Bool) → World → ℕ → ℕ → Bool
either_line f w n l = on_far (far_of (w.net.links.cables n l)) false (λ m k. f w n l || f w m k)

-- "anything is"
abbrev pub in_transit : World → ℕ → ℕ → Bool
in_transit w n l = not (eqb (w.net.lines.rings n l).held 0)

-- "a credit or HELLO is"
abbrev pub signalled : World → ℕ → ℕ → Bool
signalled w n l = not (eqb (load_from w n l).credits 0) || not (eqb (load_from w n l).hellos 0)

-- "disabling an enabled link while ..", and "while anything is" on either line
abbrev pub disables_busy : World → ℕ → ℕ → ℕ → Bool
disables_busy w n l v = eqb v 0 && (enabled w.net n l && (in_use w.net n l || either_line in_transit w n l))

-- "HELLO on a disabled link", and "while a credit or HELLO is on either line"
abbrev pub hello_busy : World → ℕ → ℕ → Bool
hello_busy w n l = not (enabled w.net n l) || either_line signalled w n l

abbrev pub set_busy : World → ℕ → Setting → Bool
set_busy w n (Number v) = false
set_busy w n (Width v) = false
set_busy w n (Direction b v) = false
set_busy w n (LinkDirection l v) = false
set_busy w n (Network l v) = changes_network w.net n l v
set_busy w n (Enable l v) = disables_busy w n l v
set_busy w n (Hello l) = hello_busy w n l

abbrev pub set_rows : World → ℕ → Setting → List Row
set_rows w n x =
    refused_if (not (ltb n w.net.nodes && link_there x)) NoSuch ∷ refused_if (not (in_range x)) Value ∷ refused_if (set_busy w n x) Busy ∷ []

-- "Disabling zeroes and un-greets both ends"
abbrev pub enabled_or : Net → ℕ → ℕ → ℕ → Net
enabled_or s n l v = pick (eqb v 0) (disabled s n l) (with_setup s n l (enabled_as (s.links.setups n l) 1))

-- what is set
abbrev pub set_made : World → ℕ → Setting → World
set_made w n (Number v) = let s = w.net in with_net w (with_node s n (numbered_as (s.own n 0) v))
set_made w n (Width v) = let s = w.net in with_net w (with_node s n (width_as (s.own n 0) v))
set_made w n (Direction b v) =
    let s = w.net in with_net w (with_node s n (directions_as (s.own n 0) (with_entry (s.own n 0).directions b v)))
set_made w n (LinkDirection l v) = let s = w.net in with_net w (with_setup s n l (directed_to (s.links.setups n l) v))
set_made w n (Network l v) = let s = w.net in with_net w (with_setup s n l (network_as (s.links.setups n l) v))
set_made w n (Enable l v) = with_net w (enabled_or w.net n l v)
set_made w n (Hello l) = says_hello w n l

-- "The answer to HELLO gives the grant" (document 01): when it is sent there is none yet
abbrev pub set_answer : Setting → Answered
set_answer (Number v) = Done
set_answer (Width v) = Done
set_answer (Direction b v) = Done
set_answer (LinkDirection l v) = Done
set_answer (Network l v) = Done
set_answer (Enable l v) = Done
set_answer (Hello l) = Granted 0

unfoldable pub set_call : World → ℕ → Setting → Out World
set_call w n x = attempt (set_rows w n x) w (out (set_answer x) (set_made w n x))
