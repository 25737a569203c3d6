-- Tight: ties that last with the Sound list and are no part of it. The list lasts by them; `idle` alone is leant on by no call, and is
-- kept for what it says. Those that read lines, `fed` among them, are in crate line_clauses.
use Rattle.std.specs.Prelude.{ℕ, Bool, true, ◌||◌, eqb}
use Rattle.names.specs.Size.{reply_port}
use Rattle.circuits.specs.Circuit.{peer_of}
use Rattle.circuits.specs.declared.Peer.{Peer}
use Rattle.circuits.specs.declared.Peer.TheVariants.{Nobody, Port, End}
use Rattle.grammar.specs.Stage.{crossed, same_stage}
use Rattle.grammar.specs.declared.stage.Stage.{Stage}
use Rattle.grammar.specs.declared.stage.Stage.TheVariants.{Fresh, Body}
use Rattle.cells.specs.View.{Net}
use Rattle.cells.specs.World.{World}
use Rattle.clauses.specs.Contents.{front, back}

-- what a link has carried: as much as has left the port that uses it, or nothing unfinished
abbrev pub carried_for : World → ℕ → Peer → Stage
carried_for w n Nobody = Fresh
carried_for w n (Port p) = crossed (front w n p)
carried_for w n (End e) = Fresh

-- unfed: an unwired link's port ends with a circuit's end
abbrev pub unfed : World → ℕ → ℕ → Bool
unfed w n l = eqb (w.net.links.cables n l).wired 1 || same_stage (back w n l) Fresh

-- unsent: of what leaves by an unwired link nothing has left yet, so that its whole header is at its port's front
abbrev pub unsent : World → ℕ → ℕ → Bool
unsent w n l =
    eqb (w.net.links.cables n l).wired 1 || same_stage (carried_for w n (peer_of (w.net.links.users n l))) Fresh

-- idle: a disabled link is used by nobody
abbrev pub idle : Net → ℕ → ℕ → Bool
idle s n l = eqb (s.links.setups n l).enabled 1 || eqb (s.links.users n l).kind 0

-- sends: the port of an open channel-end ends past a header, without END or PAUSE
abbrev pub in_body : World → ℕ → Peer → Bool
in_body w n Nobody = true
in_body w n (Port p) = same_stage (back w n p) Body
in_body w n (End c) = true

abbrev pub sends : World → ℕ → ℕ → Bool
sends w n e = in_body w n (peer_of (w.net.ends.sendings n e))

-- replied: port 12 ends with a circuit's end
abbrev pub replied : World → ℕ → ℕ → Bool
replied w n i = same_stage (back w n reply_port) Fresh
