-- What a line that is ready gives. Assumes nothing.
use Prim.Native.Nat.{ℕ, ◌+◌, ◌*◌, ◌/◌, ◌<◌, ◌≤◌}
use mathlib.Core.Path.{◌≡◌}
use mathlib.Core.Bool.{true}
use native.Mathlib.Omega.{arith}
use lib.ListN.{length}
use Rattle.laws.specs.All.{Means}
use Rattle.laws.proofs.All.{also, same_as, below, at_most}
use Rattle.names.specs.Size.{links}
use Rattle.lines.specs.Line.{line_capacity, LineFair, line_place}
use Rattle.cells.specs.World.{World}
use Rattle.line_clauses.specs.Lines.{line_ready}

module _ (w : World) (n l : ℕ) where
  -- the four tests, each as a fact
  pub record LineReady : Type 0 where
    pub node : n < length w.line_memory / (links * line_capacity)
    pub link : l < links
    pub head : (w.net.lines.rings n l).head < line_capacity
    pub held : (w.net.lines.rings n l).held ≤ line_capacity

  pub readies : Means (line_ready w n l) LineReady
  readies =
      same_as
      (λ z. record { node = z.0; link = z.1.0; head = z.1.1.0; held = z.1.1.1 })
      (λ f. (f.node, (f.link, (f.head, f.held))))
      (also (below _ _) (also (below _ _) (also (below _ _) (at_most _ _))))

  module _ (e : line_ready w n l ≡ true) where
    pub line_fair : LineFair (w.net.lines.rings n l)
    line_fair = let z = readies.sure e in record { head_in = z.head; held_in = z.held }

    pub line_reaches : line_place n l + line_capacity ≤ length w.line_memory
    line_reaches = let z = readies.sure e in omega (arith, z.node, z.link)
