-- What making a Set asks of the state: the link is present and a number has sixteen bits, from the test that refuses it (`check_set`);
-- cables lead to links that are present and lines can be read, as a sound state's do (`settled` in switch/proofs/Cabled.antt).
use Prim.{Unit}
use Rattle.std.specs.Prelude.{ℕ, ◌<◌, ◌≤◌}
use Rattle.names.specs.Size.{links, numbers}
use Rattle.ports.specs.Queue.{capacity}
use Rattle.cells.specs.World.{World}
use Rattle.travel.specs.Travel.{load_from}
use Rattle.travel.specs.Needs.{Cabled, LineThere}
use Rattle.settings.specs.declared.Setting.{Setting}
use Rattle.settings.specs.declared.Setting.TheVariants.{Number, Width, Direction, LinkDirection, Network, Enable, Hello}

-- the link that is set is present, if a link is; a number is one (what `is_number` has tested is a `NodeNumber` from there on)
abbrev pub Settable : Setting → Type 0
Settable (Number v) = v < numbers
Settable (Width v) = Unit
Settable (Direction b v) = Unit
Settable (LinkDirection l v) = l < links
Settable (Network l v) = l < links
Settable (Enable l v) = l < links
Settable (Hello l) = l < links

-- what is asked at link l of node n: its cable leads to a link that is there, its line can be read, and the tokens on it are no more than a
-- port holds, which leaves room for a credit and a HELLO
pub record LinkReady (w : World) (n l : ℕ) : Type 0 where
  pub cabled : Cabled w.net n l
  pub line : LineThere w n l
  pub tokens : (load_from w n l).tokens ≤ capacity

-- .. at every link
abbrev pub Settled : World → Type 0
Settled w = (n l : ℕ) → n < w.net.nodes → l < links → LinkReady w n l
