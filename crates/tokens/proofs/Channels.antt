-- Which channels a destination can name. Assumes nothing.
use Prim.Native.Nat.{ℕ, ◌<◌, ◌≤◌}
use mathlib.Core.Path.{◌≡◌}
use mathlib.Core.Bool.{false}
use mathlib.Core.Logic.{◌⊎◌}
use borrow.Author.Tests.{le-ltb, ne_eqb}
use Rattle.laws.specs.All.{Means}
use Rattle.laws.proofs.All.{either, below, equal}
use Rattle.names.specs.Size.{channels, sink}
use Rattle.tokens.specs.Shape.{legal_channel}

pub legal_channel_lem : (c : ℕ) → Means (legal_channel c) ((c < channels) ⊎ (c ≡ sink))
unfolding legal_channel
legal_channel_lem c = either (below c channels) (equal c sink)

pub illegal_channel : (c : ℕ) → channels ≤ c → (c ≡ sink → ⊥) → legal_channel c ≡ false
unfolding legal_channel
illegal_channel c l e = rw (le-ltb c channels l, ne_eqb c sink e)
