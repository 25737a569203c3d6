-- What a port holds, as far as a header asks. Assumes nothing.
use Prim.{tt}
use Prim.Native.Nat.{ℕ, ◌≤◌}
use mathlib.Core.Path.{◌≡◌}
use mathlib.Core.Bool.{true}
use native.Mathlib.Omega.{arith}
use lib.Dec.{lit≤}
use Rattle.tokens.specs.Word.{is_three}
use Rattle.tokens.specs.declared.header.Width.{Width}
use Rattle.tokens.specs.declared.header.Width.TheVariants.{One, Three}
use Rattle.cells.specs.World.{World}
use Rattle.acts.specs.Acts.{word_at}
use Rattle.acts.specs.Needs.{Holds}
use Rattle.plans.specs.Plan.{size_of, marked_width}

pub size_some : (x : Width) → 1 ≤ size_of x
size_some One = lit≤ tt
size_some Three = lit≤ tt

pub holds_less : {w : World} {n p : ℕ} (k j : ℕ) → j ≤ k → Holds w n p k → Holds w n p j
holds_less k j h r = record { node = r.node; port = r.port; fair = r.fair; held = omega (arith, r.held); reaches = r.reaches }

-- a header that is marked as three bytes, and held whole, has three tokens
pub three_held : (w : World) (n p : ℕ) → Holds w n p (size_of (marked_width (word_at w n p 0)))
    → is_three (word_at w n p 0) ≡ true
    → Holds w n p 3
three_held w n p r e = rw e at r

-- .. and one at least, whatever its width
pub one_held : (w : World) (n p : ℕ) → Holds w n p (size_of (marked_width (word_at w n p 0))) → Holds w n p 1
one_held w n p r = holds_less (size_of (marked_width (word_at w n p 0))) 1 (size_some (marked_width (word_at w n p 0))) r

-- held whole, by the test that asks
pub holds_whole : (w : World) (n p k : ℕ) → k ≤ (w.net.ports.counters n p).held → Holds w n p 1 → Holds w n p k
holds_whole w n p k h r = record { node = r.node; port = r.port; fair = r.fair; held = h; reaches = r.reaches }

pub holds_some : (w : World) (n p : ℕ) → ((w.net.ports.counters n p).held ≡ 0 → ⊥) → Holds w n p 0 → Holds w n p 1
holds_some w n p h r =
    record { node = r.node; port = r.port; fair = r.fair; held = some (w.net.ports.counters n p).held h; reaches = r.reaches }
  where
    some : (a : ℕ) → (a ≡ 0 → ⊥) → 1 ≤ a
    some a ne = omega arith
