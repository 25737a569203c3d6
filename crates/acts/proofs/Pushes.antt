-- Room before and after an act. Assumes nothing.
use Prim.Native.Nat.{ℕ, suc, ◌+◌, ◌%◌, ◌<◌, ◌≤◌}
use mathlib.Core.Path.{◌≡◌, sym, ◌∙◌}
use mathlib.Core.Bool.{Bool, false}
use mathlib.Core.List.{List, [], ◌∷◌}
use mathlib.Core.Logic.{⊎_elim}
use native.Mathlib.Omega.{arith}
use lib.ListN.{length, length-set}
use Rattle.laws.proofs.Order.{clash}
use Rattle.laws.proofs.Table.{upd_same}
use Rattle.names.specs.Size.{end_buffer}
use Rattle.tokens.specs.Word.{is_pause}
use Rattle.ports.specs.Queue.{capacity, put_counters, take_counters}
use Rattle.ports.specs.Memory.{place}
use Rattle.cells.specs.World.{World}
use Rattle.cells.specs.declared.end.Buffer.{Buffer}
use Rattle.acts.specs.Acts.{pushed, pushed_all, popped}
use Rattle.acts.specs.Needs.{Room, Keeps}

-- room for k is room for less
pub less : {w : World} {n p : ℕ} (k j : ℕ) → j ≤ k → Room w n p k → Room w n p j
less k j h r = record { node = r.node; port = r.port; fair = r.fair; room = omega (arith, r.room); reaches = r.reaches }

module _ (w : World) (n p t : ℕ) where
  pub pushed_counters : (pushed w n p t).net.ports.counters n p ≡ put_counters (w.net.ports.counters n p)
  unfolding pushed
  pushed_counters = upd_same w.net.ports.counters n p _

  pub room_left : (k : ℕ) → Room w n p (k + 1) → Room (pushed w n p t) n p k
  unfolding pushed
  room_left k r =
      let c = w.net.ports.counters n p in
      record {
        node = r.node;
        port = r.port;
        fair = rw (pushed_counters) (record { head_in = r.fair.head_in; held_in = omega (arith, r.room) });
        room = rw (pushed_counters) (omega (arith, r.room));
        reaches = rw (length-set w.memory (place n p + (c.head + c.held) % capacity) t) r.reaches;
      }

-- .. and after several
pub room_all : (ts : List ℕ) (w : World) (n p k : ℕ) → Room w n p (length ts + k) → Room (pushed_all w n p ts) n p k
room_all [] w n p k r = less (0 + k) k (omega arith) r
room_all (t ∷ ts) w n p k r =
    room_all ts (pushed w n p t) n p k (room_left w n p t (length ts + k) (less (suc (length ts) + k) (length ts + k + 1) (omega arith) r))

pub popped_counters : (w : World) (n p : ℕ) → (popped w n p).net.ports.counters n p ≡ take_counters (w.net.ports.counters n p)
unfolding popped
popped_counters w n p = upd_same w.net.ports.counters n p _

-- .. where the world after the push is known by an equation
pub room_after : (w z : World) (n p t k : ℕ) → z ≡ pushed w n p t → Room w n p (k + 1) → Room z n p k
room_after w z n p t k e r = rw e (room_left w n p t k r)

-- a channel-end that is to keep a token that is no PAUSE has room for it
pub holds : (k : Buffer) (t : ℕ) (b : Bool) → Keeps k t → b ≡ is_pause t → b ≡ false → k.held < end_buffer
holds k t b m e f = ⊎_elim (λ p. clash (sym p ∙ sym e ∙ f)) (λ h. h) m
