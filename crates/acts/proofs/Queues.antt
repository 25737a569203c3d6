-- A port as a queue through the acts: what is put is behind all else, what is taken was first, and a word keeps its marks. Assumes nothing.
use Prim.Native.Nat.{ℕ}
use mathlib.Core.Path.{◌≡◌, sym, ap, ◌∙◌}
use mathlib.Core.List.{[], ◌∷◌, ◌++◌}
use native.Mathlib.Omega.{arith}
use Rattle.ports.specs.Memory.{place, held, put_memory, take_memory}
use Rattle.ports.specs.declared.Counters.{Counters}
use Rattle.ports.proofs.Ports.{put_here, take_here}
use Rattle.cells.specs.World.{World, queue}
use Rattle.acts.specs.Acts.{pushed, popped, first_at}
use Rattle.acts.specs.Needs.{Room, Holds}
use Rattle.acts.proofs.Pushes.{pushed_counters, popped_counters}

pub pushed_queue : (w : World) (n p t : ℕ) → Room w n p 1 → queue (pushed w n p t) n p ≡ queue w n p ++ (t ∷ [])
unfolding pushed
pushed_queue w n p t r =
    let k = w.net.ports.counters n p in
    ap (λ (c : Counters). held c (put_memory k w.memory (place n p) t) (place n p)) (pushed_counters w n p t)
    ∙ put_here k w.memory (place n p) t r.reaches (omega (arith, r.room))

pub popped_queue : (w : World) (n p : ℕ) → Holds w n p 1 → queue w n p ≡ (first_at w n p ∷ queue (popped w n p) n p)
unfolding popped
popped_queue w n p r =
    let k = w.net.ports.counters n p in
    take_here k w.memory (place n p) r.fair (omega (arith, r.held))
    ∙ ap (λ (c : Counters). first_at w n p ∷ held c (take_memory k w.memory (place n p)) (place n p)) (sym (popped_counters w n p))
