-- What is known of the state at a record, and after its Step. Assumes nothing.
use Prim.{tt}
use Prim.Native.Nat.{ℕ}
use mathlib.Core.Path.{◌≡◌, refl, ap, ◌∙◌}
use mathlib.Core.Bool.{Bool, true, false, ◌&&◌}
use mathlib.Core.List.{List}
use lib.ListN.{set}
use Rattle.laws.proofs.All.{also, as_is}
use Rattle.answers.specs.Answer.{answer_number}
use Rattle.answers.specs.Out.{Out, out}
use Rattle.answers.specs.Answered.{Answered}
use Rattle.cells.specs.World.{World}
use Rattle.sound.specs.Sound.{sound, tight}
use Rattle.kept.proofs.Parts.{sound_kept, kept_sound}
use Rattle.bench.specs.Calls.{Call, Step, apply}
use Rattle.bench.proofs.Lasts.{call_keeps}
use Rattle.shift.specs.Lists.{left, one_step}
use Rattle.shift.specs.Needs.{Sure, known}

-- what `known` finds is so
found : (b : Bool) (w : World) → (sound w && tight w) ≡ b → Sure b w
found true w e = (also (as_is (sound w)) (as_is (tight w))).sure e
found false w e = tt

pub known_sure : (b more : Bool) (w : World) → Sure b w → Sure (known b more w) w
known_sure true more w h = h
known_sure false true w h = found (sound w && tight w) w refl
known_sure false false w h = tt

-- soundness lasts: a call made on a state that is known leaves one that is
pub sure_after : (b : Bool) (w : World) (c : Call) → Sure b w → Sure b (apply w c).next
sure_after true w c h = kept_sound (apply w c).next (call_keeps w (sound_kept w h.0 h.1) c)
sure_after false w c h = tt

-- a state that is not known is not asked at the last record; else: not sound, or what the ties say
pub not_asked : (b more : Bool) (w : World) → b ≡ false → more ≡ false → false ≡ known b more w
not_asked b more w e m = rw (e, m)

pub not_sound : (b more : Bool) (w : World) → b ≡ false → more ≡ true → sound w ≡ false → false ≡ known b more w
not_sound b more w e m f = rw (e, m, f)

pub as_tight : (b more : Bool) (w : World) (r : Bool) → b ≡ false → more ≡ true → sound w ≡ true → r ≡ tight w → r ≡ known b more w
as_tight b more w r e m f h = rw (e, m, f) h

-- what is asked of a Step whose state is known
pub sure_sound : (b : Bool) (w : World) → b ≡ true → Sure b w → sound w ≡ true
sure_sound b w e h = (rw e at h).0

-- A RECORD: what its Step asks, what is known after it, and its result stored
pub known_from : (b more : Bool) (w : World) (r : Bool) → r ≡ known b more w → Sure b w → Sure r w
known_from b more w r e h = rw e (known_sure b more w h)

pub kept_on : (b : Bool) (w : World) (c : Call) (a : Answered) (v : World) → out a v ≡ apply w c → Sure b w → Sure b v
kept_on b w c a v e h = rw (ap (λ (o : Out World). o.next) e) (sure_after b w c h)

pub stored : (w : World) (rs : List ℕ) (i slot port n : ℕ) (a : Answered) (v : World)
    → out a v ≡ apply w (Step (record { 0 = slot }) port)
    → n ≡ answer_number a
    → left v (set rs i n) ≡ one_step (left w rs) i slot port
unfolding one_step
stored w rs i slot port n a v e f =
    ap (λ (m : ℕ). left v (set rs i m)) f ∙ ap (λ (o : Out World). left o.next (set rs i (answer_number o.answer))) e
