-- Words laid into a buffer from a place on, one stretch behind the other, as both calls do it. Assumes nothing.
use Prim.Native.Nat.{ℕ, zero, suc, ◌+◌, ◌-◌, ◌<◌, ◌≤◌}
use mathlib.Core.Path.{◌≡◌, sym, ap, ◌∙◌}
use mathlib.Core.Logic.{⊎_elim}
use mathlib.Core.List.{List, [], ◌∷◌, ◌++◌, append_assoc}
use native.Mathlib.Nat.{add-zero}
use native.Mathlib.Numerals.{add-one}
use native.Mathlib.Omega.{arith}
use lib.ListN.{length, take, drop, set, length-append, length-drop, take-append-drop}
use lib.Seq.{paste, set_split, drop-drop, take-append_seam, drop-append-add}
use borrow.Rule.Slice.PartMut.{put_mid, Post-is}
use Rattle.laws.proofs.Order.{order}
use Rattle.probe.specs.Calls.{filled}
use Rattle.probe.specs.Needs.{laid_in}

-- nothing, and one word
pub lay_none : (l : List ℕ) (at : ℕ) → laid_in l at [] ≡ l
lay_none l at = rw add-zero (take-append-drop at l)

pub lay_one : (l : List ℕ) (at x : ℕ) → at < length l → set l at x ≡ laid_in l at (x ∷ [])
lay_one l at x h = set_split l at x h ∙ rw add-one

-- behind a stretch that is laid in front of a buffer: one longer stretch
module _ (ys zs l : List ℕ) where
  pub lay_behind : laid_in (filled ys l) (length ys) zs ≡ filled (ys ++ zs) l
  lay_behind =
      rw (take-append_seam ys (drop (length ys) l), drop-append-add ys (drop (length ys) l) (length zs), drop-drop, length-append, append_assoc)

-- a copy of the first words of a list into a part of another
pub part_pasted : (l s : List ℕ) (at n : ℕ) → put_mid at (at + n - at) l (take n s) ≡ paste l at s n
part_pasted l s at n =
    ap (λ (r : List ℕ). take at l ++ (take n s ++ r)) (Post-is at (at + n) l (omega arith))
    ∙ sym (append_assoc (take at l) (take n s) (drop (at + n) l))

-- a copy of a whole list behind a stretch that is laid in front
pub lay_part : (ys zs l b : List ℕ) (at n : ℕ)
    → at ≡ length ys
    → n ≡ length zs
    → b ≡ filled ys l
    → put_mid at (at + n - at) b zs ≡ filled (ys ++ zs) l
lay_part ys zs l b at n e d g =
    ap (λ (r : List ℕ). take at b ++ (zs ++ r)) (Post-is at (at + n) b (omega arith)) ∙ rw (e, d, g) (lay_behind ys zs l)

pub filled_long : (ys l : List ℕ) → length ys ≤ length l → length (filled ys l) ≡ length l
filled_long ys l h = rw (length-append, length-drop) (omega arith)

-- one word behind such a stretch
pub laid_one : (ys l : List ℕ) (x : ℕ) → length ys < length l → set (filled ys l) (length ys) x ≡ filled (ys ++ (x ∷ [])) l
laid_one ys l x h = lay_one (filled ys l) (length ys) x (rw (filled_long ys l (omega arith)) h) ∙ lay_behind ys (x ∷ []) l

-- a list that each turn of a loop appends to is never longer before
pub grows : (f g : ℕ → List ℕ) → ((n : ℕ) → f (suc n) ≡ f n ++ g n) → (m i : ℕ) → i ≤ m → length (f i) ≤ length (f m)
grows f g e zero i h = let q : i ≡ 0 = omega arith in rw q (omega arith)
grows f g e (suc m) i h =
    ⊎_elim
    (λ (l : i < suc m). rw (e m, length-append) (omega (arith, grows f g e m i (omega arith))))
    (λ (l : suc m ≤ i). let q : i ≡ suc m = omega arith in rw q (omega arith))
    (order i (suc m))
