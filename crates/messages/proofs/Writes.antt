-- A write to a register, made as its fields are: what would refuse a later one is seen before. Assumes nothing.
use Prim.{Unit as Nothing, tt}
use Prim.Native.Nat.{ℕ, zero, suc, ◌+◌, ◌*◌, ◌/◌, ◌%◌, ◌^◌, ◌<◌, ◌≤◌}
use mathlib.Core.Path.{◌≡◌, refl, sym, ap, ◌∙◌}
use mathlib.Core.Bool.{Bool, true, false}
use mathlib.Core.List.{List, [], ◌∷◌}
use native.Mathlib.Omega.{arith}
use lib.Dec.{eqb}
use borrow.Author.Tests.{eq-eqb, eqb-true, lt-ltb}
use Rattle.laws.specs.Row.{tab}
use Rattle.laws.specs.All.{Means}
use Rattle.laws.proofs.Order.{by_test, clash}
use Rattle.laws.proofs.Table.{upd_same}
use Rattle.std.specs.Prelude.{Result, is_err}
use Rattle.names.specs.No.{passes}
use Rattle.names.specs.declared.no.No.{No as Why}
use Rattle.routing.specs.Direction.{field}
use Rattle.answers.specs.Answer.{number_of}
use Rattle.answers.specs.Rows.{checked, refusal, Passes}
use Rattle.answers.proofs.Refusals.{some_back, by_check, clear, passed}
use Rattle.cells.specs.View.{Net, with_setup}
use Rattle.cells.specs.World.{World, far_of, Far, Nowhere, At}
use Rattle.cells.specs.Changes.{enabled_as}
use Rattle.cells.specs.declared.link.Setup.{Setup}
use Rattle.travel.specs.Travel.{zeroed, far_zeroed, disabled}
use Rattle.settings.specs.Set.{signalled, either_line, set_rows, set_answer, set_made, set_call}
use Rattle.settings.specs.Needs.{Settled}
use Rattle.settings.specs.declared.Setting.{Setting}
use Rattle.settings.specs.declared.Setting.TheVariants.{Number, Width, Direction, LinkDirection, Network, Enable, Hello}
use Rattle.settings.proofs.Leaves.{Leaves, leaves_all, and_then, set_leaves}
use Rattle.settings.proofs.Settled.{still_settled}
use Rattle.messages.specs.Register.{entries_of}
use Rattle.messages.specs.Write.{passes_set, accepted, made_all, written}

-- A Set that is not refused answers no number
unrefused : (x : Setting) → number_of (set_answer x) ≡ passes
unrefused (Number v) = refl
unrefused (Width v) = refl
unrefused (Direction b v) = refl
unrefused (LinkDirection l v) = refl
unrefused (Network l v) = refl
unrefused (Enable l v) = refl
unrefused (Hello l) = refl

module _ (w : World) (n : ℕ) (x : Setting) where
  pub by_rows : passes_set w n x ≡ eqb (refusal (set_rows w n x)) passes
  unfolding set_call
  by_rows =
      by_check (checked (set_rows w n x))
      (λ e. rw e (ap (λ (k : ℕ). eqb k passes) (unrefused x)))
      (λ k e. rw e)

  pub set_passes : Means (passes_set w n x) (Passes (set_rows w n x))
  set_passes = rw by_rows (passed (set_rows w n x))

  pub made_next : passes_set w n x ≡ true → (set_call w n x).next ≡ set_made w n x
  unfolding set_call
  made_next h = rw (clear (set_rows w n x) (eqb-true (refusal (set_rows w n x)) passes (sym by_rows ∙ h)))

  pub kept_next : passes_set w n x ≡ false → (set_call w n x).next ≡ w
  unfolding set_call
  kept_next h = by_check (checked (set_rows w n x)) (λ e. clash (sym (by_rows ∙ rw e refl) ∙ h)) (λ k e. rw e)

-- .. as the rows say
module _ (w : World) (n : ℕ) (x : Setting) (r : Result Nothing Why) (e : r ≡ checked (set_rows w n x)) where
  pub refused_by : is_err r ≡ true → passes_set w n x ≡ false
  refused_by h =
      by_check r (λ q. clash (sym h ∙ ap (λ (y : Result Nothing Why). is_err y) q)) (λ k q. by_rows w n x ∙ rw (sym e ∙ q) (some_back k))

  pub passes_by : is_err r ≡ false → passes_set w n x ≡ true
  passes_by h =
      by_check r (λ q. by_rows w n x ∙ rw (sym e ∙ q) refl) (λ k q. clash (sym (ap (λ (y : Result Nothing Why). is_err y) q) ∙ h))

-- a bit is 0 or 1
pub zero_bit : (b : ℕ) → b ≡ 0 → eqb b 1 ≡ false
zero_bit b h = rw h

pub some_bit : (b : ℕ) → b < 2 → (b ≡ 0 → ⊥) → b ≡ 1
some_bit b h k = omega arith

pub one_bit : (b : ℕ) → b < 2 → (b ≡ 0 → ⊥) → eqb b 1 ≡ true
one_bit b h k = eq-eqb b 1 (some_bit b h k)

pub plus_one : (i : ℕ) → suc i ≡ i + 1
plus_one i = omega arith

-- what a write answers and leaves, known of whether its fields are accepted
abbrev pub Written : World → ℕ → List Setting → Bool → World → Type 0
Written w n xs b z = (b ≡ accepted w n xs) × (z ≡ written w n xs)

module _ (w : World) (n : ℕ) (xs : List Setting) where
  pub whole : {b : Bool} {z : World} → accepted w n xs ≡ true → b ≡ true → z ≡ made_all w n xs → Written w n xs b z
  unfolding written
  whole e f h = (f ∙ sym e, rw e h)

  pub none : accepted w n xs ≡ false → Written w n xs false w
  unfolding written
  none e = (sym e, rw e)

-- one field
pub one : (w : World) (n : ℕ) (x : Setting) {b : Bool} {z : World} → b ≡ passes_set w n x → z ≡ (set_call w n x).next
    → Written w n (x ∷ []) b z
one w n x e h =
    by_test (passes_set w n x)
    (λ q. whole w n (x ∷ []) (rw q) (e ∙ q) h)
    (λ q. rw (e ∙ q, h ∙ kept_next w n x q) (none w n (x ∷ []) (rw q)))

-- several: what they leave, and that Sets can still be made
pub made_leaves : (xs : List Setting) (w : World) (n : ℕ) → Leaves w (made_all w n xs)
made_leaves [] w n = leaves_all w
made_leaves (x ∷ xs) w n = and_then (set_leaves w n x) (made_leaves xs (set_call w n x).next n)

pub all_settled : (xs : List Setting) (w : World) (n : ℕ) → Settled w → Settled (made_all w n xs)
all_settled [] w n h = h
all_settled (x ∷ xs) w n h = all_settled xs (set_call w n x).next n (still_settled w n h x)

pub write_leaves : (w : World) (n : ℕ) (xs : List Setting) → Leaves w (written w n xs)
unfolding written
write_leaves w n xs = by_test (accepted w n xs) (λ e. rw e (made_leaves xs w n)) (λ e. rw e (leaves_all w))

-- one more, made after the others
pub made_more : (k : ℕ) (f : ℕ → Setting) (w : World) (n : ℕ) → (set_call (made_all w n (tab k f)) n (f k)).next ≡ made_all w n (tab (suc k) f)
made_more zero f w n = refl
made_more (suc k) f w n = made_more k (λ i. f (suc i)) (set_call w n (f zero)).next n

-- fields that no state refuses
pub never_refused : (k : ℕ) (f : ℕ → Setting) (w : World) (n : ℕ)
    → ((i : ℕ) → i < k → (z : World) → n < z.net.nodes → passes_set z n (f i) ≡ true)
    → n < w.net.nodes
    → accepted w n (tab k f) ≡ true
never_refused zero f w n h hn = refl
never_refused (suc k) f w n h hn =
    let z = (set_call w n (f zero)).next in
    let e = h zero (omega arith) w hn in
    rw e (never_refused k (λ i. f (suc i)) z n (λ i l y hy. h (suc i) (omega arith) y hy) (rw (set_leaves w n (f zero)).nodes hn))

module _ (w : World) (n : ℕ) (hn : n < w.net.nodes) (bit v : ℕ) (hb : bit ≤ 8) where
  pub entry_passes : (i : ℕ) → i < 8 → (z : World) → n < z.net.nodes → passes_set z n (Direction (bit + i) (field v i)) ≡ true
  unfolding field
  entry_passes i h z hz =
      (set_passes z n (Direction (bit + i) (field v i))).back (
        rw (lt-ltb n z.net.nodes hz),
        (rw (lt-ltb (bit + i) 16 (omega arith), lt-ltb (v / 2 ^ (4 * i) % 16) 16 (omega arith)), (refl, tt)),
      )

  pub entries : {z : World} → z ≡ made_all w n (entries_of bit v) → Written w n (entries_of bit v) true z
  entries h = whole w n (entries_of bit v) (never_refused 8 (λ i. Direction (bit + i) (field v i)) w n entry_passes hn) refl h

-- a link's direction and network: the first does not change what the second may be
module _ (w : World) (n l d v : ℕ) (hd : d < 16) where
  direction_passes : passes_set w n (Network l v) ≡ true → passes_set w n (LinkDirection l d) ≡ true
  direction_passes e =
      let z = (set_passes w n (Network l v)).sure e in
      (set_passes w n (LinkDirection l d)).back (z.0, (rw (lt-ltb d 16 hd), (refl, tt)))

  network_passes : passes_set w n (Network l v) ≡ true → passes_set (set_call w n (LinkDirection l d)).next n (Network l v) ≡ true
  network_passes e =
      let z = (set_passes w n (Network l v)).sure e in
      rw (made_next w n (LinkDirection l d) (direction_passes e))
      ((set_passes (set_made w n (LinkDirection l d)) n (Network l v)).back
      (z.0, (z.1.0, (rw (upd_same w.net.links.setups n l _) z.1.1.0, tt))))

  passed_before : passes_set w n (LinkDirection l d) ≡ true → passes_set (set_call w n (LinkDirection l d)).next n (Network l v) ≡ true
      → passes_set w n (Network l v) ≡ true
  passed_before q r =
      let z = (set_passes (set_made w n (LinkDirection l d)) n (Network l v)).sure (rw (made_next w n (LinkDirection l d) q) at r) in
      (set_passes w n (Network l v)).back (z.0, (z.1.0, (rw (upd_same w.net.links.setups n l _) at z.1.1.0, tt)))

  pub route_refused : passes_set w n (Network l v) ≡ false → Written w n (LinkDirection l d ∷ Network l v ∷ []) false w
  route_refused e =
      none w n (LinkDirection l d ∷ Network l v ∷ [])
      (by_test (passes_set w n (LinkDirection l d))
      (λ q. rw q (by_test (passes_set (set_call w n (LinkDirection l d)).next n (Network l v)) (λ r. clash (sym (passed_before q r) ∙ e))
      (λ r. rw r)))
      (λ q. rw q))

  pub route_made : (y : World) {z : World} {b : Bool} → passes_set w n (Network l v) ≡ true → y ≡ (set_call w n (LinkDirection l d)).next
      → b ≡ passes_set y n (Network l v) → z ≡ (set_call y n (Network l v)).next
      → Written w n (LinkDirection l d ∷ Network l v ∷ []) b z
  route_made y e q f h =
      whole w n (LinkDirection l d ∷ Network l v ∷ []) (rw (direction_passes e, network_passes e)) (f ∙ rw q (network_passes e)) (h ∙ rw q)

-- a link enabled, and HELLO
far_setups : (s : Net) (f : Far) → (far_zeroed s f).links.setups ≡ s.links.setups
far_setups s Nowhere = refl
far_setups s (At m j) = refl

pub off : (s : Net) (n l : ℕ) → ((disabled s n l).links.setups n l).enabled ≡ 0
unfolding disabled
off s n l =
    let z = with_setup (zeroed s n l) n l (enabled_as (s.links.setups n l) 0) in
    rw (far_setups z (far_of (s.links.cables n l)), upd_same s.links.setups n l (enabled_as (s.links.setups n l) 0))

module _ (w : World) (n l : ℕ) where
  -- HELLO on a link that was just disabled
  pub hello_refused : Written w n (Enable l 0 ∷ Hello l ∷ []) false w
  hello_refused =
      none w n (Enable l 0 ∷ Hello l ∷ [])
      (by_test (passes_set w n (Enable l 0))
      (λ q. rw q (by_test (passes_set (set_call w n (Enable l 0)).next n (Hello l)) (λ r. clash (busy q r)) (λ r. rw r)))
      (λ q. rw q))
    where
      busy : passes_set w n (Enable l 0) ≡ true → passes_set (set_call w n (Enable l 0)).next n (Hello l) ≡ true → true ≡ false
      busy q r =
          let z = (set_passes (set_made w n (Enable l 0)) n (Hello l)).sure (rw (made_next w n (Enable l 0) q) at r) in
          rw (off w.net n l) at z.1.1.0

  -- .. on one whose enabling was refused
  pub enable_refused : passes_set w n (Enable l 1) ≡ false → Written w n (Enable l 1 ∷ Hello l ∷ []) false w
  enable_refused q = none w n (Enable l 1 ∷ Hello l ∷ []) (rw q)

  -- .. and on one that was just enabled: refused exactly where a credit or a HELLO was on a line of its cable before
  module _ (q : passes_set w n (Enable l 1) ≡ true) where
    abbrev setup : Setup
    setup = enabled_as (w.net.links.setups n l) 1

    hello_passes : either_line signalled w n l ≡ false → passes_set (set_call w n (Enable l 1)).next n (Hello l) ≡ true
    hello_passes e =
        let z = (set_passes w n (Enable l 1)).sure q in
        rw (made_next w n (Enable l 1) q)
        ((set_passes (set_made w n (Enable l 1)) n (Hello l)).back
        (z.0, (refl, (rw (upd_same w.net.links.setups n l setup) e, tt))))

    hello_busy_lem : either_line signalled w n l ≡ true → passes_set (set_call w n (Enable l 1)).next n (Hello l) ≡ false
    hello_busy_lem e =
        by_test (passes_set (set_call w n (Enable l 1)).next n (Hello l)) (λ r. clash (sym e ∙ free r)) (λ r. r)
      where
        free : passes_set (set_call w n (Enable l 1)).next n (Hello l) ≡ true → either_line signalled w n l ≡ false
        free r =
            let z = (set_passes (set_made w n (Enable l 1)) n (Hello l)).sure (rw (made_next w n (Enable l 1) q) at r) in
            rw (upd_same w.net.links.setups n l setup) at z.1.1.0

    pub hello_waits : either_line signalled w n l ≡ true → Written w n (Enable l 1 ∷ Hello l ∷ []) false w
    hello_waits e = none w n (Enable l 1 ∷ Hello l ∷ []) (rw (q, hello_busy_lem e))

    pub hello_made : either_line signalled w n l ≡ false → (y : World) {z : World} {b : Bool} → y ≡ (set_call w n (Enable l 1)).next
        → b ≡ passes_set y n (Hello l) → z ≡ (set_call y n (Hello l)).next
        → Written w n (Enable l 1 ∷ Hello l ∷ []) b z
    hello_made e y d f h =
        whole w n (Enable l 1 ∷ Hello l ∷ []) (rw (q, hello_passes e)) (f ∙ rw d (hello_passes e)) (h ∙ rw d)
