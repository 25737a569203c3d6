-- What an accepted write wrote reads back: the register's value, taken apart again, has the fields that were written, HELLO aside. Assumes
-- nothing.
use Prim.Native.Nat.{ℕ, zero, suc, ◌+◌, ◌*◌, ◌/◌, ◌%◌, ◌^◌, ◌<◌, ◌≤◌}
use mathlib.Core.Path.{◌≡◌, refl, sym, ap, ◌∙◌}
use mathlib.Core.Bool.{Bool, true, false, ◌&&◌}
use mathlib.Core.List.{List, [], ◌∷◌}
use native.Mathlib.Decide.{ℕ_discrete}
use native.Mathlib.Omega.{arith}
use lib.Dec.{eqb}
use borrow.Author.Tests.{lt-ltb, le-ltb, eqb-true, eqb-false}
use Rattle.laws.specs.Pick.{pick}
use Rattle.laws.specs.Row.{tab}
use Rattle.laws.proofs.All.{also, as_is}
use Rattle.laws.proofs.Order.{by_test}
use Rattle.laws.proofs.Row.{tab_ext}
use Rattle.laws.proofs.Table.{upd_same}
use Rattle.routing.specs.Direction.{field, entry_of}
use Rattle.routing.specs.declared.direction.Directions.{Directions}
use Rattle.routing.proofs.Entries.{entry_same, entry_other}
use Rattle.cells.specs.World.{World}
use Rattle.cells.specs.declared.node.Node.{Node}
use Rattle.cells.specs.declared.link.Setup.{Setup}
use Rattle.clauses.specs.Cables.{far_enabled}
use Rattle.travel.specs.Travel.{put_on, says_hello}
use Rattle.settings.specs.Set.{set_made, set_call}
use Rattle.settings.specs.declared.Setting.{Setting}
use Rattle.settings.specs.declared.Setting.TheVariants.{Number, Width, Direction, LinkDirection, Network, Enable, Hello}
use Rattle.messages.specs.Register.{bits_from, entries_of, fields_of, read_of}
use Rattle.messages.specs.declared.register.Register.{Register}
use Rattle.messages.specs.declared.register.Register.TheVariants as R
use Rattle.messages.specs.Write.{passes_set, accepted, made_all, written}
use Rattle.messages.proofs.Writes.{made_next, made_more, made_leaves, entry_passes, off}

-- the fields that stay: HELLO is said, and nothing keeps it
abbrev pub is_hello : Setting → Bool
is_hello (Number v) = false
is_hello (Width v) = false
is_hello (Direction b v) = false
is_hello (LinkDirection l v) = false
is_hello (Network l v) = false
is_hello (Enable l v) = false
is_hello (Hello l) = true

abbrev pub lasting : List Setting → List Setting
lasting [] = []
lasting (x ∷ xs) = pick (is_hello x) (lasting xs) (x ∷ lasting xs)

-- an accepted write is its Sets, made one by one
pub as_sets : (w : World) (n : ℕ) (xs : List Setting) → accepted w n xs ≡ true → written w n xs ≡ made_all w n xs
unfolding written
as_sets w n xs e = rw e

-- "whole or not at all"
pub as_before : (w : World) (n : ℕ) (xs : List Setting) → accepted w n xs ≡ false → written w n xs ≡ w
unfolding written
as_before w n xs e = rw e

first_of : (a b : Bool) → (a && b) ≡ true → a ≡ true
first_of a b e = ((also (as_is a) (as_is b)).sure e).0

module _ (w : World) (n : ℕ) where
  -- the node after a field of its own, the link after one of its own
  own_after : (x : Setting) (k : Node) → passes_set w n x ≡ true → (set_made w n x).net.own n 0 ≡ k → (set_call w n x).next.net.own n 0 ≡ k
  own_after x k e h = rw (made_next w n x e) h

  link_after : (l : ℕ) (x : Setting) (k : Setup) → passes_set w n x ≡ true → (set_made w n x).net.links.setups n l ≡ k
      → (set_call w n x).next.net.links.setups n l ≡ k
  link_after l x k e h = rw (made_next w n x e) h

-- short headers
width_back : (b : Bool) → ◌≡◌ {A = List Setting} (fields_of R.Width (pick (eqb (pick b 1 3) 1) 1 0)) (Width (pick b 1 3) ∷ [])
width_back true = refl
width_back false = refl

abbrev number_field : ℕ → List Setting
number_field m = Number m ∷ []

number_back : (v : ℕ) → v % 65536 % 65536 ≡ v % 65536
number_back v = omega arith

-- eight direction entries
module _ (w : World) (n : ℕ) (hn : n < w.net.nodes) (bit v : ℕ) (hb : bit ≤ 8) where
  small : (i : ℕ) → field v i % 16 ≡ field v i
  unfolding field
  small i = omega arith

  entries_back : (k : ℕ) → k ≤ 8 → (i : ℕ) → i < k
      → entry_of ((made_all w n (tab k (λ j. Direction (bit + j) (field v j)))).net.own n 0).directions (bit + i) ≡ field v i
  entries_back zero h i l = absurd (omega arith)
  entries_back (suc k) h i l =
      let f : ℕ → Setting = λ j. Direction (bit + j) (field v j) in
      let z = made_all w n (tab k f) in
      let there : n < z.net.nodes = rw (made_leaves (tab k f) w n).nodes hn in
      rw (← made_more k f w n, made_next z n (f k) (entry_passes w n hn bit v hb k (omega arith) z there), upd_same z.net.own n 0 _)
      (elim (ℕ_discrete i k) [
        | yes d ↦ rw d (entry_same (z.net.own n 0).directions (bit + k) (field v k) ∙ small k)
        | no d ↦ entry_other (z.net.own n 0).directions (bit + k) (bit + i) (field v k) (omega arith) (omega arith)
            (λ q. d (omega arith))
            ∙ entries_back k (omega arith) i (omega arith)
      ])

  -- a register that has those entries
  taken_apart : (r : ℕ) → ((i : ℕ) → i < 8 → field r i ≡ field v i) → entries_of bit r ≡ entries_of bit v
  taken_apart r h =
      tab_ext 8 (λ i. Direction (bit + i) (field r i)) (λ i. Direction (bit + i) (field v i)) (λ i l. ap (Direction (bit + i)) (h i l))

low_entry : (t : Directions) (i : ℕ) → i < 8 → entry_of t (0 + i) ≡ field t.first i
unfolding entry_of
low_entry t i h =
    let e : (0 + i) % 8 ≡ i = omega arith in rw (lt-ltb (0 + i) 8 (omega arith), e)

high_entry : (t : Directions) (i : ℕ) → i < 8 → entry_of t (8 + i) ≡ field t.second i
unfolding entry_of
high_entry t i h =
    let e : (8 + i) % 8 ≡ i = omega arith in rw (le-ltb (8 + i) 8 (omega arith), e)

-- a link's direction and network
route_back : (d v : ℕ) → d < 16 → v < 4 → (((d % 16 * 256 + v % 4 * 16) / 256 % 16) ≡ d) × (((d % 16 * 256 + v % 4 * 16) / 16 % 4) ≡ v)
route_back d v h k = (omega arith, omega arith)

module _ (w : World) (n l d v : ℕ) (e : accepted w n (LinkDirection l d ∷ Network l v ∷ []) ≡ true) where
  route_link : let k = (made_all w n (LinkDirection l d ∷ Network l v ∷ [])).net.links.setups n l in (k.direction ≡ d) × (k.network ≡ v)
  route_link =
      let y = (set_call w n (LinkDirection l d)).next in
      let a = first_of (passes_set w n (LinkDirection l d)) _ e in
      let b = first_of (passes_set y n (Network l v)) true (rw a at e) in
      let p = link_after w n l (LinkDirection l d) _ a (upd_same w.net.links.setups n l _) in
      let q = link_after y n l (Network l v) _ b (upd_same y.net.links.setups n l _) in
      (ap (λ (k : Setup). k.direction) q ∙ ap (λ (k : Setup). k.direction) p, ap (λ (k : Setup). k.network) q)

-- a link enabled or not
hello_keeps : (w : World) (n l : ℕ) → ((says_hello w n l).net.links.setups n l).enabled ≡ (w.net.links.setups n l).enabled
unfolding says_hello put_on
hello_keeps w n l = by_test (far_enabled w.net (w.net.links.cables n l)) (λ e. rw e) (λ e. rw e)

enable_link : (w : World) (n l b : ℕ) → b < 2 → ((set_made w n (Enable l b)).net.links.setups n l).enabled ≡ b
enable_link w n l b h =
    by_test (eqb b 0)
    (λ e. rw (eqb-true b 0 e) (off w.net n l))
    (λ e. rw e (ap (λ (k : Setup). k.enabled) (upd_same w.net.links.setups n l _) ∙ one b h (eqb-false b 0 e)))
  where
    one : (b : ℕ) → b < 2 → (b ≡ 0 → ⊥) → 1 ≡ b
    one b h k = omega arith

module _ (w : World) (n l b : ℕ) (hb : b < 2) where
  enabled_link : accepted w n (Enable l b ∷ []) ≡ true → ((made_all w n (Enable l b ∷ [])).net.links.setups n l).enabled ≡ b
  enabled_link e =
      rw (made_next w n (Enable l b) (first_of (passes_set w n (Enable l b)) true e)) (enable_link w n l b hb)

  greeted_link : accepted w n (Enable l b ∷ Hello l ∷ []) ≡ true
      → ((made_all w n (Enable l b ∷ Hello l ∷ [])).net.links.setups n l).enabled ≡ b
  greeted_link e =
      let y = (set_call w n (Enable l b)).next in
      let a = first_of (passes_set w n (Enable l b)) _ e in
      let c = first_of (passes_set y n (Hello l)) true (rw a at e) in
      rw (made_next y n (Hello l) c) (hello_keeps y n l ∙ rw (made_next w n (Enable l b) a) (enable_link w n l b hb))

state_back : (b : ℕ) → b < 2 → ((b % 2 * 2147483648 / 2147483648 % 2) ≡ b) × ((b % 2 * 2147483648 / 16777216 % 2) ≡ 0)
state_back b h = (omega arith, omega arith)

bit_in : (v a : ℕ) → v / 2 ^ a % 2 < 2
bit_in v a = omega arith

module _ (w : World) (n : ℕ) (hn : n < w.net.nodes) where
  state_reads : (l v : ℕ) (xs : List Setting) → lasting xs ≡ Enable l (bits_from 31 1 v) ∷ []
      → ((made_all w n xs).net.links.setups n l).enabled ≡ bits_from 31 1 v
      → fields_of (R.State l) (read_of (made_all w n xs).net n (R.State l)) ≡ lasting xs
  state_reads l v xs e h =
      let z = state_back (bits_from 31 1 v) (bit_in v 31) in
      rw (h, z.0, z.1) (sym e)

  -- the fields that are read back are those that were written
  pub reads_back : (r : Register) (v : ℕ) → accepted w n (fields_of r v) ≡ true
      → fields_of r (read_of (made_all w n (fields_of r v)).net n r) ≡ lasting (fields_of r v)
  reads_back R.Unknown v e = refl
  reads_back R.Width v e =
      let x = Width (pick (eqb (v % 2) 1) 1 3) in
      rw (own_after w n x _ (first_of (passes_set w n x) true e) (upd_same w.net.own n 0 _)) (width_back (eqb (v % 2) 1))
  reads_back R.Number v e =
      let x = Number (v % 65536) in
      let k = ap (λ (k : Node). k.number) (own_after w n x _ (first_of (passes_set w n x) true e) (upd_same w.net.own n 0 _)) in
      ap number_field (ap (λ (m : ℕ). m % 65536) k ∙ number_back v)
  reads_back R.LowDirections v e =
      let t = ((made_all w n (entries_of 0 v)).net.own n 0).directions in
      taken_apart w n hn 0 v (omega arith) t.first
      (λ i l. sym (low_entry t i l) ∙ entries_back w n hn 0 v (omega arith) 8 (omega arith) i l)
  reads_back R.HighDirections v e =
      let t = ((made_all w n (entries_of 8 v)).net.own n 0).directions in
      taken_apart w n hn 8 v (omega arith) t.second
      (λ i l. sym (high_entry t i l) ∙ entries_back w n hn 8 v (omega arith) 8 (omega arith) i l)
  reads_back (R.Route l) v e =
      let z = route_link w n l (bits_from 8 4 v) (bits_from 4 2 v) e in
      let q = route_back (bits_from 8 4 v) (bits_from 4 2 v) (omega arith) (omega arith) in
      rw (z.0, z.1, q.0, q.1)
  reads_back (R.State l) v e =
      by_test (eqb (bits_from 24 1 v) 1)
      (λ h. rw h (state_reads l v (Enable l (bits_from 31 1 v) ∷ Hello l ∷ []) refl
      (greeted_link w n l (bits_from 31 1 v) (bit_in v 31) (rw h at e))))
      (λ h. rw h (state_reads l v (Enable l (bits_from 31 1 v) ∷ []) refl (enabled_link w n l (bits_from 31 1 v) (bit_in v 31) (rw h at e))))

-- "Reading back what an accepted write wrote gives its fields"
pub written_reads_back : (w : World) (n : ℕ) → n < w.net.nodes → (r : Register) (v : ℕ) → accepted w n (fields_of r v) ≡ true
    → fields_of r (read_of (written w n (fields_of r v)).net n r) ≡ lasting (fields_of r v)
written_reads_back w n hn r v e = rw (as_sets w n (fields_of r v) e) (reads_back w n hn r v e)
