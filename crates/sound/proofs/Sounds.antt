-- No clause fails exactly where the state is sound; a sound state passes every test at every place, and one that does is sound. Assumes
-- nothing.
use Prim.{tt}
use Prim.Native.Nat.{ℕ, ◌<◌}
use mathlib.Core.Bool.{Bool, true, false, ◌&&◌, ◌||◌, and-true, and_assoc}
use mathlib.Core.List.{List, [], ◌∷◌}
use mathlib.Core.Logic.{◌⊎◌, inl, inr}
use mathlib.Core.Path.{◌≡◌, refl, sym, ◌∙◌}
use native.Mathlib.Omega.{arith}
use lib.Dec.{eqb, ltb, leb}
use borrow.Author.Tests.{lt-leb, leb-false, ne_eqb}
use Rattle.laws.specs.All.{Means, Each}
use Rattle.laws.proofs.All.{each_place, also, as_is, below}
use Rattle.laws.proofs.Order.{by_test}
use Rattle.cells.specs.World.{World, shaped}
use Rattle.clauses.specs.declared.pairs.Role.{Role}
use Rattle.clauses.specs.declared.pairs.Role.TheVariants.{PortLink, LinkPort, PortTile, TilePort, PortUnit, UnitPort}
use Rattle.clauses.specs.declared.pairs.Role.TheVariants.{PortClaim, ClaimPort, EndClaim, ClaimEnd, EndPort, PortEnd}
use Rattle.sound.specs.Tests.{holds_at, places, holds}
use Rattle.sound.specs.Clauses.{Clause, sound_clauses, all_hold, ask, ask_all}
use Rattle.sound.specs.Sound.{sound, unsound_clause}
use Rattle.sound.specs.declared.tests.Test.{Test}
use Rattle.sound.specs.declared.tests.Test.TheVariants.{Nodes, Links, Ports, Tiles, Ends, Units, Credited, Greeted, Room, Cable}
use Rattle.sound.specs.declared.tests.Test.TheVariants.{Contents, Held, Agrees, OpenEnd, Silent, Heard, Lines, Few, Counted, Unlined}

-- a test everywhere is that test at every place
pub at_places : (t : Test) (w : World) → Means (holds t w) ((n i : ℕ) → n < w.net.nodes → i < places t → holds_at t w n i ≡ true)
unfolding holds
at_places t w = each_place {P = λ n i. holds_at t w n i ≡ true} w.net.nodes (places t) (holds_at t w) (λ n i. as_is (holds_at t w n i))

-- Of any list of rows

abbrev pub Holds : World → Clause → Type 0
Holds w c = holds c.test w ≡ true

pub rows : (w : World) (l : List Clause) → Means (all_hold l w) (Each (Holds w) l)
rows w [] = record { sure = λ e. tt; back = λ e. refl }
rows w (c ∷ l) = also (as_is (holds c.test w)) (rows w l)

pub every_row : (w : World) (l : List Clause) → ((t : Test) → holds t w ≡ true) → Each (Holds w) l
every_row w [] h = tt
every_row w (c ∷ l) h = (h c.test, every_row w l h)

-- every row has a number, which is not 0
abbrev numbered : List Clause → Bool
numbered [] = true
numbered (c ∷ l) = ltb 0 c.number && numbered l

row_fails : (w : World) (f : ℕ) (c : Clause) → 0 < c.number → eqb (ask 0 f c w) 0 ≡ (eqb f 0 && holds c.test w)
unfolding ask
row_fails w f c h =
    by_test (eqb f 0)
    (λ e. by_test (holds c.test w)
    (λ g. rw (e, lt-leb c.number 0 h, g))
    (λ g. rw (e, lt-leb c.number 0 h, g, ne_eqb c.number 0 (λ z. omega arith))))
    (λ e. rw e e)

-- none is found exactly where none was found before and every row's test holds
none_fails : (w : World) (f : ℕ) (l : List Clause) → numbered l ≡ true → eqb (ask_all 0 f l w) 0 ≡ (eqb f 0 && all_hold l w)
none_fails w f [] h = sym (and-true (eqb f 0))
none_fails w f (c ∷ l) h =
    let z = (also (below 0 c.number) (as_is (numbered l))).sure h in
    none_fails w (ask 0 f c w) l z.1 ∙ rw (row_fails w f c z.0) (and_assoc (eqb f 0) (holds c.test w) (all_hold l w))

pub sound_is : (w : World) → eqb (unsound_clause w) 0 ≡ sound w
unfolding unsound_clause sound
sound_is w = by_test (shaped w) (λ e. rw e (none_fails w 0 sound_clauses refl)) (λ e. rw e)

neither : (a b : Bool) → (a || b) ≡ false → a ≡ false
neither true b e = e
neither false b e = refl

-- what is found past clause k is 0, or a clause past it
abbrev Past : ℕ → ℕ → Type 0
Past k f = (f ≡ 0) ⊎ (k < f)

row_past : (w : World) (k f : ℕ) (c : Clause) → Past k f → Past k (ask k f c w)
unfolding ask
row_past w k f c h =
    by_test (eqb f 0)
    (λ e. by_test (leb c.number k || holds c.test w)
    (λ g. inl (rw (e, g)))
    (λ g. inr (rw (e, g) (leb-false c.number k (neither _ _ g)))))
    (λ e. rw e h)

all_past : (w : World) (k f : ℕ) (l : List Clause) → Past k f → Past k (ask_all k f l w)
all_past w k f [] h = h
all_past w k f (c ∷ l) h = all_past w k (ask k f c w) l (row_past w k f c h)

-- Of the Sound list

pub next_past : (w : World) (k : ℕ) → Past k (ask_all k 0 sound_clauses w)
next_past w k = all_past w k 0 sound_clauses (inl refl)

pub sound_shaped : (w : World) → sound w ≡ true → shaped w ≡ true
unfolding sound
sound_shaped w s = ((also (as_is (shaped w)) (as_is (all_hold sound_clauses w))).sure s).0

pub sound_rows : (w : World) → sound w ≡ true → Each (Holds w) sound_clauses
unfolding sound
sound_rows w s = ((also (as_is (shaped w)) (rows w sound_clauses)).sure s).1

-- every test has a row
module _ (w : World) (e : Each (Holds w) sound_clauses) where
  agree_says : (r : Role) → holds (Agrees r) w ≡ true
  agree_says PortLink = cc
  agree_says LinkPort = cc
  agree_says PortTile = cc
  agree_says TilePort = cc
  agree_says PortUnit = cc
  agree_says UnitPort = cc
  agree_says PortClaim = cc
  agree_says ClaimPort = cc
  agree_says EndClaim = cc
  agree_says ClaimEnd = cc
  agree_says EndPort = cc
  agree_says PortEnd = cc

  list_says : (t : Test) → holds t w ≡ true
  list_says Nodes = cc
  list_says Links = cc
  list_says Ports = cc
  list_says Tiles = cc
  list_says Ends = cc
  list_says Units = cc
  list_says Credited = cc
  list_says Greeted = cc
  list_says Room = cc
  list_says Cable = cc
  list_says Contents = cc
  list_says Held = cc
  list_says (Agrees r) = agree_says r
  list_says OpenEnd = cc
  list_says Silent = cc
  list_says Heard = cc
  list_says Lines = cc
  list_says Few = cc
  list_says Counted = cc
  list_says Unlined = cc

-- a sound state passes every test, at every place
pub sound_says : (w : World) → sound w ≡ true → (t : Test) (n i : ℕ) → n < w.net.nodes → i < places t → holds_at t w n i ≡ true
sound_says w s t = (at_places t w).sure (list_says w (sound_rows w s) t)

-- and a state of the right lengths that does is sound
pub sound_from : (w : World) → shaped w ≡ true → ((t : Test) (n i : ℕ) → n < w.net.nodes → i < places t → holds_at t w n i ≡ true)
    → sound w ≡ true
unfolding sound
sound_from w h f = rw h ((rows w sound_clauses).back (every_row w sound_clauses (λ t. (at_places t w).back (f t))))
