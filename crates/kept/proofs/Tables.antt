-- Tables by node and place: what holds of every entry still does once one is written, and two tables whose entries name each other still
-- do once both ends are written. Assumes nothing.
use Prim.Native.Nat.{ℕ, ◌<◌}
use mathlib.Core.Path.{◌≡◌, refl, sym, ◌∙◌}
use mathlib.Core.Bool.{Bool, true, false}
use native.Mathlib.Omega.{arith}
use Rattle.laws.specs.Pick.{pick}
use Rattle.laws.specs.Table.{upd, Off}
use Rattle.laws.proofs.Order.{never}
use Rattle.laws.proofs.Table.{upd_hit, upd_miss, upd_all, place}
use Rattle.clauses.specs.Pairs.{Named, Nothing, One}
use Rattle.kept.specs.Kept.{All, Half, Pair}

module _ {A : Type 0} {N k : ℕ} (f : ℕ → ℕ → A) (n i : ℕ) (a : A) where
  -- what holds of every entry at its place does, if it does of the new one
  pub all_at : (P : ℕ → ℕ → A → Type 0) → All N k (λ m j. P m j (f m j)) → P n i a → All N k (λ m j. P m j (upd f n i a m j))
  all_at P z h m j hm hj = upd_all P f n i a m j (λ d e. rw (d, e) h) (λ o. z m j hm hj)

  pub all_upd : (P : A → Type 0) → All N k (λ m j. P (f m j)) → P a → All N k (λ m j. P (upd f n i a m j))
  all_upd P z h = all_at (λ m j x. P x) z h

-- an entry that reads the same
pub reads : {A B : Type 0} (f : A → B) (x : ℕ → ℕ → A) (n i : ℕ) (u : A) → f u ≡ f (x n i) → (m j : ℕ) → f (upd x n i u m j) ≡ f (x m j)
reads f x n i u e m j = upd_all (λ m j y. f y ≡ f (x m j)) x n i u m j (λ a b. rw (a, b) e) (λ o. refl)

-- an entry that names nothing, whichever it is
pub keeps_none : {A : Type 0} (f : A → Named) (c : Bool) (u v : A) → f u ≡ Nothing → f v ≡ Nothing → f (pick c u v) ≡ f v
keeps_none f true u v d e = d ∙ sym e
keeps_none f false u v d e = refl

-- TABLES THAT NAME EACH OTHER, one way
module _ {A B : Type 0} (N a b : ℕ) (f : A → Named) (g : B → Named) (x : ℕ → ℕ → A) (y : ℕ → ℕ → B) (z : Half N a b f g x y) where
  half_same : (x' : ℕ → ℕ → A) (y' : ℕ → ℕ → B)
      → ((n i : ℕ) → f (x' n i) ≡ f (x n i))
      → ((n j : ℕ) → g (y' n j) ≡ g (y n j))
      → Half N a b f g x' y'
  half_same x' y' ex ey n i hn hi j e = let w = z n i hn hi j (sym (ex n i) ∙ e) in (w.0, ey n j ∙ w.1)

  half_link : (n i j : ℕ) (u : A) (v : B) → j < b → f u ≡ One j → g v ≡ One i → g (y n j) ≡ Nothing
      → Half N a b f g (upd x n i u) (upd y n j v)
  half_link n i j u v hj fu gv free m p hm hp q e =
      place n i m p
      (λ em ep.
      let named : f u ≡ One q = rw (upd_hit x n i u m p em ep) at e in
      let eq : q ≡ j = cc in
      (omega arith, rw (upd_hit y n j v m q em eq, ep) gv))
      (λ o.
      let w = z m p hm hp q (rw (upd_miss x n i u m p o) at e) in
      let named = w.1 in
      let other : Off n j m q = λ em eq. never (let nothing : g (y m q) ≡ Nothing = rw (em, eq) free in cc) in
      (w.0, rw (upd_miss y n j v m q other) named))

  half_unlink : (n i j : ℕ) (u : A) (v : B) → n < N → i < a → f (x n i) ≡ One j → f u ≡ Nothing
      → Half N a b f g (upd x n i u) (upd y n j v)
  half_unlink n i j u v hn hi named none m p hm hp q e =
      place n i m p
      (λ em ep. never (let some : f u ≡ One q = rw (upd_hit x n i u m p em ep) at e in cc))
      (λ o.
      let w = z m p hm hp q (rw (upd_miss x n i u m p o) at e) in
      let back = (z n i hn hi j named).1 in
      let other : Off n j m q = λ em eq. o em (let also : g (y n j) ≡ One p = rw (em, eq) at w.1 in cc) in
      (w.0, rw (upd_miss y n j v m q other) w.1))

-- .. and both ways
module _ {A B : Type 0} {N a b : ℕ} {f : A → Named} {g : B → Named} {x : ℕ → ℕ → A} {y : ℕ → ℕ → B} (z : Pair N a b f g x y) where
  -- tables that read the same
  pub pair_same : (x' : ℕ → ℕ → A) (y' : ℕ → ℕ → B)
      → ((n i : ℕ) → f (x' n i) ≡ f (x n i))
      → ((n j : ℕ) → g (y' n j) ≡ g (y n j))
      → Pair N a b f g x' y'
  pair_same x' y' ex ey =
      record { out = half_same N a b f g x y z.out x' y' ex ey; back = half_same N b a g f y x z.back y' x' ey ex }

  -- one entry of the first table is written, and names what it named
  pub pair_first : (n i : ℕ) (u : A) → f u ≡ f (x n i) → Pair N a b f g (upd x n i u) y
  pair_first n i u e = pair_same (upd x n i u) y (reads f x n i u e) (λ m j. refl)

  -- .. of the second
  pub pair_second : (n j : ℕ) (v : B) → g v ≡ g (y n j) → Pair N a b f g x (upd y n j v)
  pair_second n j v e = pair_same x (upd y n j v) (λ m i. refl) (reads g y n j v e)

  -- two entries that named nobody now name each other
  pub pair_link : (n i j : ℕ) (u : A) (v : B) → i < a → j < b
      → f (x n i) ≡ Nothing
      → g (y n j) ≡ Nothing
      → f u ≡ One j
      → g v ≡ One i
      → Pair N a b f g (upd x n i u) (upd y n j v)
  pair_link n i j u v hi hj fn gn fu gv =
      record {
        out = half_link N a b f g x y z.out n i j u v hj fu gv gn;
        back = half_link N b a g f y x z.back n j i v u hi gv fu fn;
      }

  -- two that named each other name nobody
  pub pair_unlink : (n i j : ℕ) (u : A) (v : B) → n < N → i < a
      → f (x n i) ≡ One j
      → f u ≡ Nothing
      → g v ≡ Nothing
      → Pair N a b f g (upd x n i u) (upd y n j v)
  pair_unlink n i j u v hn hi named fu gv =
      let w = z.out n i hn hi j named in
      record {
        out = half_unlink N a b f g x y z.out n i j u v hn hi named fu;
        back = half_unlink N b a g f y x z.back n j i v u hn w.0 w.1 gv;
      }

  -- they do so if c holds, else they are as they were
  pub pair_leave : (c : Bool) (n i j : ℕ) (u : A) (v : B) → n < N → i < a
      → f (x n i) ≡ One j
      → f u ≡ Nothing
      → g v ≡ Nothing
      → Pair N a b f g (upd x n i (pick c u (x n i))) (upd y n j (pick c v (y n j)))
  pair_leave true n i j u v hn hi named fu gv = pair_unlink n i j u v hn hi named fu gv
  pair_leave false n i j u v hn hi named fu gv =
      pair_same (upd x n i (x n i)) (upd y n j (y n j)) (reads f x n i (x n i) refl) (reads g y n j (y n j) refl)
