-- What these come to where more is lent than they touch: a memory that a function is not lent is passed through. Assumes nothing.
use Prim.Native.Nat.{ℕ}
use mathlib.Core.Path.{◌≡◌, refl, sym, ap, ◌∙◌}
use mathlib.Core.List.{List}
use lib.Dec.{eqb}
use Rattle.laws.proofs.Order.{by_test}
use Rattle.cells.specs.World.{World, far_of, Far, Nowhere, At}
use Rattle.acts.specs.Acts.{pushed}
use Rattle.acts.specs.Needs.{Room, Holds}
use Rattle.travel.specs.Travel.{put_on, taken_off, grant_to, grant_due, grants_back, token_in, sends_on}
use Rattle.travel.specs.Needs.{LineThere, Grants}
use Rattle.travel.proofs.There.{there_kept, grants_kept}

-- another token memory, and other lines
abbrev pub with_memory : World → List ℕ → World
with_memory w m = record { net = w.net; memory = m; line_memory = w.line_memory }

abbrev pub with_line_memory : World → List ℕ → World
with_line_memory w ls = record { net = w.net; memory = w.memory; line_memory = ls }

-- NO PORT IS TOUCHED
module _ (w : World) (m : List ℕ) where
  pub off_lent : (n l : ℕ) → taken_off (with_memory w m) n l ≡ with_memory (taken_off w n l) m
  unfolding taken_off
  off_lent n l = refl

  pub due_lent : (j k : ℕ) → grant_due (with_memory w m) j k ≡ grant_due w j k
  unfolding grant_due
  due_lent j k = at_far (far_of (w.net.links.cables j k))
    where
      at_far : (f : Far) → grant_to (with_memory w m) j k f ≡ grant_to w j k f
      at_far Nowhere = refl
      at_far (At n l) = refl

  pub back_lent : (j k : ℕ) → grants_back (with_memory w m) j k ≡ with_memory (grants_back w j k) m
  unfolding grants_back put_on
  back_lent j k =
      rw (due_lent j k) (by_test (eqb (grant_due w j k) 0) (λ e. rw e) (λ e. rw e))

  pub send_lent : (n l x : ℕ) → sends_on (with_memory w m) n l x ≡ with_memory (sends_on w n l x) m
  unfolding put_on
  send_lent n l x = refl

  pub there_lent : (n l : ℕ) → LineThere (with_memory w m) n l → LineThere w n l
  there_lent n l z = there_kept refl refl refl z

  pub grants_lent : (j k : ℕ) → Grants (with_memory w m) j k → Grants w j k
  grants_lent j k z = grants_kept refl refl refl refl z

-- .. what a function did that is lent no port
pub taken_lent : (w z : World) (m : List ℕ) (n l : ℕ) → z ≡ taken_off w n l → with_memory z m ≡ taken_off (with_memory w m) n l
taken_lent w z m n l e = ap (λ (y : World). with_memory y m) e ∙ sym (off_lent w m n l)

pub considered_lent : (w z : World) (m : List ℕ) (j k g : ℕ) → (g ≡ grant_due w j k) × (z ≡ grants_back w j k)
    → (g ≡ grant_due (with_memory w m) j k) × (with_memory z m ≡ grants_back (with_memory w m) j k)
considered_lent w z m j k g e =
    (e.0 ∙ sym (due_lent w m j k), ap (λ (y : World). with_memory y m) e.1 ∙ sym (back_lent w m j k))

-- NO LINE IS TOUCHED
module _ (w : World) (ls : List ℕ) where
  pub token_lent : (m k x : ℕ) → token_in (with_line_memory w ls) m k x ≡ with_line_memory (token_in w m k x) ls
  unfolding pushed
  token_lent m k x = refl

  pub room_lent : (m k i : ℕ) → Room (with_line_memory w ls) m k i → Room w m k i
  room_lent m k i z = record { node = z.node; port = z.port; fair = z.fair; room = z.room; reaches = z.reaches }

  pub holds_lent : (n p i : ℕ) → Holds (with_line_memory w ls) n p i → Holds w n p i
  holds_lent n p i z = record { node = z.node; port = z.port; fair = z.fair; held = z.held; reaches = z.reaches }

-- .. what a function did that is lent no line
pub came_lent : (w z : World) (ls : List ℕ) (m k x : ℕ) → z ≡ token_in w m k x → with_line_memory z ls ≡ token_in (with_line_memory w ls) m k x
came_lent w z ls m k x e = ap (λ (y : World). with_line_memory y ls) e ∙ sym (token_lent w ls m k x)
