-- The walk over a port's tokens: what a token taken off the front of an open circuit leaves, and what one put behind does; what the far end
-- of a cable sees of it. Assumes nothing.
use Prim.Native.Nat.{ℕ, zero, suc, ◌<◌}
use mathlib.Core.Path.{◌≡◌, refl, sym, ap, ◌∙◌}
use mathlib.Core.Bool.{Bool, true, false}
use mathlib.Core.List.{List, [], ◌∷◌, ◌++◌}
use mathlib.Core.Logic.{◌⊎◌, inl, inr, ⊎_elim}
use borrow.Author.Tests.{eqb-true}
use Rattle.laws.specs.Pick.{pick}
use Rattle.laws.proofs.Order.{by_test, order, clash}
use Rattle.laws.proofs.All.{either, as_is}
use Rattle.circuits.specs.declared.Hop.{Hop}
use Rattle.circuits.specs.declared.Hop.TheVariants.{Shut, Out, Channel, Unit, Dropped}
use Rattle.tokens.specs.Word.{closes}
use Rattle.tokens.specs.Shape.{Shape, shape_of}
use Rattle.tokens.specs.Shape as S
use Rattle.grammar.specs.Stage.{shape_number, same_shape, of_one, is_byte, is_last, of_three, next_stage, due, is_bad, crossed}
use Rattle.grammar.specs.Walk.{walk, threes, begins_one, lead, front_of, back_of}
use Rattle.grammar.specs.declared.stage.Stage.{Stage}
use Rattle.grammar.specs.declared.stage.Stage.TheVariants.{Bad, Fresh, Body, OneDue, ThreeDue, TwoDue, LastDue}
use Rattle.grammar.proofs.Nexts.{stays, breaks}
use Rattle.grammar.proofs.Walks.{walk_append, good_from}

-- PAST A HEADER no token of a header follows
no_header : (c : Shape) → is_bad (next_stage Body c) ≡ false → (of_three c ≡ false) × (of_one c ≡ false)
no_header S.Wrong h = clash h
no_header S.Body h = (refl, refl)
no_header S.Closing h = (refl, refl)
no_header S.OneByte h = clash h
no_header S.ThreeByte h = clash h
no_header S.Channel h = clash h
no_header S.Unit h = clash h

pub none_due : (q : List ℕ) → is_bad (walk Body q) ≡ false → (threes q ≡ 0) × (begins_one q ≡ false)
none_due [] h = (refl, refl)
none_due (x ∷ q) h = let n = no_header (shape_of x) (good_from (next_stage Body (shape_of x)) q h) in (rw n.0, n.1)

lead_body : (q : List ℕ) → is_bad (walk Body q) ≡ false → lead q ≡ Body
lead_body q h = let n = none_due q h in rw (n.0, n.1)

-- .. and a token that closes nothing leaves the walk there
pub past_small : (x : ℕ) → is_bad (next_stage Body (shape_of x)) ≡ false → x < 0x1C2
past_small x h = ⊎_elim (λ l. l) (λ l. clash (rw (sym (breaks x l)) at h)) (order x 0x1C2)

body_stays : (x : ℕ) → closes x ≡ false → is_bad (next_stage Body (shape_of x)) ≡ false → next_stage Body (shape_of x) ≡ Body
body_stays x e h = sym (stays x e (past_small x h))

-- IN A HEADER of three bytes: each token is one of it, and leaves one less
picked : (b : Bool) (s : Stage) → is_bad (pick b s Bad) ≡ false → (b ≡ true) × (pick b s Bad ≡ s)
picked true s h = (refl, refl)
picked false s h = clash h

of_three_lem : (c : Shape) → (is_byte c ≡ true) ⊎ (is_last c ≡ true) → of_three c ≡ true
of_three_lem c = (either (as_is (is_byte c)) (as_is (is_last c))).back

pub one_less : (k : ℕ) (one : Bool) (c : Shape) → is_bad (next_stage (due (suc k) one) c) ≡ false
    → (of_three c ≡ true) × (next_stage (due (suc k) one) c ≡ due k false)
one_less zero one c h = let p = picked (is_last c) Body h in (of_three_lem c (inr p.0), p.1)
one_less (suc zero) one c h = let p = picked (is_byte c) LastDue h in (of_three_lem c (inl p.0), p.1)
one_less (suc (suc zero)) one c h = let p = picked (is_byte c) TwoDue h in (of_three_lem c (inl p.0), p.1)
one_less (suc (suc (suc k))) one c h = clash h

-- what is left of it does not begin with a header of one byte
lead_due : (k : ℕ) (q : List ℕ) → is_bad (walk (due k false) q) ≡ false → due k (begins_one q) ≡ due k false
lead_due zero q h = rw (none_due q h).1
lead_due (suc zero) q h = refl
lead_due (suc (suc zero)) q h = refl
lead_due (suc (suc (suc zero))) q h = refl
lead_due (suc (suc (suc (suc k)))) q h = refl

-- TAKING the front of a circuit that is sent on or dropped: the rest leads on from there
three_next : (x : ℕ) (q : List ℕ) → of_three (shape_of x) ≡ true → is_bad (walk (lead (x ∷ q)) (x ∷ q)) ≡ false
    → lead q ≡ next_stage (lead (x ∷ q)) (shape_of x)
three_next x q e h = rw e (go (rw e at h))
  where
    go : is_bad (walk (due (suc (threes q)) (of_one (shape_of x))) (x ∷ q)) ≡ false
        → lead q ≡ next_stage (due (suc (threes q)) (of_one (shape_of x))) (shape_of x)
    go h =
        let one = of_one (shape_of x) in
        let d = (one_less (threes q) one (shape_of x) (good_from (next_stage (due (suc (threes q)) one) (shape_of x)) q h)).1 in
        lead_due (threes q) q (rw d at h) ∙ sym d

lead_next : (x : ℕ) (q : List ℕ) → is_bad (walk (lead (x ∷ q)) (x ∷ q)) ≡ false → closes x ≡ false
    → lead q ≡ next_stage (lead (x ∷ q)) (shape_of x)
lead_next x q h e =
    by_test (of_three (shape_of x)) (λ t. three_next x q t h)
    (λ t. by_test (of_one (shape_of x))
    (λ o. rw (t, o, o) (lead_body q (rw (t, o, o) at h)))
    (λ o. rw (t, o) (past (rw (t, o) at h))))
  where
    past : is_bad (walk Body (x ∷ q)) ≡ false → lead q ≡ next_stage Body (shape_of x)
    past h =
        let s = body_stays x e (good_from (next_stage Body (shape_of x)) q h) in
        lead_body q (rw s at h) ∙ sym s

-- .. of any open circuit, END or PAUSE apart
front_next : (h : Hop) (x : ℕ) (q : List ℕ) → (h ≡ Shut → ⊥) → is_bad (back_of h (x ∷ q)) ≡ false → closes x ≡ false
    → front_of h q ≡ next_stage (front_of h (x ∷ q)) (shape_of x)
front_next Shut x q n g e = absurd (n refl)
front_next (Out l) x q n g e = lead_next x q g e
front_next (Channel c t) x q n g e = sym (body_stays x e (good_from (next_stage Body (shape_of x)) q g))
front_next Unit x q n g e = sym (body_stays x e (good_from (next_stage Body (shape_of x)) q g))
front_next (Dropped c) x q n g e = lead_next x q g e

-- END and PAUSE come past the header only, and after them a circuit starts
closing : (x : ℕ) → closes x ≡ true → shape_of x ≡ S.Closing
unfolding shape_of
closing x e = rw e

pub closes_fresh : (s : Stage) (x : ℕ) → is_bad (next_stage s (shape_of x)) ≡ false → closes x ≡ true
    → (s ≡ Body) × (next_stage s (shape_of x) ≡ Fresh)
closes_fresh s x h e = rw (closing x e) (go s (rw (closing x e) at h))
  where
    go : (s : Stage) → is_bad (next_stage s S.Closing) ≡ false → (s ≡ Body) × (next_stage s S.Closing ≡ Fresh)
    go Bad h = clash h
    go Fresh h = clash h
    go Body h = (refl, refl)
    go OneDue h = clash h
    go ThreeDue h = clash h
    go TwoDue h = clash h
    go LastDue h = clash h

-- one token taken off an open circuit: what it leaves, by whether it closes
pub record Taken (h h' : Hop) (x : ℕ) (q : List ℕ) : Type 0 where
  pub good : is_bad (next_stage (front_of h (x ∷ q)) (shape_of x)) ≡ false
  pub front : front_of h' q ≡ next_stage (front_of h (x ∷ q)) (shape_of x)
  pub back : back_of h' q ≡ back_of h (x ∷ q)

pub taken : (h : Hop) (x : ℕ) (q : List ℕ) → (h ≡ Shut → ⊥) → is_bad (back_of h (x ∷ q)) ≡ false → Taken h (pick (closes x) Shut h) x q
taken h x q n g =
    by_test (closes x)
    (λ e. rw e (leaves Shut (sym (closes_fresh (front_of h (x ∷ q)) x good e).1)))
    (λ e. rw e (leaves h (front_next h x q n g e)))
  where
    good : is_bad (next_stage (front_of h (x ∷ q)) (shape_of x)) ≡ false
    good = good_from (next_stage (front_of h (x ∷ q)) (shape_of x)) q g

    leaves : (h' : Hop) → front_of h' q ≡ next_stage (front_of h (x ∷ q)) (shape_of x) → Taken h h' x q
    leaves h' f = record { good = good; front = f; back = ap (λ (s : Stage). walk s q) f }

-- PUTTING a token behind does not change how many tokens of a header stand in front
threes_put : (q : List ℕ) (x : ℕ) → is_bad (next_stage (walk (lead q) q) (shape_of x)) ≡ false → threes (q ++ (x ∷ [])) ≡ threes q
threes_put [] x h = (none_due (x ∷ []) h).0
threes_put (v ∷ q) x h =
    by_test (of_three (shape_of v))
    (λ e. rw e (ap suc (threes_put q x (rw (sym (three_next v q e (good_from (walk (lead (v ∷ q)) (v ∷ q)) (x ∷ []) h))) at h))))
    (λ e. rw e)

lead_put : (q : List ℕ) (x : ℕ) → is_bad (next_stage (walk (lead q) q) (shape_of x)) ≡ false → lead (q ++ (x ∷ [])) ≡ lead q
lead_put [] x h = lead_body (x ∷ []) h
lead_put (v ∷ q) x h = ap (λ (k : ℕ). due k (of_one (shape_of v))) (threes_put (v ∷ q) x h)

front_put : (h : Hop) (q : List ℕ) (x : ℕ) → is_bad (next_stage (back_of h q) (shape_of x)) ≡ false → front_of h (q ++ (x ∷ [])) ≡ front_of h q
front_put Shut q x g = refl
front_put (Out l) q x g = lead_put q x g
front_put (Channel c t) q x g = refl
front_put Unit q x g = refl
front_put (Dropped c) q x g = lead_put q x g

-- a token put behind: the front stays, the back goes on by it
pub record Put (h : Hop) (q : List ℕ) (x : ℕ) : Type 0 where
  pub front : front_of h (q ++ (x ∷ [])) ≡ front_of h q
  pub back : back_of h (q ++ (x ∷ [])) ≡ next_stage (back_of h q) (shape_of x)

pub put : (h : Hop) (q : List ℕ) (x : ℕ) → is_bad (next_stage (back_of h q) (shape_of x)) ≡ false → Put h q x
put h q x g =
    let f = front_put h q x g in
    record { front = f; back = ap (λ (s : Stage). walk s (q ++ (x ∷ []))) f ∙ walk_append (front_of h q) q (x ∷ []) }

-- OVER A CABLE: what crosses takes the far end where it takes the near one
pub crossed_next : (s : Stage) (c : Shape) → is_bad (next_stage s c) ≡ false → next_stage (crossed s) c ≡ next_stage s c
crossed_next Bad c h = refl
crossed_next Fresh c h = refl
crossed_next Body c h = refl
crossed_next OneDue c h = by_test (of_one c) (λ e. rw e) (λ e. clash (rw e at h))
crossed_next ThreeDue c h = by_test (of_one c) (λ e. clash (rw (eqb-true (shape_number c) 3 e) at h)) (λ e. rw e)
crossed_next TwoDue c h = refl
crossed_next LastDue c h = refl

-- and nothing that a token leads to is the start of a header that is due
crossed_pick : (b : Bool) {s t : Stage} → crossed s ≡ s → crossed t ≡ t → crossed (pick b s t) ≡ pick b s t
crossed_pick true d e = d
crossed_pick false d e = e

pub crossed_after : (s : Stage) (c : Shape) → crossed (next_stage s c) ≡ next_stage s c
crossed_after Bad c = refl
crossed_after Fresh c = crossed_pick (of_one c) refl (crossed_pick (is_byte c) refl refl)
crossed_after Body c = crossed_pick (same_shape c S.Body) refl (crossed_pick (same_shape c S.Closing) refl refl)
crossed_after OneDue c = crossed_pick (of_one c) refl refl
crossed_after ThreeDue c = crossed_pick (is_byte c) refl refl
crossed_after TwoDue c = crossed_pick (is_byte c) refl refl
crossed_after LastDue c = crossed_pick (is_last c) refl refl
