-- A walk over tokens in two parts, and one that does not end badly. Assumes nothing.
use Prim.Native.Nat.{ℕ}
use mathlib.Core.Path.{◌≡◌, refl, sym, ◌∙◌}
use mathlib.Core.Bool.{true, false}
use mathlib.Core.List.{List, [], ◌∷◌, ◌++◌}
use native.Mathlib.Omega.{arith}
use Rattle.std.specs.List.{fold, prefix_len}
use Rattle.laws.proofs.Order.{by_test, clash}
use Rattle.tokens.specs.Shape.{shape_of}
use Rattle.grammar.specs.Stage.{next_stage, of_three, is_bad}
use Rattle.grammar.specs.Walk.{walk, threes}
use Rattle.grammar.specs.declared.stage.Stage.{Stage}
use Rattle.grammar.specs.declared.stage.Stage.TheVariants.{Bad, Fresh, Body, OneDue, ThreeDue, TwoDue, LastDue}

pub walk_append : (s : Stage) (q r : List ℕ) → walk s (q ++ r) ≡ walk (walk s q) r
walk_append s [] r = refl
walk_append s (x ∷ q) r = walk_append (next_stage s (shape_of x)) q r

-- a walk that does not end badly has not been bad
bad_stays : (q : List ℕ) → is_bad (walk Bad q) ≡ true
bad_stays [] = refl
bad_stays (x ∷ q) = bad_stays q

pub good_from : (s : Stage) (q : List ℕ) → is_bad (walk s q) ≡ false → is_bad s ≡ false
good_from Bad q h = clash (sym (bad_stays q) ∙ h)
good_from Fresh q h = refl
good_from Body q h = refl
good_from OneDue q h = refl
good_from ThreeDue q h = refl
good_from TwoDue q h = refl
good_from LastDue q h = refl

-- the walk as a fold, and the tokens at the front as the longest part of which each is one
pub walk_fold : (s : Stage) (q : List ℕ) → fold (λ (t : Stage) (w : ℕ). next_stage t (shape_of w)) s q ≡ walk s q
walk_fold s [] = refl
walk_fold s (x ∷ q) = walk_fold (next_stage s (shape_of x)) q

pub threes_front : (q : List ℕ) → prefix_len (λ (w : ℕ). of_three (shape_of w)) q ≡ threes q
threes_front [] = refl
threes_front (x ∷ q) = by_test (of_three (shape_of x)) (λ e. rw (e, threes_front q) (omega arith)) (λ e. rw e)
