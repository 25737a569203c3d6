-- RUNS OF SINGLE CALLS: a call that is no list, and the run of such calls that any run stands for. Assumes nothing.
use Prim.{tt}
use Prim.Native.Nat.{ℕ}
use mathlib.Core.Path.{◌≡◌, refl, sym, ap, ◌∙◌}
use mathlib.Core.Bool.{Bool, false}
use mathlib.Core.List.{List, [], ◌∷◌, ◌++◌, map, append_assoc}
use lib.Dec.{eqb}
use lib.ListN.{length}
use Rattle.laws.specs.Pick.{pick}
use Rattle.laws.proofs.Order.{by_test}
use Rattle.cells.specs.World.{World}
use Rattle.bench.specs.declared.StepRecord.{StepRecord}
use Rattle.bench.specs.Calls.{Call, Begin, Wire, Set, Aim, Output, Input, Step, Line, Steps, apply}
use Rattle.bench.specs.Runs.{run, step_of, steps_of, singly, flat}
use Rattle.bench.proofs.Lists.{singly_left}
use Rattle.streams.specs.Model.{Books, Notes}
use Rattle.streams.specs.Watch.{Seen, run_all, NoneAnew, seen}
use Rattle.streams.specs.Observer.{anew}
use Rattle.streams.proofs.Calls.{is_list}

pub record Lone : Type 0 where
  pub call : Call
  pub lone : is_list call ≡ false

abbrev only : (c : Call) → is_list c ≡ false → List Lone
only c l = record { call = c; lone = l } ∷ []

abbrev lone_steps : List StepRecord → List Lone
lone_steps [] = []
lone_steps (x ∷ xs) = record { call = step_of x; lone = refl } ∷ lone_steps xs

abbrev lone_of : Call → List Lone
lone_of (Begin s n) = only (Begin s n) refl
lone_of (Wire a l b k) = only (Wire a l b k) refl
lone_of (Set a x) = only (Set a x) refl
lone_of (Aim a c g v) = only (Aim a c g v) refl
lone_of (Output a c x) = only (Output a c x) refl
lone_of (Input a c k) = only (Input a c k) refl
lone_of (Step a p) = only (Step a p) refl
lone_of (Line a l) = only (Line a l) refl
lone_of (Steps n xs) = pick (eqb n (length xs)) (lone_steps xs) []

abbrev pub lones : List Call → List Lone
lones [] = []
lones (c ∷ cs) = lone_of c ++ lones cs

-- they are the single calls of the run
abbrev pub calls_in : List Lone → List Call
calls_in ls = map (λ (l : Lone). l.call) ls

calls_append : (ls ms : List Lone) → calls_in (ls ++ ms) ≡ calls_in ls ++ calls_in ms
calls_append [] ms = refl
calls_append (l ∷ ls) ms = ap (λ (cs : List Call). l.call ∷ cs) (calls_append ls ms)

steps_lone : (xs : List StepRecord) → calls_in (lone_steps xs) ≡ steps_of xs
steps_lone [] = refl
steps_lone (x ∷ xs) = ap (λ (cs : List Call). step_of x ∷ cs) (steps_lone xs)

singly_lone : (c : Call) → calls_in (lone_of c) ≡ singly c
singly_lone (Begin s n) = refl
singly_lone (Wire a l b k) = refl
singly_lone (Set a x) = refl
singly_lone (Aim a c g v) = refl
singly_lone (Output a c x) = refl
singly_lone (Input a c k) = refl
singly_lone (Step a p) = refl
singly_lone (Line a l) = refl
singly_lone (Steps n xs) = by_test (eqb n (length xs)) (λ e. rw e (steps_lone xs)) (λ e. rw e)

pub flat_lone : (cs : List Call) → calls_in (lones cs) ≡ flat cs
flat_lone [] = refl
flat_lone (c ∷ cs) = rw (calls_append (lone_of c) (lones cs), singly_lone c, flat_lone cs)

pub lones_append : (cs ds : List Call) → lones (cs ++ ds) ≡ lones cs ++ lones ds
lones_append [] ds = refl
lones_append (c ∷ cs) ds = rw (lones_append cs ds) (sym (append_assoc (lone_of c) (lones cs) (lones ds)))

-- ANY MACHINE made on single calls is made on the calls that they are
module _ {S : Type 0} (apply : S → Call → S) where
  pub run_lone : (ls : List Lone) (s : S) → run_all apply s (calls_in ls) ≡ run_all (λ s l. apply s l.call) s ls
  run_lone [] s = refl
  run_lone (l ∷ ls) s = run_lone ls (apply s l.call)

  module _ (anew : S → Call → Bool) {A : Type 0} (answer : S → Call → A) (write : Notes → S → Call → A → Books → Books)
      (jot : Call → A → Notes → Notes) (misreads : S → Call → Bool) (port_in : Call → ℕ) where
    pub seen_lone : (ls : List Lone) (s : S) (k : Seen) → seen apply anew answer write jot misreads port_in s k (calls_in ls)
        ≡ seen (λ s (l : Lone). apply s l.call) (λ s l. anew s l.call) (λ s l. answer s l.call) (λ o s l. write o s l.call)
        (λ l. jot l.call) (λ s l. misreads s l.call) (λ l. port_in l.call) s k ls
    seen_lone [] s k = refl
    seen_lone (l ∷ ls) s k = seen_lone ls (apply s l.call) _

-- WHERE NO CALL OF A RUN IS ANEW none of its single calls is
module _ where
  abbrev left : World → Call → World
  left w c = (apply w c).next

  abbrev Old : World → List Lone → Type 0
  Old w ls = NoneAnew (λ w (l : Lone). left w l.call) (λ w l. anew w l.call) w ls

  old_append : (ls ms : List Lone) (w : World) → Old w ls → Old (run_all left w (calls_in ls)) ms → Old w (ls ++ ms)
  old_append [] ms w h k = k
  old_append (l ∷ ls) ms w (h, hs) k = (h, old_append ls ms (left w l.call) hs k)

  old_steps : (xs : List StepRecord) (w : World) → Old w (lone_steps xs)
  old_steps [] w = tt
  old_steps (x ∷ xs) w = (refl, old_steps xs (left w (step_of x)))

  old_one : (w : World) (c : Call) → anew w c ≡ false → Old w (lone_of c)
  old_one w (Begin s n) e = (e, tt)
  old_one w (Wire a l b k) e = (e, tt)
  old_one w (Set a x) e = (e, tt)
  old_one w (Aim a c g v) e = (e, tt)
  old_one w (Output a c x) e = (e, tt)
  old_one w (Input a c k) e = (e, tt)
  old_one w (Step a p) e = (e, tt)
  old_one w (Line a l) e = (e, tt)
  old_one w (Steps n xs) e = by_test (eqb n (length xs)) (λ t. rw t (old_steps xs w)) (λ t. rw t tt)

  pub run_left : (cs : List Call) (w : World) → (run w cs).last ≡ run_all left w cs
  run_left [] w = refl
  run_left (c ∷ cs) w = run_left cs (left w c)

  one_left : (w : World) (c : Call) → run_all left w (calls_in (lone_of c)) ≡ left w c
  one_left w c = rw (singly_lone c) (sym (run_left (singly c) w) ∙ singly_left w c)

  pub old_lone : (cs : List Call) (w : World) → NoneAnew left anew w cs → Old w (lones cs)
  old_lone [] w h = tt
  old_lone (c ∷ cs) w (h, hs) = old_append (lone_of c) (lones cs) w (old_one w c h) (rw (one_left w c) (old_lone cs (left w c) hs))
