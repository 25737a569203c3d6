-- What a turn of the list's function has: the records before place i are done, and the rest, made from here, gives what the whole list
-- gives. Assumes nothing.
use mathlib.Core.Path.{◌≡◌, refl, sym, ap, ◌∙◌}
use mathlib.Core.Bool.{Bool, false}
use mathlib.Core.List.{List, [], ◌∷◌, ◌++◌, map, append_assoc, append-nil}
use Prim.Native.Nat.{ℕ, ◌+◌, ◌-◌, ◌<◌, ◌≤◌}
use Prim.{tt}
use native.Mathlib.Numerals.{add-one}
use native.Mathlib.Omega.{arith}
use lib.ListN.{length, take, drop, get_or, length-set}
use lib.Seq.{drop-cons, drop-length}
use lib.Seq.{take-suc-set, take_all}
use borrow.Author.Tests.{eq-eqb, ne_eqb}
use Rattle.answers.specs.Answer.{answer_number}
use Rattle.cells.specs.World.{World, lent}
use Rattle.bench.specs.declared.StepRecord.{StepRecord}
use Rattle.bench.specs.Calls.{step_by, stepped, results, apply}
use Rattle.shift.specs.Needs.{Sure}
use Rattle.shift.specs.Lists.{Left, left, listed, one_step, list_made}

-- the records from place i on, in order
unfoldable pub steps_from : Left → ℕ → List StepRecord → Left
steps_from k i [] = k
steps_from k i (x ∷ xs) = steps_from (one_step k i x.slot x.port) (i + 1) xs

abbrev pub none : StepRecord
none = record { slot = 0; port = 0 }

-- they leave what the Steps leave, and the results of the Steps from that place on
next_from : (k : Left) (i : ℕ) (xs : List StepRecord) → (steps_from k i xs).next ≡ stepped k.next xs
unfolding steps_from one_step apply
next_from k i [] = refl
next_from k i (x ∷ xs) = next_from (one_step k i x.slot x.port) (i + 1) xs

results_from : (k : Left) (i : ℕ) (xs : List StepRecord) → i + length xs ≡ length k.results
    → (steps_from k i xs).results ≡ take i k.results ++ map answer_number (results k.next xs)
unfolding steps_from one_step apply
results_from k i [] e = sym (append-nil (take i k.results) ∙ take_all i k.results (omega arith))
results_from k i (x ∷ xs) e =
    let a = answer_number (step_by k.next x).answer in
    results_from (one_step k i x.slot x.port) (i + 1) xs (rw (length-set k.results i a) (omega arith))
    ∙ rw (add-one i, take-suc-set k.results i a (omega arith), append_assoc)

pub from_first : (w : World) (rs : List ℕ) (xs : List StepRecord) → length rs ≡ length xs
    → steps_from (left w rs) 0 xs ≡ left (stepped w xs) (map answer_number (results w xs))
from_first w rs xs e = λ j. record { next = next_from (left w rs) 0 xs j; results = results_from (left w rs) 0 xs (omega arith) j }

module _ (ys : List StepRecord) (st₀ mem₀ ls₀ res₀ : List ℕ) where
  pub record At : Type 0 where
    pub i : ℕ
    pub sure : Bool
    pub st : List ℕ
    pub mem : List ℕ
    pub ls : List ℕ
    pub results : List ℕ
    pub within : i ≤ length ys
    pub known : Sure sure (lent st mem ls)
    pub so_far : steps_from (left (lent st mem ls) results) i (drop i ys) ≡ steps_from (left (lent st₀ mem₀ ls₀) res₀) 0 ys
    pub st_len : length st ≡ length st₀
    pub mem_len : length mem ≡ length mem₀
    pub ls_len : length ls ≡ length ls₀
    pub results_len : length results ≡ length res₀

  abbrev pub remaining : At → ℕ
  remaining t = length ys - t.i

  abbrev pub start : At
  start =
      record {
        i = 0;
        sure = false;
        st = st₀;
        mem = mem₀;
        ls = ls₀;
        results = res₀;
        within = omega arith;
        known = tt;
        so_far = refl;
        st_len = refl;
        mem_len = refl;
        ls_len = refl;
        results_len = refl;
      }

  pub one_turn : (k : Left) (i : ℕ) → i < length ys
      → steps_from k i (drop i ys) ≡ steps_from (one_step k i (get_or ys i none).slot (get_or ys i none).port) (i + 1) (drop (i + 1) ys)
  unfolding steps_from
  one_turn k i h =
      rw (drop-cons ys i none h)
      (ap (λ (n : ℕ). steps_from (one_step k i (get_or ys i none).slot (get_or ys i none).port) (i + 1) (drop n ys)) (sym (add-one i)))

  -- one record more is done
  abbrev pub next : (t : At) (sure : Bool) (st mem ls results : List ℕ) → t.i < length ys
      → Sure sure (lent st mem ls)
      → left (lent st mem ls) results
      ≡ one_step (left (lent t.st t.mem t.ls) t.results) t.i (get_or ys t.i none).slot (get_or ys t.i none).port
      → length st ≡ length t.st → length mem ≡ length t.mem → length ls ≡ length t.ls → length results ≡ length t.results
      → At
  next t sure st mem ls results h known o a b c d =
      record {
        i = t.i + 1;
        sure = sure;
        st = st;
        mem = mem;
        ls = ls;
        results = results;
        within = omega arith;
        known = known;
        so_far = rw o (sym (one_turn (left (lent t.st t.mem t.ls) t.results) t.i h) ∙ t.so_far);
        st_len = a ∙ t.st_len;
        mem_len = b ∙ t.mem_len;
        ls_len = c ∙ t.ls_len;
        results_len = d ∙ t.results_len;
      }

  pub less : (t : At) → t.i < length ys → length ys - (t.i + 1) < remaining t
  less t h = omega arith

  ended : (k : Left) (i : ℕ) → i ≡ length ys → steps_from k i (drop i ys) ≡ k
  unfolding steps_from
  ended k i e = rw (e, drop-length ys)

  -- the whole list is done, and there is a place for each record
  pub done_all : (t : At) → length ys ≤ t.i → length res₀ ≡ length ys
      → listed 4294967296 (lent t.st t.mem t.ls) t.results ≡ list_made (lent st₀ mem₀ ls₀) res₀ ys
  unfolding list_made apply
  done_all t l e =
      let all : t.i ≡ length ys = omega (arith, t.within) in
      let whole = sym (ended (left (lent t.st t.mem t.ls) t.results) t.i all) ∙ t.so_far ∙ from_first (lent st₀ mem₀ ls₀) res₀ ys e in
      rw (eq-eqb (length res₀) (length ys) e) (ap (λ (k : Left). listed 4294967296 k.next k.results) whole)

  -- another length: nothing is done
  pub refused : (length res₀ ≡ length ys → ⊥) → listed 2 (lent st₀ mem₀ ls₀) res₀ ≡ list_made (lent st₀ mem₀ ls₀) res₀ ys
  unfolding list_made apply
  refused n = rw (ne_eqb (length res₀) (length ys) n)
