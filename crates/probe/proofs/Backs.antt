-- Reading what was written gives the tokens back without their header marks: once, of any form that has the two facts. Assumes nothing.
use Prim.Native.Nat.{ℕ, zero, suc, ◌+◌, ◌*◌, ◌/◌, ◌%◌, ◌<◌, ◌≤◌}
use mathlib.Core.Path.{◌≡◌, refl, ap, ◌∙◌}
use mathlib.Core.Bool.{true, false, not}
use mathlib.Core.Logic.{⊎_elim}
use mathlib.Core.List.{List, [], ◌∷◌, ◌++◌, map, append_assoc, append-nil}
use native.Mathlib.Nat.{suc-mul, mul-div_cancel, mul-mod_left}
use native.Mathlib.Decide.{ℕ_discrete}
use native.Mathlib.Omega.{arith}
use lib.Dec.{ltb, leb}
use lib.ListN.{length, get_or, take, drop, length-append, length-drop, take-append-drop}
use lib.Seq.{take-append-le, drop-append-le, drop_at, take_all, take_at, take-suc, take-length, length-take-le}
use borrow.Author.Tests.{le-ltb, eq-eqb, ltb-false, not-false}
use Rattle.std.specs.Prelude.{Ok, Err}
use Rattle.laws.specs.All.{NoneBelow}
use Rattle.laws.proofs.All.{first_none, first_least, also, below, as_is}
use Rattle.laws.proofs.Order.{next, by_test, never}
use Rattle.probe.specs.Wires.{low, after}
use Rattle.probe.specs.Form.{Form, unmarked, writable, written, transitions, first_unwritable}
use Rattle.probe.specs.Form.{whole, said_at, meaningless, tokens_in, gathered, first_meaningless}
use Rattle.probe.specs.Calls.{Out, out, filled, delivered, writing, reading}
use Rattle.probe.specs.Facts.{Tells, Faithful}
use Rattle.probe.specs.declared.answer.Refusal.TheVariants.{Bad, NoSuch}
use Rattle.probe.specs.declared.sequence.Said.TheVariants.{Token}
use Rattle.probe.proofs.Levels.{after_small}

map_last : (f : ℕ → ℕ) (l : List ℕ) (x : ℕ) → map f (l ++ (x ∷ [])) ≡ map f l ++ (f x ∷ [])
map_last f [] x = refl
map_last f (y ∷ l) x = ap (λ (r : List ℕ). f y ∷ r) (map_last f l x)

module _ (F : Form) where
  -- a capture of m sequences, each with a meaning, and the tokens that they say
  record Reads (w : List ℕ) (m : ℕ) (us : List ℕ) : Type 0 where
    long : length w ≡ m * F.width
    none : NoneBelow (λ i. meaningless (said_at F w i)) m
    told : gathered F w m ≡ us

  reads_none : Reads [] 0 []
  unfolding gathered
  reads_none = record { long = omega arith; none = λ i l. absurd (omega arith); told = refl }

  -- one sequence more
  module _ (w p : List ℕ) (m : ℕ) (e : length w ≡ m * F.width) where
    said_front : (i : ℕ) → i < m → said_at F (w ++ p) i ≡ said_at F w i
    unfolding said_at
    said_front i h =
        let fits : i * F.width + F.width ≤ length w = rw e (next i m F.width h) in
        let far : i * F.width ≤ length w = omega arith in
        let long : F.width ≤ length (drop (i * F.width) w) = rw length-drop (omega arith) in
        ap (λ (l : List ℕ). F.says (take F.width l)) (drop-append-le (i * F.width) w p far)
        ∙ ap F.says (take-append-le F.width (drop (i * F.width) w) p long)

    gathered_front : (i : ℕ) → i ≤ m → gathered F (w ++ p) i ≡ gathered F w i
    unfolding gathered
    gathered_front zero h = refl
    gathered_front (suc i) h = rw (gathered_front i (omega arith), said_front i h)

    said_last : length p ≡ F.width → said_at F (w ++ p) m ≡ F.says p
    unfolding said_at
    said_last d =
        ap (λ (l : List ℕ). F.says (take F.width l)) (drop_at w p (m * F.width) e)
        ∙ ap F.says (take_all F.width p (omega arith))

  reads_more : (w p us : List ℕ) (m : ℕ)
      → Reads w m us
      → length p ≡ F.width
      → meaningless (F.says p) ≡ false
      → Reads (w ++ p) (suc m) (us ++ tokens_in (F.says p))
  unfolding gathered
  reads_more w p us m r d e =
      record {
        long = rw (length-append, r.long, d, suc-mul);
        none = λ i h. elim (ℕ_discrete i m) [
          | yes q ↦ rw (q, said_last w p m r.long d) e
          | no q ↦ rw (said_front w p m r.long i (omega arith)) (r.none i (omega arith))
        ];
        told = rw (gathered_front w p m r.long m (omega arith), said_last w p m r.long d, r.told);
      }

  -- such a capture is answered with those tokens
  reads_answer : (w us b : List ℕ) (m : ℕ) → 0 < F.width → Reads w m us → reading F w b ≡ delivered us b
  unfolding reading first_meaningless whole
  reads_answer w us b m wide r =
      let all : length w / F.width ≡ m = rw r.long (mul-div_cancel m wide) in
      let even : length w % F.width ≡ 0 = rw r.long (mul-mod_left m F.width) in
      let none = first_none (λ i. meaningless (said_at F w i)) m r.none in
      rw (all, none, le-ltb m m (omega arith), eq-eqb (length w % F.width) 0 even, r.told)

writes_unmarked : (F : Form) (x : ℕ) → writable F x ≡ true → F.writes (unmarked x) ≡ true
unfolding writable
writes_unmarked F x e = ((also (below x 2048) (as_is (F.writes (unmarked x)))).sure e).1

-- THE THEOREM. For any form that has the two facts
module _ (F : Form) (f : Faithful F) (ts : List ℕ) (can : (i : ℕ) → i < length ts → writable F (get_or ts i 0) ≡ true) where
  record Some (w us : List ℕ) : Type 0 where
    many : ℕ
    reads : Reads F w many us

  token_more : (w us q : List ℕ) (t : ℕ) → Some w us → Tells F t q → Some (w ++ q) (us ++ (t ∷ []))
  token_more w us q t s tells =
      ⊎_elim
      (λ one. record {
        many = suc s.many;
        reads = let whole : take F.width q ≡ q = take_all F.width q (omega arith) in
            let said : F.says q ≡ Token t = rw whole at tells.said in
            rw said at (reads_more F w q us s.many s.reads one (rw said));
      })
      (λ two. record {
        many = suc (suc s.many);
        reads =
            let k = F.width in
            let front : length (take k q) ≡ k = length-take-le k q (omega (arith, two.0)) in
            let rest : length (drop k q) ≡ k = rw length-drop (omega (arith, two.0)) in
            let first = reads_more F w (take k q) us s.many s.reads front (rw tells.said) in
            let second = reads_more F (w ++ take k q) (drop k q) _ (suc s.many) first rest (rw two.1) in
            let parts : (w ++ take k q) ++ drop k q ≡ w ++ q =
            append_assoc w (take k q) (drop k q) ∙ ap (λ (l : List ℕ). w ++ l) (take-append-drop k q) in
            rw (parts, tells.said, two.1, append-nil) at second;
      })
      tells.long

  reads_written : (n : ℕ) → n ≤ length ts → Some (written F ts n) (map unmarked (take n ts))
  unfolding written
  reads_written zero h = record { many = 0; reads = reads_none F }
  reads_written (suc n) h =
      let w = written F ts n in
      let t = unmarked (get_or ts n 0) in
      let fine : F.writes t ≡ true = writes_unmarked F (get_or ts n 0) (can n h) in
      let small : t < 512 = omega arith in
      let tells = f.tells (after low w) t (after_small w low (omega arith)) small fine in
      rw (take-suc ts n 0, map_last)
      (token_more w (map unmarked (take n ts)) (F.one (after low w) t) t (reads_written n (omega arith)) tells)

  pub reads_back : (b : List ℕ) → reading F (transitions F ts) b ≡ delivered (map unmarked ts) b
  reads_back b =
      let s = rw take-length at (reads_written (length ts) (omega arith)) in
      reads_answer F (transitions F ts) (map unmarked ts) b s.many f.wide s.reads

-- .. and of the calls: what is filled by writing is read back
all_writable : (F : Form) (ts : List ℕ) → length ts ≤ first_unwritable F ts → (i : ℕ) → i < length ts → writable F (get_or ts i 0) ≡ true
unfolding first_unwritable
all_writable F ts h i l =
    not-false _ (first_least (λ j. not (writable F (get_or ts j 0))) (length ts) i (omega arith))

answers : {o p : Out} → o ≡ p → o.answer ≡ p.answer
answers e = ap (λ (o : Out). o.answer) e

pub back : (F : Form)
    → Faithful F
    → (ts b c d : List ℕ) (n : ℕ)
    → writing F ts b ≡ out (Ok n) c
    → reading F (take n c) d ≡ delivered (map unmarked ts) d
unfolding writing delivered
back F f ts b c d n e =
    by_test (ltb (first_unwritable F ts) (length ts))
    (λ h. let q : Err (Bad (first_unwritable F ts)) ≡ Ok n = answers (rw h at e) in never (cc))
    (λ h. by_test (leb (length (transitions F ts)) (length b))
    (λ l.
    let q : Ok (length (transitions F ts)) ≡ Ok n = answers (rw (h, l) at e) in
    let count : length (transitions F ts) ≡ n = (cc) in
    let kept : filled (transitions F ts) b ≡ c = ap (λ (o : Out). o.buffer) (rw (h, l) at e) in
    let laid : take n c ≡ transitions F ts = rw (← kept) (take_at (transitions F ts) (drop (length (transitions F ts)) b) n count) in
    rw laid (reads_back F f ts (all_writable F ts (ltb-false _ _ h)) d))
    (λ l. let q : Err NoSuch ≡ Ok n = answers (rw (h, l) at e) in never (cc)))
