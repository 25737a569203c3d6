-- DEMAND 3 in what an observer writes who sees the state before each call, the call and its answer: of any machine whose observer writes
-- what the proof's writes. Assumes nothing.
use Prim.Native.Nat.{ℕ}
use mathlib.Core.Path.{◌≡◌, refl, ap}
use mathlib.Core.Bool.{Bool, true, false}
use mathlib.Core.List.{List, [], ◌∷◌, ◌++◌}
use Rattle.laws.specs.Pick.{pick}
use Rattle.laws.proofs.Order.{by_test}
use Rattle.circuits.specs.declared.Cause.TheVariants.{Split}
use Rattle.streams.specs.Model.{Fate, Flying, Books, no_books, Notes, no_notes, alter, hd}
use Rattle.streams.specs.Events.{Ghost, books_of, notes, new_ghost}
use Rattle.streams.specs.Demand.{Demand3}
use Rattle.streams.specs.Watch.{Seen, unseen, NoneAnew, run_all, sees, seen}
use Rattle.streams.proofs.Machine.{Machine, noted, watch, GoodState, call_keeps, always, first_good, fate_stays_run, watch_append}
use Rattle.streams.proofs.Machine.{reached, watched, circuits_true, logs_true}
use Rattle.streams.proofs.Splits.{Marks, new_marks, marks_call, Reading}

module _ (link : ℕ → Bool) (m : Machine link) where
  pub record Observer : Type 1 where
    pub Answer : Type 0
    pub answer : m.State → m.Call → Answer
    pub write : Notes → m.State → m.Call → Answer → Books → Books
    pub jot : m.Call → Answer → Notes → Notes
    -- what the state, the proof's books and the notes have to do with each other: so from the start on, and after every call
    pub Tied : m.State → Ghost → Notes → Type 0
    pub tied_first : Tied m.first new_ghost no_notes
    pub tied_anew : (s : m.State) (c : m.Call) → m.anew s c ≡ true → Tied (m.apply s c) new_ghost no_notes
    pub tied_call : (s : m.State) (g : Ghost) (c : m.Call) (k : Notes) → GoodState link m s g → Tied s g k → m.anew s c ≡ false
        → Tied (m.apply s c) (notes (m.events s c) g) (jot c (answer s c) k)
    -- what the proof's observer writes
    pub agrees : (s : m.State) (g : Ghost) (c : m.Call) (k : Notes) → GoodState link m s g → Tied s g k → m.anew s c ≡ false
        → write k s c (answer s c) (books_of g) ≡ books_of (notes (m.events s c) g)

no_books_lem : no_books ≡ books_of new_ghost
unfolding no_books new_ghost
no_books_lem = refl

module _ (link : ℕ → Bool) (m : Machine link) (o : Observer link m) (r : Reading link m) where
  -- what it has written after some calls
  abbrev pub sights : m.State → Seen → List m.Call → Seen
  sights s k cs = seen m.apply m.anew o.answer o.write o.jot r.misreads r.port_in s k cs

  -- the proof's books, and a table and notes beside them
  abbrev beside : Ghost → (ℕ → Bool) → Notes → Seen
  beside g t k = record { books = books_of g; misread = t; notes = k }

  record Same (k : Seen) (s : m.State) (g : Ghost) : Type 0 where
    table : ℕ → Bool
    notes : Notes
    is : k ≡ beside g table notes
    marks : Marks g table
    tied : o.Tied s g notes

  same_call : (c : m.Call) (s : m.State) (g : Ghost) (t : ℕ → Bool) (k : Notes) → GoodState link m s g → Marks g t → o.Tied s g k
      → Same (sees m.apply m.anew o.answer o.write o.jot r.misreads r.port_in s c (beside g t k)) (m.apply s c)
      (noted link m s c g)
  same_call c s g t k good mk ties =
      by_test (m.anew s c)
      (λ e. rw e (record { table = λ c. false; notes = no_notes; is = rw no_books_lem; marks = new_marks; tied = o.tied_anew s c e }))
      (λ e. rw e (record {
        table = pick (r.misreads s c) (alter t (hd (g.cells (r.port_in c))).circuit true) t;
        notes = o.jot c (o.answer s c) k;
        is = rw (o.agrees s g c k good ties e);
        marks = marks_call link (m.events s c) (m.view s) g good.inv (m.law s c good.sane e).ok t mk (r.misreads s c)
            (r.port_in c) (r.answers s c good.sane e);
        tied = o.tied_call s g c k good ties e;
      }))

  same_run : (cs : List m.Call) (s : m.State) (g : Ghost) (t : ℕ → Bool) (k : Notes) → GoodState link m s g → Marks g t → o.Tied s g k
      → Same (sights s (beside g t k) cs) (run_all m.apply s cs) (watch link m s g cs)
  same_run [] s g t k good mk ties = record { table = t; notes = k; is = refl; marks = mk; tied = ties }
  same_run (c ∷ cs) s g t k good mk ties =
      let now = same_call c s g t k good mk ties in
      rw now.is (same_run cs (m.apply s c) (noted link m s c g) now.table now.notes (call_keeps link m c s g good) now.marks
      now.tied)

  -- after any calls from the start
  abbrev pub sighted : List m.Call → Seen
  sighted cs = sights m.first unseen cs

  same : (cs : List m.Call) → Same (sighted cs) (reached link m cs) (watched link m cs)
  same cs = rw no_books_lem (same_run cs m.first new_ghost (λ c. false) no_notes (first_good link m) new_marks o.tied_first)

  pub books_watched : (cs : List m.Call) → (sighted cs).books ≡ books_of (watched link m cs)
  books_watched cs = ap (λ (k : Seen). k.books) (same cs).is

  -- a fate once given stays until a call is anew: a circuit is handed at one place only
  pub fate_once : (cs ds : List m.Call) (c : ℕ) (f : Fate) → (f ≡ Flying → ⊥)
      → NoneAnew m.apply m.anew (reached link m cs) ds
      → (sighted cs).books.fate c ≡ f
      → (sighted (cs ++ ds)).books.fate c ≡ f
  fate_once cs ds c f ne old z =
      let k = always link m cs m.first new_ghost (first_good link m) in
      let z' : (watched link m cs).fate c ≡ f = rw (books_watched cs) at z in
      rw (books_watched (cs ++ ds), watch_append link m cs ds m.first new_ghost)
      (fate_stays_run link m ds (reached link m cs) (watched link m cs) k old c f ne z')

  -- THE THEOREM, of any machine
  pub demand_3 : (cs : List m.Call) → Demand3 (sighted cs).books (sighted cs).misread
  demand_3 cs =
      let all = same cs in
      let true_of = circuits_true link m cs in
      rw all.is (record {
        circuits = true_of;
        doors = logs_true link m cs;
        split = λ c z. (all.marks c).0 z;
        split_so = λ c h. let gone = (all.marks c).1 h in (gone, (true_of c).refused Split gone);
      })

  -- .. and what follows from the ties, whatever follows of the proof's books
  pub so_tied : (P : m.State → Books → Notes → Type 0)
      → ((s : m.State) (g : Ghost) (k : Notes) → GoodState link m s g → o.Tied s g k → P s (books_of g) k)
      → (cs : List m.Call)
      → P (reached link m cs) (sighted cs).books (sighted cs).notes
  so_tied P h cs =
      let all = same cs in
      let good = always link m cs m.first new_ghost (first_good link m) in
      rw all.is (h (reached link m cs) (watched link m cs) all.notes good all.tied)
