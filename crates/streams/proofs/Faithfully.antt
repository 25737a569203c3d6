-- DEMAND 3, of the bench: for every number of boards and every run of calls from Fresh or blank, starts and lists of steps among them.
-- Assumes nothing.
use Prim.Native.Nat.{ℕ, ◌≤◌}
use mathlib.Core.Path.{◌≡◌, sym, ap, ◌∙◌}
use mathlib.Core.List.{List, ◌++◌}
use Rattle.names.specs.Size.{nodes}
use Rattle.cells.specs.World.{World}
use Rattle.fresh.specs.Fresh.{start_of}
use Rattle.fresh.specs.declared.Start.{Start}
use Rattle.bench.specs.Calls.{Call, apply}
use Rattle.bench.specs.Runs.{run, flat}
use Rattle.bench.proofs.Lasts.{call_keeps}
use Rattle.bench.proofs.Lists.{flat_left}
use Rattle.kept.specs.Kept.{Kept}
use Rattle.kept.proofs.Calls.{start_kept}
use Rattle.streams.specs.Model.{is_link, Fate, Flying}
use Rattle.streams.specs.Demand.{Demand3, Ties}
use Rattle.streams.specs.Watch.{unseen, NoneAnew, run_all}
use Rattle.streams.specs.Observer.{write, jot, anew, misreads, port_in}
use Rattle.streams.specs.Statement.{observed}
use Rattle.streams.specs.View.{moving}
use Rattle.streams.proofs.Machine.{Machine}
use Rattle.streams.proofs.Splits.{Reading}
use Rattle.streams.proofs.Seen.{Observer, sighted, fate_once, demand_3, so_tied}
use Rattle.streams.proofs.Singly.{Lone, lones, flat_lone, lones_append, run_lone, seen_lone, run_left, old_lone}
use Rattle.streams.proofs.Calls.{events_of, call_leads, start_view, start_seen}
use Rattle.streams.proofs.Ties.{Tied, tied_start, tied_anew, tied_call, ties_so}
use Rattle.streams.proofs.Agree.{call_agrees}
use Rattle.streams.proofs.Misreads.{call_splits}

module _ (s : Start) (n : ℕ) (some : 1 ≤ n) (few : n ≤ nodes) where
  abbrev machine : Machine is_link
  machine =
      record {
        State = World;
        Call = Lone;
        apply = λ w c. (apply w c.call).next;
        events = λ w c. events_of w c.call;
        view = moving;
        Sane = Kept;
        anew = λ w c. anew w c.call;
        anew_view = λ w c k e. start_seen w c.call e;
        law = λ w c k e. call_leads w k c.call c.lone e;
        stays_sane = λ w c k. call_keeps w k c.call;
        first = start_of s n;
        first_sane = start_kept s n some few;
        first_view = start_view s n;
      }

  abbrev observer : Observer is_link machine
  observer =
      record {
        Answer = _;
        answer = λ w c. (apply w c.call).answer;
        write = λ o w c. write o w c.call;
        jot = λ c. jot c.call;
        Tied = Tied;
        tied_first = tied_start s n;
        tied_anew = λ w c. tied_anew w c.call;
        tied_call = λ w g c o k t e. tied_call w k.sane g k.inv o t c.call c.lone e;
        agrees = λ w g c o k t e. call_agrees w k.sane g o t.aims c.call c.lone e;
      }

  abbrev reading : Reading is_link machine
  reading =
      record {
        misreads = λ w c. misreads w c.call;
        port_in = λ c. port_in c.call;
        answers = λ w c k e. call_splits w k c.call;
      }

  -- what was written down of a run is what was of its single calls
  singly_observed : (cs : List Call) → observed s n cs ≡ sighted is_link machine observer reading (lones cs)
  singly_observed cs =
      rw (sym (flat_lone cs))
      (seen_lone (λ w c. (apply w c).next) anew (λ w c. (apply w c).answer) write jot misreads port_in (lones cs) (start_of s n) unseen)

  -- and the run leaves what they leave
  singly_reached : (cs : List Call)
      → (run (start_of s n) cs).last ≡ run_all (λ w (c : Lone). (apply w c.call).next) (start_of s n) (lones cs)
  singly_reached cs =
      sym (flat_left cs (start_of s n))
      ∙ run_left (flat cs) (start_of s n)
      ∙ ap (run_all (λ (w : World) (c : Call). (apply w c).next) (start_of s n)) (sym (flat_lone cs))
      ∙ run_lone (λ w c. (apply w c).next) (lones cs) (start_of s n)

  -- after any calls: what was written down is what the order demands
  pub bench_3 : (cs : List Call) → Demand3 (observed s n cs).books (observed s n cs).misread
  bench_3 cs = rw (singly_observed cs) (demand_3 is_link machine observer reading (lones cs))

  -- .. and is of the bench that the calls were made on
  pub bench_ties : (cs : List Call) → Ties (run (start_of s n) cs).last (observed s n cs).books (observed s n cs).notes
  bench_ties cs =
      rw (singly_observed cs, singly_reached cs) (so_tied is_link machine observer reading Ties
      (λ w g o k t. ties_so w k.sane g k.inv o t) (lones cs))

  -- what became of a circuit stays, until a start is done: it is handed at one place only
  pub fate_stays : (cs ds : List Call) (c : ℕ) (f : Fate) → (f ≡ Flying → ⊥)
      → NoneAnew (λ (w : World) (c : Call). (apply w c).next) anew (run (start_of s n) cs).last ds
      → (observed s n cs).books.fate c ≡ f
      → (observed s n (cs ++ ds)).books.fate c ≡ f
  fate_stays cs ds c f ne none =
      let old = old_lone ds (run (start_of s n) cs).last none in
      rw (singly_observed cs, singly_observed (cs ++ ds), lones_append cs ds)
      (fate_once is_link machine observer reading (lones cs) (lones ds) c f ne (rw (singly_reached cs) at old))
