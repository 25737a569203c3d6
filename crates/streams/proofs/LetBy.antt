-- WHAT DEMAND 3 ALONE LETS BY: a bench that makes some calls and leaves the others undone, with an answer that writes nothing, meets its
-- sentences over every run, where a Step that is not made reads no header. So one that refuses all meets them, and one that says Idle to
-- every Step. (Where a header of the other width counts as read by any Step of its port, as `misread` says it over the state, the Split
-- sentence refuses Idle.) Demand 2 shuts both out (edits `refuses_all`, `idle_always` of switch), and so it does the third of document
-- 01's programs, which stores nothing (`stores_nothing`); that one breaks `held` of `Ties` too. Assumes nothing.
use Prim.{tt}
use Prim.Native.Nat.{ℕ, ◌≤◌}
use mathlib.Core.Path.{◌≡◌, refl, sym}
use mathlib.Core.Bool.{Bool, true, false}
use mathlib.Core.List.{List, []}
use Rattle.laws.specs.Pick.{pick}
use Rattle.laws.proofs.Order.{by_test, clash}
use Rattle.names.specs.Size.{nodes}
use Rattle.names.specs.declared.no.No.TheVariants.{Unsound}
use Rattle.answers.specs.Out.{Out, out}
use Rattle.answers.specs.Answered.{Answered, No, Idle}
use Rattle.cells.specs.World.{World}
use Rattle.fresh.specs.Fresh.{start_of}
use Rattle.fresh.specs.declared.Start.{Start}
use Rattle.bench.specs.Calls.{Call, Begin, Wire, Set, Aim, Output, Input, Step, Line, Steps, apply}
use Rattle.bench.specs.Runs.{flat}
use Rattle.bench.proofs.Lasts.{call_keeps}
use Rattle.kept.specs.Kept.{Kept}
use Rattle.kept.proofs.Calls.{start_kept}
use Rattle.streams.specs.Model.{is_link, Books, Notes}
use Rattle.streams.specs.Demand.{Demand3}
use Rattle.streams.specs.Watch.{Seen, unseen, seen}
use Rattle.streams.specs.Observer.{write, jot, anew, misreads, port_in}
use Rattle.streams.specs.View.{moving}
use Rattle.streams.proofs.Machine.{Machine}
use Rattle.streams.proofs.Splits.{Reading}
use Rattle.streams.proofs.Seen.{Observer, demand_3}
use Rattle.streams.proofs.Calls.{events_of, leads_none, call_leads, start_view, start_seen}
use Rattle.streams.proofs.Singly.{Lone, lones, flat_lone, seen_lone}
use Rattle.streams.proofs.Ties.{Tied, tied_start, tied_anew, tied_call}
use Rattle.streams.proofs.Agree.{call_agrees}
use Rattle.streams.proofs.Misreads.{call_splits}

-- a bench that makes these calls, and says this of the others
module _ (makes : Call → Bool) (say : Answered) where
  abbrev pub lame : World → Call → Out World
  lame w c = pick (makes c) (apply w c) (out say w)

  abbrev anews : World → Call → Bool
  anews w c = pick (makes c) (anew w c) false

  abbrev reads : World → Call → Bool
  reads w c = pick (makes c) (misreads w c) false

  -- what an observer has written down of it
  abbrev pub seen_of : Start → ℕ → List Call → Seen
  seen_of x n cs =
      seen (λ (w : World) (c : Call). (lame w c).next) anews (λ w c. (lame w c).answer) write jot reads port_in (start_of x n) unseen
      (flat cs)

  module _ (x : Start) (n : ℕ) (some : 1 ≤ n) (few : n ≤ nodes)
      (unwritten : (o : Notes) (w : World) (c : Call) (k : Books) → makes c ≡ false → write o w c say k ≡ k)
      (unnoted : (c : Call) (o : Notes) → makes c ≡ false → jot c say o ≡ o)
    where
      abbrev machine : Machine is_link
      machine =
          record {
            State = World;
            Call = Lone;
            apply = λ w c. (lame w c.call).next;
            events = λ w c. pick (makes c.call) (events_of w c.call) [];
            view = moving;
            Sane = Kept;
            anew = λ w c. anews w c.call;
            anew_view = λ w c k. by_test (makes c.call) (λ m. rw m (λ e. start_seen w c.call e)) (λ m. rw m (λ e. clash (sym e)));
            law = λ w c k. by_test (makes c.call)
                (λ m. rw m (λ e. call_leads w k c.call c.lone e))
                (λ m. rw m (λ e. leads_none (moving w)));
            stays_sane = λ w c k. by_test (makes c.call) (λ m. rw m (call_keeps w k c.call)) (λ m. rw m k);
            first = start_of x n;
            first_sane = start_kept x n some few;
            first_view = start_view x n;
          }

      abbrev observer : Observer is_link machine
      observer =
          record {
            Answer = Answered;
            answer = λ w c. (lame w c.call).answer;
            write = λ o w c. write o w c.call;
            jot = λ c. jot c.call;
            Tied = Tied;
            tied_first = tied_start x n;
            tied_anew = λ w c. by_test (makes c.call) (λ m. rw m (λ e. tied_anew w c.call e)) (λ m. rw m (λ e. clash (sym e)));
            tied_call = λ w g c o k t. by_test (makes c.call)
                (λ m. rw m (λ e. tied_call w k.sane g k.inv o t c.call c.lone e))
                (λ m. rw (m, unnoted c.call o m) (λ e. t));
            agrees = λ w g c o k t. by_test (makes c.call)
                (λ m. rw m (λ e. call_agrees w k.sane g o t.aims c.call c.lone e))
                (λ m. rw m (λ e. unwritten o w c.call _ m));
          }

      abbrev reading : Reading is_link machine
      reading =
          record {
            misreads = λ w c. reads w c.call;
            port_in = λ c. port_in c.call;
            answers = λ w c k e. by_test (makes c.call) (λ m. rw m (call_splits w k c.call)) (λ m. rw m tt);
          }

      pub let_by : (cs : List Call) → Demand3 (seen_of x n cs).books (seen_of x n cs).misread
      let_by cs =
          rw (
            sym (flat_lone cs),
            seen_lone (λ w c. (lame w c).next) anews (λ w c. (lame w c).answer) write jot reads port_in (lones cs)
                (start_of x n) unseen,
          ) (demand_3 is_link machine observer reading (lones cs))

-- ONE THAT REFUSES ALL
abbrev none : Call → Bool
none c = false

module _ (x : Start) (n : ℕ) (some : 1 ≤ n) (few : n ≤ nodes) where
  pub refuses_all : (cs : List Call) → let s = seen_of none (No Unsound) x n cs in Demand3 s.books s.misread
  refuses_all = let_by none (No Unsound) x n some few unwritten unnoted
    where
      unwritten : (o : Notes) (w : World) (c : Call) (k : Books) → none c ≡ false → write o w c (No Unsound) k ≡ k
      unwritten o w (Begin s m) k e = refl
      unwritten o w (Wire a l b j) k e = refl
      unwritten o w (Set a x) k e = refl
      unwritten o w (Aim a c g v) k e = refl
      unwritten o w (Output a c x) k e = refl
      unwritten o w (Input a c x) k e = refl
      unwritten o w (Step a p) k e = refl
      unwritten o w (Line a l) k e = refl
      unwritten o w (Steps m xs) k e = refl

      unnoted : (c : Call) (o : Notes) → none c ≡ false → jot c (No Unsound) o ≡ o
      unnoted (Begin s m) o e = refl
      unnoted (Wire a l b j) o e = refl
      unnoted (Set a x) o e = refl
      unnoted (Aim a c g v) o e = refl
      unnoted (Output a c x) o e = refl
      unnoted (Input a c x) o e = refl
      unnoted (Step a p) o e = refl
      unnoted (Line a l) o e = refl
      unnoted (Steps m xs) o e = refl

-- ONE THAT SAYS IDLE TO EVERY STEP, a port's or a line's
abbrev no_step : Call → Bool
no_step (Begin s m) = true
no_step (Wire a l b j) = true
no_step (Set a x) = true
no_step (Aim a c g v) = true
no_step (Output a c x) = true
no_step (Input a c x) = true
no_step (Step a p) = false
no_step (Line a l) = false
no_step (Steps m xs) = false

module _ (x : Start) (n : ℕ) (some : 1 ≤ n) (few : n ≤ nodes) where
  pub idles_always : (cs : List Call) → Demand3 (seen_of no_step Idle x n cs).books (seen_of no_step Idle x n cs).misread
  idles_always = let_by no_step Idle x n some few unwritten unnoted
    where
      unwritten : (o : Notes) (w : World) (c : Call) (k : Books) → no_step c ≡ false → write o w c Idle k ≡ k
      unwritten o w (Begin s m) k e = clash e
      unwritten o w (Wire a l b j) k e = clash e
      unwritten o w (Set a x) k e = clash e
      unwritten o w (Aim a c g v) k e = clash e
      unwritten o w (Output a c x) k e = clash e
      unwritten o w (Input a c x) k e = clash e
      unwritten o w (Step a p) k e = refl
      unwritten o w (Line a l) k e = refl
      unwritten o w (Steps m xs) k e = refl

      unnoted : (c : Call) (o : Notes) → no_step c ≡ false → jot c Idle o ≡ o
      unnoted (Begin s m) o e = clash e
      unnoted (Wire a l b j) o e = clash e
      unnoted (Set a x) o e = clash e
      unnoted (Aim a c g v) o e = clash e
      unnoted (Output a c x) o e = clash e
      unnoted (Input a c x) o e = clash e
      unnoted (Step a p) o e = refl
      unnoted (Line a l) o e = refl
      unnoted (Steps m xs) o e = refl
