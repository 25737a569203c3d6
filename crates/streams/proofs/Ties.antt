-- THE BOOKS ARE THE BENCH'S: what the observer's notes, the proof's books and the state have to do with each other, kept by every call.
-- Assumes nothing.
use Prim.{tt}
use Prim.Native.Nat.{ℕ, ◌<◌}
use mathlib.Core.Path.{◌≡◌, refl, sym, ap, ◌∙◌}
use mathlib.Core.Bool.{true, false}
use mathlib.Core.List.{List, [], ◌∷◌, ◌++◌}
use Rattle.laws.specs.All.{Each}
use Rattle.laws.proofs.Order.{never}
use Rattle.names.specs.Size.{ends}
use Rattle.circuits.specs.declared.Peer.TheVariants as Peers
use Rattle.names.specs.declared.no.No.{No as Why}
use Rattle.answers.specs.Rows.{checked}
use Rattle.answers.specs.Answered as Answers
use Rattle.answers.proofs.Refusals.{passed, some_back, by_check}
use Rattle.cells.specs.World.{World}
use Rattle.fresh.specs.Fresh.{start_of}
use Rattle.fresh.specs.declared.Start.{Start}
use Rattle.bench.specs.Calls.{Call, Begin, Wire, Set, Aim, Output, Input, Step, Line, Steps, rows, made, apply}
use Rattle.bench.proofs.Lasts.{call_boards}
use Rattle.kept.specs.Kept.{Kept}
use Rattle.streams.specs.Model.{port_no, door_no, is_link, Use, Nobody, By, Moving, Cell, Notes, no_notes}
use Rattle.streams.specs.Events.{Cursor, Ghost, books_of, notes, new_ghost, next, OkAll}
use Rattle.streams.specs.Demand.{sent_by, tokens_given, held_at, Intact, Ties}
use Rattle.streams.specs.Observer.{anew, jot}
use Rattle.streams.specs.View.{moving}
use Rattle.streams.proofs.Basics.{Chain}
use Rattle.streams.proofs.Inv.{Inv}
use Rattle.streams.proofs.Machine.{line_tokens}
use Rattle.streams.proofs.Sendings.{puts_at, SendingIn, MarkedIn, keep_sendings, sent_steps, start_sending}
use Rattle.streams.proofs.Handings.{hands_at, log_steps}
use Rattle.streams.proofs.View.{view_queue, view_line}
use Rattle.streams.proofs.Calls.{done, is_list, no_event, made_events, events_of, is_event, anew_case, call_leads}
use Rattle.streams.proofs.Noted.{AimsNoted, Long, made_told}
use Rattle.streams.proofs.Hearing.{HeardAt, Wide, made_heard, hears_so}

pub record Tied (w : World) (g : Ghost) (o : Notes) : Type 0 where
  pub aims : AimsNoted w o
  pub sending : SendingIn g
  pub sent : (n e : ℕ) → e < ends → o.put (door_no n e) ≡ sent_by (books_of g) (door_no n e)
  pub long : Long w.net
  pub got : (n e : ℕ) → e < ends → tokens_given (g.log (door_no n e)) ≡ o.taken (door_no n e) ++ held_at w n e
  pub wide : Wide w.net
  pub heard : (n : ℕ) → n < w.net.nodes → HeardAt w g n

-- AT THE START
pub tied_start : (s : Start) (n : ℕ) → Tied (start_of s n) new_ghost no_notes
unfolding new_ghost
tied_start s n =
    record {
      aims = λ m e h aimed. absurd (aimed refl);
      sending = start_sending;
      sent = λ m e h. refl;
      long = λ m e. refl;
      got = λ m e h. refl;
      wide = λ m. refl;
      heard = λ m hm q served c i front. never_served q served;
    }
  where
    never_served : {P : Type 0} (q : ℕ) → Peers.Nobody ≡ Peers.Port q → P
    never_served q e = never (cc)

-- where a start is done
pub tied_anew : (w : World) (c : Call) → anew w c ≡ true → Tied (apply w c).next new_ghost no_notes
tied_anew = anew_case (λ z. Tied z new_ghost no_notes) tied_start

-- EVERY OTHER CALL
module _ (w : World) (k : Kept w) (g : Ghost) (iv : Inv is_link (moving w) g) (o : Notes) (t : Tied w g o) where
  refused_jots : (c : Call) (r : Why) → jot c (Answers.No r) o ≡ o
  refused_jots (Begin s n) r = refl
  refused_jots (Wire a l b j) r = refl
  refused_jots (Set a x) r = refl
  refused_jots (Aim a c h v) r = refl
  refused_jots (Output a c x) r = refl
  refused_jots (Input a c x) r = refl
  refused_jots (Step a p) r = refl
  refused_jots (Line a l) r = refl
  refused_jots (Steps n xs) r = refl

  made_ties : (c : Call) → done w c ≡ true → no_event c ≡ false → OkAll is_link (made_events w c) (moving w)
      → (made w c).next.net.nodes ≡ w.net.nodes
      → Tied (made w c).next (notes (made_events w c) g) (jot c (made w c).answer o)
  made_ties c d f ok boards =
      let p = (passed (rows w c)).sure d in
      let vs = made_events w c in
      let m = made_told w k o c p f in
      let h = made_heard w k g iv c p f in
      record {
        aims = m.aims t.aims;
        sending = keep_sendings is_link vs (moving w) g iv ok m.unmarked t.sending;
        sent = λ n e l.
            m.puts n e l
            ∙ ap (λ (ts : List ℕ). ts ++ puts_at vs (door_no n e)) (t.sent n e l)
            ∙ sym (sent_steps is_link vs (moving w) g iv ok m.unmarked t.sending (door_no n e));
        long = m.long t.long;
        got = λ n e l.
            log_steps vs g (door_no n e)
            ∙ ap (λ (ts : List ℕ). ts ++ hands_at vs (door_no n e)) (t.got n e l)
            ∙ sym (m.got t.long n e l);
        wide = h.wide t.wide;
        heard = λ n hn. h.heard t.wide ok t.heard n (rw boards at hn);
      }

  pub tied_call : (c : Call) → is_list c ≡ false → anew w c ≡ false
      → Tied (apply w c).next (notes (events_of w c) g) (jot c (apply w c).answer o)
  unfolding apply
  tied_call c l e =
      let boards = call_boards w c in
      let ok = (call_leads w k c l e).ok in
      by_check (checked (rows w c))
      (λ d. rw d (made_ties c (rw d refl) (is_event w c l (rw d refl) e) (rw d at ok) (rw d at boards)))
      (λ j d. rw (d, some_back j, refused_jots c j) t)

-- WHAT IS PROMISED
-- cells that follow each other in streams whose tokens are marked are intact
intact : (g : Ghost) → ((c : ℕ) → MarkedIn (g.stream c) (g.info c)) → (s e : Cursor) (xs : List Cell) → Chain g.stream s xs e
    → Each (Intact (books_of g)) xs
intact g marks s e [] h = tt
intact g marks s e (x ∷ xs) (fits, good, rest) = (
  record {
    inside = good.inside;
    same = good.value;
    marked = rw good.value at (marks x.circuit x.pos good.inside);
  },
  intact g marks (next x) e xs rest,
)

-- .. on a line too, which is a cable's; where there is no cable none are
carried : (n : Moving) (g : Ghost) → Inv is_link n g → ((c : ℕ) → MarkedIn (g.stream c) (g.info c)) → (l : ℕ)
    → Each (Intact (books_of g)) (g.on l)
carried n g iv marks l = go (n.cable l) refl
  where
    go : (u : Use) → n.cable l ≡ u → Each (Intact (books_of g)) (g.on l)
    go Nobody e = rw (iv.unlined l e).1 tt
    go (By m) e = intact g marks (g.back m) (g.tail l) (g.on l) (iv.lines l m e).chain

pub ties_so : (w : World) → Kept w → (g : Ghost) → Inv is_link (moving w) g → (o : Notes) → Tied w g o → Ties w (books_of g) o
ties_so w k g iv o t =
    record {
      sent = t.sent;
      received = t.got;
      heard = λ n p hn e. hears_so w k g iv n p hn e (t.heard n hn);
      held = λ n p hp. sym (view_queue w n p hp) ∙ (iv.ports (port_no n p)).tokens;
      lines = λ n l hl. sym (view_line w n l hl) ∙ line_tokens is_link (moving w) g iv (port_no n l);
      intact = λ p. intact g t.sending.marks (g.front p) (g.back p) (g.cells p) (iv.ports p).chain;
      carried = λ l. carried (moving w) g iv t.sending.marks l;
    }
