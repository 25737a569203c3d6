-- A CALL REFUSES A CIRCUIT AS SPLIT exactly where it is a Step by which a switch of the other width reads a whole header, and first of all.
-- Assumes nothing.
use Prim.{tt}
use Prim.Native.Nat.{ℕ, ◌<◌, ◌≤◌}
use mathlib.Core.Path.{◌≡◌, refl, sym, ◌∙◌}
use mathlib.Core.Bool.{true, false}
use mathlib.Core.List.{List, []}
use native.Mathlib.Omega.{arith}
use lib.Dec.{leb}
use borrow.Author.Tests.{lt-ltb, le-leb, leb-true}
use Rattle.laws.specs.All.{Each}
use Rattle.laws.proofs.Order.{by_test, clash, never}
use Rattle.names.specs.Size.{ports}
use Rattle.circuits.specs.Circuit.{peer_of}
use Rattle.circuits.specs.declared.Hop.{Hop}
use Rattle.circuits.specs.declared.Hop.TheVariants as Hops
use Rattle.circuits.specs.declared.Peer.{Peer}
use Rattle.circuits.specs.declared.Peer.TheVariants as Peers
use Rattle.tokens.specs.Word.{closes}
use Rattle.tokens.specs.declared.header.Target.{Target}
use Rattle.answers.specs.Rows.{Passes}
use Rattle.answers.proofs.Refusals.{passed}
use Rattle.cells.specs.World.{World, far_of, hop}
use Rattle.acts.specs.Acts.{width_at, word_at, first_at}
use Rattle.plans.specs.Plan.{marked_width, size_of, same_width}
use Rattle.plans.specs.declared.Plan.{Plan}
use Rattle.plans.proofs.Held.{size_some}
use Rattle.messages.specs.Heard.{message_of}
use Rattle.ends.specs.Plan.{target_of, output_plan}
use Rattle.ends.specs.Output.{word_of}
use Rattle.ends.specs.declared.plan.Plan as Sents
use Rattle.ends.specs.declared.plan.Plan.TheVariants as Sent
use Rattle.switch.specs.Step.{port_at}
use Rattle.bench.specs.Calls.{Call, Begin, Wire, Set, Aim, Output, Input, Step, Line, Steps, rows}
use Rattle.bench.specs.Writes.{hop_closed}
use Rattle.kept.specs.Kept.{Kept}
use Rattle.kept.proofs.Parts.{kept_sound}
use Rattle.kept.proofs.Opens.{Headed}
use Rattle.kept.proofs.Found.{Found, idle, waits, splits, unrouted, routes, lands_channel, lands_unit, step_found}
use Rattle.kept.proofs.Found.{moves, hands, hears, drops}
use Rattle.kept.proofs.Calls.{step_there}
use Rattle.streams.specs.Model.{port_no, door_no, unit_door}
use Rattle.streams.specs.Events.{Event}
use Rattle.streams.specs.Observer.{is_shut, misread, misreads, port_in}
use Rattle.streams.proofs.Basics.{each_map}
use Rattle.streams.proofs.Splits.{Mild, SplitBy}
use Rattle.streams.proofs.Filling.{Fills, obey_fills, fills_mild}
use Rattle.streams.proofs.Calls.{obey_events, straight_events, step_events, line_case, output_events, done, made_events, events_of}

-- what senders do refuses nothing
mild_straight : (w : World) (n c : ℕ) (g : Target) (d t : ℕ) (x : Peer) → Each Mild (straight_events w n c g d t x)
mild_straight w n c g d t Peers.Nobody = (tt, (tt, tt))
mild_straight w n c g d t (Peers.Port p) = (tt, tt)
mild_straight w n c g d t (Peers.End e) = (tt, tt)

mild_output : (w : World) (n c : ℕ) (g : Target) (t : ℕ) (x : Sents.Plan) → Each Mild (output_events w n c g t x)
mild_output w n c g t Sent.Narrow = tt
mild_output w n c g t Sent.Full = tt
mild_output w n c g t (Sent.Opens p) = (tt, (tt, tt))
mild_output w n c g t (Sent.Behind p) = (tt, tt)
mild_output w n c g t (Sent.Straight d) = mild_straight w n c g d t (peer_of (w.net.ends.sendings n c))

-- A STEP
module _ (w : World) (n p : ℕ) where
  abbrev Unsplit : Type 0
  Unsplit = hop w.net n p ≡ Hops.Shut → size_of (marked_width (word_at w n p 0)) ≤ (w.net.ports.counters n p).held
      → same_width (marked_width (word_at w n p 0)) (width_at w.net n) ≡ true

  shut_is : (x : Hop) → is_shut x ≡ true → x ≡ Hops.Shut
  shut_is Hops.Shut e = refl
  shut_is (Hops.Out l) e = clash (sym e)
  shut_is (Hops.Channel c t) e = clash (sym e)
  shut_is Hops.Unit e = clash (sym e)
  shut_is (Hops.Dropped x) e = clash (sym e)

  pub not_misread : Unsplit → misread w n p ≡ false
  not_misread h =
      by_test (port_at w.net n p)
      (λ a. rw a (by_test (is_shut (hop w.net n p))
      (λ b. rw b (by_test (leb (size_of (marked_width (word_at w n p 0))) (w.net.ports.counters n p).held)
      (λ c. rw (c, h (shut_is (hop w.net n p) b) (leb-true _ _ c)))
      (λ c. rw c)))
      (λ b. rw b)))
      (λ a. rw a)

  pub is_misread : n < w.net.nodes → p < ports → Headed w n p
      → same_width (marked_width (word_at w n p 0)) (width_at w.net n) ≡ false
      → misread w n p ≡ true
  is_misread hn hp z f = rw (lt-ltb n w.net.nodes hn, lt-ltb p ports hp, z.shut, le-leb _ _ z.whole, f)

  pub goes_on_lem : {x : Hop} → hop w.net n p ≡ x → (Hops.Shut ≡ x → ⊥) → Unsplit
  goes_on_lem e ne shut whole = absurd (ne (sym shut ∙ e))

  mild : (vs : List Event) → Unsplit → Each Mild vs → SplitBy (misread w n p) (port_no n p) vs
  mild vs h m = rw (not_misread h) m

  split_found : n < w.net.nodes → p < ports → {x : Plan} → Found w n p x → SplitBy (misread w n p) (port_no n p) (step_events w n p x)
  split_found hn hp (idle none) =
      mild [] (λ shut whole. absurd (omega (arith, size_some (marked_width (word_at w n p 0)), whole, none))) tt
  split_found hn hp (waits unsplit) = mild [] unsplit tt
  split_found hn hp (splits z f) =
      rw (is_misread hn hp z f) ([], refl, tt)
  split_found hn hp (unrouted z) = mild _ (λ shut whole. z.fits) (tt, tt)
  split_found hn hp (routes z l hl free on) = mild _ (λ shut whole. z.fits) (tt, tt)
  split_found hn hp (lands_channel z m c t named door there tile claim) = mild _ (λ shut whole. z.legible.fits) (tt, tt)
  split_found hn hp (lands_unit z m named free empty) = mild _ (λ shut whole. z.legible.fits) (tt, tt)
  split_found hn hp (moves l z m j leads credit) = mild _ (goes_on_lem z.goes (λ e. never (cc))) (tt, tt)
  split_found hn hp (hands c t z given) = mild _ (goes_on_lem z.goes (λ e. never (cc))) (tt, tt)
  split_found hn hp (hears z) =
      mild _ (goes_on_lem z.goes (λ e. never (cc))) (
        tt,
        by_test (closes (first_at w n p))
            (λ e.
            let y = hop_closed w n p in
            let m = message_of (y.net.units.hearings n 0) (first_at w n p) in
            rw e (each_map (Fills (door_no n unit_door)) Mild (λ v h. fills_mild h) (obey_events y n m) (obey_fills y n m)))
            (λ e. rw e tt),
      )
  split_found hn hp (drops x z) = mild _ (goes_on_lem z.goes (λ e. never (cc))) (tt, tt)

-- EVERY CALL
module _ (w : World) (k : Kept w) where
  made_splits : (c : Call) → Passes (rows w c) → SplitBy (misreads w c) (port_in c) (made_events w c)
  made_splits (Begin s n) p = tt
  made_splits (Wire a l b j) p = (tt, tt)
  made_splits (Set a x) p = tt
  made_splits (Aim a c g v) p = tt
  made_splits (Output a c x) p =
      let g = target_of (w.net.ends.aims a.0 c) in
      mild_output w a.0 c g (word_of x) (output_plan w.net a.0 c g (word_of x))
  made_splits (Input a c x) p = tt
  made_splits (Step a p) q =
      let there = step_there w a.0 p q.1 in
      split_found w a.0 p there.0 there.1 (step_found w k a.0 p there.0 there.1)
  made_splits (Line a l) p = line_case (Each Mild) w a.0 l tt (λ m j x. (tt, tt)) (far_of (w.net.links.cables a.0 l))
  made_splits (Steps n xs) p = tt

  -- a Step that is refused reads nothing
  refused_splits : (c : Call) → done w c ≡ false → SplitBy (misreads w c) (port_in c) []
  refused_splits (Begin s n) e = tt
  refused_splits (Wire a l b j) e = tt
  refused_splits (Set a x) e = tt
  refused_splits (Aim a c g v) e = tt
  refused_splits (Output a c x) e = tt
  refused_splits (Input a c x) e = tt
  refused_splits (Step a p) e =
      by_test (port_at w.net a.0 p)
      (λ t. clash (rw ((kept_sound w k).0, t) at e))
      (λ t. rw t tt)
  refused_splits (Line a l) e = tt
  refused_splits (Steps n xs) e = tt

  pub call_splits : (c : Call) → SplitBy (misreads w c) (port_in c) (events_of w c)
  call_splits c =
      by_test (done w c)
      (λ t. rw t (made_splits c ((passed (rows w c)).sure t)))
      (λ t. rw t (refused_splits c t))
