-- A circuit stays as it was opened: while a channel-end has one, no call changes where it goes but its own Output of END or PAUSE, and
-- a start. Whatever the settings have become, each token in between goes behind the others in the port that the circuit has taken, or
-- straight to the channel that it was opened to. For every state and every call. Assumes nothing.
use Prim.{Unit as Nothing, tt}
use Prim.Native.Nat.{ℕ, ◌≤◌}
use mathlib.Core.Path.{◌≡◌, refl, sym, ap, ◌∙◌}
use mathlib.Core.Bool.{true, false, not}
use mathlib.Core.List.{List, [], ◌∷◌, ◌++◌}
use native.Mathlib.Omega.{arith}
use lib.Dec.{eqb, leb}
use borrow.Author.Tests.{eq-eqb, eqb-true, eqb-false, not-false, not-true}
use Rattle.laws.specs.All.{Each}
use Rattle.laws.specs.Table.{Off}
use Rattle.laws.proofs.Order.{by_test, clash}
use Rattle.laws.proofs.Table.{upd_same, upd_miss, place}
use Rattle.names.specs.Size.{sink}
use Rattle.std.specs.Prelude.{Result, is_ok}
use Rattle.names.specs.No.{passes}
use Rattle.names.specs.declared.no.No.{No as Why}
use Rattle.names.specs.declared.Slot.{Slot}
use Rattle.circuits.specs.Circuit.{circuit, peer_of, of_peer}
use Rattle.circuits.specs.declared.Circuit.{Circuit}
use Rattle.circuits.specs.declared.Peer.{Peer}
use Rattle.circuits.specs.declared.Peer.TheVariants as Peers
use Rattle.tokens.specs.Word.{closes}
use Rattle.tokens.specs.Header.{header_of, words}
use Rattle.tokens.specs.declared.header.Target.{Target}
use Rattle.ports.specs.Queue.{capacity}
use Rattle.answers.specs.Answer.{number_of}
use Rattle.answers.specs.Rows.{Passes, checked}
use Rattle.answers.proofs.Refusals.{by_check, clear}
use Rattle.cells.specs.View.{Net, EndTables}
use Rattle.cells.specs.World.{World, queue}
use Rattle.acts.specs.Acts.{with_net, width_at, pushed, pushed_all, first_at, shut, hopped, tiled_to, handed, claimed_by, until_closed}
use Rattle.acts.specs.Acts.{channel_full, buffer_after}
use Rattle.acts.specs.Needs.{Room}
use Rattle.acts.proofs.Queues.{pushed_queue}
use Rattle.circuits.specs.declared.Hop.TheVariants as Hops
use Rattle.settings.proofs.Leaves.{setting_leaves}
use Rattle.sound.proofs.Facts.{end_facts}
use Rattle.ends.specs.Ends.{is_open}
use Rattle.ends.specs.Plan.{target_of, output_plan}
use Rattle.ends.specs.Output.{word_of, goes_behind, goes_straight, output_performed, is_narrow_plan, is_full_plan}
use Rattle.ends.specs.declared.Token.{Token}
use Rattle.ends.specs.declared.plan.Plan as Outputs
use Rattle.ends.specs.declared.plan.Plan.TheVariants.{Narrow, Full, Opens, Behind, Straight}
use Rattle.ends.specs.Needs.{with_lines, Sends}
use Rattle.ends.proofs.Possibles.{plan_possible, sends_here}
use Rattle.plans.specs.Plan.{step_plan}
use Rattle.plans.specs.declared.Plan.{Plan}
use Rattle.plans.specs.declared.Plan.TheVariants.{Idle, Wait, OpenOut, OpenChannel, OpenUnit, Refuse, MoveOut, Hand, Hear, Drop}
use Rattle.moves.specs.Moves.{took, opens_channel, opens_unit, closes_out, closes_unit}
use Rattle.switch.specs.Step.{step_performed}
use Rattle.bench.specs.Calls.{Call, Begin, Wire, Set, Aim, Output, Input, Step, Line, Steps, rows, made, apply}
use Rattle.bench.specs.Runs.{run}
use Rattle.bench.specs.Stays.{EndsCircuit}
use Rattle.bench.proofs.Applied.{numbered, accepted, refused_changes_nothing}
use Rattle.bench.proofs.EachStep.{step_made_lem, stepped_keeps}
use Rattle.bench.proofs.Untouched.{Untouched, put_leaves, all_leave, took_leaves, strip_leaves, send_leaves, line_leaves, end_leaves}

-- where channel-ends send is no part of what ports hold or of credits, and no Set changes it
abbrev sendings_of : Net → ℕ → ℕ → Circuit
sendings_of s = s.ends.sendings

sendings_untouched : Untouched sendings_of
sendings_untouched =
    record { counters = λ s n p q. refl; flows = λ s n l k. refl; rings = λ s n l c. refl; issued = λ s n l i. refl; settings = λ s z v. ap (λ (t : EndTables). t.sendings) v.ends }

claimed_sendings : (s : Net) (n c : ℕ) (x : Peer) → (claimed_by s n c x).ends.sendings ≡ s.ends.sendings
claimed_sendings s n c x = by_test (eqb c sink) (λ e. rw e) (λ e. rw e)

handed_sendings : (s : Net) (n c t : ℕ) → (handed s n c t).ends.sendings ≡ s.ends.sendings
handed_sendings s n c t = by_test (eqb c sink) (λ e. rw e) (λ e. rw e)

-- A STEP, whatever its plan
module _ (w : World) (n p : ℕ) where
  taken_sendings : (took w n p).net.ends.sendings ≡ w.net.ends.sendings
  taken_sendings = took_leaves sendings_of sendings_untouched w n p

  step_sendings : (x : Plan) → (step_performed w n p x).next.net.ends.sendings ≡ w.net.ends.sendings
  step_sendings Idle = refl
  step_sendings Wait = refl
  step_sendings (OpenOut l) = refl
  step_sendings (OpenChannel c t) =
      strip_leaves sendings_of sendings_untouched (with_net w (opens_channel w.net n p c t)) n p (width_at w.net n)
      ∙ claimed_sendings (tiled_to (hopped w.net n p (Hops.Channel c t)) n t (Peers.Port p)) n c (Peers.Port p)
  step_sendings OpenUnit =
      strip_leaves sendings_of sendings_untouched (with_net w (opens_unit w.net n p)) n p (width_at w.net n)
  step_sendings (Refuse x) = refl
  step_sendings (MoveOut l) =
      send_leaves sendings_of sendings_untouched (with_net (took w n p) (closes_out (took w n p).net n p l (first_at w n p))) n l
      (first_at w n p)
      ∙ by_test (closes (first_at w n p)) (λ e. rw e) (λ e. rw e)
      ∙ taken_sendings
  step_sendings (Hand c t) =
      let z = handed (took w n p).net n c (first_at w n p) in
      by_test (closes (first_at w n p))
      (λ e. rw e (claimed_sendings (tiled_to (shut z n p) n t Peers.Nobody) n c Peers.Nobody))
      (λ e. rw e)
      ∙ handed_sendings (took w n p).net n c (first_at w n p)
      ∙ taken_sendings
  step_sendings Hear =
      by_test (closes (first_at w n p))
      (λ e. rw e (end_leaves sendings_of sendings_untouched (with_net (took w n p) (closes_unit (took w n p).net n p)) n (first_at w n p)))
      (λ e. rw e)
      ∙ taken_sendings
  step_sendings (Drop x) = by_test (closes (first_at w n p)) (λ e. rw e) (λ e. rw e) ∙ taken_sendings

-- AN OUTPUT, whatever its plan: of another channel-end, and what its own token leaves
module _ (w : World) (n c : ℕ) (g : Target) (t : ℕ) where
  behind_sendings : (p : ℕ) → (pushed w n p t).net.ends.sendings ≡ w.net.ends.sendings
  behind_sendings p = put_leaves sendings_of sendings_untouched w n p t

  opened_sendings : (p : ℕ)
      → (pushed (pushed_all w n p (words (header_of g (width_at w.net n)))) n p t).net.ends.sendings ≡ w.net.ends.sendings
  opened_sendings p =
      let hs = words (header_of g (width_at w.net n)) in
      put_leaves sendings_of sendings_untouched (pushed_all w n p hs) n p t ∙ all_leave sendings_of sendings_untouched hs w n p

  other_sendings : (m e : ℕ) → Off n c m e → (x : Outputs.Plan)
      → (output_performed w n c g t x).net.ends.sendings m e ≡ w.net.ends.sendings m e
  other_sendings m e o Narrow = refl
  other_sendings m e o Full = refl
  other_sendings m e o (Opens p) = upd_miss _ n c _ m e o ∙ ap (λ (f : ℕ → ℕ → Circuit). f m e) (opened_sendings p)
  other_sendings m e o (Behind p) = upd_miss _ n c _ m e o ∙ ap (λ (f : ℕ → ℕ → Circuit). f m e) (behind_sendings p)
  other_sendings m e o (Straight d) =
      upd_miss _ n c _ m e o
      ∙ ap (λ (f : ℕ → ℕ → Circuit). f m e)
      (claimed_sendings (handed w.net n d t) n d (until_closed t (Peers.End c)) ∙ handed_sendings w.net n d t)

  -- END or PAUSE, of a plan that is not refused
  closed_sendings : closes t ≡ true → (x : Outputs.Plan) → is_narrow_plan x ≡ false → is_full_plan x ≡ false
      → (output_performed w n c g t x).net.ends.sendings n c ≡ of_peer Peers.Nobody
  closed_sendings e Narrow h k = clash h
  closed_sendings e Full h k = clash k
  closed_sendings e (Opens p) h k = rw e (upd_same _ n c _)
  closed_sendings e (Behind p) h k = rw e (upd_same _ n c _)
  closed_sendings e (Straight d) h k = rw e (upd_same _ n c _)

-- A CALL THAT IS DONE leaves what it makes
module _ (w : World) (c : Call) (ok : number_of (apply w c).answer ≡ passes) where
  rows_pass : Passes (rows w c)
  rows_pass = (accepted w c).sure (eq-eqb (number_of (apply w c).answer) passes ok)

  done_next : (apply w c).next ≡ (made w c).next
  unfolding apply
  done_next =
      by_check (checked (rows w c))
      (λ e. rw e)
      (λ k e. clash (sym (ap (λ (r : Result Nothing Why). is_ok r) (clear (rows w c) (sym (numbered w c) ∙ ok))) ∙ rw e refl))

-- AN OUTPUT OF WHO HAS A CIRCUIT, that is done: the token goes as the circuit was opened, whatever width, number, destination and
-- directions are now
module _ (w : World) (a : Slot) (c : ℕ) (x : Token) (ok : number_of (apply w (Output a c x)).answer ≡ passes) where
  not_full : is_full_plan (output_plan w.net a.0 c (target_of (w.net.ends.aims a.0 c)) (word_of x)) ≡ false
  not_full = (rows_pass w (Output a c x) ok).1.1.1.1.1.1.0

  -- by that same port
  pub goes_behind_lem : (p : ℕ) → peer_of (w.net.ends.sendings a.0 c) ≡ Peers.Port p
      → (apply w (Output a c x)).next ≡ goes_behind w a.0 c p (word_of x)
  unfolding output_plan
  goes_behind_lem p e =
      done_next w (Output a c x) ok
      ∙ by_test (leb capacity (w.net.ports.counters a.0 p).held)
      (λ f. clash (rw (e, f) at not_full))
      (λ f. rw (e, f))

  -- to that same channel
  pub goes_straight_lem : (d : ℕ) → peer_of (w.net.ends.sendings a.0 c) ≡ Peers.End d
      → (apply w (Output a c x)).next ≡ with_net w (goes_straight w.net a.0 c d (word_of x))
  unfolding output_plan
  goes_straight_lem d e =
      done_next w (Output a c x) ok
      ∙ by_test (channel_full w.net a.0 d (word_of x))
      (λ f. clash (rw (e, f) at not_full))
      (λ f. rw (e, f))

  -- .. so it stands last in that port, or is what that channel was handed last
  sends : Sends w a.0 c (target_of (w.net.ends.aims a.0 c))
  sends =
      let p = rows_pass w (Output a c x) ok in
      sends_here w a.0 c (record { lines = w.line_memory; all = not-false _ p.0 }) (not-false _ p.1.0) _ (p.1.1.0, refl)

  behind_room : (p : ℕ) → peer_of (w.net.ends.sendings a.0 c) ≡ Peers.Port p → Room w a.0 p 1
  unfolding output_plan
  behind_room p e =
      by_test (leb capacity (w.net.ports.counters a.0 p).held)
      (λ f. clash (rw (e, f) at not_full))
      (λ f. rw (e, f) at (plan_possible w a.0 c (word_of x) _ sends))

  pub behind_last : (p : ℕ) → peer_of (w.net.ends.sendings a.0 c) ≡ Peers.Port p
      → queue (apply w (Output a c x)).next a.0 p ≡ queue w a.0 p ++ (word_of x ∷ [])
  behind_last p e =
      ap (λ (z : World). queue z a.0 p) (goes_behind_lem p e) ∙ pushed_queue w a.0 p (word_of x) (behind_room p e)

  pub straight_last : (d : ℕ) → peer_of (w.net.ends.sendings a.0 c) ≡ Peers.End d → eqb d sink ≡ false
      → (apply w (Output a c x)).next.net.ends.buffers a.0 d ≡ buffer_after (w.net.ends.buffers a.0 d) (word_of x)
  straight_last d e other =
      ap (λ (z : World). z.net.ends.buffers a.0 d) (goes_straight_lem d e)
      ∙ rw other (upd_same w.net.ends.buffers a.0 d (buffer_after (w.net.ends.buffers a.0 d) (word_of x)))

  -- and the circuit is what it was, unless the token closes it
  kind_few : (w.net.ends.sendings a.0 c).kind ≤ 2
  kind_few = (end_facts (with_lines w sends.sure.lines) sends.sure.all a.0 sends.node c sends.end).sending

  own_stays : is_open w.net a.0 c ≡ true → closes (word_of x) ≡ false
      → (apply w (Output a c x)).next.net.ends.sendings a.0 c ≡ w.net.ends.sendings a.0 c
  own_stays going more =
      let k = w.net.ends.sendings a.0 c in
      by_test (eqb k.kind 1)
      (λ f.
      ap (λ (z : World). z.net.ends.sendings a.0 c) (goes_behind_lem k.index (rw f))
      ∙ rw more (upd_same _ a.0 c _)
      ∙ sym (words_are k 1 (eqb-true _ _ f)))
      (λ f. by_test (eqb k.kind 2)
      (λ g.
      ap (λ (z : World). z.net.ends.sendings a.0 c) (goes_straight_lem k.index (rw (f, g)))
      ∙ rw more (upd_same _ a.0 c _)
      ∙ sym (words_are k 2 (eqb-true _ _ g)))
      (λ g. absurd (eqb-false k.kind 0 (not-true _ going) (few k.kind kind_few (eqb-false _ _ f) (eqb-false _ _ g)))))
    where
      words_are : (k : Circuit) (i : ℕ) → k.kind ≡ i → k ≡ circuit i k.index
      words_are k i e = λ j. record { kind = e j; index = k.index }

      few : (i : ℕ) → i ≤ 2 → (i ≡ 1 → ⊥) → (i ≡ 2 → ⊥) → i ≡ 0
      few i l one two = omega arith

  -- END and PAUSE do close it
  pub circuit_ends : closes (word_of x) ≡ true → (apply w (Output a c x)).next.net.ends.sendings a.0 c ≡ of_peer Peers.Nobody
  circuit_ends e =
      let p = rows_pass w (Output a c x) ok in
      ap (λ (z : World). z.net.ends.sendings a.0 c) (done_next w (Output a c x) ok)
      ∙ closed_sendings w a.0 c _ (word_of x) e (output_plan w.net a.0 c (target_of (w.net.ends.aims a.0 c)) (word_of x))
      p.1.1.1.1.1.0 not_full

-- EVERY CALL
module _ (w : World) (n e : ℕ) (going : is_open w.net n e ≡ true) where
  abbrev Same : Call → Type 0
  Same c = (apply w c).next.net.ends.sendings n e ≡ w.net.ends.sendings n e

  as_made : (c : Call) → number_of (apply w c).answer ≡ passes
      → (made w c).next.net.ends.sendings n e ≡ w.net.ends.sendings n e
      → Same c
  as_made c ok h = ap (λ (z : World). z.net.ends.sendings n e) (done_next w c ok) ∙ h

  done_stays : (c : Call) → (EndsCircuit n e c → number_of (apply w c).answer ≡ passes → ⊥) → number_of (apply w c).answer ≡ passes
      → Same c
  done_stays (Begin s m) none ok = absurd (none tt ok)
  done_stays (Wire a l b k) none ok = as_made (Wire a l b k) ok refl
  done_stays (Set a x) none ok =
      as_made (Set a x) ok (ap (λ (t : EndTables). t.sendings n e) (setting_leaves w a.0 x).ends)
  done_stays (Aim a c g v) none ok = as_made (Aim a c g v) ok refl
  done_stays (Input a c k) none ok = as_made (Input a c k) ok refl
  done_stays (Step a p) none ok =
      as_made (Step a p) ok (ap (λ (f : ℕ → ℕ → Circuit). f n e) (step_sendings w a.0 p (step_plan w a.0 p)))
  done_stays (Line a l) none ok =
      as_made (Line a l) ok (ap (λ (f : ℕ → ℕ → Circuit). f n e) (line_leaves sendings_of sendings_untouched w a.0 l))
  done_stays (Steps m xs) none ok =
      let its = w.net.ends.sendings n e in
      as_made (Steps m xs) ok (stepped_keeps (λ z. z.net.ends.sendings n e ≡ its)
      (λ z x q. step_made_lem (λ y. y.net.ends.sendings n e ≡ its) z x q
      (λ p. ap (λ (f : ℕ → ℕ → Circuit). f n e) (step_sendings z x.slot x.port (step_plan z x.slot x.port)) ∙ q)) xs w refl)
  done_stays (Output a c x) none ok =
      place a.0 c n e
      (λ d q. by_test (closes (word_of x))
      (λ f. absurd (none (sym d, sym q, f) ok))
      (λ f. rw (d, q) (own_stays w a c x ok (rw (d, q) at going) f)))
      (λ o. as_made (Output a c x) ok (other_sendings w a.0 c _ (word_of x) n e o
      (output_plan w.net a.0 c (target_of (w.net.ends.aims a.0 c)) (word_of x))))

  pub circuit_stays : (c : Call) → (EndsCircuit n e c → number_of (apply w c).answer ≡ passes → ⊥) → Same c
  circuit_stays c none =
      by_test (eqb (number_of (apply w c).answer) passes)
      (λ f. done_stays c none (eqb-true _ _ f))
      (λ f. ap (λ (z : World). z.net.ends.sendings n e) (refused_changes_nothing w c (eqb-false _ _ f)))

-- EVERY RUN without such a call
pub circuit_lasts : (cs : List Call) (w : World) (n e : ℕ) → is_open w.net n e ≡ true → Each (λ c. EndsCircuit n e c → ⊥) cs
    → (run w cs).last.net.ends.sendings n e ≡ w.net.ends.sendings n e
circuit_lasts [] w n e going none = refl
circuit_lasts (c ∷ cs) w n e going none =
    let same = circuit_stays w n e going c (λ z ok. none.0 z) in
    circuit_lasts cs (apply w c).next n e (ap (λ (k : Circuit). not (eqb k.kind 0)) same ∙ going) none.1 ∙ same
