-- WHAT CALLS PUT OUT AND HAND, as their events say it, held against what is noted of the calls and what channel-ends hold. Assumes nothing.
use Prim.{tt}
use Prim.Native.Nat.{ℕ, ◌/◌, ◌%◌, ◌<◌, ◌≤◌}
use mathlib.Core.Path.{◌≡◌, refl, sym, ap, ◌∙◌, subst}
use mathlib.Core.Bool.{true, false}
use mathlib.Core.List.{List, [], ◌∷◌, ◌++◌, append-nil, append_assoc}
use native.Mathlib.Omega.{arith}
use lib.Arith.{digits_div}
use lib.Dec.{eqb}
use lib.ListN.{length}
use borrow.Author.Tests.{ne_eqb, eqb-true, eqb-false, not-false, not-true}
use Rattle.laws.specs.All.{Each}
use Rattle.laws.specs.Pick.{pick}
use Rattle.laws.specs.Table as Two
use Rattle.laws.proofs.All.{also, below, as_is}
use Rattle.laws.proofs.Order.{by_test, clash}
use Rattle.laws.proofs.Table.{upd_all}
use Rattle.names.specs.Size.{ports, ends, end_buffer, sink}
use Rattle.circuits.specs.declared.Cause.TheVariants.{Split, NoRoute}
use Rattle.circuits.specs.declared.Peer.TheVariants as Peers
use Rattle.tokens.specs.Word.{closes, is_header, value_of}
use Rattle.tokens.specs.Header.{header_of, words}
use Rattle.tokens.specs.declared.header.Target.{Target}
use Rattle.tokens.proofs.Words.{header_back}
use Rattle.answers.specs.Rows.{Passes}
use Rattle.answers.specs.Answered.{Answered}
use Rattle.cells.specs.View as Cells
use Rattle.cells.specs.World.{World, far_of}
use Rattle.cells.specs.declared.end.Aim as Aims
use Rattle.cells.specs.declared.end.Buffer.{Buffer}
use Rattle.acts.specs.Acts.{with_net, width_at, pushed_all, first_at, until_closed, handed}
use Rattle.acts.specs.Needs.{Given}
use Rattle.plans.specs.declared.Plan.{Plan}
use Rattle.plans.specs.declared.Plan.TheVariants.{Idle, Wait, OpenOut, OpenChannel, Refuse, MoveOut, Hand, Hear, Drop}
use Rattle.messages.specs.Heard.{message_of}
use Rattle.messages.specs.Ended.{obeyed, ended}
use Rattle.moves.specs.Moves.{took, opens_channel, opens_unit, closes_out, hands}
use Rattle.settings.specs.Set.{set_answer}
use Rattle.settings.proofs.Leaves.{setting_leaves}
use Rattle.ends.specs.Aim.{aimed_at, aim_made}
use Rattle.ends.specs.Input.{first_held, is_wanted, took_first, input_made}
use Rattle.ends.specs.Plan.{target_of, lowest_free}
use Rattle.ends.specs.Output.{word_of, byte_of, goes_straight, output_performed, is_narrow_plan, is_full_plan}
use Rattle.ends.specs.declared.Token.{Token}
use Rattle.ends.specs.declared.Token.TheVariants as Tokens
use Rattle.ends.specs.declared.Wanted.{Wanted}
use Rattle.ends.specs.declared.Wanted.TheVariants as Wants
use Rattle.ends.specs.declared.aim.Goal.{Goal}
use Rattle.ends.specs.declared.aim.Goal.TheVariants as Goals
use Rattle.ends.specs.declared.plan.Plan as Sents
use Rattle.switch.specs.Step.{step_performed}
use Rattle.bench.specs.Calls.{Call, Begin, Wire, Set, Aim, Output, Input, Step, Line, Steps, rows, made}
use Rattle.bench.specs.Writes.{hop_closed}
use Rattle.kept.specs.Kept.{Kept}
use Rattle.kept.proofs.Found.{Found, idle, waits, splits, unrouted, routes, lands_channel, lands_unit, step_found}
use Rattle.kept.proofs.Chosen as Chosen
use Rattle.kept.proofs.Calls.{output_sender, step_there}
use Rattle.streams.specs.Model.{keeps, ToChannel, port_no, door_no, unit_door, doors_each, end_at, Notes, alter, push}
use Rattle.streams.specs.Events.{Event}
use Rattle.streams.specs.Demand.{held_at}
use Rattle.streams.specs.Observer.{given, word_as, jot}
use Rattle.streams.proofs.Basics.{alter_hit, alter_same, alter_miss, each_map, pushed_at}
use Rattle.streams.proofs.Sendings.{puts_at, Unmarked}
use Rattle.streams.proofs.Handings.{hands_at}
use Rattle.streams.proofs.Indoors.{Indoors, indoors_all, indoors_then, indoors_set, indoors_pushed, indoors_pushed_all}
use Rattle.streams.proofs.Indoors.{indoors_took, indoors_stripped, indoors_sends, indoors_line, indoors_claimed, indoors_opens}
use Rattle.streams.proofs.Indoors.{indoors_closes_channel, indoors_closes_out, indoors_dropped, indoors_obeyed}
use Rattle.streams.proofs.Indoors.{held_in_lem, long_took, held_took}
use Rattle.streams.proofs.Indoors.{handed_held, handed_long, door_off}
use Rattle.streams.proofs.Calls.{obey_events, step_events, line_case, output_events, no_event, made_events}
use Rattle.streams.proofs.Filling.{Fills, obey_fills, fills_unmarked, fills_hands, fills_puts}

-- what a channel-end that is aimed is aimed at, by the notes
abbrev pub AimsNoted : World → Notes → Type 0
AimsNoted w o =
    (n e : ℕ) → e < ends → ((w.net.ends.aims n e).kind ≡ 0 → ⊥) → o.aimed (door_no n e) ≡ target_of (w.net.ends.aims n e)

-- a channel-end's buffer has its eight words
abbrev pub Long : Cells.Net → Type 0
Long s = (n e : ℕ) → length (s.ends.buffers n e).tokens ≡ end_buffer

-- a call leads from the world w to z by the events vs, and from the notes o to o'
pub record Told (w z : World) (vs : List Event) (o o' : Notes) : Type 0 where
  pub unmarked : Each Unmarked vs
  pub puts : (n e : ℕ) → e < ends → o'.put (door_no n e) ≡ o.put (door_no n e) ++ puts_at vs (door_no n e)
  pub aims : AimsNoted w o → AimsNoted z o'
  pub long : Long w.net → Long z.net
  -- what Input took, and what is held: as before, with what the events hand
  pub got : Long w.net → (n e : ℕ) → e < ends
      → o'.taken (door_no n e) ++ held_at z n e ≡ (o.taken (door_no n e) ++ held_at w n e) ++ hands_at vs (door_no n e)

-- A CALL THAT AIMS NOTHING AND TAKES NOTHING
-- more is held, if anything
module _ (w z : World) (vs : List Event) (o o' : Notes) (aimed_so : o'.aimed ≡ o.aimed) (taken-so : o'.taken ≡ o.taken)
    (same : z.net.ends.aims ≡ w.net.ends.aims) (plain : Each Unmarked vs)
    (puts : (n e : ℕ) → e < ends → o'.put (door_no n e) ≡ o.put (door_no n e) ++ puts_at vs (door_no n e))
  where
    at : (n e : ℕ) → z.net.ends.aims n e ≡ w.net.ends.aims n e
    at n e = ap (λ (t : ℕ → ℕ → Aims.Aim). t n e) same

    told_more : (Long w.net → Long z.net)
        → (Long w.net → (n e : ℕ) → e < ends → held_at z n e ≡ held_at w n e ++ hands_at vs (door_no n e))
        → Told w z vs o o'
    told_more long held =
        record {
          unmarked = plain;
          puts = puts;
          aims = λ a n e h aimed.
              ap (λ (t : ℕ → Target). t (door_no n e)) aimed_so
              ∙ a n e h (λ q. aimed (ap (λ (k : Aims.Aim). k.kind) (at n e) ∙ q))
              ∙ ap target_of (sym (at n e));
          long = long;
          got = λ l n e h.
              rw (taken-so, held l n e h) (sym (append_assoc (o.taken (door_no n e)) (held_at w n e) (hands_at vs (door_no n e))));
        }

    -- nothing
    told_as : z.net.ends.buffers ≡ w.net.ends.buffers → ((n e : ℕ) → e < ends → hands_at vs (door_no n e) ≡ []) → Told w z vs o o'
    told_as buffers hands =
        told_more
        (λ l n e. ap (λ (t : ℕ → ℕ → Buffer). length (t n e).tokens) buffers ∙ l n e)
        (λ l n e h. rw (hands n e h) (ap (λ (t : ℕ → ℕ → Buffer). held_in_lem (t n e)) buffers ∙ sym (append-nil (held_at w n e))))

-- .. and of which nothing is noted
module _ (w z : World) (vs : List Event) (o : Notes) (same : z.net.ends.aims ≡ w.net.ends.aims) (plain : Each Unmarked vs)
    (puts : (n e : ℕ) → e < ends → puts_at vs (door_no n e) ≡ [])
  where
    none : (n e : ℕ) → e < ends → o.put (door_no n e) ≡ o.put (door_no n e) ++ puts_at vs (door_no n e)
    none n e h = rw (puts n e h) (sym (append-nil (o.put (door_no n e))))

    held_quiet : (Long w.net → Long z.net)
        → (Long w.net → (n e : ℕ) → e < ends → held_at z n e ≡ held_at w n e ++ hands_at vs (door_no n e))
        → Told w z vs o o
    held_quiet = told_more w z vs o o refl refl same plain none

    told_quiet : z.net.ends.buffers ≡ w.net.ends.buffers → ((n e : ℕ) → e < ends → hands_at vs (door_no n e) ≡ []) → Told w z vs o o
    told_quiet = told_as w z vs o o refl refl same plain none

-- no door is concerned
told_still : (w z : World) (vs : List Event) (o : Notes) → Indoors w.net z.net → Each Unmarked vs
    → ((d : ℕ) → puts_at vs d ≡ [])
    → ((d : ℕ) → hands_at vs d ≡ [])
    → Told w z vs o o
told_still w z vs o same plain puts hands =
    told_quiet w z vs o same.aims plain (λ i j h. puts (door_no i j)) same.buffers (λ i j h. hands (door_no i j))

-- a channel that is handed a token is aimed as it was
kept_aims : (s : Cells.Net) (n c x : ℕ) → (handed s n c x).ends.aims ≡ s.ends.aims
kept_aims s n c x = by_test (eqb c sink) (λ e. rw e) (λ e. rw e)

-- the control unit's door is no channel-end's
unit_off : (n m e : ℕ) → e < ends → door_no n unit_door ≡ door_no m e → ⊥
unit_off n m e h z = omega (arith, z, h)

-- STEP
module _ (w : World) (n p : ℕ) (o : Notes) where
  abbrev StepTold : Plan → Type 0
  StepTold x = Told w (step_performed w n p x).next (step_events w n p x) o o

  -- to a channel
  told_hands : p < ports → (c t : ℕ) → Given w.net n c (first_at w n p) → StepTold (Hand c t)
  told_hands hp c t fits =
      let x = first_at w n p in
      let y = (took w n p).net in
      let before = indoors_took w n p in
      let z = handed y n c x in
      let after = indoors_closes_channel z n p c t x in
      let same = before.buffers in
      let long : Long w.net → Long y = λ l i j. ap (λ (b : ℕ → ℕ → Buffer). length (b i j).tokens) same ∙ l i j in
      held_quiet w (hands w n p c t) _ o (after.aims ∙ kept_aims y n c x ∙ before.aims) (tt, tt) (λ i j h. refl)
      (λ l i j. ap (λ (b : ℕ → ℕ → Buffer). length (b i j).tokens) after.buffers ∙ handed_long y n c x (long l) i j)
      (λ l i j h.
      ap (λ (b : ℕ → ℕ → Buffer). held_in_lem (b i j)) after.buffers
      ∙ handed_held y n c x (rw same fits) (long l) i j h
      ∙ ap (λ (b : ℕ → ℕ → Buffer). held_in_lem (b i j) ++ pick (eqb (end_at n (ToChannel c)) (door_no i j)) (keeps x) []) same
      ∙ ap (λ (l : List ℕ). held_at w i j ++ l)
      (sym (append-nil _ ∙ ap (λ (m : ℕ). pick (eqb (end_at m (ToChannel c)) (door_no i j)) (keeps x) []) (digits_div n hp))))

  -- to the control unit
  told_hears : StepTold Hear
  unfolding ended
  told_hears =
      let x = first_at w n p in
      let y = hop_closed w n p in
      let m = message_of (y.net.units.hearings n 0) x in
      let before = indoors_took w n p in
      let unheld : (i j : ℕ) → j < ends → pick (eqb (door_no (port_no n p / ports) unit_door) (door_no i j)) (keeps x) [] ≡ [] =
      λ i j h. rw (ne_eqb (door_no (port_no n p / ports) unit_door) (door_no i j) (unit_off (port_no n p / ports) i j h)) in
      by_test (closes x)
      (λ e.
      let after = indoors_obeyed y n m in
      let fills = obey_fills y n m in
      rw e (told_quiet w (obeyed y n m).next _ o (after.aims ∙ before.aims)
      (tt, each_map (Fills (door_no n unit_door)) Unmarked (λ v h. fills_unmarked h) (obey_events y n m) fills)
      (λ i j h. fills_puts (door_no n unit_door) (door_no i j) (unit_off n i j h) (obey_events y n m) fills)
      (after.buffers ∙ before.buffers)
      (λ i j h. rw (unheld i j h) (fills_hands (door_no n unit_door) (door_no i j) (obey_events y n m) fills))))
      (λ e. rw e (told_quiet w _ _ o before.aims (tt, tt) (λ i j h. refl) before.buffers
      (λ i j h. append-nil _ ∙ unheld i j h)))

  -- anything else: no door is concerned
  aside : (x : Plan) → Indoors w.net (step_performed w n p x).next.net
      → Each Unmarked (step_events w n p x)
      → ((d : ℕ) → puts_at (step_events w n p x) d ≡ [])
      → ((d : ℕ) → hands_at (step_events w n p x) d ≡ [])
      → StepTold x
  aside x = told_still w (step_performed w n p x).next (step_events w n p x) o

  pub step_told : {x : Plan} → Found w n p x → StepTold x
  step_told (idle none) = aside Idle (indoors_all w.net) tt (λ d. refl) (λ d. refl)
  step_told (waits unsplit) = aside Wait (indoors_all w.net) tt (λ d. refl) (λ d. refl)
  step_told (splits z f) = aside (Refuse Split) (record { aims = refl; buffers = refl; units = refl }) (tt, tt) (λ d. refl) (λ d. refl)
  step_told (unrouted z) = aside (Refuse NoRoute) (record { aims = refl; buffers = refl; units = refl }) (tt, tt) (λ d. refl) (λ d. refl)
  step_told (routes z l hl free on) =
      aside (OpenOut l) (record { aims = refl; buffers = refl; units = refl }) (tt, tt) (λ d. refl) (λ d. refl)
  step_told (lands_channel z m c t named door there tile claim) =
      aside (OpenChannel c t) (indoors_then (indoors_opens w.net n p c t)
      (indoors_stripped (with_net w (opens_channel w.net n p c t)) n p (width_at w.net n)))
      (tt, tt) (λ d. refl) (λ d. refl)
  step_told (lands_unit z m named free empty) =
      let same = indoors_stripped (with_net w (opens_unit w.net n p)) n p (width_at w.net n) in
      told_quiet w _ _ o same.aims (tt, tt) (λ i j h. refl) same.buffers (λ i j h. refl)
  step_told (Found.moves l z m j leads credit) =
      let x = first_at w n p in
      let y = took w n p in
      aside (MoveOut l) (indoors_then (indoors_took w n p) (indoors_then (indoors_closes_out y.net n p l x)
      (indoors_sends (with_net y (closes_out y.net n p l x)) n l x)))
      (tt, tt) (λ d. refl) (λ d. refl)
  step_told (Found.hands c t z given) = told_hands z.holds.port c t given
  step_told (Found.hears z) = told_hears
  step_told (Found.drops x z) =
      aside (Drop x) (indoors_then (indoors_took w n p) (indoors_dropped (took w n p).net n p (first_at w n p)))
      (tt, tt) (λ d. refl) (λ d. refl)

-- OUTPUT
unmarked_word : (x : Token) → is_header (word_of x) ≡ false
unmarked_word (Tokens.Data v) = header_back (byte_of v) false false false (omega arith)
unmarked_word (Tokens.Control v) = header_back (byte_of v) true false false (omega arith)

module _ (w : World) (n c : ℕ) (x : Token) (o : Notes) where
  abbrev t : ℕ
  t = word_of x

  abbrev noted : Notes
  noted = record { aimed = o.aimed; put = push o.put (door_no n c) t; taken = o.taken }

  -- its token is put out, by its channel-end
  put_noted : (vs : List Event) → ((d : ℕ) → puts_at vs d ≡ pick (eqb (door_no n c) d) (t ∷ []) [])
      → (m e : ℕ)
      → e < ends
      → noted.put (door_no m e) ≡ o.put (door_no m e) ++ puts_at vs (door_no m e)
  put_noted vs puts m e h =
      pushed_at o.put (door_no n c) (t ∷ []) (door_no m e) ∙ ap (λ (l : List ℕ). o.put (door_no m e) ++ l) (sym (puts (door_no m e)))

  -- through a port
  told_by : (z : World) (vs : List Event) → Indoors w.net z.net → Each Unmarked vs
      → ((d : ℕ) → puts_at vs d ≡ pick (eqb (door_no n c) d) (t ∷ []) [])
      → ((d : ℕ) → hands_at vs d ≡ [])
      → Told w z vs o noted
  told_by z vs same plain puts hands =
      told_as w z vs o noted refl refl same.aims plain (put_noted vs puts) same.buffers (λ i j h. hands (door_no i j))

  -- straight to a channel of its own node
  told_straight : (d : ℕ) (vs : List Event) → c < ends → Given w.net n d t → Each Unmarked vs
      → ((j : ℕ) → puts_at vs j ≡ pick (eqb (door_no n c) j) (t ∷ []) [])
      → ((j : ℕ) → hands_at vs j ≡ pick (eqb (end_at n (ToChannel d)) j) (keeps t) [])
      → Told w (with_net w (goes_straight w.net n c d t)) vs o noted
  told_straight d vs hc fits plain puts hands =
      let z = handed w.net n d t in
      let after = indoors_claimed z n 0 d (until_closed t (Peers.End c)) in
      told_more w _ vs o noted refl refl (after.aims ∙ kept_aims w.net n d t) plain (put_noted vs puts)
      (λ l i j. ap (λ (b : ℕ → ℕ → Buffer). length (b i j).tokens) after.buffers ∙ handed_long w.net n d t l i j)
      (λ l i j h.
      ap (λ (b : ℕ → ℕ → Buffer). held_in_lem (b i j)) after.buffers
      ∙ handed_held w.net n d t fits l i j h
      ∙ ap (λ (l : List ℕ). held_at w i j ++ l) (sym (hands (door_no i j))))

  at_home : (d j : ℕ) → c < ends
      → pick (eqb (end_at (door_no n c / doors_each) (ToChannel d)) j) (keeps t) [] ≡ pick (eqb (end_at n (ToChannel d)) j) (keeps t) []
  at_home d j hc = ap (λ (m : ℕ). pick (eqb (end_at m (ToChannel d)) j) (keeps t) []) (digits_div n (omega (arith, hc)))

  output_told : c < ends → {y : Sents.Plan} → Chosen.Found w n c t y → is_narrow_plan y ≡ false → is_full_plan y ≡ false
      → Told w (output_performed w n c (target_of (w.net.ends.aims n c)) t y)
      (output_events w n c (target_of (w.net.ends.aims n c)) t y) o noted
  output_told hc Chosen.narrow e f = clash e
  output_told hc Chosen.full e f = clash f
  output_told hc (Chosen.opens z away free) e f =
      let q = lowest_free w.net n in
      let g = target_of (w.net.ends.aims n c) in
      let hs = words (header_of g (width_at w.net n)) in
      let y = pushed_all w n q hs in
      let u = indoors_then (indoors_pushed_all w n q hs) (indoors_pushed y n q t) in
      told_by _ _ (record { aims = u.aims; buffers = u.buffers; units = u.units })
      (tt, (unmarked_word x, tt)) (λ d. append-nil _) (λ d. refl)
  output_told hc (Chosen.behind p goes room) e f =
      let u = indoors_pushed w n p t in
      told_by _ _ (record { aims = u.aims; buffers = u.buffers; units = u.units }) (unmarked_word x, tt) (λ d. append-nil _) (λ d. refl)
  output_told hc (Chosen.starts z m d named here unclaimed given) e f =
      rw z.shut (told_straight d _ hc given (tt, (unmarked_word x, tt)) (λ j. append-nil _)
      (λ j. append-nil _ ∙ at_home d j hc))
  output_told hc (Chosen.goes_on d goes given) e f =
      rw goes (told_straight d _ hc given (unmarked_word x, tt) (λ j. append-nil _) (λ j. append-nil _ ∙ at_home d j hc))

-- AIM
given_is : (g : Goal) (v : ℕ) → given g ≡ target_of (aimed_at g v)
given_is (Goals.Channel m c) v = refl
given_is (Goals.Unit m) v = refl

module _ (w : World) (n c : ℕ) (g : Goal) (v : ℕ) (o : Notes) (hc : c < ends) where
  pub aim_told : Told w (with_net w (aim_made w.net n c g v)) [] o
      (record { aimed = alter o.aimed (door_no n c) (given g); put = o.put; taken = o.taken })
  aim_told =
      record {
        unmarked = tt;
        puts = λ m e h. sym (append-nil (o.put (door_no m e)));
        aims = λ a m e h. upd_all
            (λ i j (k : Aims.Aim). j < ends → (k.kind ≡ 0 → ⊥) → alter o.aimed (door_no n c) (given g) (door_no i j) ≡ target_of k)
            w.net.ends.aims n c (aimed_at g v) m e
            (λ p q l aimed. alter_hit o.aimed (door_no n c) (given g) (door_no m e) (rw (p, q)) ∙ given_is g v)
            (λ off l aimed.
            alter_miss o.aimed (door_no n c) (given g) (door_no m e) (λ z. door_off n m c e hc h off (sym z)) ∙ a m e h aimed)
            h;
        long = λ l. l;
        got = λ l m e h. sym (append-nil (o.taken (door_no m e) ++ held_at w m e));
      }

-- INPUT
-- the token that was asked for as data or as control, of the value that is answered
word_taken : (y : Wanted) (x : ℕ) → x < 0x1C2 → is_wanted x y ≡ true → word_as y (value_of x) ≡ x
word_taken Wants.Data x small wanted = let d = eqb-false (x / 256 % 2) 1 (not-true _ wanted) in omega (arith, small, d)
word_taken Wants.Control x small wanted = let d = eqb-true (x / 256 % 2) 1 wanted in omega (arith, small, d)

module _ (w : World) (k : Kept w) (n c : ℕ) (y : Wanted) (o : Notes) (hn : n < w.net.nodes) (hc : c < ends)
    (some : 1 ≤ (w.net.ends.buffers n c).held) (wanted : is_wanted (first_held (w.net.ends.buffers n c)) y ≡ true)
  where
    abbrev b : Buffer
    b = w.net.ends.buffers n c

    small : first_held b < 0x1C2
    small = ((also (below (first_held b) 0x1C2) (as_is _)).sure ((k.buffers n c hn hc).1 0 some)).0

    abbrev value : ℕ
    value = word_as y (value_of (first_held b))

    abbrev had : List ℕ
    had = o.taken (door_no n c)

    -- what was held first is taken now
    taken_here : Long w.net → push o.taken (door_no n c) value (door_no n c) ++ held_in_lem (took_first b) ≡ (had ++ held_in_lem b) ++ []
    taken_here l =
        let is : value ≡ first_held b = word_taken y (first_held b) small wanted in
        ap (λ (ts : List ℕ). ts ++ held_in_lem (took_first b)) (alter_same o.taken (door_no n c) (had ++ (value ∷ [])))
        ∙ append_assoc had (value ∷ []) (held_in_lem (took_first b))
        ∙ ap (λ (t : ℕ). had ++ (t ∷ held_in_lem (took_first b))) is
        ∙ ap (λ (ts : List ℕ). had ++ ts) (sym (held_took b (l n c) (k.buffers n c hn hc).0 some))
        ∙ sym (append-nil (had ++ held_in_lem b))

    taken_there : (m e : ℕ) → e < ends → Two.Off n c m e
        → push o.taken (door_no n c) value (door_no m e) ++ held_at w m e ≡ (o.taken (door_no m e) ++ held_at w m e) ++ []
    taken_there m e h off =
        ap (λ (ts : List ℕ). ts ++ held_at w m e)
        (alter_miss o.taken (door_no n c) (had ++ (value ∷ [])) (door_no m e) (λ z. door_off n m c e hc h off (sym z)))
        ∙ sym (append-nil (o.taken (door_no m e) ++ held_at w m e))

    pub input_told : Told w (with_net w (input_made w.net n c)) [] o
        (record { aimed = o.aimed; put = o.put; taken = push o.taken (door_no n c) (word_as y (value_of (first_held b))) })
    input_told =
        record {
          unmarked = tt;
          puts = λ m e h. sym (append-nil (o.put (door_no m e)));
          aims = λ a. a;
          long = λ l m e. upd_all (λ i j (z : Buffer). length z.tokens ≡ end_buffer) w.net.ends.buffers n c (took_first b) m e
              (λ p q. long_took b) (λ off. l m e);
          got = λ l m e h. upd_all
              (λ i j (z : Buffer).
              push o.taken (door_no n c) value (door_no i j) ++ held_in_lem z ≡ (o.taken (door_no i j) ++ held_at w i j) ++ [])
              w.net.ends.buffers n c (took_first b) m e
              (λ p q. at m e p q (taken_here l))
              (taken_there m e h);
        }
      where
        at : (m e : ℕ) → m ≡ n → e ≡ c
            → push o.taken (door_no n c) value (door_no n c) ++ held_in_lem (took_first b) ≡ (had ++ held_in_lem b) ++ []
            → push o.taken (door_no n c) value (door_no m e) ++ held_in_lem (took_first b) ≡ (o.taken (door_no m e) ++ held_at w m e) ++ []
        at m e p q h =
            subst (λ (i : ℕ). push o.taken (door_no n c) value (door_no i e) ++ held_in_lem (took_first b)
            ≡ (o.taken (door_no i e) ++ held_at w i e) ++ []) (sym p)
            (subst (λ (j : ℕ). push o.taken (door_no n c) value (door_no n j) ++ held_in_lem (took_first b)
            ≡ (o.taken (door_no n j) ++ held_at w n j) ++ []) (sym q) h)

-- EVERY CALL that is not refused
module _ (w : World) (k : Kept w) (o : Notes) where
  pub made_told : (c : Call) → Passes (rows w c) → no_event c ≡ false
      → Told w (made w c).next (made_events w c) o (jot c (made w c).answer o)
  made_told (Begin s n) p e = clash e
  made_told (Wire a l b j) p e =
      told_still w _ _ o (record { aims = refl; buffers = refl; units = refl }) (tt, tt) (λ d. refl) (λ d. refl)
  made_told (Set a x) p e = told_set (set_answer x)
    where
      told_set : (y : Answered) → Told w (made w (Set a x)).next [] o (jot (Set a x) y o)
      told_set y = told_still w _ [] o (indoors_set (setting_leaves w a.0 x)) tt (λ d. refl) (λ d. refl)
  made_told (Aim a c g v) p e =
      aim_told w a.0 c g v o ((also (below a.0 w.net.nodes) (below c ends)).sure (not-false _ p.1.0)).1
  made_told (Output a c x) p e =
      let s = output_sender w a.0 c x p.1 in
      let plan = p.1.1.1.1.1 in
      output_told w a.0 c x o s.end (Chosen.output_found w k a.0 c (word_of x) s) plan.0 plan.1.0
  made_told (Input a c y) p e =
      let there = (also (below a.0 w.net.nodes) (below c ends)).sure (not-false _ p.1.0) in
      let some = eqb-false (w.net.ends.buffers a.0 c).held 0 p.1.1.0 in
      input_told w k a.0 c y o there.0 there.1 (omega arith) (not-false _ p.1.1.1.0)
  made_told (Step a p) q e =
      let there = step_there w a.0 p q.1 in
      step_told w a.0 p o (step_found w k a.0 p there.0 there.1)
  made_told (Line a l) p e =
      let f = far_of (w.net.links.cables a.0 l) in
      told_still w _ _ o (indoors_line w a.0 l) (line_case (Each Unmarked) w a.0 l tt (λ m j x. (tt, tt)) f)
      (λ d. line_case (λ vs. puts_at vs d ≡ []) w a.0 l refl (λ m j x. refl) f)
      (λ d. line_case (λ vs. hands_at vs d ≡ []) w a.0 l refl (λ m j x. refl) f)
  made_told (Steps n xs) p e = clash e
