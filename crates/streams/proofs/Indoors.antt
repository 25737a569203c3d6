-- WHAT CALLS DO INDOORS: to what channel-ends are aimed at and hold, and to what control units hear. Assumes nothing.
use Prim.Native.Nat.{ℕ, zero, suc, ◌+◌, ◌-◌, ◌<◌, ◌≤◌, min}
use mathlib.Core.Path.{◌≡◌, refl, sym, ap, ◌∙◌}
use mathlib.Core.Bool.{Bool, true, false}
use mathlib.Core.List.{List, [], ◌∷◌, ◌++◌, append-nil}
use mathlib.Core.Logic.{⊎_elim}
use native.Mathlib.Omega.{arith}
use lib.Dec.{eqb, ltb}
use lib.ListN.{length, take, get_or, set, length-append, length-take, length-set, get_or-append}
use lib.Seq.{length-take-le, take-suc-set, take_all, take-append-le, get_or-take, ext_get_or}
use borrow.Author.Tests.{eq-eqb, ne_eqb, lt-ltb, ltb-true, ltb-false}
use Rattle.laws.specs.Pick.{pick}
use Rattle.laws.specs.Row.{tab}
use Rattle.laws.specs.Table as Two
use Rattle.laws.proofs.Row.{length_tab, get_or_tab}
use Rattle.laws.proofs.Table.{upd_all}
use Rattle.laws.proofs.Order.{by_test, clash}
use Rattle.names.specs.Size.{ends, end_buffer, unit_buffer, sink}
use Rattle.circuits.specs.declared.Peer.{Peer}
use Rattle.circuits.specs.declared.Peer.TheVariants as Peers
use Rattle.tokens.specs.Word.{closes, is_pause}
use Rattle.tokens.specs.declared.header.Width.{Width}
use Rattle.cells.specs.View.{Net, UnitTables}
use Rattle.cells.specs.World.{World}
use Rattle.cells.specs.declared.end.Aim.{Aim}
use Rattle.cells.specs.declared.end.Buffer.{Buffer}
use Rattle.cells.specs.declared.unit.Hearing.{Hearing}
use Rattle.acts.specs.Acts.{pushed, pushed_all, shut, tiled_to, claimed_by, buffer_after}
use Rattle.acts.specs.Acts.{handed}
use Rattle.acts.specs.Needs.{Given}
use Rattle.settings.proofs.Leaves.{Leaves}
use Rattle.messages.specs.Heard.{hears_word}
use Rattle.messages.specs.Ended.{obeyed}
use Rattle.messages.specs.declared.heard.Message.{Message}
use Rattle.travel.specs.Travel.{sends_on, line_stepped}
use Rattle.moves.specs.Moves.{took, stripped, opens_channel, closes_out, closes_channel, closes_dropped}
use Rattle.bench.proofs.Untouched.{Untouched, put_leaves, all_leave, took_leaves, strip_leaves, send_leaves, line_leaves, obeyed_leaves}
use Rattle.ends.specs.Input.{first_held, took_first}
use Rattle.streams.specs.Model.{keeps, ToChannel, door_no, end_at, sink_door}

-- nothing is changed indoors
pub record Indoors (s z : Net) : Type 0 where
  pub aims : z.ends.aims ≡ s.ends.aims
  pub buffers : z.ends.buffers ≡ s.ends.buffers
  pub units : z.units ≡ s.units

pub indoors_all : (s : Net) → Indoors s s
indoors_all s = record { aims = refl; buffers = refl; units = refl }

pub indoors_then : {s y z : Net} → Indoors s y → Indoors y z → Indoors s z
indoors_then a b =
    record { aims = b.aims ∙ a.aims; buffers = b.buffers ∙ a.buffers; units = b.units ∙ a.units }

pub indoors_pick : (b : Bool) {s x y : Net} → Indoors s x → Indoors s y → Indoors s (pick b x y)
indoors_pick true h k = h
indoors_pick false h k = k

pub indoors_set : {w z : World} → Leaves w z → Indoors w.net z.net
indoors_set l =
    record { aims = ap (λ t. t.aims) l.ends; buffers = ap (λ t. t.buffers) l.ends; units = l.units }

-- TOKENS PUT AND TAKEN, LINES' STEPS AND A MESSAGE AT ITS END: nothing indoors hangs on what ports and lines hold or on credits, and no Set
-- changes it
record Inside : Type 0 where
  aims : ℕ → ℕ → Aim
  buffers : ℕ → ℕ → Buffer
  units : UnitTables

abbrev inside : Net → Inside
inside s = record { aims = s.ends.aims; buffers = s.ends.buffers; units = s.units }

inside_untouched : Untouched inside
inside_untouched =
    record {
      counters = λ s n p q. refl;
      flows = λ s n l k. refl;
      rings = λ s n l c. refl;
      issued = λ s n l i. refl;
      settings = λ w z v. rw (v.ends, v.units);
    }

by_inside : {s z : Net} → inside z ≡ inside s → Indoors s z
by_inside e = record { aims = ap (λ (i : Inside). i.aims) e; buffers = ap (λ (i : Inside). i.buffers) e; units = ap (λ (i : Inside). i.units) e }

module _ (w : World) (n p : ℕ) where
  pub indoors_pushed : (t : ℕ) → Indoors w.net (pushed w n p t).net
  indoors_pushed t = by_inside (put_leaves inside inside_untouched w n p t)

  pub indoors_pushed_all : (ts : List ℕ) → Indoors w.net (pushed_all w n p ts).net
  indoors_pushed_all ts = by_inside (all_leave inside inside_untouched ts w n p)

  pub indoors_took : Indoors w.net (took w n p).net
  indoors_took = by_inside (took_leaves inside inside_untouched w n p)

  pub indoors_stripped : (x : Width) → Indoors w.net (stripped w n p x).net
  indoors_stripped x = by_inside (strip_leaves inside inside_untouched w n p x)

  pub indoors_sends : (x : ℕ) → Indoors w.net (sends_on w n p x).net
  indoors_sends x = by_inside (send_leaves inside inside_untouched w n p x)

  pub indoors_line : Indoors w.net (line_stepped w n p).net
  indoors_line = by_inside (line_leaves inside inside_untouched w n p)

pub indoors_obeyed : (w : World) (n : ℕ) (m : Message) → Indoors w.net (obeyed w n m).next.net
indoors_obeyed w n m = by_inside (obeyed_leaves inside inside_untouched w n m)

-- CIRCUITS
module _ (s : Net) (n p : ℕ) where
  pub indoors_claimed : (c : ℕ) (x : Peer) → Indoors s (claimed_by s n c x)
  indoors_claimed c x = indoors_pick (eqb c sink) (indoors_all s) (record { aims = refl; buffers = refl; units = refl })

  pub indoors_opens : (c t : ℕ) → Indoors s (opens_channel s n p c t)
  indoors_opens c t =
      indoors_pick (eqb c sink)
      (record { aims = refl; buffers = refl; units = refl })
      (record { aims = refl; buffers = refl; units = refl })

  pub indoors_closes_out : (l x : ℕ) → Indoors s (closes_out s n p l x)
  indoors_closes_out l x = indoors_pick (closes x) (record { aims = refl; buffers = refl; units = refl }) (indoors_all s)

  pub indoors_dropped : (x : ℕ) → Indoors s (closes_dropped s n p x)
  indoors_dropped x = indoors_pick (closes x) (record { aims = refl; buffers = refl; units = refl }) (indoors_all s)

  pub indoors_closes_channel : (c t x : ℕ) → Indoors s (closes_channel s n p c t x)
  indoors_closes_channel c t x =
      let free = tiled_to (shut s n p) n t Peers.Nobody in
      let tiled : Indoors s free = record { aims = refl; buffers = refl; units = refl } in
      indoors_pick (closes x) (indoors_then tiled (of_claim free c)) (indoors_all s)
    where
      of_claim : (z : Net) (c : ℕ) → Indoors z (claimed_by z n c Peers.Nobody)
      of_claim z c = indoors_pick (eqb c sink) (indoors_all z) (record { aims = refl; buffers = refl; units = refl })

-- BUFFERS
abbrev pub held_in_lem : Buffer → List ℕ
held_in_lem b = take b.held b.tokens

abbrev pub heard_in : Hearing → List ℕ
heard_in h = take h.heard h.tokens

-- a token is kept, PAUSE is not
pub held_after : (b : Buffer) (x : ℕ) → length b.tokens ≡ end_buffer → (is_pause x ≡ false → b.held < end_buffer)
    → held_in_lem (buffer_after b x) ≡ held_in_lem b ++ keeps x
held_after b x long room =
    by_test (is_pause x)
    (λ e. rw e (sym (append-nil (held_in_lem b))))
    (λ e. rw e (ap (λ (k : ℕ). take k (set b.tokens b.held x)) one ∙ take-suc-set b.tokens b.held x (rw long (room e))))
  where
    one : b.held + 1 ≡ suc b.held
    one = omega arith

pub long_after : (b : Buffer) (x : ℕ) → length b.tokens ≡ end_buffer → length (buffer_after b x).tokens ≡ end_buffer
long_after b x long = by_test (is_pause x) (λ e. rw e long) (λ e. rw e (length-set b.tokens b.held x ∙ long))

-- the oldest is taken
pub long_took : (b : Buffer) → length (took_first b).tokens ≡ end_buffer
long_took b = refl

pub held_took : (b : Buffer) → length b.tokens ≡ end_buffer → b.held ≤ end_buffer → 1 ≤ b.held
    → held_in_lem b ≡ first_held b ∷ held_in_lem (took_first b)
held_took b long fits some =
    ext_get_or 0 (held_in_lem b) (first_held b ∷ held_in_lem (took_first b))
    (length-take-le b.held b.tokens (rw long fits)
    ∙ sym (ap suc (length-take-le (b.held - 1) (took_first b).tokens (omega (arith, fits))) ∙ back))
    (λ i l. at i (rw (length-take-le b.held b.tokens (rw long fits)) at l))
  where
    back : suc (b.held - 1) ≡ b.held
    back = omega (arith, some)

    next : ℕ → ℕ
    next i = get_or b.tokens (suc i) 0

    at : (i : ℕ) → i < b.held → get_or (held_in_lem b) i 0 ≡ get_or (first_held b ∷ held_in_lem (took_first b)) i 0
    at zero l = get_or-take b.held b.tokens 0 0 l
    at (suc i) l =
        get_or-take b.held b.tokens (suc i) 0 l
        ∙ sym (get_or-take (b.held - 1) (took_first b).tokens i 0 (omega (arith, l))
        ∙ get_or-append (tab (end_buffer - 1) next) (0 ∷ []) 0 i (rw (length_tab (end_buffer - 1) next) (omega (arith, l, fits)))
        ∙ get_or_tab (end_buffer - 1) next i 0 (omega (arith, l, fits)))

-- what a channel is handed is what its door is handed
pub door_off : (n m c e : ℕ) → c < ends → e < ends → Two.Off n c m e → door_no n c ≡ door_no m e → ⊥
door_off n m c e hc he o q = o (omega (arith, q, hc, he)) (omega (arith, q, hc, he))

pub handed_held : (s : Net) (n c x : ℕ) → Given s n c x → ((m e : ℕ) → length (s.ends.buffers m e).tokens ≡ end_buffer)
    → (m e : ℕ)
    → e < ends
    → held_in_lem ((handed s n c x).ends.buffers m e)
    ≡ held_in_lem (s.ends.buffers m e) ++ pick (eqb (end_at n (ToChannel c)) (door_no m e)) (keeps x) []
handed_held s n c x given long m e he = ⊎_elim forgets (λ g. stored g.0 (λ q. ⊎_elim (λ z. absurd (pauses q z)) (λ h. h) g.1)) given
  where
    Is : Type 0
    Is = held_in_lem ((handed s n c x).ends.buffers m e)
        ≡ held_in_lem (s.ends.buffers m e) ++ pick (eqb (end_at n (ToChannel c)) (door_no m e)) (keeps x) []

    pauses : is_pause x ≡ false → is_pause x ≡ true → ⊥
    pauses q z = clash (sym z ∙ q)

    forgets : c ≡ sink → Is
    forgets q =
        rw (q, ne_eqb (door_no n sink_door) (door_no m e) (λ z. omega (arith, z, he)))
        (sym (append-nil (held_in_lem (s.ends.buffers m e))))

    stored : c < ends → (is_pause x ≡ false → (s.ends.buffers n c).held < end_buffer) → Is
    stored hc room =
        let after = buffer_after (s.ends.buffers n c) x in
        rw (ne_eqb c sink (λ z. omega (arith, z, hc)), lt-ltb c ends hc)
        (upd_all (λ i j (b : Buffer). held_in_lem b ≡ held_in_lem (s.ends.buffers i j) ++ pick (eqb (door_no n c) (door_no i j)) (keeps x) [])
        s.ends.buffers n c after m e
        (λ a b. rw (a, b, eq-eqb (door_no n c) (door_no n c) refl) (held_after (s.ends.buffers n c) x (long n c) room))
        (λ o. rw (ne_eqb (door_no n c) (door_no m e) (door_off n m c e hc he o)) (sym (append-nil (held_in_lem (s.ends.buffers m e))))))

pub handed_long : (s : Net) (n c x : ℕ) → ((m e : ℕ) → length (s.ends.buffers m e).tokens ≡ end_buffer)
    → (m e : ℕ)
    → length ((handed s n c x).ends.buffers m e).tokens ≡ end_buffer
handed_long s n c x long m e =
    by_test (eqb c sink)
    (λ q. rw q (long m e))
    (λ q. rw q (upd_all (λ i j (b : Buffer). length b.tokens ≡ end_buffer) s.ends.buffers n c
    (buffer_after (s.ends.buffers n c) x) m e
    (λ a b. long_after (s.ends.buffers n c) x (long n c))
    (λ o. long m e)))

-- HEARINGS
-- at most eleven tokens of a message are kept
pub heard_more : (h : Hearing) (x : ℕ) (ts : List ℕ) → length h.tokens ≡ unit_buffer → h.heard ≤ unit_buffer
    → heard_in h ≡ take unit_buffer ts
    → heard_in (hears_word h x) ≡ take unit_buffer (ts ++ (x ∷ []))
heard_more h x ts long fits same =
    let count : length (take unit_buffer ts) ≡ h.heard = ap length (sym same) ∙ length-take-le h.heard h.tokens (rw long fits) in
    let least = length-take unit_buffer ts in
    by_test (ltb h.heard unit_buffer)
    (λ e.
    let less = ltb-true h.heard unit_buffer e in
    let few : length ts < unit_buffer = by_min (length ts) (omega (arith, count, least, less)) in
    let one : h.heard + 1 ≡ suc h.heard = omega arith in
    rw e (ap (λ (k : ℕ). take k (set h.tokens h.heard x)) one
    ∙ take-suc-set h.tokens h.heard x (rw long less)
    ∙ ap (λ (l : List ℕ). l ++ (x ∷ [])) (same ∙ take_all unit_buffer ts (omega (arith, few)))
    ∙ sym (take_all unit_buffer (ts ++ (x ∷ [])) (rw length-append (omega (arith, few))))))
    (λ e.
    let full = ltb-false h.heard unit_buffer e in
    rw e (same ∙ sym (take-append-le unit_buffer ts (x ∷ []) (omega (arith, count, least, full)))))
  where
    by_min : (k : ℕ) → min unit_buffer k < unit_buffer → k < unit_buffer
    by_min k l = omega (arith, l)
