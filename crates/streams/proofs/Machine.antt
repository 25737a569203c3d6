-- ANY MACHINE whose calls are events, and so every run of it: the invariant, faithful circuits, books that hold what the network holds,
-- fates that stay, the doors' logs. Assumes nothing.
use Prim.Native.Nat.{ℕ}
use mathlib.Core.Path.{◌≡◌, refl, sym, ap, ◌∙◌}
use mathlib.Core.Bool.{Bool, true, false}
use mathlib.Core.List.{List, [], ◌∷◌, ◌++◌}
use Rattle.laws.specs.Pick.{pick}
use Rattle.laws.proofs.Order.{by_test}
use Rattle.streams.specs.Model.{Use, Nobody, By, Moving, Fate, Flying}
use Rattle.streams.specs.Events.{Event, Ghost, books_of, effect, note, effects, notes, empty, new_ghost, OkAll}
use Rattle.streams.specs.Demand.{Faithful, tokens_of}
use Rattle.streams.specs.Watch.{run_all, NoneAnew}
use Rattle.streams.proofs.Inv.{Inv}
use Rattle.streams.proofs.Theorem.{keep, keeps_all, start, faithful}
use Rattle.streams.proofs.Places.{fate_stays}
use Rattle.streams.proofs.Logs.{LoggedIn, keep_logs, start_log}

-- EVENTS, one list after the other
effects_append : (vs ws : List Event) (n : Moving) → effects (vs ++ ws) n ≡ effects ws (effects vs n)
effects_append [] ws n = refl
effects_append (v ∷ vs) ws n = effects_append vs ws (effect v n)

pub notes_append : (vs ws : List Event) (g : Ghost) → notes (vs ++ ws) g ≡ notes ws (notes vs g)
notes_append [] ws g = refl
notes_append (v ∷ vs) ws g = notes_append vs ws (note v g)

module _ (link : ℕ → Bool) where
  ok_append : (vs ws : List Event) (n : Moving) → OkAll link vs n → OkAll link ws (effects vs n) → OkAll link (vs ++ ws) n
  ok_append [] ws n h k = k
  ok_append (v ∷ vs) ws n h k = (h.0, ok_append vs ws (effect v n) h.1 k)

  -- the events lead from the one view to the other, and may happen
  pub record Leads (vs : List Event) (n n' : Moving) : Type 0 where
    pub view : n' ≡ effects vs n
    pub ok : OkAll link vs n

  pub leads_append : (vs ws : List Event) (n n' n'' : Moving) → Leads vs n n' → Leads ws n' n'' → Leads (vs ++ ws) n n''
  leads_append vs ws n n' n'' a b =
      record {
        view = b.view ∙ ap (effects ws) a.view ∙ sym (effects_append vs ws n);
        ok = ok_append vs ws n a.ok (rw a.view at b.ok);
      }

  -- the tokens of a line are those of its cells
  pub line_tokens : (n : Moving) (g : Ghost) → Inv link n g → (l : ℕ) → n.line l ≡ tokens_of (g.on l)
  line_tokens n g iv l = go (n.cable l) refl
    where
      go : (u : Use) → n.cable l ≡ u → n.line l ≡ tokens_of (g.on l)
      go Nobody e = let (a, b) = iv.unlined l e in rw (a, b)
      go (By k) e = (iv.lines l k e).tokens

  -- a fate that is not `Flying` stays
  pub fate_stays_all : (vs : List Event) (n : Moving) (g : Ghost) → Inv link n g → OkAll link vs n → (c : ℕ) (f : Fate) → (f ≡ Flying → ⊥)
      → g.fate c ≡ f
      → (notes vs g).fate c ≡ f
  fate_stays_all [] n g iv ok c f ne z = z
  fate_stays_all (v ∷ vs) n g iv ok c f ne z =
      let still = fate_stays link v n g iv ok.0 c (λ e. ne (sym z ∙ e)) in
      fate_stays_all vs (effect v n) (note v g) (keep link v n g iv ok.0) ok.1 c f ne (still ∙ z)

  -- MACHINES
  pub record Machine : Type 1 where
    pub State : Type 0
    pub Call : Type 0
    pub apply : State → Call → State
    pub events : State → Call → List Event
    pub view : State → Moving
    pub Sane : State → Type 0
    -- where a call leaves a new network
    pub anew : State → Call → Bool
    pub anew_view : (s : State) (c : Call) → Sane s → anew s c ≡ true → view (apply s c) ≡ empty
    -- THE LAW, one for each call elsewhere
    pub law : (s : State) (c : Call) → Sane s → anew s c ≡ false → Leads (events s c) (view s) (view (apply s c))
    pub stays_sane : (s : State) (c : Call) → Sane s → Sane (apply s c)
    pub first : State
    pub first_sane : Sane first
    pub first_view : view first ≡ empty

module _ (link : ℕ → Bool) (m : Machine link) where
  -- the observer of the proof, who begins again where a call is anew
  abbrev pub noted : m.State → m.Call → Ghost → Ghost
  noted s c g = pick (m.anew s c) new_ghost (notes (m.events s c) g)

  abbrev pub watch : m.State → Ghost → List m.Call → Ghost
  watch s g [] = g
  watch s g (c ∷ cs) = watch (m.apply s c) (noted s c g) cs

  pub record GoodState (s : m.State) (g : Ghost) : Type 0 where
    pub sane : m.Sane s
    pub inv : Inv link (m.view s) g

  pub call_keeps : (c : m.Call) (s : m.State) (g : Ghost) → GoodState s g → GoodState (m.apply s c) (noted s c g)
  call_keeps c s g k =
      let inv : Inv link (m.view (m.apply s c)) (noted s c g) =
      by_test (m.anew s c)
      (λ e. rw (e, m.anew_view s c k.sane e) (start link))
      (λ e.
      let l = m.law s c k.sane e in
      rw (e, l.view) (keeps_all link (m.events s c) (m.view s) g k.inv l.ok)) in
      record { sane = m.stays_sane s c k.sane; inv = inv }

  pub always : (cs : List m.Call) (s : m.State) (g : Ghost) → GoodState s g → GoodState (run_all m.apply s cs) (watch s g cs)
  always [] s g k = k
  always (c ∷ cs) s g k = always cs (m.apply s c) (noted s c g) (call_keeps c s g k)

  pub first_good : GoodState m.first new_ghost
  first_good = record { sane = m.first_sane; inv = rw m.first_view (start link) }

  -- RUNS
  pub logs_run : (cs : List m.Call) (s : m.State) (g : Ghost) → GoodState s g → LoggedIn g → LoggedIn (watch s g cs)
  logs_run [] s g k l = l
  logs_run (x ∷ cs) s g k l =
      let logged : LoggedIn (noted s x g) =
      by_test (m.anew s x)
      (λ e. rw e start_log)
      (λ e. rw e (keep_logs link (m.events s x) (m.view s) g k.inv (m.law s x k.sane e).ok l)) in
      logs_run cs (m.apply s x) (noted s x g) (call_keeps x s g k) logged

  pub fate_stays_run : (cs : List m.Call) (s : m.State) (g : Ghost) → GoodState s g → NoneAnew m.apply m.anew s cs
      → (c : ℕ) (f : Fate) → (f ≡ Flying → ⊥)
      → g.fate c ≡ f
      → (watch s g cs).fate c ≡ f
  fate_stays_run [] s g k h c f ne z = z
  fate_stays_run (x ∷ cs) s g k (old, later) c f ne z =
      let still : (noted s x g).fate c ≡ f =
      rw old (fate_stays_all link (m.events s x) (m.view s) g k.inv (m.law s x k.sane old).ok c f ne z) in
      fate_stays_run cs (m.apply s x) (noted s x g) (call_keeps x s g k) later c f ne still

  pub watch_append : (cs ds : List m.Call) (s : m.State) (g : Ghost)
      → watch s g (cs ++ ds) ≡ watch (run_all m.apply s cs) (watch s g cs) ds
  watch_append [] ds s g = refl
  watch_append (c ∷ cs) ds s g = watch_append cs ds (m.apply s c) (noted s c g)

  -- after any calls from the start
  module _ (cs : List m.Call) where
    abbrev pub reached : m.State
    reached = run_all m.apply m.first cs

    abbrev pub watched : Ghost
    watched = watch m.first new_ghost cs

    pub reached_inv : Inv link (m.view reached) watched
    reached_inv = (always cs m.first new_ghost first_good).inv

    pub circuits_true : (c : ℕ) → Faithful (books_of watched) c
    circuits_true = faithful link (m.view reached) watched reached_inv

    pub logs_true : LoggedIn watched
    logs_true = logs_run cs m.first new_ghost first_good start_log
