-- DEMAND 3 over events: every event keeps the invariant, it holds before all of them, and a circuit of which it holds is faithful. Assumes
-- nothing.
use Prim.{tt}
use Prim.Native.Nat.{ℕ}
use mathlib.Core.Path.{◌≡◌, refl, sym, ap, ◌∙◌}
use mathlib.Core.Bool.{Bool}
use mathlib.Core.List.{List, [], ◌∷◌}
use native.Mathlib.Omega.{arith}
use lib.ListN.{length}
use lib.Seq.{take-length}
use Rattle.laws.proofs.Order.{never}
use Rattle.names.specs.declared.NodeNumber.{NodeNumber}
use Rattle.tokens.specs.Header.{compared}
use Rattle.streams.specs.Model.{no_pause, Out, Moving, Fate, Flying, Lost, Landed, Here}
use Rattle.streams.specs.Events.{Event, Opens, Puts, Starts, Tells, Takes, Lands, Refuses, Enters, Arrives, Hands, Loses, Wires}
use Rattle.streams.specs.Events.{Cursor, Ghost, books_of, effect, note, effects, notes, empty, new_ghost, Ok, OkAll}
use Rattle.streams.specs.Demand.{Faithful}
use Rattle.streams.proofs.Basics.{landed_same, here_same, ind_zero}
use Rattle.streams.proofs.Headers.{body_take}
use Rattle.streams.proofs.Inv.{CircBy, Inv}
use Rattle.streams.proofs.Ports.{keep_enters, keep_arrives, keep_loses, keep_hands, keep_takes, keep_refuses, keep_lands}
use Rattle.streams.proofs.Senders.{keep_puts, keep_tells, keep_starts, keep_opens, keep_wires}

-- by its fate
module _ (out : ℕ → Out) (front : ℕ → Cursor) (g : Ghost) (c : ℕ) where
  nothing_handed : (f : Fate) → g.fate c ≡ f → g.handed c ≡ []
      → ((p : ℕ) (k : NodeNumber) → f ≡ Landed p k → ⊥)
      → ((k : NodeNumber) → f ≡ Here k → ⊥)
      → Faithful (books_of g) c
  nothing_handed f e none not_there not-here =
      record {
        how_many = 0;
        in_order = none;
        landed = λ p k q. absurd (not_there p k (sym e ∙ q));
        at_home = λ k q. absurd (not-here k (sym e ∙ q));
        not_yet = λ q. none;
        refused = λ r q. none;
      }

  faithful_by : (v now : ℕ) (f : Fate) → g.fate c ≡ f → CircBy out front (g.stream c) (g.handed c) v (g.info c) now c f
      → Faithful (books_of g) c
  faithful_by v now Flying e z = nothing_handed Flying e z.0 (λ p k q. never (cc)) (λ k q. never (cc))
  faithful_by v now (Lost r) e z = nothing_handed (Lost r) e z.0 (λ p k q. never (cc)) (λ k q. never (cc))
  faithful_by v now (Landed p k) e z =
      let o = g.info c in
      let (m, q) = body_take o.skip z.1.i (g.stream c) in
      record {
        how_many = m;
        in_order = z.1.is ∙ q;
        landed = λ p' k' w. z.2 ∙ ap (compared o.width) (landed_same (sym e ∙ w)).1;
        at_home = λ k q. never (cc);
        not_yet = λ q. never (cc);
        refused = λ q w. never (cc);
      }
  faithful_by v now (Here k) e z =
      let told = z.1 in
      record {
        how_many = length (no_pause (g.stream c));
        in_order = told.all ∙ rw (told.skips, take-length (no_pause (g.stream c)));
        landed = λ p k q. never (cc);
        at_home = λ k' q. told.names ∙ ap (compared (g.info c).width) (here_same (sym e ∙ q));
        not_yet = λ q. never (cc);
        refused = λ q w. never (cc);
      }

module _ (link : ℕ → Bool) where
  pub keep : (v : Event) (n : Moving) (g : Ghost) → Inv link n g → Ok link n v → Inv link (effect v n) (note v g)
  keep (Opens e d w a) n g iv ok = keep_opens link n g iv e d w a ok
  keep (Puts e d t) n g iv ok = keep_puts link n g iv e d t ok
  keep (Starts e k w a ch) n g iv ok = keep_starts link n g iv e k w a ch ok
  keep (Tells e ch t) n g iv ok = keep_tells link n g iv e ch t ok
  keep (Takes p l) n g iv ok = keep_takes link n g iv p l ok
  keep (Lands p w hs a k) n g iv ok = keep_lands link n g iv p w hs a k ok
  keep (Refuses p q) n g iv ok = keep_refuses link n g iv p q ok
  keep (Enters p l x) n g iv ok = keep_enters link n g iv p l x ok
  keep (Arrives l m x) n g iv ok = keep_arrives link n g iv l m x ok
  keep (Hands p a x) n g iv ok = keep_hands link n g iv p a x ok
  keep (Loses p q x) n g iv ok = keep_loses link n g iv p q x ok
  keep (Wires l m) n g iv ok = keep_wires link n g iv l m ok

  pub keeps_all : (vs : List Event) (n : Moving) (g : Ghost) → Inv link n g → OkAll link vs n → Inv link (effects vs n) (notes vs g)
  keeps_all [] n g iv ok = iv
  keeps_all (v ∷ vs) n g iv ok = keeps_all vs (effect v n) (note v g) (keep v n g iv ok.0) ok.1

  pub start : Inv link empty new_ghost
  unfolding empty new_ghost
  start =
      record {
        ports = λ p. record { tokens = refl; chain = refl };
        cabled = λ l m z. never (cc);
        lines = λ l m z. never (cc);
        unlined = λ l z. (refl, refl);
        fed = λ l. refl;
        unfed = λ m lk z. refl;
        unsent = λ l z. refl;
        tiles = λ d lk z. refl;
        doors = λ d e z. never (cc);
        used = λ p l z. never (cc);
        send = λ e. tt;
        head = λ c p. sym (ind_zero p);
        road = λ c p. sym (ind_zero p);
        ways = λ c h. absurd (omega arith);
        outs = λ p. refl;
        circs = λ c. (refl, λ le. absurd (omega arith));
        unborn = λ c le. record { no_stream = refl; no_handed = refl; no_place = refl; no_fate = refl };
      }

  pub faithful : (n : Moving) (g : Ghost) → Inv link n g → (c : ℕ) → Faithful (books_of g) c
  faithful n g iv c = faithful_by n.out g.front g c (g.loc c) g.now (g.fate c) refl (iv.circs c)

  -- THE THEOREM, over events
  pub events_3 : (vs : List Event) → OkAll link vs empty → (c : ℕ) → Faithful (books_of (notes vs new_ghost)) c
  events_3 vs ok c = faithful (effects vs empty) (notes vs new_ghost) (keeps_all vs empty new_ghost start ok) c
