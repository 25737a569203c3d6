-- WHAT DOORS ARE HANDED: by events, to a door; and a circuit that goes into a door, while others are handed elsewhere. Assumes nothing.
use Prim.Native.Nat.{ℕ}
use mathlib.Core.Path.{◌≡◌, refl, sym, ap, ◌∙◌}
use mathlib.Core.Bool.{Bool, true, false}
use mathlib.Core.List.{List, [], ◌∷◌, ◌++◌, append-nil, append_assoc}
use lib.Dec.{eqb}
use Rattle.laws.specs.All.{Each}
use Rattle.laws.specs.Pick.{pick}
use Rattle.laws.proofs.Order.{never}
use Rattle.names.specs.declared.NodeNumber.{NodeNumber}
use Rattle.streams.specs.Model.{keeps, Place, ToChannel, node_of_port, node_of_door, end_at, Out, Shut, Via, Into, Drops, Moving}
use Rattle.streams.specs.Model.{Landed, Here, Given, alter, hd, push_all, marks}
use Rattle.streams.specs.Events.{Event, Opens, Puts, Starts, Tells, Takes, Lands, Refuses, Enters, Arrives, Hands, Loses, Wires}
use Rattle.streams.specs.Events.{Cursor, Idle, At, Ghost, effect, note, effects, notes, Ok, OkAll}
use Rattle.streams.specs.Demand.{tokens_given}
use Rattle.streams.proofs.Basics.{alter_miss, pushed_at, at_same, landed_same}
use Rattle.streams.proofs.Inv.{Handing, Inv}
use Rattle.streams.proofs.Theorem.{keep}
use Rattle.streams.proofs.Places.{handed_there, told_there}

-- LOGS
-- what an event hands to a door
abbrev pub hand_at : Event → ℕ → List ℕ
hand_at (Opens e d w a) j = []
hand_at (Puts e d t) j = []
hand_at (Starts e k w a ch) j = []
hand_at (Tells e ch t) j = pick (eqb (end_at (node_of_door e) (ToChannel ch)) j) (keeps t) []
hand_at (Takes p l) j = []
hand_at (Lands p w hs a k) j = []
hand_at (Refuses p q) j = []
hand_at (Enters p l x) j = []
hand_at (Arrives l m x) j = []
hand_at (Hands p a x) j = pick (eqb (end_at (node_of_port p) a) j) (keeps x) []
hand_at (Loses p q x) j = []
hand_at (Wires l m) j = []

abbrev pub hands_at : List Event → ℕ → List ℕ
hands_at [] j = []
hands_at (v ∷ vs) j = hand_at v j ++ hands_at vs j

given_append : (xs ys : List Given) → tokens_given (xs ++ ys) ≡ tokens_given xs ++ tokens_given ys
given_append [] ys = refl
given_append (x ∷ xs) ys = ap (λ (l : List ℕ). x.token ∷ l) (given_append xs ys)

given_marks : (c : ℕ) (ts : List ℕ) → tokens_given (marks c ts) ≡ ts
given_marks c [] = refl
given_marks c (t ∷ ts) = ap (λ (l : List ℕ). t ∷ l) (given_marks c ts)

logged : (log : ℕ → List Given) (c d₀ d : ℕ) (ts : List ℕ)
    → tokens_given (push_all log d₀ (marks c ts) d) ≡ tokens_given (log d) ++ pick (eqb d₀ d) ts []
logged log c d₀ d ts =
    ap tokens_given (pushed_at log d₀ (marks c ts) d) ∙ given_append (log d) (pick (eqb d₀ d) (marks c ts) []) ∙ rw (given_pick (eqb d₀ d))
  where
    given_pick : (b : Bool) → tokens_given (pick b (marks c ts) []) ≡ pick b ts []
    given_pick true = given_marks c ts
    given_pick false = refl

log_step : (v : Event) (g : Ghost) (d : ℕ) → tokens_given ((note v g).log d) ≡ tokens_given (g.log d) ++ hand_at v d
unfolding note
log_step (Opens e p w a) g d = sym (append-nil _)
log_step (Puts e p t) g d = sym (append-nil _)
log_step (Starts e k w a ch) g d = sym (append-nil _)
log_step (Tells e ch t) g d = logged g.log (g.mine e) (end_at (node_of_door e) (ToChannel ch)) d (keeps t)
log_step (Takes p l) g d = sym (append-nil _)
log_step (Lands p w hs a k) g d = sym (append-nil _)
log_step (Refuses p q) g d = sym (append-nil _)
log_step (Enters p l x) g d = sym (append-nil _)
log_step (Arrives l m x) g d = sym (append-nil _)
log_step (Hands p a x) g d = logged g.log (hd (g.cells p)).circuit (end_at (node_of_port p) a) d (keeps x)
log_step (Loses p q x) g d = sym (append-nil _)
log_step (Wires l m) g d = sym (append-nil _)

pub log_steps : (vs : List Event) (g : Ghost) (d : ℕ) → tokens_given ((notes vs g).log d) ≡ tokens_given (g.log d) ++ hands_at vs d
log_steps [] g d = sym (append-nil _)
log_steps (v ∷ vs) g d =
    log_steps vs (note v g) d
    ∙ ap (λ (l : List ℕ). l ++ hands_at vs d) (log_step v g d)
    ∙ append_assoc (tokens_given (g.log d)) (hand_at v d) (hands_at vs d)

-- A CIRCUIT THAT GOES INTO A PLACE of its node
-- the event is no handing by port p
abbrev pub Elsewhere : ℕ → Event → Type 0
Elsewhere p (Opens e d w a) = Prim.Unit
Elsewhere p (Puts e d t) = Prim.Unit
Elsewhere p (Starts e k w a ch) = Prim.Unit
Elsewhere p (Tells e ch t) = Prim.Unit
Elsewhere p (Takes q l) = Prim.Unit
Elsewhere p (Lands q w hs a k) = Prim.Unit
Elsewhere p (Refuses q x) = Prim.Unit
Elsewhere p (Enters q l x) = Prim.Unit
Elsewhere p (Arrives l m x) = Prim.Unit
Elsewhere p (Hands q a x) = p ≡ q → ⊥
Elsewhere p (Loses q x t) = Prim.Unit
Elsewhere p (Wires l m) = Prim.Unit

-- port p's circuit, c, goes into the place a
pub record Into-place (n : Moving) (g : Ghost) (p : ℕ) (a : Place) (c i : ℕ) : Type 0 where
  pub out : n.out p ≡ Into a
  pub front : g.front p ≡ At c i

-- .. and still does, with as much handed
pub record Stays (n n' : Moving) (g g' : Ghost) (p : ℕ) (a : Place) (c i : ℕ) : Type 0 where
  pub into : Into-place n' g' p a c i
  pub handed : g'.handed c ≡ g.handed c

module _ (link : ℕ → Bool) (n : Moving) (g : Ghost) (iv : Inv link n g) (p : ℕ) (a : Place) (c i : ℕ) (z : Into-place n g p a c i) where
  landed : (k : NodeNumber) × (g.fate c ≡ Landed p k)
  landed =
      let ho : Handing g.stream g.handed g.fate g.info p a (g.front p) = rw z.out at (iv.outs p) in
      let same : At c i ≡ At ho.c ho.i = sym z.front ∙ ho.front in
      (ho.number, ap g.fate (at_same same).0 ∙ ho.to)

  -- another port, whose circuit goes another way
  off : (q : ℕ) (x : Out) → n.out q ≡ x → (x ≡ Into a → ⊥) → p ≡ q → ⊥
  off q x e other same = other (sym e ∙ ap n.out (sym same) ∙ z.out)

  -- a change of another port, and of what another circuit has handed
  module _ (q : ℕ) (x : Out) (f : Cursor) (ne : p ≡ q → ⊥) where
    still_out : alter n.out q x p ≡ Into a
    still_out = alter_miss n.out q x p ne ∙ z.out

    still_front : alter g.front q f p ≡ At c i
    still_front = alter_miss g.front q f p ne ∙ z.front

  pub stay : (v : Event) → Ok link n v → Elsewhere p v → Stays n (effect v n) g (note v g) p a c i
  unfolding effect note
  stay (Opens e d w b) ok other = record { into = record { out = z.out; front = z.front }; handed = refl }
  stay (Puts e d t) ok other = record { into = record { out = z.out; front = z.front }; handed = refl }
  stay (Starts e k w b ch) ok other = record { into = record { out = z.out; front = z.front }; handed = refl }
  stay (Tells e ch t) ok other =
      let (k, here, to) = told_there link n g e ch t iv ok in
      let ne : c ≡ g.mine e → ⊥ = λ q. never (let x : Landed p landed.0 ≡ Here k = sym landed.1 ∙ ap g.fate q ∙ here in cc) in
      record { into = record { out = z.out; front = z.front }; handed = alter_miss g.handed (g.mine e) _ c ne }
  stay (Takes q l) ok other =
      let ne = off q Shut ok.3 (λ e. never (cc)) in
      record { into = record { out = still_out q _ Idle ne; front = still_front q Shut _ ne }; handed = refl }
  stay (Lands q w hs b k) ok other =
      let ne = off q Shut ok.1 (λ e. never (cc)) in
      record { into = record { out = still_out q _ Idle ne; front = still_front q Shut _ ne }; handed = refl }
  stay (Refuses q x) ok other =
      let ne = off q Shut ok.3 (λ e. never (cc)) in
      record { into = record { out = still_out q _ Idle ne; front = still_front q Shut _ ne }; handed = refl }
  stay (Enters q l x) ok other =
      let ne = off q (Via l) ok.2 (λ e. never (cc)) in
      record { into = record { out = still_out q _ Idle ne; front = still_front q Shut _ ne }; handed = refl }
  stay (Arrives l m x) ok other = record { into = record { out = z.out; front = z.front }; handed = refl }
  stay (Hands q b x) ok other =
      let (k, to, there) = handed_there link n g q b x iv ok in
      let ne : c ≡ (hd (g.cells q)).circuit → ⊥ = λ e. other (landed_same (sym landed.1 ∙ ap g.fate e ∙ to)).0 in
      record {
        into = record { out = still_out q _ Idle other; front = still_front q Shut _ other };
        handed = alter_miss g.handed (hd (g.cells q)).circuit _ c ne;
      }
  stay (Loses q x t) ok other =
      let ne = off q (Drops x) ok.2 (λ e. never (cc)) in
      record { into = record { out = still_out q _ Idle ne; front = still_front q Shut _ ne }; handed = refl }
  stay (Wires l m) ok other = record { into = record { out = z.out; front = z.front }; handed = refl }

pub stays : (link : ℕ → Bool) (vs : List Event) (n : Moving) (g : Ghost) → Inv link n g → (p : ℕ) (a : Place) (c i : ℕ)
    → Into-place n g p a c i
    → OkAll link vs n
    → Each (Elsewhere p) vs
    → Stays n (effects vs n) g (notes vs g) p a c i
stays link [] n g iv p a c i z ok other = record { into = z; handed = refl }
stays link (v ∷ vs) n g iv p a c i z ok other =
    let one = stay link n g iv p a c i z v ok.0 other.0 in
    let all = stays link vs (effect v n) (note v g) (keep link v n g iv ok.0) p a c i one.into ok.1 other.1 in
    record { into = all.into; handed = all.handed ∙ one.handed }
