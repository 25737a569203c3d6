-- THE SPLIT CLAUSE, of one call and in both directions: a circuit is refused as Split exactly when a switch of the other width read its
-- whole header. Assumes nothing.
use Prim.{Unit}
use Prim.Native.Nat.{ℕ}
use mathlib.Core.Path.{◌≡◌, sym, ◌∙◌}
use mathlib.Core.Bool.{Bool, true, false}
use mathlib.Core.List.{List, [], ◌∷◌}
use native.Mathlib.Decide.{ℕ_discrete}
use Rattle.laws.specs.All.{Each}
use Rattle.laws.specs.Pick.{pick}
use Rattle.laws.proofs.Order.{never, clash}
use Rattle.circuits.specs.declared.Cause.{Cause}
use Rattle.circuits.specs.declared.Cause.TheVariants.{Split, NoRoute}
use Rattle.streams.specs.Model.{Moving, Fate, Flying, Lost, Landed, Here, alter, hd}
use Rattle.streams.specs.Events.{Event, Opens, Puts, Starts, Tells, Takes, Lands, Refuses, Enters, Arrives, Hands, Loses, Wires}
use Rattle.streams.specs.Events.{Ghost, effect, note, notes, new_ghost, OkAll}
use Rattle.streams.proofs.Basics.{alter_hit, alter_miss}
use Rattle.streams.proofs.Inv.{Inv}
use Rattle.streams.proofs.Theorem.{keep}
use Rattle.streams.proofs.Machine.{fate_stays_all, Machine}

-- events that refuse no circuit as Split
abbrev pub Mild : Event → Type 0
Mild (Opens e d w a) = Unit
Mild (Puts e d t) = Unit
Mild (Starts e k w a ch) = Unit
Mild (Tells e ch t) = Unit
Mild (Takes p l) = Unit
Mild (Lands p w hs a k) = Unit
Mild (Refuses p Split) = ⊥
Mild (Refuses p NoRoute) = Unit
Mild (Enters p l x) = Unit
Mild (Arrives l m x) = Unit
Mild (Hands p a x) = Unit
Mild (Loses p q x) = Unit
Mild (Wires l m) = Unit

other_fate : (fate : ℕ → Fate) (c c' : ℕ) (f : Fate) → (f ≡ Lost Split → ⊥) → alter fate c f c' ≡ Lost Split → fate c' ≡ Lost Split
other_fate fate c c' f not_so z =
    elim (ℕ_discrete c' c) [
      | yes e ↦ absurd (not_so (sym (alter_hit fate c f c' e) ∙ z))
      | no ne ↦ sym (alter_miss fate c f c' ne) ∙ z
    ]

mild_lost : (v : Event) (g : Ghost) (c : ℕ) → Mild v → (note v g).fate c ≡ Lost Split → g.fate c ≡ Lost Split
unfolding note
mild_lost (Opens e d w a) g c h z = z
mild_lost (Puts e d t) g c h z = z
mild_lost (Starts e k w a ch) g c h z = other_fate g.fate g.now c (Here k) (λ e. never (cc)) z
mild_lost (Tells e ch t) g c h z = z
mild_lost (Takes p l) g c h z = z
mild_lost (Lands p w hs a k) g c h z = other_fate g.fate (hd (g.cells p)).circuit c (Landed p k) (λ e. never (cc)) z
mild_lost (Refuses p Split) g c h z = absurd h
mild_lost (Refuses p NoRoute) g c h z = other_fate g.fate (hd (g.cells p)).circuit c (Lost NoRoute) (λ e. never (cc)) z
mild_lost (Enters p l x) g c h z = z
mild_lost (Arrives l m x) g c h z = z
mild_lost (Hands p a x) g c h z = z
mild_lost (Loses p q x) g c h z = z
mild_lost (Wires l m) g c h z = z

mild_lost_all : (vs : List Event) (g : Ghost) (c : ℕ) → Each Mild vs → (notes vs g).fate c ≡ Lost Split → g.fate c ≡ Lost Split
mild_lost_all [] g c h z = z
mild_lost_all (v ∷ vs) g c h z = mild_lost v g c h.0 (mild_lost_all vs (note v g) c h.1 z)

module _ (g : Ghost) (p c : ℕ) where
  not_refused : (c ≡ (hd (g.cells p)).circuit → ⊥) → (note (Refuses p Split) g).fate c ≡ Lost Split → g.fate c ≡ Lost Split
  unfolding note
  not_refused ne z = sym (alter_miss g.fate (hd (g.cells p)).circuit (Lost Split) c ne) ∙ z

  now_refused : c ≡ (hd (g.cells p)).circuit → (note (Refuses p Split) g).fate c ≡ Lost Split
  unfolding note
  now_refused e = alter_hit _ _ _ c e

-- a call refuses a circuit as Split first of all and at the port p, or not at all
abbrev pub SplitBy : Bool → ℕ → List Event → Type 0
SplitBy true p vs = (ws : List Event) × (vs ≡ Refuses p Split ∷ ws) × Each Mild ws
SplitBy false p vs = Each Mild vs

module _ (link : ℕ → Bool) (m : Machine link) where
  -- where the calls' own rule says that a switch of the other width reads a whole header
  pub record Reading : Type 0 where
    pub misreads : m.State → m.Call → Bool
    pub port_in : m.Call → ℕ
    pub answers : (s : m.State) (c : m.Call) → m.Sane s → m.anew s c ≡ false → SplitBy (misreads s c) (port_in c) (m.events s c)

not_flying : (q : Cause) → Lost q ≡ Flying → ⊥
not_flying q e = never (cc)

-- the table has the circuits that are refused as Split, and no others
abbrev pub Marks : Ghost → (ℕ → Bool) → Type 0
Marks g t = (c : ℕ) → (g.fate c ≡ Lost Split → t c ≡ true) × (t c ≡ true → g.fate c ≡ Lost Split)

pub new_marks : Marks new_ghost (λ c. false)
unfolding new_ghost
new_marks c = (λ z. never (cc), λ z. clash (sym z))

-- ONE CALL, by what its events are
module _ (link : ℕ → Bool) (vs : List Event) (n : Moving) (g : Ghost) (iv : Inv link n g) (ok : OkAll link vs n) (t : ℕ → Bool)
    (marks : Marks g t) where
  still : (c : ℕ) → t c ≡ true → (notes vs g).fate c ≡ Lost Split
  still c z = fate_stays_all link vs n g iv ok c (Lost Split) (not_flying Split) ((marks c).1 z)

  -- the circuit in front of the port is marked, if the call refuses it
  pub marks_call : (b : Bool) (p : ℕ) → SplitBy b p vs → Marks (notes vs g) (pick b (alter t (hd (g.cells p)).circuit true) t)
  marks_call false p mild c = (λ z. (marks c).0 (mild_lost_all vs g c mild z), still c)
  marks_call true p (ws, is, mild) c =
      let v = Refuses p Split in
      let c₀ = (hd (g.cells p)).circuit in
      let ok' : OkAll link (v ∷ ws) n = rw is at ok in
      let iv' = keep link v n g iv ok'.0 in
      elim (ℕ_discrete c c₀) [
        | yes e ↦ (
          λ z. alter_hit t c₀ true c e,
          λ z. rw is (fate_stays_all link ws (effect v n) (note v g) iv' ok'.1 c (Lost Split) (not_flying Split) (now_refused g p c e)),
        )
        | no ne ↦ (
          λ z.
              let was = mild_lost_all ws (note v g) c mild (rw is at z) in
              alter_miss t c₀ true c ne ∙ (marks c).0 (not_refused g p c ne was),
          λ z. still c (sym (alter_miss t c₀ true c ne) ∙ z),
        )
      ]
