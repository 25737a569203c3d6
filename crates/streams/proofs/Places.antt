-- A circuit is handed at one place only: every handing is at the node that its fate names and at the place that its destination names, and
-- a fate once given stays. Assumes nothing.
use Prim.Native.Nat.{ℕ}
use mathlib.Core.Path.{◌≡◌, refl, ap, ◌∙◌}
use mathlib.Core.Bool.{Bool}
use mathlib.Core.List.{List, [], ◌∷◌, ◌++◌}
use native.Mathlib.Nat.{le_refl}
use native.Mathlib.Omega.{arith}
use Rattle.names.specs.declared.NodeNumber.{NodeNumber}
use Rattle.circuits.specs.declared.Cause.{Cause}
use Rattle.tokens.specs.declared.header.Width.{Width}
use Rattle.streams.specs.Model.{Place, ToChannel, place_of, Moving, Flying, Landed, Here, hd}
use Rattle.streams.specs.Events.{Event, Opens, Puts, Starts, Tells, Takes, Lands, Refuses, Enters, Arrives, Hands, Loses, Wires, At}
use Rattle.streams.specs.Events.{Ghost, note, Ok}
use Rattle.streams.proofs.Basics.{alter_miss, Fits}
use Rattle.streams.proofs.Headers.{size_pos}
use Rattle.streams.proofs.Inv.{Local, Handing, Inv}
use Rattle.streams.proofs.Keep.{front_at_lem, begins}

module _ (link : ℕ → Bool) where
  pub handed_there : (n : Moving) (g : Ghost) (p : ℕ) (a : Place) (x : ℕ) → Inv link n g → Ok link n (Hands p a x)
      → (k : NodeNumber) × (g.fate (hd (g.cells p)).circuit ≡ Landed p k) × (place_of (g.info (hd (g.cells p)).circuit).dest ≡ a)
  handed_there n g p a x iv (r, eq, eo) =
      let ho : Handing g.stream g.handed g.fate g.info p a (g.front p) = rw eo at (iv.outs p) in
      let ft : Fits (At ho.c ho.i) (hd (g.cells p)) = rw ho.front at (front_at_lem link n g iv p x r eq).fits in
      (ho.number, ap g.fate ft.0 ∙ ho.to, ap (λ (c : ℕ). place_of (g.info c).dest) ft.0 ∙ ho.place)

  pub told_there : (n : Moving) (g : Ghost) (e ch t : ℕ) → Inv link n g → Ok link n (Tells e ch t)
      → (k : NodeNumber) × (g.fate (g.mine e) ≡ Here k) × (place_of (g.info (g.mine e)).dest ≡ ToChannel ch)
  told_there n g e ch t iv eb =
      let lo : Local ch (g.mine e) e g.fate g.info g.now = rw eb at (iv.send e) in
      (lo.number, lo.at_home, lo.place)

  -- the circuit that an event gives a fate was on its way
  pub landing_flies : (n : Moving) (g : Ghost) (p : ℕ) (w : Width) (hs : List ℕ) (a : Place) (k : NodeNumber) → Inv link n g
      → Ok link n (Lands p w hs a k)
      → g.fate (hd (g.cells p)).circuit ≡ Flying
  landing_flies n g p w [] a k iv (h, eo) = absurd (let s = h.size in let t = size_pos w in omega arith)
  landing_flies n g p w (t ∷ ts) a k iv (h, eo) = (begins link n g iv p t (ts ++ h.rest) h.is eo).on_way

  pub refusing_flies : (n : Moving) (g : Ghost) (p : ℕ) (q : Cause) → Inv link n g → Ok link n (Refuses p q)
      → g.fate (hd (g.cells p)).circuit ≡ Flying
  refusing_flies n g p q iv (t, ts, eq, eo) = (begins link n g iv p t ts eq eo).on_way

  -- a fate that is not `Flying` stays
  pub fate_stays : (v : Event) (n : Moving) (g : Ghost) → Inv link n g → Ok link n v → (c : ℕ) → (g.fate c ≡ Flying → ⊥)
      → (note v g).fate c ≡ g.fate c
  unfolding note
  fate_stays (Opens e d w a) n g iv ok c z = refl
  fate_stays (Puts e d t) n g iv ok c z = refl
  fate_stays (Starts e k w a ch) n g iv ok c z =
      alter_miss _ _ _ _ (λ m. z (ap g.fate m ∙ (iv.unborn g.now (le_refl _)).no_fate))
  fate_stays (Tells e ch t) n g iv ok c z = refl
  fate_stays (Takes p l) n g iv ok c z = refl
  fate_stays (Lands p w hs a k) n g iv ok c z = alter_miss _ _ _ _ (λ m. z (ap g.fate m ∙ landing_flies n g p w hs a k iv ok))
  fate_stays (Refuses p q) n g iv ok c z = alter_miss _ _ _ _ (λ m. z (ap g.fate m ∙ refusing_flies n g p q iv ok))
  fate_stays (Enters p l x) n g iv ok c z = refl
  fate_stays (Arrives l m x) n g iv ok c z = refl
  fate_stays (Hands p a x) n g iv ok c z = refl
  fate_stays (Loses p q x) n g iv ok c z = refl
  fate_stays (Wires l m) n g iv ok c z = refl
