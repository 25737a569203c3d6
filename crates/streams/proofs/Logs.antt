-- What a door was handed, circuit by circuit, is what the circuits handed that landed there, and no others. Assumes nothing.
use Prim.Native.Nat.{ℕ}
use mathlib.Core.Path.{◌≡◌, refl, sym, ◌∙◌}
use mathlib.Core.Bool.{Bool, true, false}
use mathlib.Core.List.{List, [], ◌∷◌, ◌++◌, append-nil}
use native.Mathlib.Decide.{ℕ_discrete}
use native.Mathlib.Nat.{le_refl}
use lib.Dec.{eqb}
use borrow.Author.Tests.{eq-eqb, ne_eqb}
use Rattle.laws.specs.Pick.{pick}
use Rattle.streams.specs.Model.{keeps, ToChannel, place_of, node_of_port, node_of_door, end_at, Moving, Fate, Flying, Lost, Landed, Here}
use Rattle.streams.specs.Model.{Info, Given, alter, hd, push_all, marks}
use Rattle.streams.specs.Events.{Event, Opens, Puts, Starts, Tells, Takes, Lands, Refuses, Enters, Arrives, Hands, Loses, Wires}
use Rattle.streams.specs.Events.{Ghost, effect, note, notes, new_ghost, Ok, OkAll}
use Rattle.streams.specs.Demand.{of, share}
use Rattle.streams.proofs.Basics.{alter_same, alter_miss}
use Rattle.streams.proofs.Inv.{Local, Inv}
use Rattle.streams.proofs.Theorem.{keep, faithful}
use Rattle.streams.proofs.Places.{handed_there, landing_flies, refusing_flies}

-- LOGS
of_append : (c : ℕ) (xs ys : List Given) → of c (xs ++ ys) ≡ of c xs ++ of c ys
of_append c [] ys = refl
of_append c (x ∷ xs) ys =
    elim (ℕ_discrete x.circuit c) [
      | yes e ↦ rw (eq-eqb x.circuit c e, of_append c xs ys)
      | no ne ↦ rw (ne_eqb x.circuit c ne, of_append c xs ys)
    ]

of_mine : (c : ℕ) (ts : List ℕ) → of c (marks c ts) ≡ ts
of_mine c [] = refl
of_mine c (t ∷ ts) = rw (eq-eqb c c refl, of_mine c ts)

of_not : (c c' : ℕ) (ts : List ℕ) → (c ≡ c' → ⊥) → of c' (marks c ts) ≡ []
of_not c c' [] ne = refl
of_not c c' (t ∷ ts) ne = rw (ne_eqb c c' ne, of_not c c' ts ne)

share_none : (d : ℕ) (o : Info) (f : Fate) → share d o f [] ≡ []
share_none d o f = go f
  where
    none : (b : Bool) → ◌≡◌ {A = List ℕ} (pick b [] []) []
    none true = refl
    none false = refl

    go : (f : Fate) → share d o f [] ≡ []
    go Flying = refl
    go (Lost q) = refl
    go (Landed p k) = none (eqb (end_at (node_of_port p) (place_of o.dest)) d)
    go (Here k) = none (eqb (end_at (node_of_door o.sender) (place_of o.dest)) d)

-- every door has its share of every circuit
abbrev pub Logged : (ℕ → Info) → (ℕ → Fate) → (ℕ → List ℕ) → (ℕ → List Given) → Type 0
Logged info fate handed log = (c d : ℕ) → of c (log d) ≡ share d (info c) (fate c) (handed c)

module _ (info : ℕ → Info) (fate : ℕ → Fate) (handed : ℕ → List ℕ) (log : ℕ → List Given) (ok : Logged info fate handed log) where
  nothing_yet : (c d : ℕ) → fate c ≡ Flying → of c (log d) ≡ []
  nothing_yet c d fl = rw fl at (ok c d)

  new_info : (c₀ : ℕ) (o : Info) → fate c₀ ≡ Flying → Logged (alter info c₀ o) fate handed log
  new_info c₀ o fl c d =
      elim (ℕ_discrete c c₀) [
        | yes e ↦ rw (e, fl) (nothing_yet c₀ d fl)
        | no ne ↦ rw (alter_miss info c₀ o c ne) (ok c d)
      ]

  new_fate : (c₀ : ℕ) (f : Fate) → fate c₀ ≡ Flying → handed c₀ ≡ [] → Logged info (alter fate c₀ f) handed log
  new_fate c₀ f fl none c d =
      elim (ℕ_discrete c c₀) [
        | yes e ↦ rw (e, alter_same fate c₀ f, none) (nothing_yet c₀ d fl ∙ sym (share_none d (info c₀) f))
        | no ne ↦ rw (alter_miss fate c₀ f c ne) (ok c d)
      ]

  -- the circuit c₀ hands ts at its door d₀
  grow : (c₀ d₀ : ℕ) (ts : List ℕ) → ((d : ℕ) (h : List ℕ) → share d (info c₀) (fate c₀) h ≡ pick (eqb d₀ d) h [])
      → Logged info fate (alter handed c₀ (handed c₀ ++ ts)) (push_all log d₀ (marks c₀ ts))
  grow c₀ d₀ ts sh c d =
      let h = handed c₀ in
      let new = log d₀ ++ marks c₀ ts in
      let hit-log = alter_same log d₀ new in
      let hit = alter_same handed c₀ (h ++ ts) in
      elim (ℕ_discrete c c₀) [
        | yes e ↦ elim (ℕ_discrete d d₀) [
          | yes q ↦
              rw (
                e,
                q,
                hit-log,
                hit,
                of_append c₀ (log d₀) (marks c₀ ts),
                of_mine c₀ ts,
                ok c₀ d₀,
                sh d₀ h,
                sh d₀ (h ++ ts),
                eq-eqb d₀ d₀ refl,
              )
          | no nq ↦ rw (e, alter_miss log d₀ new d nq, hit, ok c₀ d, sh d h, sh d (h ++ ts), ne_eqb d₀ d (λ z. nq (sym z)))
        ]
        | no ne ↦ elim (ℕ_discrete d d₀) [
          | yes q ↦
              rw (
                q,
                hit-log,
                alter_miss handed c₀ (h ++ ts) c ne,
                of_append c (log d₀) (marks c₀ ts),
                of_not c₀ c ts (λ z. ne (sym z)),
                append-nil (of c (log d₀)),
              )
              (ok c d₀)
          | no nq ↦ rw (alter_miss log d₀ new d nq, alter_miss handed c₀ (h ++ ts) c ne) (ok c d)
        ]
      ]

-- EVENTS
abbrev pub LoggedIn : Ghost → Type 0
LoggedIn g = Logged g.info g.fate g.handed g.log

module _ (link : ℕ → Bool) where
  keep_log : (v : Event) (n : Moving) (g : Ghost) → Inv link n g → Ok link n v → LoggedIn g → LoggedIn (note v g)
  unfolding note
  keep_log (Opens e d w a) n g iv ok l =
      new_info g.info g.fate g.handed g.log l g.now _ (iv.unborn g.now (le_refl _)).no_fate
  keep_log (Puts e d t) n g iv ok l = l
  keep_log (Starts e k w a ch) n g iv ok l =
      let u = iv.unborn g.now (le_refl _) in
      let o : Info = record { sender = e; dest = a; width = w; skip = 0 } in
      let opened = new_info g.info g.fate g.handed g.log l g.now o u.no_fate in
      new_fate (alter g.info g.now o) g.fate g.handed g.log opened g.now (Here k) u.no_fate u.no_handed
  keep_log (Tells e ch t) n g iv eb l =
      let lo : Local ch (g.mine e) e g.fate g.info g.now = rw eb at (iv.send e) in
      grow g.info g.fate g.handed g.log l (g.mine e) (end_at (node_of_door e) (ToChannel ch)) (keeps t)
      (λ d h. rw (lo.at_home, lo.own.owned, lo.place))
  keep_log (Takes p k) n g iv ok l = l
  keep_log (Lands p w hs a k) n g iv ok l =
      let c = (hd (g.cells p)).circuit in
      let fl = landing_flies link n g p w hs a k iv ok in
      new_fate g.info g.fate g.handed g.log l c (Landed p k) fl ((faithful link n g iv c).not_yet fl)
  keep_log (Refuses p q) n g iv ok l =
      let c = (hd (g.cells p)).circuit in
      let fl = refusing_flies link n g p q iv ok in
      new_fate g.info g.fate g.handed g.log l c (Lost q) fl ((faithful link n g iv c).not_yet fl)
  keep_log (Enters p k x) n g iv ok l = l
  keep_log (Arrives k m x) n g iv ok l = l
  keep_log (Hands p a x) n g iv ok l =
      let (v, fa, there) = handed_there link n g p a x iv ok in
      grow g.info g.fate g.handed g.log l (hd (g.cells p)).circuit (end_at (node_of_port p) a) (keeps x) (λ d h. rw (fa, there))
  keep_log (Loses p q x) n g iv ok l = l
  keep_log (Wires k m) n g iv ok l = l

  pub keep_logs : (vs : List Event) (n : Moving) (g : Ghost) → Inv link n g → OkAll link vs n → LoggedIn g → LoggedIn (notes vs g)
  keep_logs [] n g iv ok l = l
  keep_logs (v ∷ vs) n g iv ok l =
      keep_logs vs (effect v n) (note v g) (keep link v n g iv ok.0) ok.1 (keep_log v n g iv ok.0 l)

pub start_log : LoggedIn new_ghost
unfolding new_ghost
start_log c d = refl
