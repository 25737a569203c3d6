-- What senders do and what wiring does keeps the invariant: a circuit is opened through a port or within a node, a token is put out in
-- either, two links are joined by a cable. Assumes nothing.
use Prim.{tt}
use Prim.Native.Nat.{ℕ, suc}
use mathlib.Core.Path.{◌≡◌, refl, sym, ap, ◌∙◌}
use mathlib.Core.Bool.{Bool}
use mathlib.Core.List.{[], ◌∷◌, ◌++◌, append-nil}
use native.Mathlib.Decide.{ℕ_discrete}
use native.Mathlib.Nat.{le_refl}
use native.Mathlib.Numerals.{add-one}
use native.Mathlib.Omega.{arith}
use lib.ListN.{length, length-append}
use lib.Seq.{get_or-append_seam}
use Rattle.laws.specs.Pick.{pick}
use Rattle.laws.proofs.Order.{by_test, never, clash}
use Rattle.names.specs.declared.NodeNumber.{NodeNumber}
use Rattle.tokens.specs.Word.{closes}
use Rattle.tokens.specs.declared.header.Width.{Width}
use Rattle.tokens.specs.declared.header.Target.{Target}
use Rattle.plans.specs.Plan.{size_of}
use Rattle.streams.specs.Model.{keeps, encode, Use, Nobody, By, Closed, Through, Direct, Moving, Cell, Here, Info, alter}
use Rattle.streams.specs.Events.{Opens, Puts, Starts, Tells, Wires, Idle, At, Ghost, next, effect, note, Ok}
use Rattle.streams.proofs.Basics.{alter_hit, alter_same, alter_miss, at_or, by_same, through_same, nobody_by, Good, Grows, grows_upd}
use Rattle.streams.proofs.Basics.{head_to_stay, heads_push, heads_push_all}
use Rattle.streams.proofs.Headers.{size_pos, encoded, no_pause_snoc}
use Rattle.streams.proofs.Inv.{PortOK, Open, Local, Told, Inv, port_grow, pushes, pushes_all, circ_grow, circ_later, out_keep}
use Rattle.streams.proofs.Inv.{out_grow}
use Rattle.streams.proofs.Keep.{apart, circ_same, send_same, out_fate}

module _ (link : ℕ → Bool) (n : Moving) (g : Ghost) (iv : Inv link n g) where
  pub keep_puts : (e d t : ℕ) → Ok link n (Puts e d t) → Inv link (effect (Puts e d t) n) (note (Puts e d t) g)
  unfolding effect note
  keep_puts e d t eb =
      let c = g.mine e in
      let st = g.stream in
      let longer = st c ++ (t ∷ []) in
      let st' = alter st c longer in
      let gr : Grows st st' = grows_upd st c (t ∷ []) in
      let y : Cell = record { token = t; circuit = c; pos = length (st c) } in
      let busy = pick (closes t) Closed (Through d) in
      let held = pick (closes t) Nobody (By e) in
      let op : Open g.back link g.holder d c e st g.info g.now = rw eb at (iv.send e) in
      let begun = op.begun in
      let st-c : st' c ≡ longer = alter_same st c longer in
      let gd : Good st' y =
      record { inside = rw (st-c, length-append) (omega arith); value = rw (st-c, get_or-append_seam (st c) t [] 0) } in
      let not_local : (k : NodeNumber) → g.fate c ≡ Here k → ⊥ = λ k z.
      let told : (g.loc c ≡ 0) × Told (st c) (g.handed c) (g.info c) k = rw z at (iv.circs c) in
      let none = told.1.skips in
      let some = op.skips in
      omega arith in
      record {
        ports = pushes st' n.queue g.cells g.front g.back
            (λ j. port_grow st st' gr (n.queue j) (g.cells j) (g.front j) (g.back j) (iv.ports j)) d y t refl
            (rw op.next_place (refl, refl)) gd;
        cabled = iv.cabled;
        lines = λ l m z. rw (alter_miss g.back d (next y) m (λ q. clash (sym (iv.cabled l m z).1 ∙ ap link q ∙ op.tile)))
            (port_grow st st' gr (n.line l) (g.on l) (g.back m) (g.tail l) (iv.lines l m z));
        unlined = iv.unlined;
        fed = iv.fed;
        unfed = λ m lk cn. alter_miss _ _ _ m (λ q. clash (sym lk ∙ ap link q ∙ op.tile)) ∙ iv.unfed m lk cn;
        unsent = iv.unsent;
        tiles = at_or _ d
            (simp alter_same (by_test (closes t) (λ q. rw q (λ lk hn. refl)) (λ q. rw q (λ lk hn. never (cc)))))
            (λ j ne. simp alter_miss (iv.tiles j));
        doors = λ d' e' z. elim (ℕ_discrete d' d) [
          | yes q ↦
              let z' = sym (alter_hit g.holder d held d' q) ∙ z in
              by_test (closes t)
              (λ s. never (cc))
              (λ s. alter_hit _ _ _ _ (sym (by_same (rw s at z'))) ∙ rw s (ap Through (sym q)))
          | no ne ↦
              let b = iv.doors d' e' (sym (alter_miss g.holder d held d' ne) ∙ z) in
              alter_miss _ _ _ _ (λ q. ne (through_same (sym b ∙ ap n.busy q ∙ eb))) ∙ b
        ];
        used = iv.used;
        send = at_or _ e
            (simp alter_same (by_test (closes t)
            (λ q. rw q tt)
            (λ q. rw q (record {
              own = op.own;
              next_place = alter_same _ _ _ ∙ rw (st-c, length-append, add-one);
              begun = rw (st-c, length-append) (omega arith);
              skips = op.skips;
              tile = op.tile;
              held = alter_same _ _ _;
            }))))
            (λ j ne. rw (alter_miss n.busy e busy j ne)
            (send_same link n g iv _ _ st' g.fate g.info g.now j (le_refl _)
            (λ ow. (alter_miss _ _ _ _ (apart link n g iv e j c (g.mine j) op.own ow ne), refl, λ k z. refl))
            (λ d' od lk hl.
            let nd : d' ≡ d → ⊥ = λ q. ne (by_same (sym hl ∙ ap g.holder q ∙ op.held)) in
            (alter_miss _ _ _ d' nd, alter_miss _ _ _ d' nd))));
        head = rw (head_to_stay (suc d) y g.loc (λ z. omega arith)) at
            (heads_push g.cells g.loc iv.head d y (λ z. absurd (omega arith)));
        road = iv.road;
        ways = iv.ways;
        outs = λ p. out_grow st st' g.handed g.fate g.info g.info p (n.out p) (g.front p) gr (λ c v z. refl) (iv.outs p);
        circs = at_or _ c
            (rw st-c (circ_grow n.out g.front (st c) (g.handed c) (g.loc c) (g.info c) g.now c (t ∷ []) (g.fate c) not_local
            (iv.circs c)))
            (λ c' ne. rw (alter_miss st c longer c' ne) (iv.circs c'));
        unborn = λ c' le.
            let u = iv.unborn c' le in
            let kn = op.own.known in
            let same = alter_miss st c longer c' (λ m. omega arith) in
            record { no_stream = same ∙ u.no_stream; no_handed = u.no_handed; no_place = u.no_place; no_fate = u.no_fate };
      }

  pub keep_tells : (e ch t : ℕ) → Ok link n (Tells e ch t) → Inv link (effect (Tells e ch t) n) (note (Tells e ch t) g)
  unfolding effect note
  keep_tells e ch t eb =
      let c = g.mine e in
      let st = g.stream in
      let longer = st c ++ (t ∷ []) in
      let more = g.handed c ++ keeps t in
      let st' = alter st c longer in
      let handed' = alter g.handed c more in
      let gr : Grows st st' = grows_upd st c (t ∷ []) in
      let lo : Local ch c e g.fate g.info g.now = rw eb at (iv.send e) in
      let home = lo.at_home in
      let old : (g.loc c ≡ 0) × Told (st c) (g.handed c) (g.info c) lo.number = rw home at (iv.circs c) in
      let told = old.1 in
      record {
        ports = λ j. port_grow st st' gr (n.queue j) (g.cells j) (g.front j) (g.back j) (iv.ports j);
        cabled = iv.cabled;
        lines = λ l m z. port_grow st st' gr (n.line l) (g.on l) (g.back m) (g.tail l) (iv.lines l m z);
        unlined = iv.unlined;
        fed = iv.fed;
        unfed = iv.unfed;
        unsent = iv.unsent;
        tiles = iv.tiles;
        doors = λ d e' z. let b = iv.doors d e' z in alter_miss _ _ _ _ (λ q. never (cc)) ∙ b;
        used = iv.used;
        send = at_or _ e
            (simp alter_same (by_test (closes t)
            (λ q. rw q tt)
            (λ q. rw q (record { own = lo.own; number = lo.number; at_home = home; place = lo.place }))))
            (λ j ne. rw (alter_miss n.busy e (pick (closes t) Closed (Direct ch)) j ne)
            (send_same link n g iv g.holder g.back st' g.fate g.info g.now j (le_refl _)
            (λ ow. (alter_miss _ _ _ _ (apart link n g iv e j c (g.mine j) lo.own ow ne), refl, λ k z. refl))
            (λ d od lk hl. (refl, refl))));
        head = iv.head;
        road = iv.road;
        ways = iv.ways;
        outs = λ p. out_grow st st' handed' g.fate g.info g.info p (n.out p) (g.front p) gr (λ c v z. refl)
            (out_keep st g.handed handed' g.fate g.fate g.info p (n.out p) (g.front p)
            (λ c' v fc. (refl, alter_miss _ _ _ c' (λ m. never (cc))))
            (λ c' q fc. refl)
            (iv.outs p));
        circs = at_or _ c
            (rw home (
              old.0,
              record {
                all = simp alter_same (rw (no_pause_snoc (st c) t, told.all));
                skips = told.skips;
                names = told.names;
              },
            ))
            (λ c' ne. rw (alter_miss st c longer c' ne, alter_miss g.handed c more c' ne) (iv.circs c'));
        unborn = λ c' le.
            let u = iv.unborn c' le in
            let kn = lo.own.known in
            let ne : c' ≡ c → ⊥ = λ m. omega arith in
            record {
              no_stream = alter_miss _ _ _ c' ne ∙ u.no_stream;
              no_handed = alter_miss _ _ _ c' ne ∙ u.no_handed;
              no_place = u.no_place;
              no_fate = u.no_fate;
            };
      }

  pub keep_starts : (e : ℕ) (k : NodeNumber) (w : Width) (a : Target) (ch : ℕ) → Ok link n (Starts e k w a ch)
      → Inv link (effect (Starts e k w a ch) n) (note (Starts e k w a ch) g)
  unfolding effect note
  keep_starts e k w a ch (eb, pl, nu) =
      let c = g.now in
      let st = g.stream in
      let home = Here k in
      let o : Info = record { sender = e; dest = a; width = w; skip = 0 } in
      let u = iv.unborn c (le_refl c) in
      let uf = u.no_fate in
      let told : Told (st c) (g.handed c) o k =
      record { all = rw u.no_stream u.no_handed; skips = refl; names = nu } in
      record {
        ports = iv.ports;
        cabled = iv.cabled;
        lines = iv.lines;
        unlined = iv.unlined;
        fed = iv.fed;
        unfed = iv.unfed;
        unsent = iv.unsent;
        tiles = iv.tiles;
        doors = λ d e' z. let b = iv.doors d e' z in alter_miss _ _ _ _ (λ q. never (cc)) ∙ b;
        used = iv.used;
        send = at_or _ e
            (simp alter_same (record {
              own = record { owned = simp alter_same; known = le_refl _ };
              number = k;
              at_home = alter_same _ _ _;
              place = rw (alter_same g.info c o) pl;
            }))
            (λ j ne. rw (alter_miss n.busy e (Direct ch) j ne, alter_miss g.mine e c j ne)
            (send_same link n g iv g.holder g.back st _ _ (suc g.now) j (omega arith)
            (λ ow.
            let kn = ow.known in
            let d : g.mine j ≡ c → ⊥ = λ m. omega arith in
            (refl, alter_miss _ _ _ _ d, λ k z. alter_miss _ _ _ _ d))
            (λ d od lk hl. (refl, refl))));
        head = iv.head;
        road = iv.road;
        ways = λ c' h.
            let u = iv.ways c' h in
            let kn = u.known in
            let still = alter_miss g.fate c home c' (λ m. omega arith) in
            record { no_port = u.no_port; no_fate = still ∙ u.no_fate; known = omega arith };
        outs = λ p. out_grow st st g.handed (alter g.fate c home) g.info (alter g.info c o) p (n.out p) (g.front p)
            (λ c'. ([], sym (append-nil (st c'))))
            (λ c' v fc. alter_miss _ _ _ c' (λ m. let x = sym (alter_hit g.fate c home c' m) ∙ fc in never (cc)))
            (out_fate link n g iv c home uf p);
        circs = at_or _ c
            (rw (alter_same g.fate c home, alter_same g.info c o) (u.no_place, told))
            (λ c' ne. rw (alter_miss g.fate c home c' ne)
            (circ_later n.out g.front (st c') (g.handed c') (g.loc c') (g.info c') c c' _ (g.fate c') ne (alter_miss _ _ _ c' ne)
            (iv.circs c')));
        unborn = λ c' le.
            let v = iv.unborn c' (omega arith) in
            let still = alter_miss g.fate c home c' (λ m. omega arith) in
            record { no_stream = v.no_stream; no_handed = v.no_handed; no_place = v.no_place; no_fate = still ∙ v.no_fate };
      }

  unheld : (u : Use) → ((j : ℕ) → u ≡ By j → ⊥) → u ≡ Nobody
  unheld Nobody h = refl
  unheld (By j) h = absurd (h j refl)

  pub keep_opens : (e d : ℕ) (w : Width) (a : Target) → Ok link n (Opens e d w a)
      → Inv link (effect (Opens e d w a) n) (note (Opens e d w a) g)
  unfolding effect note
  keep_opens e d w a (eb, lk, free, carried) =
      let eh : g.holder d ≡ Nobody = unheld (g.holder d) (λ j z. free j (iv.doors d j z)) in
      let c = g.now in
      let st = g.stream in
      let hs = encode w a in
      let st' = alter st c hs in
      let o : Info = record { sender = e; dest = a; width = w; skip = size_of w } in
      let u = iv.unborn c (le_refl c) in
      let uf = u.no_fate in
      let gr : Grows st st' = rw u.no_stream at (grows_upd st c hs) in
      let bk : g.back d ≡ Idle = iv.tiles d lk eh in
      let st-c : st' c ≡ hs = alter_same st c hs in
      let en = encoded w a carried in
      let pushed = pushes_all st' n.queue g.cells g.front g.back
      (λ j. port_grow st st' gr (n.queue j) (g.cells j) (g.front j) (g.back j) (iv.ports j))
      d c hs en.t en.ts [] en.is bk (st-c ∙ sym (append-nil hs)) en.plain in
      record {
        ports = rw en.size at pushed;
        cabled = iv.cabled;
        lines = λ l m z. rw (alter_miss g.back d (At c (size_of w)) m (λ q. clash (sym (iv.cabled l m z).1 ∙ ap link q ∙ lk)))
            (port_grow st st' gr (n.line l) (g.on l) (g.back m) (g.tail l) (iv.lines l m z));
        unlined = iv.unlined;
        fed = iv.fed;
        unfed = λ m lm cn. alter_miss _ _ _ m (λ q. clash (sym lm ∙ ap link q ∙ lk)) ∙ iv.unfed m lm cn;
        unsent = iv.unsent;
        tiles = at_or _ d
            (λ lk hn. let z = sym (alter_same g.holder d (By e)) ∙ hn in never (cc))
            (λ j ne. simp alter_miss (iv.tiles j));
        doors = λ d' e' z. elim (ℕ_discrete d' d) [
          | yes q ↦
              let v : By e ≡ By e' = sym (alter_hit g.holder d (By e) d' q) ∙ z in
              alter_hit _ _ _ _ (sym (by_same v)) ∙ ap Through (sym q)
          | no ne ↦
              let b = iv.doors d' e' (sym (alter_miss g.holder d (By e) d' ne) ∙ z) in
              alter_miss _ _ _ _ (λ q. never (cc)) ∙ b
        ];
        used = iv.used;
        send = at_or _ e
            (simp alter_same (record {
              own = record { owned = simp alter_same; known = le_refl _ };
              next_place = alter_same _ _ _ ∙ rw (st-c, en.size);
              begun = rw (st-c, en.size) (size_pos w);
              skips = rw (alter_same g.info c o) (size_pos w);
              tile = lk;
              held = alter_same _ _ _;
            }))
            (λ j ne. rw (alter_miss n.busy e (Through d) j ne, alter_miss g.mine e c j ne)
            (send_same link n g iv _ _ st' g.fate _ (suc g.now) j (omega arith)
            (λ ow.
            let kn = ow.known in
            let d : g.mine j ≡ c → ⊥ = λ m. omega arith in
            (alter_miss _ _ _ _ d, alter_miss _ _ _ _ d, λ k z. refl))
            (λ d' od lk hl.
            let nd : d' ≡ d → ⊥ = λ q. nobody_by (sym eh ∙ ap g.holder (sym q) ∙ hl) in
            (alter_miss _ _ _ d' nd, alter_miss _ _ _ d' nd))));
        head = heads_push_all g.cells g.loc d c hs en.t en.ts en.is u.no_place iv.head;
        road = iv.road;
        ways = λ c' h.
            let u = iv.ways c' h in
            let kn = u.known in
            let still = alter_miss g.loc c (suc d) c' (λ m. omega arith) in
            record { no_port = still ∙ u.no_port; no_fate = u.no_fate; known = omega arith };
        outs = λ p. out_grow st st' g.handed g.fate g.info (alter g.info c o) p (n.out p) (g.front p) gr
            (λ c' v fc. alter_miss _ _ _ c' (λ m. never (cc)))
            (iv.outs p);
        circs = at_or _ c
            (rw (uf, st-c, alter_same g.info c o)
            (u.no_handed, λ le. record { more = []; is = sym (append-nil (encode w a)); skips = refl; carried = carried }))
            (λ c' ne. rw (alter_miss st c hs c' ne)
            (circ_later n.out g.front (st c') (g.handed c') _ (g.info c') c c' _ (g.fate c') ne (alter_miss _ _ _ c' ne)
            (circ_same link n g iv n.out g.front c' _ (alter_miss _ _ _ c' ne) (λ p q d f0. (refl, refl)))));
        unborn = λ c' le.
            let v = iv.unborn c' (omega arith) in
            let ne : c' ≡ c → ⊥ = λ m. omega arith in
            record {
              no_stream = alter_miss _ _ _ c' ne ∙ v.no_stream;
              no_handed = v.no_handed;
              no_place = alter_miss _ _ _ c' ne ∙ v.no_place;
              no_fate = v.no_fate;
            };
      }

-- what a table of cables says after a wiring
data Wired (cable : ℕ → Use) (l m a b : ℕ) : Type 0 where
  there : a ≡ l → b ≡ m → Wired cable l m a b
  back_again : a ≡ m → b ≡ l → Wired cable l m a b
  as_before : (a ≡ l → ⊥) → (a ≡ m → ⊥) → cable a ≡ By b → Wired cable l m a b

module _ (cable : ℕ → Use) (l m a : ℕ) where
  wired : (b : ℕ) → alter (alter cable l (By m)) m (By l) a ≡ By b → Wired cable l m a b
  wired b z =
      elim (ℕ_discrete a m) [
        | yes e ↦ let q = sym (alter_hit (alter cable l (By m)) m (By l) a e) ∙ z in back_again e (sym (by_same q))
        | no nm ↦
            let z' = sym (alter_miss (alter cable l (By m)) m (By l) a nm) ∙ z in
            elim (ℕ_discrete a l) [
              | yes e ↦ let q = sym (alter_hit cable l (By m) a e) ∙ z' in there e (sym (by_same q))
              | no nl ↦ as_before nl nm (sym (alter_miss cable l (By m) a nl) ∙ z')
            ]
      ]

  -- what has none yet had none before
  unwired : alter (alter cable l (By m)) m (By l) a ≡ Nobody → cable a ≡ Nobody
  unwired z =
      elim (ℕ_discrete a m) [
        | yes e ↦ let w = sym (alter_hit (alter cable l (By m)) m (By l) a e) ∙ z in never (cc)
        | no nm ↦
            let z' = sym (alter_miss (alter cable l (By m)) m (By l) a nm) ∙ z in
            elim (ℕ_discrete a l) [
              | yes e ↦ let w = sym (alter_hit cable l (By m) a e) ∙ z' in never (cc)
              | no nl ↦ sym (alter_miss cable l (By m) a nl) ∙ z'
            ]
      ]

module _ (link : ℕ → Bool) (n : Moving) (g : Ghost) (iv : Inv link n g) where
  pub keep_wires : (l m : ℕ) → Ok link n (Wires l m) → Inv link (effect (Wires l m) n) (note (Wires l m) g)
  unfolding effect note
  keep_wires l m (lm, ll, lk, cl, cm) =
      let cable' = alter (alter n.cable l (By m)) m (By l) in
      let at-m : cable' m ≡ By l = alter_same _ _ _ in
      let at-l : cable' l ≡ By m = alter_miss _ _ _ _ lm ∙ alter_same _ _ _ in
      let bl : g.back l ≡ Idle = iv.unfed l ll cl in
      let bm : g.back m ≡ Idle = iv.unfed m lk cm in
      let tail-l : g.tail l ≡ Idle = iv.unsent l cl in
      let tail-m : g.tail m ≡ Idle = iv.unsent m cm in
      let new_line : (a b : ℕ) → n.cable a ≡ Nobody → g.back b ≡ g.tail a
      → PortOK g.stream (n.line a) (g.on a) (g.back b) (g.tail a) = λ a b ca e.
      let (no_tokens, no_cells) = iv.unlined a ca in
      rw (no_tokens, no_cells) (record { tokens = refl; chain = e }) in
      record {
        ports = iv.ports;
        cabled = λ a b z. elim (wired n.cable l m a b z) [
          | there ea eb ↦ (rw (ea, eb) at-m, rw eb lk)
          | back_again ea eb ↦ (rw (ea, eb) at-l, rw eb ll)
          | as_before na nb old ↦
              let w = iv.cabled a b old in
              let off : (k : ℕ) → n.cable k ≡ Nobody → b ≡ k → ⊥ = λ k none q. nobody_by (sym none ∙ ap n.cable (sym q) ∙ w.0) in
              (alter_miss _ _ _ _ (off m cm) ∙ alter_miss _ _ _ _ (off l cl) ∙ w.0, w.1)
        ];
        lines = λ a b z. elim (wired n.cable l m a b z) [
          | there ea eb ↦ rw (ea, eb) (new_line l m cl (bm ∙ sym tail-l))
          | back_again ea eb ↦ rw (ea, eb) (new_line m l cm (bl ∙ sym tail-m))
          | as_before na nb old ↦ iv.lines a b old
        ];
        unlined = λ a z. iv.unlined a (unwired n.cable l m a z);
        fed = iv.fed;
        unfed = λ b lb z. iv.unfed b lb (unwired n.cable l m b z);
        unsent = λ b z. iv.unsent b (unwired n.cable l m b z);
        tiles = iv.tiles;
        doors = iv.doors;
        used = iv.used;
        send = iv.send;
        head = iv.head;
        road = iv.road;
        ways = iv.ways;
        outs = iv.outs;
        circs = iv.circs;
        unborn = iv.unborn;
      }
