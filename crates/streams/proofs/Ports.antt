-- What happens at a port keeps the invariant: a circuit takes a link, lands or is refused; a token goes on to a line, comes off one, is
-- handed or is lost. Assumes nothing.
use Prim.Native.Nat.{ℕ, suc, ◌+◌, ◌≤◌, ◌<◌}
use mathlib.Core.Path.{◌≡◌, refl, sym, ap, ◌∙◌}
use mathlib.Core.Bool.{Bool}
use mathlib.Core.List.{List, [], ◌∷◌, ◌++◌}
use native.Mathlib.Decide.{ℕ_discrete}
use native.Mathlib.Nat.{le_refl}
use native.Mathlib.Omega.{arith}
use lib.ListN.{length, take, drop, get_or}
use lib.Seq.{drop-append_seam, drop-cons}
use Rattle.laws.specs.Pick.{pick}
use Rattle.laws.proofs.Order.{by_test, never, clash}
use Rattle.names.specs.declared.NodeNumber.{NodeNumber}
use Rattle.circuits.specs.declared.Cause.{Cause}
use Rattle.tokens.specs.Word.{closes}
use Rattle.tokens.specs.declared.header.Width.{Width}
use Rattle.plans.specs.Plan.{size_of}
use Rattle.streams.specs.Model.{keeps, body, Place, place_of, Shut, Via, Into, Drops, Nobody, By, Moving, Flying, Lost, Landed, alter}
use Rattle.streams.specs.Model.{hd, tl}
use Rattle.streams.specs.Events.{Takes, Lands, Refuses, Enters, Arrives, Hands, Loses, Idle, At, Ghost, next, head_to, effect, note}
use Rattle.streams.specs.Events.{Ok}
use Rattle.streams.specs.Demand.{Names}
use Rattle.streams.proofs.Basics.{alter_hit, alter_same, alter_miss, alter_all, at_or, via_same}
use Rattle.streams.proofs.Basics.{by_same, at_same, landed_same, nobody_by}
use Rattle.streams.proofs.Basics.{Fits, fits_norm, norm_next, after_closed, after_open, heads, HeadOf, head_or, ind, head_to_hit}
use Rattle.streams.proofs.Basics.{head_to_other, heads_at, heads_pop, heads_push, Ran, run_off}
use Rattle.streams.proofs.Headers.{size_pos, same_header, read_back, body_step, body_none}
use Rattle.streams.proofs.Inv.{FedBy, Riding, Handing, OutBy, CircBy, Inv, front_of_lem, port_push, pops, pushes, refronts}
use Rattle.streams.proofs.Inv.{fed_keep, circ_gone, out_keep}
use Rattle.streams.proofs.Keep.{no_via, front_at_lem, cell_known, cell_born, head_at, flying_at, flying_circ, begins, off_road}
use Rattle.streams.proofs.Keep.{ways_pop, ways_fate, unborn_move, circ_same, send_same, send_fate, out_fate, unborn_fate}
use Rattle.streams.proofs.Keep.{circ_port, fed_away, used_away}

module _ (link : ℕ → Bool) (n : Moving) (g : Ghost) (iv : Inv link n g) where
  pub keep_enters : (p l x : ℕ) → Ok link n (Enters p l x) → Inv link (effect (Enters p l x) n) (note (Enters p l x) g)
  unfolding effect note
  keep_enters p l x (r, eq, eo, (m, ec)) =
      let y = hd (g.cells p) in
      let o = pick (closes x) Shut (Via l) in
      let u = pick (closes x) Nobody (By p) in
      let fr = front_at_lem link n g iv p x r eq in
      let hu = iv.used p l eo in
      let hf : FedBy n.out g.front (g.tail l) l (By p) = rw hu at (iv.fed l) in
      let at_p = head_at link n g iv p x r eq in
      let flying : y.pos ≡ 0 → g.fate y.circuit ≡ Flying = λ z. flying_at link n g iv y.circuit p (at_p z) (λ q d. never (cc)) in
      let comes-next : Fits (g.tail l) y = rw hf.1 (fits_norm (g.front p) y fr.fits) in
      record {
        ports = pops g.stream n.queue g.cells g.front g.back iv.ports p x r eq;
        cabled = iv.cabled;
        lines = at_or _ l
            (λ m' z.
            let pushed = port_push g.stream (n.line l) (g.on l) (g.back m') (g.tail l) y (iv.lines l m' z) comes-next fr.good in
            simp alter_same (rw (← fr.token) pushed))
            (λ l' ne m' z. simp alter_miss (iv.lines l' m' z));
        unlined = at_or _ l (λ z. never (cc)) (λ l' ne z. simp alter_miss (iv.unlined l' z));
        fed = at_or _ l
            (simp alter_same (by_test (closes x)
            (λ e. rw e (after_closed y x fr.token e))
            (λ e. rw e (alter_same _ _ _, simp alter_same (sym (norm_next y))))))
            (λ l' ne. rw (alter_miss g.tail l (next y) l' ne, alter_miss n.user l u l' ne)
            (fed_keep n.out _ g.front _ _ l' (n.user l')
            (λ q z. let d : q ≡ p → ⊥ = λ m. ne (via_same (sym z ∙ ap n.out m ∙ eo)) in (alter_miss _ p _ q d, alter_miss _ p _ q d))
            (iv.fed l')));
        unfed = iv.unfed;
        unsent = at_or _ l (λ z. never (cc)) (λ l' ne z. simp alter_miss (iv.unsent l' z));
        tiles = iv.tiles;
        doors = iv.doors;
        used = λ q l' z.
            elim (ℕ_discrete q p) [
              | yes e ↦
                  let z' = sym (alter_hit n.out p o q e) ∙ z in
                  by_test (closes x)
                  (λ t. never (cc))
                  (λ t. alter_hit _ _ _ _ (sym (via_same (rw t at z'))) ∙ rw t (ap By (sym e)))
              | no ne ↦
                  let was = iv.used q l' (sym (alter_miss n.out p o q ne) ∙ z) in
                  alter_miss _ _ _ _ (λ m. ne (by_same (sym was ∙ ap n.user m ∙ hu))) ∙ was
            ];
        send = iv.send;
        head = heads_pop g.cells g.loc iv.head p y (tl (g.cells p)) fr.is;
        road = heads_push g.on g.way iv.road l y (λ z. off_road link n g iv y.circuit p (at_p z));
        ways = λ c h. head_or c y
            (λ z q.
            record {
              no_port = head_to_hit 0 y g.loc c z q;
              no_fate = rw q at (flying z);
              known = rw q at (cell_born link n g iv y fr.good);
            })
            (λ no-head. ways_pop link n g iv y c (rw (head_to_other (suc l) y g.way c no-head) at h));
        outs = at_or _ p
            (simp alter_same (by_test (closes x)
            (λ e. rw e (after_closed y x fr.token e))
            (λ e. rw e (y.circuit, suc y.pos, after_open y x y.circuit y.pos fr.token e (refl, refl)))))
            (λ j ne. simp alter_miss (iv.outs j));
        circs = λ c. head_or c y
            (λ z q. let fl : g.fate c ≡ Flying = rw q at (flying z) in rw fl (flying_circ link n g iv c fl))
            (λ no-head. circ_port link n g iv p o (next y) c _ (head_to_other 0 y g.loc c no-head) (λ q d f0. never (cc)));
        unborn = unborn_move link n g iv 0 y fr.good;
      }

  pub keep_arrives : (l m x : ℕ) → Ok link n (Arrives l m x) → Inv link (effect (Arrives l m x) n) (note (Arrives l m x) g)
  unfolding effect note
  keep_arrives l m x (r, eq, ec) =
      let y = hd (g.on l) in
      let fr = front_of_lem g.stream (n.line l) (g.on l) (g.back m) (g.tail l) x r (iv.lines l m ec) eq in
      let cb = iv.cabled l m ec in
      let on-road : y.pos ≡ 0 → g.way y.circuit ≡ suc l =
      heads_at g.on g.way iv.road l y (tl (g.on l)) fr.is in
      let rides : y.pos ≡ 0 → Riding (g.loc y.circuit) (g.fate y.circuit) g.now y.circuit = λ z.
      iv.ways y.circuit (let a = on-road z in omega arith) in
      record {
        ports = pushes g.stream n.queue g.cells g.front g.back iv.ports m y x fr.token fr.fits fr.good;
        cabled = iv.cabled;
        lines = at_or _ l
            (λ m' z.
            let same : m' ≡ m = by_same (sym z ∙ ec) in
            rw same (simp alter_same (record { tokens = rw eq fr.tokens; chain = fr.rest })))
            (λ l' ne m' z.
            let mm : m' ≡ m → ⊥ = λ q. ne (by_same (sym (iv.cabled l' m' z).0 ∙ ap n.cable q ∙ cb.0)) in
            rw (alter_miss g.back m (next y) m' mm, alter_miss n.line l (tl (n.line l)) l' ne, alter_miss g.on l (tl (g.on l)) l' ne)
            (iv.lines l' m' z));
        unlined = at_or _ l (λ z. never (cc)) (λ l' ne z. simp alter_miss (iv.unlined l' z));
        fed = iv.fed;
        unfed = λ m' lk cn. alter_miss _ _ _ _ (λ q. nobody_by (sym cn ∙ ap n.cable q ∙ cb.0)) ∙ iv.unfed m' lk cn;
        unsent = iv.unsent;
        tiles = λ d lk hn. alter_miss _ _ _ _ (λ q. clash (sym cb.1 ∙ ap link (sym q) ∙ lk)) ∙ iv.tiles d lk hn;
        doors = iv.doors;
        used = iv.used;
        send = λ e. send_same link n g iv g.holder (alter g.back m (next y)) g.stream g.fate g.info g.now e (le_refl _)
            (λ ow. (refl, refl, λ k z. refl))
            (λ d od lk hl. (alter_miss _ _ _ d (λ q. clash (sym cb.1 ∙ ap link (sym q) ∙ lk)), refl));
        head = heads_push g.cells g.loc iv.head m y (λ z. (rides z).no_port);
        road = heads_pop g.on g.way iv.road l y (tl (g.on l)) fr.is;
        ways = λ c h. head_or c y
            (λ z q. absurd (let w = head_to_hit 0 y g.way c z q in omega arith))
            (λ no-head.
            let u = iv.ways c (rw (head_to_other 0 y g.way c no-head) at h) in
            let stays = head_to_other (suc m) y g.loc c no-head in
            record { no_port = stays ∙ u.no_port; no_fate = u.no_fate; known = u.known });
        outs = iv.outs;
        circs = λ c. head_or c y
            (λ z q. let fl : g.fate c ≡ Flying = rw q at (rides z).no_fate in rw fl (flying_circ link n g iv c fl))
            (λ no-head.
            circ_same link n g iv n.out g.front c _ (head_to_other (suc m) y g.loc c no-head) (λ p q d f0. (refl, refl)));
        unborn = unborn_move link n g iv (suc m) y fr.good;
      }

  pub keep_loses : (p : ℕ) (q : Cause) (x : ℕ) → Ok link n (Loses p q x) → Inv link (effect (Loses p q x) n) (note (Loses p q x) g)
  unfolding effect note
  keep_loses p q x (r, eq, eo) =
      let y = hd (g.cells p) in
      let fr = front_at_lem link n g iv p x r eq in
      let o = pick (closes x) Shut (Drops q) in
      let away : (l : ℕ) → n.out p ≡ Via l → ⊥ = λ l z. never (cc) in
      let ho : OutBy g.stream g.handed g.fate g.info p (Drops q) (g.front p) = rw eo at (iv.outs p) in
      let (c₀, i, ef, ec) = ho in
      let ft : Fits (At c₀ i) y = rw ef at fr.fits in
      record {
        ports = pops g.stream n.queue g.cells g.front g.back iv.ports p x r eq;
        cabled = iv.cabled;
        lines = iv.lines;
        unlined = iv.unlined;
        fed = fed_away link n g iv p o (next y) away;
        unfed = iv.unfed;
        unsent = iv.unsent;
        tiles = iv.tiles;
        doors = iv.doors;
        used = used_away link n g iv p o (next y) away (no_via (closes x) (Drops q) (λ l z. never (cc)));
        send = iv.send;
        head = heads_pop g.cells g.loc iv.head p y (tl (g.cells p)) fr.is;
        road = iv.road;
        ways = ways_pop link n g iv y;
        outs = at_or _ p
            (simp alter_same (by_test (closes x)
            (λ e. rw e (after_closed y x fr.token e))
            (λ e. rw e (c₀, suc i, after_open y x c₀ i fr.token e ft, ec))))
            (λ j ne. simp alter_miss (iv.outs j));
        circs = λ c. head_or c y
            (λ z w.
            let at_p : g.loc c ≡ suc p = rw w at (head_at link n g iv p x r eq z) in
            circ_gone n.out g.front (g.stream c) (g.handed c) (g.loc c) (g.info c) g.now c _ _ _ p (g.fate c) at_p
            (head_to_hit 0 y g.loc c z w) (iv.circs c))
            (λ no-head.
            circ_port link n g iv p o (next y) c _ (head_to_other 0 y g.loc c no-head)
            (λ w d f0. let same = at_same (sym ef ∙ f0) in no-head (ft.1 ∙ same.1, ft.0 ∙ same.0)));
        unborn = unborn_move link n g iv 0 y fr.good;
      }

  pub keep_hands : (p : ℕ) (a : Place) (x : ℕ) → Ok link n (Hands p a x) → Inv link (effect (Hands p a x) n) (note (Hands p a x) g)
  unfolding effect note
  keep_hands p a x (r, eq, eo) =
      let y = hd (g.cells p) in
      let fr = front_at_lem link n g iv p x r eq in
      let o = pick (closes x) Shut (Into a) in
      let away : (l : ℕ) → n.out p ≡ Via l → ⊥ = λ l z. never (cc) in
      let ho : Handing g.stream g.handed g.fate g.info p a (g.front p) = rw eo at (iv.outs p) in
      let c₀ = ho.c in
      let i = ho.i in
      let s = g.stream c₀ in
      let ec = ho.to in
      let ft : Fits (At c₀ i) y = rw ho.front at fr.fits in
      let c-is : y.circuit ≡ c₀ = ft.0 in
      let i-is : y.pos ≡ i = ft.1 in
      let inside : i < length s = rw (c-is, i-is) at fr.good.inside in
      let value : get_or s i 0 ≡ x = (rw (c-is, i-is) at fr.good.value) ∙ fr.token in
      let new = g.handed y.circuit ++ keeps x in
      let handed' = alter g.handed y.circuit new in
      let one_more = body_step (g.info c₀).skip s i x ho.past inside value in
      let more : handed' c₀ ≡ body (g.info c₀).skip (take (suc i) s) =
      alter_hit g.handed y.circuit new c₀ (sym c-is) ∙ rw (c-is, ho.so_far) (sym one_more) in
      let old : CircBy n.out g.front s (g.handed c₀) (g.loc c₀) (g.info c₀) g.now c₀ (Landed p ho.number) =
      rw ec at (iv.circs c₀) in
      -- the circuit's head has left: it has landed
      let not-head : (c : ℕ) → HeadOf c y → ⊥ = λ c z.
      let at_p : g.loc c₀ ≡ suc p = rw c-is at (head_at link n g iv p x r eq z.0) in
      let gone = old.0 in
      omega arith in
      record {
        ports = pops g.stream n.queue g.cells g.front g.back iv.ports p x r eq;
        cabled = iv.cabled;
        lines = iv.lines;
        unlined = iv.unlined;
        fed = fed_away link n g iv p o (next y) away;
        unfed = iv.unfed;
        unsent = iv.unsent;
        tiles = iv.tiles;
        doors = iv.doors;
        used = used_away link n g iv p o (next y) away (no_via (closes x) (Into a) (λ l z. never (cc)));
        send = iv.send;
        head = heads_pop g.cells g.loc iv.head p y (tl (g.cells p)) fr.is;
        road = iv.road;
        ways = ways_pop link n g iv y;
        outs = at_or _ p
            (simp alter_same (by_test (closes x)
            (λ e. rw e (after_closed y x fr.token e))
            (λ e. rw e (record {
              c = c₀;
              i = suc i;
              front = after_open y x c₀ i fr.token e ft;
              number = ho.number;
              to = ec;
              place = ho.place;
              so_far = more;
              past = (let pa = ho.past in omega arith);
              inside = inside;
            }))))
            (λ j ne. simp alter_miss
            (out_keep g.stream g.handed handed' g.fate g.fate g.info j (n.out j) (g.front j)
            (λ c v fc. (refl, alter_miss _ _ _ c (λ m. ne (landed_same (sym fc ∙ ap g.fate (m ∙ c-is) ∙ ec)).0)))
            (λ c q z. refl)
            (iv.outs j)));
        circs = at_or _ c₀
            (rw ec (head_to_other 0 y g.loc c₀ (not-head c₀) ∙ old.0, record { i = suc i; inside = inside; is = more }, old.2))
            (λ c ne. rw (alter_miss g.handed y.circuit new c (λ m. ne (m ∙ c-is)))
            (circ_port link n g iv p o (next y) c _ (head_to_other 0 y g.loc c (not-head c)) (λ w d f0. never (cc))));
        unborn = λ c le.
            let u = unborn_move link n g iv 0 y fr.good c le in
            let stays = alter_miss g.handed y.circuit new c (cell_known link n g iv y fr.good c le) in
            record { no_stream = u.no_stream; no_handed = stays ∙ u.no_handed; no_place = u.no_place; no_fate = u.no_fate };
      }

  pub keep_takes : (p l : ℕ) → Ok link n (Takes p l) → Inv link (effect (Takes p l) n) (note (Takes p l) g)
  unfolding effect note
  keep_takes p l (t, r, eq, eo, eu) =
      let c = (hd (g.cells p)).circuit in
      let fi : g.front p ≡ Idle = rw eo at (iv.outs p) in
      record {
        ports = refronts g.stream n.queue g.cells g.front g.back iv.ports p t r eq fi;
        cabled = iv.cabled;
        lines = iv.lines;
        unlined = iv.unlined;
        fed = at_or _ l
            (let b : g.tail l ≡ Idle = rw eu at (iv.fed l) in simp alter_same (refl, b))
            (λ l' ne. rw (alter_miss n.user l (By p) l' ne) (fed_away link n g iv p (Via l) (At c 0) (λ k z. never (cc)) l'));
        unfed = iv.unfed;
        unsent = iv.unsent;
        tiles = iv.tiles;
        doors = iv.doors;
        used = λ q l' z.
            elim (ℕ_discrete q p) [
              | yes e ↦
                  let v : Via l ≡ Via l' = sym (alter_hit n.out p (Via l) q e) ∙ z in
                  alter_hit _ _ _ _ (sym (via_same v)) ∙ ap By (sym e)
              | no ne ↦
                  let u = iv.used q l' (sym (alter_miss n.out p (Via l) q ne) ∙ z) in
                  alter_miss _ _ _ _ (λ m. nobody_by (sym eu ∙ ap n.user (sym m) ∙ u)) ∙ u
            ];
        send = iv.send;
        head = iv.head;
        road = iv.road;
        ways = iv.ways;
        outs = at_or _ p (simp alter_same (c, 0, refl)) (λ j ne. simp alter_miss (iv.outs j));
        circs = λ c'. circ_port link n g iv p (Via l) (At c 0) c' _ refl (λ q d f0. never (cc));
        unborn = iv.unborn;
      }

  pub keep_refuses : (p : ℕ) (q : Cause) → Ok link n (Refuses p q) → Inv link (effect (Refuses p q) n) (note (Refuses p q) g)
  unfolding effect note
  keep_refuses p q (t, r, eq, eo) =
      let y = hd (g.cells p) in
      let c = y.circuit in
      let fi : g.front p ≡ Idle = rw eo at (iv.outs p) in
      let bg = begins link n g iv p t r eq eo in
      let at_p = bg.at_port in
      let gd = (front_at_lem link n g iv p t r eq).good in
      let away : (l : ℕ) → n.out p ≡ Via l → ⊥ = λ l z. never (cc) in
      record {
        ports = refronts g.stream n.queue g.cells g.front g.back iv.ports p t r eq fi;
        cabled = iv.cabled;
        lines = iv.lines;
        unlined = iv.unlined;
        fed = fed_away link n g iv p (Drops q) (At c 0) away;
        unfed = iv.unfed;
        unsent = iv.unsent;
        tiles = iv.tiles;
        doors = iv.doors;
        used = used_away link n g iv p (Drops q) (At c 0) away (λ l z. never (cc));
        send = send_fate link n g iv c (Lost q) bg.on_way;
        head = iv.head;
        road = iv.road;
        ways = λ c' h.
            let u = iv.ways c' h in
            record { no_port = u.no_port; no_fate = ways_fate link n g iv c p (Lost q) at_p c' h; known = u.known };
        outs = at_or _ p
            (simp alter_same (c, 0, refl, alter_same _ _ _))
            (λ j ne. simp alter_miss (out_fate link n g iv c (Lost q) bg.on_way j));
        circs = at_or _ c
            (simp alter_same (
              (flying_circ link n g iv c bg.on_way).0,
              λ j w. let jp : j ≡ p = omega arith in (alter_hit _ _ _ j jp, alter_hit _ _ _ j jp),
            ))
            (λ c' ne. rw (alter_miss g.fate c (Lost q) c' ne)
            (circ_port link n g iv p (Drops q) (At c 0) c' _ refl (λ w d f0. never (cc))));
        unborn = λ c' le.
            let u = iv.unborn c' le in
            let still = unborn_fate link n g iv y (Lost q) gd c' le in
            record { no_stream = u.no_stream; no_handed = u.no_handed; no_place = u.no_place; no_fate = still };
      }

  pub keep_lands : (p : ℕ) (w : Width) (hs : List ℕ) (a : Place) (k : NodeNumber) → Ok link n (Lands p w hs a k)
      → Inv link (effect (Lands p w hs a k) n) (note (Lands p w hs a k) g)
  unfolding effect note
  keep_lands p w [] a k (h, eo) = absurd (let z = h.size in let q = size_pos w in omega arith)
  keep_lands p w (t ∷ ts) a k (h, eo) =
      let y = hd (g.cells p) in
      let c = y.circuit in
      let s = g.stream c in
      let size = suc (length ts) in
      let to = Landed p k in
      let eq = h.is in
      let bg = begins link n g iv p t (ts ++ h.rest) eq eo in
      let z = bg.first in
      let fr = front_at_lem link n g iv p t (ts ++ h.rest) eq in
      let away : (l : ℕ) → n.out p ≡ Via l → ⊥ = λ l z. never (cc) in
      -- the tokens in front are the first of the circuit's stream
      let inside : 0 < length s = rw z at fr.good.inside in
      let value : get_or s 0 0 ≡ t = (rw z at fr.good.value) ∙ fr.token in
      let nx : next y ≡ At c 1 = after_open y t c 0 fr.token h.plain.0 (refl, z) in
      let ran : Ran g.stream c 1 (tl (g.cells p)) (g.back p) ts h.rest =
      run_off g.stream c 1 ts h.rest (tl (g.cells p)) (g.back p) inside (rw nx at fr.rest) fr.tokens h.plain.1 in
      let sz : 1 + length ts ≡ size = omega arith in
      let whole : s ≡ (t ∷ ts) ++ drop (1 + length ts) s = drop-cons s 0 0 inside ∙ rw (value, ← ran.stretch) in
      -- so they are its header
      let (none, md) = flying_circ link n g iv c bg.on_way in
      let made = md (cell_born link n g iv y fr.good) in
      let (uw, own) = same_header (g.info c).width w (g.info c).dest made.more t ts (drop (1 + length ts) s) made.carried
      (sym made.is ∙ whole) h.marked h.size in
      let sk : (g.info c).skip ≡ size = made.skips ∙ ap size_of uw ∙ sym h.size in
      let enough : size ≤ length s = rw sz at ran.enough in
      let nothing : g.handed c ≡ body (g.info c).skip (take size s) = none ∙ rw sk (sym (body_none size s)) in
      let (place, bits) = read_back (g.info c).width (g.info c).dest made.carried in
      let there : place_of (g.info c).dest ≡ a = sym place ∙ rw (← own, uw) h.place in
      let names : Names (g.info c) k = sym bits ∙ rw (← own, uw) h.bits in
      let cut_cells : drop size (g.cells p) ≡ drop (length ts) (tl (g.cells p)) = ap (drop size) fr.is in
      let popped = heads_pop g.cells g.loc iv.head p y (tl (g.cells p)) fr.is in
      record {
        ports = at_or _ p
            (simp alter_same (record {
              tokens = rw (eq, drop-append_seam (t ∷ ts) h.rest, cut_cells) ran.tokens;
              chain = rw cut_cells (rw sz at ran.rest);
            }))
            (λ j ne. simp alter_miss (iv.ports j));
        cabled = iv.cabled;
        lines = iv.lines;
        unlined = iv.unlined;
        fed = fed_away link n g iv p (Into a) (At c size) away;
        unfed = iv.unfed;
        unsent = iv.unsent;
        tiles = iv.tiles;
        doors = iv.doors;
        used = used_away link n g iv p (Into a) (At c size) away (λ l z. never (cc));
        send = send_fate link n g iv c to bg.on_way;
        head = λ c' j. alter_all (λ j l. heads c' l ≡ ind (head_to 0 y g.loc c') j) g.cells p (drop size (g.cells p))
            (rw cut_cells (ran.heads_left (omega arith) c' ∙ (rw (alter_same g.cells p (tl (g.cells p))) at (popped c' p))))
            (λ j ne. rw (alter_miss g.cells p (tl (g.cells p)) j ne) at (popped c' j)) j;
        road = iv.road;
        ways = λ c' h.
            let u = ways_pop link n g iv y c' h in
            record { no_port = u.no_port; no_fate = ways_fate link n g iv c p to bg.at_port c' h; known = u.known };
        outs = at_or _ p
            (simp alter_same (record {
              c = c;
              i = size;
              front = refl;
              number = k;
              to = alter_same _ _ _;
              place = there;
              so_far = nothing;
              past = (omega arith);
              inside = enough;
            }))
            (λ j ne. simp alter_miss (out_fate link n g iv c to bg.on_way j));
        circs = at_or _ c
            (simp alter_same (head_to_hit 0 y g.loc c z refl, record { i = size; inside = enough; is = nothing }, names))
            (λ c' ne. rw (alter_miss g.fate c to c' ne)
            (circ_port link n g iv p (Into a) (At c size) c' _ (head_to_other 0 y g.loc c' (λ h. ne (sym h.1)))
            (λ q d f0. never (cc))));
        unborn = λ c' le.
            let u = unborn_move link n g iv 0 y fr.good c' le in
            let still = unborn_fate link n g iv y to fr.good c' le in
            record { no_stream = u.no_stream; no_handed = u.no_handed; no_place = u.no_place; no_fate = still };
      }
