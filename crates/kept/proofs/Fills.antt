-- What putting tokens into a port does to the world. Assumes nothing.
use Prim.Native.Nat.{ℕ, suc, ◌+◌, ◌%◌, ◌<◌}
use mathlib.Core.Path.{◌≡◌, refl, sym, ap, ◌∙◌}
use mathlib.Core.Bool.{false}
use mathlib.Core.List.{List, [], ◌∷◌, ◌++◌, append-nil, append_assoc}
use native.Mathlib.Omega.{arith}
use lib.ListN.{length, length-set, length-append}
use Rattle.laws.specs.Table.{Off}
use Rattle.laws.proofs.Table as Table
use Rattle.names.specs.Size.{ports}
use Rattle.circuits.specs.declared.Hop.{Hop}
use Rattle.tokens.specs.Shape.{shape_of}
use Rattle.ports.specs.Queue.{capacity, Fair, put_counters}
use Rattle.ports.specs.Memory.{place}
use Rattle.ports.specs.declared.Counters.{Counters}
use Rattle.grammar.specs.Stage.{is_bad, next_stage}
use Rattle.grammar.specs.Walk.{front_of, back_of}
use Rattle.grammar.specs.declared.stage.Stage.{Stage}
use Rattle.cells.specs.View.{Net, with_counters}
use Rattle.cells.specs.World.{World, shaped, hop, queue}
use Rattle.acts.specs.Acts.{pushed, pushed_all}
use Rattle.acts.specs.Needs.{Room}
use Rattle.acts.proofs.Pushes.{less, pushed_counters, room_left}
use Rattle.acts.proofs.Queues.{pushed_queue}
use Rattle.kept.specs.Kept.{front_at, back_at}
use Rattle.kept.proofs.Walks.{Put, put}
use Rattle.kept.proofs.Queues.{counters_own, counters_again, shape_as, stored_away}

-- port p of node n has these tokens more, behind those that it had, and nothing else is changed
pub record Filled (w z : World) (n p : ℕ) (ts : List ℕ) : Type 0 where
  pub net : z.net ≡ with_counters w.net n p (z.net.ports.counters n p)
  pub shape : shaped z ≡ shaped w
  pub long : length z.memory ≡ length w.memory
  pub lines : z.line_memory ≡ w.line_memory
  pub fair : Fair (z.net.ports.counters n p)
  pub held : (z.net.ports.counters n p).held ≡ (w.net.ports.counters n p).held + length ts
  pub here : queue z n p ≡ queue w n p ++ ts
  pub away : (m j : ℕ) → j < ports → Off n p m j → queue z m j ≡ queue w m j

pub filled_none : (w : World) (n p : ℕ) → Fair (w.net.ports.counters n p) → Filled w w n p []
filled_none w n p h =
    record {
      net = counters_own w.net n p;
      shape = refl;
      long = refl;
      lines = refl;
      fair = h;
      held = omega arith;
      here = sym (append-nil (queue w n p));
      away = λ m j l o. refl;
    }

pub filled_one : (w : World) (n p t : ℕ) → Room w n p 1 → Filled w (pushed w n p t) n p (t ∷ [])
unfolding pushed
filled_one w n p t r =
    let z = pushed w n p t in
    let c = w.net.ports.counters n p in
    let same = length-set w.memory (place n p + (c.head + c.held) % capacity) t in
    record {
      net = ap (λ (k : Counters). with_counters w.net n p k) (sym (pushed_counters w n p t));
      shape = shape_as w z refl refl same refl;
      long = same;
      lines = refl;
      fair = (room_left w n p t 0 r).fair;
      held = ap (λ (k : Counters). k.held) (pushed_counters w n p t);
      here = pushed_queue w n p t r;
      away = stored_away w z.net n p ((c.head + c.held) % capacity) t (put_counters c) r.port (omega arith) refl;
    }

pub filled_then : {w z y : World} {n p : ℕ} {ts us : List ℕ} → Filled w z n p ts → Filled z y n p us → Filled w y n p (ts ++ us)
filled_then {w} {z} {y} {n} {p} {ts} {us} a b =
    let c = y.net.ports.counters n p in
    record {
      net = b.net ∙ ap (λ (s : Net). with_counters s n p c) a.net ∙ counters_again w.net n p (z.net.ports.counters n p) c;
      shape = b.shape ∙ a.shape;
      long = b.long ∙ a.long;
      lines = b.lines ∙ a.lines;
      fair = b.fair;
      held = omega (arith, a.held, b.held, length-append ts us);
      here = b.here ∙ ap (λ (q : List ℕ). q ++ us) a.here ∙ append_assoc (queue w n p) ts us;
      away = λ m j l o. b.away m j l o ∙ a.away m j l o;
    }

pub filled_all : (ts : List ℕ) (w : World) (n p : ℕ) → Room w n p (length ts) → Filled w (pushed_all w n p ts) n p ts
filled_all [] w n p r = filled_none w n p r.fair
filled_all (t ∷ ts) w n p r =
    let k = length ts in
    filled_then (filled_one w n p t (less (suc k) 1 (omega arith) r))
    (filled_all ts (pushed w n p t) n p (room_left w n p t k (less (suc k) (k + 1) (omega arith) r)))

-- the room that is left
pub filled_room : {w z : World} {n p : ℕ} {ts : List ℕ} {k : ℕ} → Filled w z n p ts → Room w n p (length ts + k) → Room z n p k
filled_room f r =
    record {
      node = rw (ap (λ (s : Net). s.nodes) f.net) r.node;
      port = r.port;
      fair = f.fair;
      room = omega (arith, f.held, r.room);
      reaches = rw f.long r.reaches;
    }

-- A TOKEN PUT BEHIND: ports begin where they did, and the one that it is put into ends where it leads
module _ {y u : World} {n p x : ℕ} (f : Filled y u n p (x ∷ [])) (good : is_bad (next_stage (back_at y n p) (shape_of x)) ≡ false) where
  at_port : (F : Hop → List ℕ → Stage) → F (hop u.net n p) (queue u n p) ≡ F (hop y.net n p) (queue y n p ++ (x ∷ []))
  at_port F = ap (λ (s : Net). F (hop s n p) (queue u n p)) f.net ∙ ap (F (hop y.net n p)) f.here

  off_port : (F : Hop → List ℕ → Stage) (a i : ℕ) → i < ports → Off n p a i
      → F (hop u.net a i) (queue u a i) ≡ F (hop y.net a i) (queue y a i)
  off_port F a i h o = ap (λ (s : Net). F (hop s a i) (queue u a i)) f.net ∙ ap (F (hop y.net a i)) (f.away a i h o)

  behind : Put (hop y.net n p) (queue y n p) x
  behind = put (hop y.net n p) (queue y n p) x good

  pub put_front : (a i : ℕ) → i < ports → front_at u a i ≡ front_at y a i
  put_front a i h = Table.place n p a i (λ ea ei. rw (ea, ei) (at_port front_of ∙ behind.front)) (off_port front_of a i h)

  pub put_back : back_at u n p ≡ next_stage (back_at y n p) (shape_of x)
  put_back = at_port back_of ∙ behind.back

  pub put_off : (a i : ℕ) → i < ports → Off n p a i → back_at u a i ≡ back_at y a i
  put_off a i h o = off_port back_of a i h o
