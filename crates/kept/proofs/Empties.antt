-- What taking tokens off a port does to the world. The grants that are considered for them write lines. Assumes nothing.
use Prim.Native.Nat.{ℕ, ◌+◌, ◌<◌}
use mathlib.Core.Path.{◌≡◌, refl, sym, ap, ◌∙◌}
use mathlib.Core.List.{List, [], ◌∷◌, ◌++◌, append_assoc}
use native.Mathlib.Omega.{arith}
use lib.ListN.{length, take, length-set, length-append}
use lib.Seq.{take-append_seam}
use Rattle.laws.specs.Table.{Off}
use Rattle.names.specs.Size.{links, ports}
use Rattle.tokens.specs.declared.header.Width.{Width}
use Rattle.tokens.specs.declared.header.Width.TheVariants.{One, Three}
use Rattle.ports.specs.Queue.{Fair, take_counters}
use Rattle.ports.specs.Memory.{place, held}
use Rattle.ports.specs.declared.Counters.{Counters}
use Rattle.lines.specs.Load.{tokens_of}
use Rattle.cells.specs.View.{Net, with_counters, with_lines}
use Rattle.cells.specs.World.{World, queue, line_from}
use Rattle.acts.specs.Acts.{popped, first_at}
use Rattle.acts.specs.Needs.{Holds}
use Rattle.acts.proofs.Pushes.{popped_counters}
use Rattle.acts.proofs.Queues.{popped_queue}
use Rattle.plans.specs.Plan.{size_of}
use Rattle.plans.proofs.Held.{holds_less}
use Rattle.moves.specs.Moves.{took, stripped}
use Rattle.kept.proofs.Grants.{Credited, Quiet, taken_net, quiet_took}
use Rattle.kept.proofs.Queues.{counters_again, stored_away}

-- these tokens, the oldest, are taken off port p of node n; of the rest of the state only lines may have changed, and no token on them
pub record Emptied (w z : World) (n p : ℕ) (ts : List ℕ) : Type 0 where
  pub net : z.net ≡ with_lines (with_counters w.net n p (z.net.ports.counters n p)) z.net.lines
  pub long : length z.memory ≡ length w.memory
  pub fair : Fair (z.net.ports.counters n p)
  pub held : (w.net.ports.counters n p).held ≡ length ts + (z.net.ports.counters n p).held
  pub here : queue w n p ≡ ts ++ queue z n p
  pub away : (m j : ℕ) → j < ports → Off n p m j → queue z m j ≡ queue w m j
  pub credited : Credited z
  pub tokens : (a j : ℕ) → j < links → tokens_of (line_from z a j) ≡ tokens_of (line_from w a j)

module _ (w : World) (n p : ℕ) (c : Credited w) (r : Holds w n p 1) where
  quiet : Quiet (popped w n p) (took w n p)
  quiet = quiet_took w c n p r.node

  -- a port reads as it does before the grant
  took_queue : (m j : ℕ) → queue (took w n p) m j ≡ queue (popped w n p) m j
  took_queue m j =
      ap (λ (s : Net). held (s.ports.counters m j) (took w n p).memory (place m j)) quiet.net
      ∙ ap (λ (l : List ℕ). held ((popped w n p).net.ports.counters m j) l (place m j)) quiet.memory

  took_counters : (took w n p).net.ports.counters n p ≡ take_counters (w.net.ports.counters n p)
  took_counters = ap (λ (s : Net). s.ports.counters n p) quiet.net ∙ popped_counters w n p

  pub emptied_one : Emptied w (took w n p) n p (first_at w n p ∷ [])
  unfolding popped
  emptied_one =
      let k = w.net.ports.counters n p in
      record {
        net = taken_net w n p
            ∙ ap (λ (x : Counters). with_lines (with_counters w.net n p x) (took w n p).net.lines) (sym took_counters);
        long = ap length quiet.memory ∙ length-set w.memory (place n p + k.head) 0;
        fair = rw took_counters (record { head_in = omega arith; held_in = omega (arith, r.fair.held_in) });
        held = omega (arith, r.held, ap (λ (x : Counters). x.held) took_counters);
        here = popped_queue w n p r ∙ ap (λ (q : List ℕ). first_at w n p ∷ q) (sym (took_queue n p));
        away = λ m j hj o.
            took_queue m j
            ∙ stored_away w (popped w n p).net n p k.head 0 (take_counters k) r.port r.fair.head_in refl m j hj o;
        credited = quiet.credited;
        tokens = quiet.tokens;
      }

pub emptied_then : {w z y : World} {n p : ℕ} {ts us : List ℕ} → Emptied w z n p ts → Emptied z y n p us → Emptied w y n p (ts ++ us)
emptied_then {w} {z} {y} {n} {p} {ts} {us} a b =
    let c = y.net.ports.counters n p in
    let l = y.net.lines in
    record {
      net =
          b.net
          ∙ ap (λ (s : Net). with_lines (with_counters s n p c) l) a.net
          ∙ ap (λ (s : Net). with_lines s l) (counters_again w.net n p (z.net.ports.counters n p) c);
      long = b.long ∙ a.long;
      fair = b.fair;
      held = omega (arith, a.held, b.held, length-append ts us);
      here = a.here ∙ ap (λ (q : List ℕ). ts ++ q) b.here ∙ sym (append_assoc ts us (queue y n p));
      away = λ m j l o. b.away m j l o ∙ a.away m j l o;
      credited = b.credited;
      tokens = λ m j hj. b.tokens m j hj ∙ a.tokens m j hj;
    }

-- what is left to take
pub emptied_holds : {w z : World} {n p : ℕ} {ts : List ℕ} {k : ℕ} → Emptied w z n p ts → Holds w n p (length ts + k) → Holds z n p k
emptied_holds f r =
    record {
      node = rw (ap (λ (s : Net). s.nodes) f.net) r.node;
      port = r.port;
      fair = f.fair;
      held = omega (arith, f.held, r.held);
      reaches = rw f.long r.reaches;
    }

-- the tokens that are taken, as they stood in the port
oldest : {w z : World} {n p : ℕ} {ts : List ℕ} → Emptied w z n p ts → Emptied w z n p (take (length ts) (queue w n p))
oldest {w} {z} {n} {p} {ts} f =
    let e : take (length ts) (queue w n p) ≡ ts = ap (λ (q : List ℕ). take (length ts) q) f.here ∙ take-append_seam ts (queue z n p) in
    rw e f

-- "the header is removed": as many tokens as this width has
pub emptied_stripped : (w : World) (n p : ℕ) (x : Width) → Credited w → Holds w n p (size_of x)
    → Emptied w (stripped w n p x) n p (take (size_of x) (queue w n p))
emptied_stripped w n p One c h = oldest (emptied_one w n p c h)
emptied_stripped w n p Three c h =
    let a = emptied_one w n p c (holds_less 3 1 (omega arith) h) in
    let h2 : Holds (took w n p) n p 2 = emptied_holds a h in
    let b = emptied_one (took w n p) n p a.credited (holds_less 2 1 (omega arith) h2) in
    let h1 : Holds (took (took w n p) n p) n p 1 = emptied_holds b h2 in
    oldest (emptied_then a (emptied_then b (emptied_one (took (took w n p) n p) n p b.credited h1)))
