-- Sound for ever: from either start, of any number of boards, over every run of calls, every state is sound and tight and has that number
-- of boards, and no call is refused as Unsound but a start of another number. Assumes nothing.
use Prim.{tt}
use Prim.Native.Nat.{ℕ, ◌+◌, ◌<◌, ◌≤◌}
use mathlib.Core.Path.{◌≡◌, refl, sym, ap, ◌∙◌}
use mathlib.Core.Bool.{true, not, ◌&&◌}
use mathlib.Core.List.{List, [], ◌∷◌}
use mathlib.Core.Logic.{◌⊎◌}
use lib.Dec.{eqb}
use borrow.Author.Tests.{eq-eqb, not-false}
use Rattle.laws.proofs.All.{also, as_is, equal, below}
use Rattle.laws.proofs.Order.{clash}
use Rattle.names.specs.Size.{nodes, links, ports}
use Rattle.names.specs.No.{number, passes}
use Rattle.names.specs.declared.no.No.TheVariants.{Unsound}
use Rattle.answers.specs.Answer.{number_of}
use Rattle.answers.specs.Rows.{Exactly, Passes}
use Rattle.names.specs.declared.Slot.{Slot}
use Rattle.circuits.specs.declared.Hop.TheVariants.{Out}
use Rattle.ports.specs.Queue.{capacity}
use Rattle.grammar.specs.Walk.{threes, begins_one}
use Rattle.cells.specs.World.{World, shaped, far_of, hop, queue, At}
use Rattle.travel.specs.Travel.{load_from}
use Rattle.settings.specs.declared.Setting.TheVariants.{Enable}
use Rattle.fresh.specs.Fresh.{start_of}
use Rattle.fresh.specs.declared.Start.{Start}
use Rattle.sound.specs.Sound.{sound, tight}
use Rattle.kept.specs.Kept.{Kept}
use Rattle.kept.proofs.Parts.{kept_sound}
use Rattle.kept.proofs.Sets.{attempted}
use Rattle.kept.proofs.Boards.{wire_boards, set_boards, aim_boards, input_boards, output_boards, step_boards, line_boards}
use Rattle.kept.proofs.Calls.{start_kept, keep_start, keep_wire, keep_set_made, keep_aimed, keep_output, keep_inputted, keep_stepped}
use Rattle.kept.proofs.Arrivals.{keep_line_step}
use Rattle.kept.proofs.Follows.{room_left, whole_header, not_greeted, no_credit_lem, unused, disable_twice}
use Rattle.bench.specs.Calls.{Call, Begin, Wire, Set, Aim, Output, Input, Step, Line, Steps, rows, made, apply}
use Rattle.bench.specs.Runs.{run}
use Rattle.bench.specs.Lasts.{OtherBoards, NeverUnsound, Throughout}
use Rattle.bench.proofs.Applied.{exactly, accepted}
use Rattle.bench.proofs.EachStep.{step_made_lem, stepped_keeps}
use Rattle.bench.proofs.Started.{started}

-- ONE CALL, with any arguments: as many boards as before, since a start of another number is refused
made_boards : (w : World) (c : Call) → Passes (rows w c) → (made w c).next.net.nodes ≡ w.net.nodes
made_boards w (Begin s n) p = sym ((also (as_is (shaped w)) (equal w.net.nodes n)).sure (not-false _ p.1.0)).1
made_boards w (Wire a l b j) p = wire_boards w.net a.0 l b.0 j
made_boards w (Set a x) p = set_boards w a.0 x
made_boards w (Aim a c g v) p = aim_boards w.net a.0 c g v
made_boards w (Output a c x) p = output_boards w a.0 c x
made_boards w (Input a c x) p = input_boards w.net a.0 c
made_boards w (Step a p) q = step_boards w a.0 p
made_boards w (Line a l) q = line_boards w a.0 l
made_boards w (Steps n xs) q =
    stepped_keeps (λ z. z.net.nodes ≡ w.net.nodes)
    (λ z x e. step_made_lem (λ y. y.net.nodes ≡ w.net.nodes) z x e (λ p. step_boards z x.slot x.port ∙ e)) xs w refl

pub call_boards : (w : World) (c : Call) → (apply w c).next.net.nodes ≡ w.net.nodes
unfolding apply
call_boards w c = attempted (λ (z : World). z.net.nodes ≡ w.net.nodes) (rows w c) w (made w c) refl (made_boards w c)

-- .. on a state that has the invariant
module _ (w : World) (k : Kept w) where
  made_kept : (c : Call) → Passes (rows w c) → Kept (made w c).next
  made_kept (Begin s n) p = keep_start w s n p
  made_kept (Wire a l b j) p = keep_wire w k a.0 l b.0 j p.1
  made_kept (Set a x) p = keep_set_made w k a.0 x p.1
  made_kept (Aim a c g v) p = keep_aimed w k a.0 c g v p.1
  made_kept (Output a c x) p = keep_output w k a.0 c x p.1
  made_kept (Input a c x) p = keep_inputted w k a.0 c x p.1
  made_kept (Step a p) q = keep_stepped w k a.0 p q.1
  made_kept (Line a l) q =
      let z = (also (below a.0 w.net.nodes) (below l links)).sure (not-false _ q.1.0) in
      keep_line_step w k a.0 l z.0 z.1
  made_kept (Steps n xs) q = stepped_keeps Kept (λ z x h. step_made_lem Kept z x h (λ p. keep_stepped z h x.slot x.port p.1)) xs w k

  pub call_keeps : (c : Call) → Kept (apply w c).next
  unfolding apply
  call_keeps c = attempted Kept (rows w c) w (made w c) k (made_kept c)

  -- its first row, "state that fails the list", refuses nothing
  sure : not (sound w) ≡ true → ⊥
  sure e = clash (sym (rw (kept_sound w k).0 at e))

  -- Unsound, for a start of another number of boards, and for no other call
  pub call_unsound : (c : Call) → NeverUnsound w.net.nodes c (apply w c).answer
  call_unsound c e = given c ((exactly w c Unsound).sure (eq-eqb (number_of (apply w c).answer) (number Unsound) (ap number_of e)))
    where
      given : (c : Call) → Exactly (rows w c) Unsound → OtherBoards w.net.nodes c
      given (Begin s n) h = λ same. other n same h.1
        where
          other : (n : ℕ) → n ≡ w.net.nodes → not (shaped w && eqb w.net.nodes n) ≡ true → ⊥
          other n same x = clash (sym (rw (k.shape, eq-eqb w.net.nodes n (sym same)) at x))
      given (Wire a l b j) h = sure h
      given (Set a x) h = sure h
      given (Aim a c g v) h = sure h
      given (Output a c x) h = sure h
      given (Input a c x) h = sure h
      given (Step a p) h = sure h
      given (Line a l) h = sure h
      given (Steps n xs) h = absurd h.1

-- EVERY RUN
pub run_keeps : (cs : List Call) (w : World) → Kept w → Kept (run w cs).last
run_keeps [] w k = k
run_keeps (c ∷ cs) w k = run_keeps cs (apply w c).next (call_keeps w k c)

pub run_boards : (cs : List Call) (w : World) → (run w cs).last.net.nodes ≡ w.net.nodes
run_boards [] w = refl
run_boards (c ∷ cs) w = run_boards cs (apply w c).next ∙ call_boards w c

pub run_unsound : (cs : List Call) (w : World) → Kept w → Throughout (NeverUnsound w.net.nodes) cs (run w cs).answers
run_unsound [] w k = tt
run_unsound (c ∷ cs) w k = (call_unsound w k c, rw (call_boards w c) at (run_unsound cs (apply w c).next (call_keeps w k c)))

-- .. from either start
pub boards : (s : Start) (n : ℕ) (cs : List Call) → (run (start_of s n) cs).last.net.nodes ≡ n
boards s n cs = run_boards cs (start_of s n)

module _ (s : Start) (n : ℕ) (some : 1 ≤ n) (few : n ≤ nodes) where
  pub always_sound : (cs : List Call) → (sound (run (start_of s n) cs).last ≡ true) × (tight (run (start_of s n) cs).last ≡ true)
  always_sound cs = kept_sound (run (start_of s n) cs).last (run_keeps cs (start_of s n) (start_kept s n some few))

  pub never_unsound : (cs : List Call) → Throughout (NeverUnsound n) cs (run (start_of s n) cs).answers
  never_unsound cs = run_unsound cs (start_of s n) (start_kept s n some few)

-- .. whatever the memories held before, where that start was not refused
pub since_start : (w : World) (s : Start) (n : ℕ) → number_of (apply w (Begin s n)).answer ≡ passes → (cs : List Call)
    → Throughout (NeverUnsound n) cs (run (apply w (Begin s n)).next cs).answers
since_start w s n ok cs =
    let p = (accepted w (Begin s n)).sure (eq-eqb (number_of (apply w (Begin s n)).answer) passes ok) in
    rw (started w s n ok) (run_unsound cs (start_of s n) (keep_start w s n p))

-- WHAT HOLDS ALWAYS: of every link of every state of every run from a start
module _ (s : Start) (n : ℕ) (some : 1 ≤ n) (few : n ≤ nodes) (cs : List Call) where
  abbrev last : World
  last = (run (start_of s n) cs).last

  last_kept : Kept last
  last_kept = run_keeps cs (start_of s n) (start_kept s n some few)

  module _ (m l : ℕ) (there : m < n) (hl : l < links) where
    hm : m < last.net.nodes
    hm = rw (boards s n cs) there

    -- "credit plus tokens held at the far end at most 64", with the credit on the line to the link and the tokens on the line from it
    pub always_room : (b : Slot) (j : ℕ) → far_of (last.net.links.cables m l) ≡ At b j
        → (last.net.links.flows m l).credit + (load_from last b.0 j).credit
        + ((load_from last m l).tokens + (last.net.ports.counters b.0 j).held) ≤ capacity
    always_room = room_left last last_kept m l hm hl

    -- "a circuit that leaves by an unwired link has its whole header at its port's front": three tokens, or one
    pub always_unsent : ((last.net.links.cables m l).wired ≡ 1 → ⊥) → (p : ℕ) → p < ports → hop last.net m p ≡ Out l
        → (threes (queue last m p) ≡ 3) ⊎ (begins_one (queue last m p) ≡ true)
    always_unsent = whole_header last last_kept m l hm hl

    module _ (off : (last.net.links.setups m l).enabled ≡ 1 → ⊥) where
      -- "A disabled link's credit is 0 and ungreeted."
      pub always_silent : ((last.net.links.flows m l).credit ≡ 0) × ((last.net.links.flows m l).greeted ≡ 1 → ⊥)
      always_silent = (no_credit_lem last last_kept m l hm hl off, not_greeted last last_kept m l hm hl off)

      -- nobody uses it
      pub always_unused : (last.net.links.users m l).kind ≡ 0
      always_unused = unused last last_kept m l hm hl off

      -- and disabling it once more changes nothing
      pub always_disabled : (apply last (Set (record { 0 = m }) (Enable l 0))).next ≡ last
      unfolding apply
      always_disabled =
          let c = Set (record { 0 = m }) (Enable l 0) in
          attempted (λ (w : World). w ≡ last) (rows last c) last (made last c) refl
          (λ p. disable_twice last last_kept m l hm hl off)
