-- What each call makes that is not refused keeps all that is kept. Assumes nothing.
use Prim.Native.Nat.{ℕ, ◌<◌, ◌≤◌}
use mathlib.Core.Path.{◌≡◌, refl, sym}
use mathlib.Core.Bool.{Bool, true, false, ◌||◌}
use borrow.Author.Tests.{eqb-false, eq-eqb, not-false}
use Rattle.laws.specs.Table.{Off}
use Rattle.laws.proofs.All.{also, as_is, at_most, below}
use Rattle.laws.proofs.Order.{clash}
use Rattle.names.specs.Size.{nodes, links, ports, ends, networks}
use Rattle.answers.specs.Rows.{Passes}
use Rattle.cells.specs.World.{World}
use Rattle.acts.specs.Acts.{with_net}
use Rattle.fresh.specs.Fresh.{start_rows, leaves_on, start_of}
use Rattle.fresh.specs.declared.Start.{Start}
use Rattle.settings.specs.Wire.{end_wired, wire_rows, wired}
use Rattle.settings.specs.Set.{link_there, set_rows, set_made}
use Rattle.settings.specs.declared.Setting.{Setting}
use Rattle.ends.specs.Aim.{goal_ranged, aim_rows, aim_made}
use Rattle.ends.specs.Plan.{target_of}
use Rattle.ends.specs.Output.{word_of, output_rows, output_made}
use Rattle.ends.specs.Input.{input_rows, input_made}
use Rattle.ends.specs.declared.Token.{Token}
use Rattle.ends.specs.declared.Wanted.{Wanted}
use Rattle.ends.specs.declared.aim.Goal.{Goal}
use Rattle.switch.specs.Step.{step_rows, step_made}
use Rattle.sound.proofs.Start.{start_sound, start_tight}
use Rattle.kept.specs.Kept.{Kept}
use Rattle.kept.proofs.Parts.{sound_kept}
use Rattle.kept.proofs.Wires.{Loose, keep_wired}
use Rattle.kept.proofs.Sets.{keep_made}
use Rattle.kept.proofs.Ends.{Sender, keep_aim, keep_input}
use Rattle.kept.proofs.Sent.{token_small, keep_sent}
use Rattle.kept.proofs.Steps.{keep_step}

either_not : (a b : Bool) → (a || b) ≡ false → (a ≡ false) × (b ≡ false)
either_not true b e = clash e
either_not false b e = (refl, e)

-- FRESH AND BLANK
pub start_kept : (s : Start) (n : ℕ) → 1 ≤ n → n ≤ nodes → Kept (start_of s n)
start_kept s n some few = sound_kept (start_of s n) (start_sound (leaves_on s n) n some few) (start_tight (leaves_on s n) n some few)

pub keep_start : (w : World) (s : Start) (n : ℕ) → Passes (start_rows w n) → Kept (start_of s n)
keep_start w s n p =
    let counted = (also (at_most 1 n) (at_most n nodes)).sure (not-false _ p.0) in start_kept s n counted.0 counted.1

-- WIRE
pub wire_ends : (w : World) (n l m k : ℕ) → Passes (wire_rows w.net n l m k) → Loose w n l × Loose w m k × Off n l m k
wire_ends w n l m k p =
    let ends = also (also (below n w.net.nodes) (below l links)) (also (below m w.net.nodes) (below k links)) in
    let there = ends.sure (not-false _ p.0) in
    let free = either_not (end_wired w.net n l) (end_wired w.net m k) p.1.1.0 in (
      loose n l there.0 free.0,
      loose m k there.1 free.1,
      λ e d. clash (rw (eq-eqb n m (sym e), eq-eqb l k (sym d)) at p.1.0),
    )
  where
    loose : (a j : ℕ) → (a < w.net.nodes) × (j < links) → end_wired w.net a j ≡ false → Loose w a j
    loose a j h e = record { node = h.0; link = h.1; unwired = eqb-false _ 1 e }

pub keep_wire : (w : World) → Kept w → (n l m k : ℕ) → Passes (wire_rows w.net n l m k) → Kept (with_net w (wired w.net n l m k))
keep_wire w kept n l m k p = let (a, b, off) = wire_ends w n l m k p in keep_wired w kept n l m k a b off

-- SET
pub keep_set_made : (w : World) → Kept w → (n : ℕ) (x : Setting) → Passes (set_rows w n x) → Kept (set_made w n x)
keep_set_made w k n x p =
    let there = (also (below n w.net.nodes) (as_is (link_there x))).sure (not-false _ p.0) in
    keep_made w k n there.0 x there.1 (not-false _ p.1.0) p.1.1.0

-- AIM
pub keep_aimed : (w : World) → Kept w → (n c : ℕ) (g : Goal) (v : ℕ) → Passes (aim_rows w.net n c g v)
    → Kept (with_net w (aim_made w.net n c g v))
keep_aimed w k n c g v p =
    let ranged = (also (as_is (goal_ranged g)) (below v networks)).sure (not-false _ p.1.0) in
    keep_aim w k n c g v ranged.0 ranged.1

-- OUTPUT
pub output_sender : (w : World) (n c : ℕ) (x : Token) → Passes (output_rows w.net n c x) → Sender w.net n c
output_sender w n c x p =
    let there = (also (below n w.net.nodes) (below c ends)).sure (not-false _ p.0) in
    record { node = there.0; end = there.1; aimed = eqb-false _ 0 p.1.0 }

pub keep_output : (w : World) → Kept w → (n c : ℕ) (x : Token) → Passes (output_rows w.net n c x) → Kept (output_made w n c x)
keep_output w k n c x p =
    keep_sent w k n c (word_of x) (output_sender w n c x p)
    (token_small x (target_of (w.net.ends.aims n c)) p.1.1.0 p.1.1.1.0)

-- INPUT
pub keep_inputted : (w : World) → Kept w → (n c : ℕ) (x : Wanted) → Passes (input_rows w.net n c x)
    → Kept (with_net w (input_made w.net n c))
keep_inputted w k n c x p =
    let there = (also (below n w.net.nodes) (below c ends)).sure (not-false _ p.0) in
    keep_input w k n c there.0 there.1

-- STEP
pub step_there : (w : World) (n p : ℕ) → Passes (step_rows w.net n p) → (n < w.net.nodes) × (p < ports)
step_there w n p q = (also (below n w.net.nodes) (below p ports)).sure (not-false _ q.0)

pub keep_stepped : (w : World) → Kept w → (n p : ℕ) → Passes (step_rows w.net n p) → Kept (step_made w n p).next
keep_stepped w k n p q = let there = step_there w n p q in keep_step w k n p there.0 there.1
