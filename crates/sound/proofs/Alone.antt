-- A port or channel-end without a circuit names nobody, so nothing has to name it back. Assumes nothing.
use Prim.Native.Nat.{ℕ}
use mathlib.Core.Path.{◌≡◌}
use mathlib.Core.Bool.{true, ◌&&◌, and-true}
use lib.Dec.{eqb}
use Rattle.laws.proofs.All.{also, equal}
use Rattle.names.specs.Size.{ports, ends}
use Rattle.cells.specs.View.{whole_port, whole_end}
use Rattle.cells.specs.World.{World}
use Rattle.clauses.specs.Counts.{port_counts, end_counts}
use Rattle.clauses.specs.Contents.{held_tokens}
use Rattle.line_clauses.specs.Lines.{holds_over}
use Rattle.sound.specs.Clauses.{circuits, sound_clauses, asked}

module _ (w : World) (n i : ℕ) where
  pub end_alone : (eqb (w.net.ends.sendings n i).kind 0 && eqb (w.net.ends.claims n i).kind 0) ≡ true
      → (end_counts (whole_end w.net n i) && held_tokens w.net n i) ≡ asked sound_clauses ends w n i
  end_alone e =
      let z = (also (equal (w.net.ends.sendings n i).kind 0) (equal (w.net.ends.claims n i).kind 0)).sure e in
      let q : asked circuits ends w n i ≡ true = rw (z.0, z.1) in
      rw (q, and-true (held_tokens w.net n i))

  pub port_alone : (eqb (w.net.ports.legs n i).circuit.kind 0 && eqb (w.net.ports.senders n i).kind 0) ≡ true
      → (port_counts i (whole_port w.net n i) && holds_over w n i) ≡ asked sound_clauses ports w n i
  port_alone e =
      let z = (also (equal (w.net.ports.legs n i).circuit.kind 0) (equal (w.net.ports.senders n i).kind 0)).sure e in
      let q : asked circuits ports w n i ≡ true = rw (z.0, z.1) in
      rw (q, and-true (holds_over w n i))
