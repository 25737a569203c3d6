-- What is read of one memory is the same where the other is lent too. Assumes nothing.
use Prim.Native.Nat.{ℕ}
use mathlib.Core.Path.{◌≡◌, refl, ap, ◌∙◌}
use mathlib.Core.Bool.{Bool, ◌||◌}
use mathlib.Core.List.{List}
use lib.Dec.{eqb}
use Rattle.circuits.specs.Circuit.{peer_of}
use Rattle.circuits.specs.declared.Peer.{Peer}
use Rattle.circuits.specs.declared.Peer.TheVariants.{Nobody, Port, End}
use Rattle.grammar.specs.Stage.{same_stage}
use Rattle.grammar.specs.declared.stage.Stage.{Stage}
use Rattle.grammar.specs.declared.stage.Stage.TheVariants.{Fresh}
use Rattle.cells.specs.View.{view}
use Rattle.cells.specs.World.{world, lined, lent, Far, Nowhere, At}
use Rattle.clauses.specs.Ties.{carried_for, unsent, in_body, sends}
use Rattle.line_clauses.specs.Lines.{reached_from, reached, fed_over_to}

module _ (st mem ls : List ℕ) where
  pub from_lent : (s : Stage) (f : Far) → reached_from (lined st ls) s f ≡ reached_from (lent st mem ls) s f
  from_lent s Nowhere = refl
  from_lent s (At m k) = refl

  carried_lent : (n : ℕ) (x : Peer) → carried_for (world st mem) n x ≡ carried_for (lent st mem ls) n x
  carried_lent n Nobody = refl
  carried_lent n (Port p) = refl
  carried_lent n (End e) = refl

  pub unsent_lent : (n l : ℕ) → unsent (world st mem) n l ≡ unsent (lent st mem ls) n l
  unsent_lent n l =
      ap (λ (s : Stage). eqb ((view st).links.cables n l).wired 1 || same_stage s Fresh)
      (carried_lent n (peer_of ((view st).links.users n l)))

  body_lent : (n : ℕ) (x : Peer) → in_body (world st mem) n x ≡ in_body (lent st mem ls) n x
  body_lent n Nobody = refl
  body_lent n (Port p) = refl
  body_lent n (End e) = refl

  pub sends_lent : (n e : ℕ) → sends (world st mem) n e ≡ sends (lent st mem ls) n e
  sends_lent n e = body_lent n (peer_of ((view st).ends.sendings n e))

  -- what a far port has reached beside what its feeder has carried
  pub fed_lent : (n l m k : ℕ) (x : Peer) (c r : Stage) (b : Bool)
      → x ≡ peer_of ((view st).links.users n l)
      → c ≡ carried_for (world st mem) n x
      → r ≡ reached (lent st mem ls) m k
      → b ≡ same_stage r c
      → b ≡ fed_over_to (lent st mem ls) n l m k
  fed_lent n l m k x c r b named carried come same =
      same
      ∙ ap (λ (s : Stage). same_stage s c) come
      ∙ ap (same_stage (reached (lent st mem ls) m k)) (carried ∙ carried_lent n x ∙ ap (carried_for (lent st mem ls) n) named)
