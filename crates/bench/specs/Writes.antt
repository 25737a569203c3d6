-- A write by switch message, set beside the same Sets made by call (document 01, "Switch messages": "tried as Sets").
use Rattle.std.specs.Prelude.{ℕ, ◌<◌, ◌≤◌, ◌≡◌, true}
use Rattle.laws.specs.All.{Each}
use Rattle.names.specs.Size.{ports}
use Rattle.names.specs.No.{passes}
use Rattle.circuits.specs.declared.Hop.TheVariants.{Unit}
use Rattle.tokens.specs.Word.{closes}
use Rattle.tokens.specs.declared.header.Target.{Target}
use Rattle.answers.specs.Answer.{number_of}
use Rattle.cells.specs.World.{World, hop}
use Rattle.acts.specs.Acts.{with_net, first_at}
use Rattle.messages.specs.Heard.{message_of}
use Rattle.messages.specs.declared.heard.Message.TheVariants.{Write}
use Rattle.messages.specs.declared.register.Register.{Register}
use Rattle.moves.specs.Moves.{took, closes_unit}
use Rattle.bench.specs.Runs.{Ran}

-- no call of a run was refused
abbrev pub NoneRefused : Ran → Type 0
NoneRefused r = Each (λ a. number_of a ≡ passes) r.answers

-- the oldest token of port p ends a message to node n's control unit, which says: write v to register r, and reply to g
pub record EndsWrite (w : World) (n p : ℕ) (g : Target) (r : Register) (v : ℕ) : Type 0 where
  pub node : n < w.net.nodes
  pub port : p < ports
  pub held : 1 ≤ (w.net.ports.counters n p).held
  pub served : hop w.net n p ≡ Unit
  pub last : closes (first_at w n p) ≡ true
  pub says : message_of (w.net.units.hearings n 0) (first_at w n p) ≡ Write g r v

-- the state that such a message is obeyed on: "The hop closes first, with any grant that the taking of its last token brings"
abbrev pub hop_closed : World → ℕ → ℕ → World
hop_closed w n p = with_net (took w n p) (closes_unit (took w n p).net n p)
