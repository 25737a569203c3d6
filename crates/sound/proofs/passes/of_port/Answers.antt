-- `sound::passes::of_port` meets its contract. Assumes nothing.
use Rattle.std.proofs.Common.{◌≡◌, sym, ◌∙◌}
use Rattle.cells.specs.Memories.{world_of}
use Rattle.line_clauses.specs.Lines.{holds_over}
use Rattle.line_clauses.proofs.Walks.{holds_still}
use Rattle.sound.proofs.Alone.{port_alone}
use Rattle.sound.proofs.passes.of_port.Goals as goal
use Rattle.sound.proofs.passes.of_port.Goals.{then-nothing_comes, else-nothing_comes}

pub returns-then-alone : goal.returns-then-alone
returns-then-alone c =
    let a = c.args in
    let w = world_of a.m.now in
    -- either way it is what the port holds with its line behind
    let held : c.if-nothing_comes.held ≡ holds_over w a.slot.0 a.p =
    elim c.if-nothing_comes.branch [
      | then-nothing_comes x ↦
          x.held-is ∙ x.contents-held.ensures
          ∙ sym (holds_still w a.slot.0 a.p (sym c.nothing_comes.ensures ∙ x.if-nothing_comes.true))
      | else-nothing_comes x ↦ x.held-is ∙ x.holds_over-held.ensures
    ] in
    rw (c.port_counts-counts.ensures, c.at-k.ensures, held)
    (port_alone w a.slot.0 a.p (rw c.at-k.ensures at c.if-alone.true))

pub returns : goal.returns
returns c =
    let a = c.args in
    let w = world_of a.m.now in
    let held : c.if-nothing_comes.held ≡ holds_over w a.slot.0 a.p =
    elim c.if-nothing_comes.branch [
      | then-nothing_comes x ↦
          x.held-is ∙ x.contents-held.ensures
          ∙ sym (holds_still w a.slot.0 a.p (sym c.nothing_comes.ensures ∙ x.if-nothing_comes.true))
      | else-nothing_comes x ↦ x.held-is ∙ x.holds_over-held.ensures
    ] in
    rw (c.port_circuits.ensures, c.port_counts-counts.ensures, c.at-k.ensures, held)
