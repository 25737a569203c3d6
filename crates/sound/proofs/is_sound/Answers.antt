-- `sound::is_sound` meets its contract: one pass over each table. Assumes nothing.
use Rattle.std.proofs.Common.{◌≡◌, Bool, true, false, rules}
use mathlib.Core.Bool.{and-true}
use Rattle.names.specs.Size.{links, ports, tile_links, ends}
use Rattle.cells.specs.World.{World, shaped}
use Rattle.cells.specs.Memories.{world_of}
use Rattle.sound.specs.Clauses.{sound_clauses, asked}
use Rattle.sound.specs.Sound.{sound}
use Rattle.sound.proofs.OnePass.{tables, passes, sound_passes}
use Rattle.sound.proofs.is_sound.Goals as goal

module _ (w : World) where
  wrong_length : {b : Bool} → b ≡ shaped w → b ≡ false → false ≡ sound w
  wrong_length e h = rw (← sound_passes w, ← e, h)

  answer : {b r : Bool} → b ≡ shaped w → b ≡ true → r ≡ passes sound_clauses w tables → r ≡ sound w
  answer e h f = rw (f, ← sound_passes w, ← e, h)

pub returns-then-not-shaped : goal.returns-then-not-shaped
returns-then-not-shaped c =
    let a = c.args in
    wrong_length (world_of a.m.now) c.shaped.ensures c.if-not-shaped.true

pub returns : goal.returns
returns c =
    let a = c.args in
    let w = world_of a.m.now in
    answer w c.shaped.ensures c.if-not-shaped.false
    (rw (c.at_every_place-nodes.ensures (asked sound_clauses 1 w) (λ slot i r e. search rules))
    (rw (c.at_every_place-links.ensures (asked sound_clauses links w) (λ slot i r e. search rules))
    (rw (c.at_every_place-ports.ensures (asked sound_clauses ports w) (λ slot i r e. search rules))
    (rw (c.at_every_place-tiles.ensures (asked sound_clauses tile_links w) (λ slot i r e. search rules))
    (rw (c.at_every_place-ends.ensures (asked sound_clauses ends w) (λ slot i r e. search rules), and-true))))))
