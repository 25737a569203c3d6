-- What carrying out an Output asks of the state. A sound state has it: `fits_here`, `sends_here` and `plan_possible` in
-- ends/proofs/Possibles.antt.
use Prim.{Unit}
use Rattle.std.specs.Prelude.{ℕ, ◌<◌, ◌≡◌, true, List}
use Rattle.names.specs.Size.{ends, numbers}
use Rattle.tokens.specs.declared.header.Target.{Target}
use Rattle.cells.specs.World.{World}
use Rattle.cells.specs.declared.end.Aim.{Aim}
use Rattle.acts.specs.Needs.{Room, Given}
use Rattle.sound.specs.Sound.{sound}
use Rattle.ends.specs.Plan.{target_of}
use Rattle.ends.specs.declared.aim.Goal.{Goal}
use Rattle.ends.specs.declared.aim.Goal.TheVariants as Goals
use Rattle.ends.specs.declared.plan.Plan.{Plan}
use Rattle.ends.specs.declared.plan.Plan.TheVariants.{Narrow, Full, Opens, Behind, Straight}

-- a goal whose number has been tested: 16 bits
abbrev pub GoalFits : Goal → Type 0
GoalFits (Goals.Channel m c) = m < numbers
GoalFits (Goals.Unit m) = m < numbers

-- a number of 16 bits and a channel of 8
abbrev pub AimFits : Aim → Type 0
AimFits k = (k.number < numbers) × (k.kind ≡ 1 → k.channel < 256)

-- .. while it is aimed
abbrev pub Fits : Aim → Type 0
Fits k = (k.kind ≡ 0 → ⊥) → AimFits k

-- a plan that can be carried out
abbrev pub OutputPossible : World → ℕ → ℕ → Plan → Type 0
OutputPossible w n t Narrow = Unit
OutputPossible w n t Full = Unit
OutputPossible w n t (Opens p) = Room w n p 4
OutputPossible w n t (Behind p) = Room w n p 1
OutputPossible w n t (Straight d) = Given w.net n d t

-- the world with these words on its lines
abbrev pub with_lines : World → List ℕ → World
with_lines w ls = record { net = w.net; memory = w.memory; line_memory = ls }

-- sound, with what is on its lines: no Output looks at them, and none is lent them
pub record SoundBy (w : World) : Type 0 where
  pub lines : List ℕ
  pub all : sound (with_lines w lines) ≡ true

-- a channel-end that is there and aimed at g, of a state that is sound
pub record Sends (w : World) (n c : ℕ) (g : Target) : Type 0 where
  pub sure : SoundBy w
  pub node : n < w.net.nodes
  pub end : c < ends
  pub aimed : (w.net.ends.aims n c).kind ≡ 0 → ⊥
  pub target : g ≡ target_of (w.net.ends.aims n c)
