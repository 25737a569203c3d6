-- "then the write is made, whole or not at all. .. Several fields in one write are tried as Sets" (document 01, "Switch messages")
use Rattle.std.specs.Prelude.{ℕ, Bool, true, ◌&&◌, List, [], ◌∷◌, eqb}
use Rattle.laws.specs.Pick.{pick}
use Rattle.names.specs.No.{passes}
use Rattle.answers.specs.Answer.{number_of}
use Rattle.cells.specs.World.{World}
use Rattle.settings.specs.Set.{set_call}
use Rattle.settings.specs.declared.Setting.{Setting}

-- Set does not refuse it
abbrev pub passes_set : World → ℕ → Setting → Bool
passes_set w n x = eqb (number_of (set_call w n x).answer) passes

-- none is refused, each tried on what the one before left
abbrev pub accepted : World → ℕ → List Setting → Bool
accepted w n [] = true
accepted w n (x ∷ xs) = passes_set w n x && accepted (set_call w n x).next n xs

-- what they leave, made one by one
abbrev pub made_all : World → ℕ → List Setting → World
made_all w n [] = w
made_all w n (x ∷ xs) = made_all (set_call w n x).next n xs

-- "whole or not at all"
unfoldable pub written : World → ℕ → List Setting → World
written w n xs = pick (accepted w n xs) (made_all w n xs) w
