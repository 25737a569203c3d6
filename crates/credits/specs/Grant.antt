-- "if credit is below 8, let room = 64 − tokens held at the far end − credit; grant the largest of 64, 16, 8 that room covers, else none"
-- (document 01, "Credits")
use Rattle.std.specs.Prelude.{ℕ, ◌-◌, ltb, leb}
use Rattle.laws.specs.Pick.{pick}
use Rattle.ports.specs.Queue.{capacity}

-- nothing is left where held and credit pass 64, which a sound state does not have
abbrev pub room_of : ℕ → ℕ → ℕ
room_of credit held = capacity - held - credit

abbrev pub covered : ℕ → ℕ
covered room = pick (leb 64 room) 64 (pick (leb 16 room) 16 (pick (leb 8 room) 8 0))

unfoldable pub grant_of : ℕ → ℕ → ℕ
grant_of credit held = pick (ltb credit 8) (covered (room_of credit held)) 0

-- "The answer to HELLO gives the grant": one of these
pub data Granted : ℕ → Type 0 where
  none : Granted 0
  eight : Granted 8
  sixteen : Granted 16
  all : Granted 64
