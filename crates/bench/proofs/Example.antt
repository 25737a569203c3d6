-- A run of calls, computed: two boards are joined, and a circuit carries a token from a channel-end of one to a program of the other and
-- closes. Assumes nothing.
use mathlib.Core.Path.{refl}
use mathlib.Core.List.{[], ◌∷◌}
use Rattle.names.specs.declared.Slot.{Slot}
use Rattle.answers.specs.Answered.{No, Done, Granted, Token, Idle, Moved, OpenedLink, OpenedChannel, Arrived}
use Rattle.names.specs.declared.no.No.TheVariants.{Busy, Open, Trap}
use Rattle.settings.specs.declared.Setting.TheVariants.{Number, Enable, Hello}
use Rattle.ends.specs.declared.Token.TheVariants as Tokens
use Rattle.ends.specs.declared.Wanted.TheVariants as Wanted
use Rattle.ends.specs.declared.aim.Goal.TheVariants.{Channel}
use Rattle.fresh.specs.declared.Start.TheVariants.{Blank}
use Rattle.kept.proofs.Computes.{computes}
use Rattle.bench.specs.Calls.{Wire, Set, Aim, Output, Input, Step, Line}
use Rattle.bench.proofs.Computed.{Script, Runs, runs}

-- THE RUN: each call, with its answer
abbrev here : Slot
here = record { 0 = 0 }

abbrev there : Slot
there = record { 0 = 1 }

abbrev pub script : Script
script =
    (Wire here 0 there 0, Done)
    ∷ (Set here (Enable 0 1), Done)
    ∷ (Set there (Enable 0 1), Done)
    -- HELLO travels, and so does the credit that it brings
    ∷ (Set here (Hello 0), Granted 0)
    ∷ (Line here 0, Arrived 64)
    ∷ (Line there 0, Arrived 0)
    ∷ (Set there (Number 1), Done)
    ∷ (Aim here 0 (Channel 1 5) 0, Done)
    ∷ (Output here 0 (Tokens.Data 7), Done)
    -- Open: it sends
    ∷ (Aim here 0 (Channel 1 6) 0, No Open)
    ∷ (Output here 0 (Tokens.Control 1), Done)
    -- a header of three bytes, 7 and END
    ∷ (Step here 8, OpenedLink 0)
    ∷ (Step here 8, Moved)
    ∷ (Step here 8, Moved)
    ∷ (Step here 8, Moved)
    ∷ (Step here 8, Moved)
    -- Busy: the link is in a circuit
    ∷ (Set here (Enable 0 0), No Busy)
    ∷ (Step here 8, Moved)
    ∷ (Step here 8, Idle)
    -- Busy: five tokens are on the line; then they arrive, and the line is empty
    ∷ (Set here (Enable 0 0), No Busy)
    ∷ (Line here 0, Arrived 0)
    ∷ (Line here 0, Arrived 0)
    ∷ (Line here 0, Arrived 0)
    ∷ (Line here 0, Arrived 0)
    ∷ (Line here 0, Arrived 0)
    ∷ (Line here 0, Idle)
    ∷ (Step there 0, OpenedChannel)
    ∷ (Step there 0, Moved)
    ∷ (Step there 0, Moved)
    -- Trap: 7 is no control token
    ∷ (Input there 5 Wanted.Control, No Trap)
    ∷ (Input there 5 Wanted.Data, Token 7)
    ∷ (Input there 5 Wanted.Control, Token 1)
    -- END has closed the circuit at both boards
    ∷ (Set here (Enable 0 0), Done)
    ∷ []

pub example : Runs Blank 2 script
unfolding computes
example = runs Blank 2 script refl refl refl
