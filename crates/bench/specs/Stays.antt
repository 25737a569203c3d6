-- What ends the circuit that a channel-end has open (document 01, "Calls": "claimed until END or PAUSE", "taken until its END or PAUSE").
use Rattle.std.specs.Prelude.{ℕ, ◌≡◌, true}
use Rattle.tokens.specs.Word.{closes}
use Rattle.ends.specs.Output.{word_of}
use Rattle.bench.specs.Calls.{Call, Begin, Wire, Set, Aim, Output, Input, Step, Line, Steps}

-- channel-end e of node n puts out END or PAUSE; or all begins anew
abbrev pub EndsCircuit : ℕ → ℕ → Call → Type 0
EndsCircuit n e (Begin s m) = Prim.Unit
EndsCircuit n e (Wire a l b k) = ⊥
EndsCircuit n e (Set a x) = ⊥
EndsCircuit n e (Aim a c g v) = ⊥
EndsCircuit n e (Output a c x) = (a.0 ≡ n) × (c ≡ e) × (closes (word_of x) ≡ true)
EndsCircuit n e (Input a c k) = ⊥
EndsCircuit n e (Step a p) = ⊥
EndsCircuit n e (Line a l) = ⊥
EndsCircuit n e (Steps m xs) = ⊥
