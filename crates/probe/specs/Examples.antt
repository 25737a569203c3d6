-- The worked examples of the papers and of the tables read off them, of the very definitions that the contracts cite: what is written, what
-- is read, what is refused.
use Rattle.std.specs.Prelude.{ℕ, ◌≡◌, List, [], ◌∷◌, replicate, Ok, Err}
use Rattle.laws.specs.All.{Each}
use Rattle.tokens.specs.Control.{end, pause, writec}
use Rattle.tokens.specs.Word.{data_word, control_word, header_word, unit_word}
use Rattle.tokens.specs.declared.header.Width.TheVariants.{One, Three}
use Rattle.probe.specs.Form.{Form, transitions}
use Rattle.probe.specs.Calls.{reading}
use Rattle.probe.specs.Serial.{serial}
use Rattle.probe.specs.Fast.{fast}
use Rattle.probe.specs.Answer.{Answer}
use Rattle.probe.specs.declared.answer.Refusal.TheVariants.{Bad, Cut, NoSuch}

-- tokens are written as transitions; a capture is answered so, with a buffer of that many words
pub data Example : Type 0 where
  Writes : Form → List ℕ → List ℕ → Example
  Reads : Form → List ℕ → ℕ → Answer → Example

abbrev pub Holds : Example → Type 0
Holds (Writes F ts xs) = transitions F ts ≡ xs
Holds (Reads F xs room a) = (reading F xs (replicate room 0)).answer ≡ a

-- the tokens of the examples: control 0x09, END, PAUSE, link-level tokens
abbrev nine : ℕ
nine = control_word 0x09

abbrev ends : ℕ
ends = control_word end

abbrev pauses : ℕ
pauses = control_word pause

abbrev credit8 : ℕ
credit8 = control_word 0xE0

abbrev credit64 : ℕ
credit64 = control_word 0xE1

abbrev credit16 : ℕ
credit16 = control_word 0xE4

abbrev hello : ℕ
hello = control_word 0xE6

abbrev pub examples : List Example
examples =
    -- "to send control token 0x09, the following transitions are made" (002, 4.2; 000, 3.1.1)
    Writes serial (nine ∷ []) (0 ∷ 0 ∷ 0 ∷ 0 ∷ 1 ∷ 0 ∷ 0 ∷ 1 ∷ 1 ∷ 1 ∷ [])
    -- .. (002, 4.3; 000, 3.1.2)
    ∷ Writes fast (nine ∷ []) (0 ∷ 2 ∷ 1 ∷ 4 ∷ [])
    -- "to send an end-of-message after the control token sent earlier" (there)
    ∷ Writes fast (nine ∷ ends ∷ []) (0 ∷ 2 ∷ 1 ∷ 4 ∷ 4 ∷ 4 ∷ 0 ∷ 1 ∷ 4 ∷ 3 ∷ 3 ∷ 2 ∷ [])
    -- "HELLO token (1110011010)" (000, 3.2.1)
    ∷ Writes serial (hello ∷ []) (1 ∷ 1 ∷ 1 ∷ 0 ∷ 0 ∷ 1 ∷ 1 ∷ 0 ∷ 1 ∷ 0 ∷ [])
    -- serial data, END, PAUSE and credits
    ∷ Writes serial (data_word 0x2A ∷ []) (0 ∷ 0 ∷ 1 ∷ 0 ∷ 1 ∷ 0 ∷ 1 ∷ 0 ∷ 0 ∷ 1 ∷ [])
    ∷ Writes serial (ends ∷ []) (0 ∷ 0 ∷ 0 ∷ 0 ∷ 0 ∷ 0 ∷ 0 ∷ 1 ∷ 1 ∷ 0 ∷ [])
    ∷ Writes serial (pauses ∷ []) (0 ∷ 0 ∷ 0 ∷ 0 ∷ 0 ∷ 0 ∷ 1 ∷ 0 ∷ 1 ∷ 0 ∷ [])
    ∷ Writes serial (credit16 ∷ []) (1 ∷ 1 ∷ 1 ∷ 0 ∷ 0 ∷ 1 ∷ 0 ∷ 0 ∷ 1 ∷ 1 ∷ [])
    -- headers of three bytes and of one, whose marks are not written
    ∷ Writes fast (header_word 0x01 Three ∷ header_word 0x25 Three ∷ header_word 0x07 Three ∷ data_word 0x2A ∷ ends ∷ [])
    (0 ∷ 0 ∷ 0 ∷ 1 ∷ 0 ∷ 2 ∷ 1 ∷ 1 ∷ 0 ∷ 0 ∷ 1 ∷ 3 ∷ 0 ∷ 2 ∷ 2 ∷ 2 ∷ 4 ∷ 4 ∷ 0 ∷ 3 ∷ [])
    ∷ Writes fast (header_word 0x01 Three ∷ header_word 0x25 Three ∷ unit_word ∷ control_word writec ∷ ends ∷ [])
    (0 ∷ 0 ∷ 0 ∷ 1 ∷ 0 ∷ 2 ∷ 1 ∷ 1 ∷ 4 ∷ 0 ∷ 0 ∷ 3 ∷ 4 ∷ 0 ∷ 0 ∷ 0 ∷ 4 ∷ 4 ∷ 0 ∷ 1 ∷ 4 ∷ 2 ∷ 3 ∷ 4 ∷ [])
    ∷ Writes fast (header_word 0xA7 One ∷ pauses ∷ []) (2 ∷ 2 ∷ 1 ∷ 3 ∷ 1 ∷ 3 ∷ 4 ∷ 4 ∷ [])
    -- END that needs no return, and one that does
    ∷ Writes fast (data_word 0xFF ∷ ends ∷ []) (3 ∷ 3 ∷ 3 ∷ 3 ∷ 4 ∷ 4 ∷ 0 ∷ 0 ∷ [])
    ∷ Writes fast (control_word 0xBF ∷ ends ∷ []) (3 ∷ 4 ∷ 3 ∷ 3 ∷ 4 ∷ 4 ∷ 0 ∷ 0 ∷ 4 ∷ 3 ∷ 3 ∷ 3 ∷ [])
    -- link-level tokens leave the wires as they are
    ∷ Writes fast (nine ∷ hello ∷ credit8 ∷ credit16 ∷ credit64 ∷ ends ∷ [])
    (0 ∷ 2 ∷ 1 ∷ 4 ∷ 4 ∷ 2 ∷ 4 ∷ 2 ∷ 4 ∷ 0 ∷ 4 ∷ 0 ∷ 4 ∷ 3 ∷ 4 ∷ 3 ∷ 4 ∷ 1 ∷ 4 ∷ 1 ∷ 4 ∷ 4 ∷ 0 ∷ 1 ∷ 4 ∷ 3 ∷ 3 ∷ 2 ∷ [])
    -- sequences of no meaning: END by a single escape, a credit by one, two escapes apart, a wire that is not there
    ∷ Reads fast (0 ∷ 0 ∷ 1 ∷ 4 ∷ []) 1 (Err (Bad 0))
    ∷ Reads fast (3 ∷ 3 ∷ 3 ∷ 3 ∷ 4 ∷ 2 ∷ 0 ∷ 0 ∷ []) 2 (Err (Bad 4))
    ∷ Reads fast (4 ∷ 3 ∷ 4 ∷ 4 ∷ []) 1 (Err (Bad 0))
    ∷ Reads fast (0 ∷ 0 ∷ 0 ∷ 5 ∷ []) 1 (Err (Bad 0))
    -- bad parity
    ∷ Reads serial (0 ∷ 0 ∷ 0 ∷ 0 ∷ 1 ∷ 0 ∷ 0 ∷ 1 ∷ 1 ∷ 0 ∷ []) 1 (Err (Bad 0))
    ∷ Reads serial (0 ∷ 0 ∷ 0 ∷ 0 ∷ 1 ∷ 0 ∷ 0 ∷ 1 ∷ 1 ∷ 1 ∷ 0 ∷ 0 ∷ 0 ∷ 0 ∷ 0 ∷ 0 ∷ 0 ∷ 1 ∷ 0 ∷ 0 ∷ []) 2 (Err (Bad 10))
    -- short captures, whatever stands in what is left and whatever room there is
    ∷ Reads fast (4 ∷ 4 ∷ 4 ∷ []) 1 (Err Cut)
    ∷ Reads fast (0 ∷ 2 ∷ 1 ∷ 4 ∷ 4 ∷ 4 ∷ 0 ∷ 1 ∷ 4 ∷ 3 ∷ []) 4 (Err Cut)
    ∷ Reads fast (0 ∷ 2 ∷ 1 ∷ 4 ∷ 4 ∷ 4 ∷ 0 ∷ []) 0 (Err Cut)
    ∷ Reads serial (0 ∷ 0 ∷ 0 ∷ 0 ∷ 2 ∷ []) 1 (Err Cut)
    -- no room for the whole, which is one token: the return is passed over
    ∷ Reads fast (4 ∷ 4 ∷ 0 ∷ 1 ∷ 4 ∷ 3 ∷ 3 ∷ 2 ∷ []) 0 (Err NoSuch)
    ∷ Reads fast (4 ∷ 4 ∷ 0 ∷ 1 ∷ 4 ∷ 3 ∷ 3 ∷ 2 ∷ []) 1 (Ok 1)
    ∷ []

abbrev pub AllHold : Type 0
AllHold = Each Holds examples
