-- "For each token 10 transitions are made. The first eight transitions encode the 8 bits of the token value, transmitted most significant
-- bit first. The ninth transition signals whether this is a control or data token. A transition on 1 signals a control-token, a transition
-- on 0 signals a data-token. The final transition causes both wires to go back to low state." (002, 4.2) "The final bit is an even parity
-- bit that causes both wires to go back to low state when transmitted." (000, 3.1.1)
use Rattle.std.specs.Prelude.{ℕ, ◌+◌, ◌*◌, ◌/◌, ◌%◌, ◌≡◌, refl, true, ◌&&◌, List, [], ◌∷◌, ◌++◌, ltb, eqb, get_or}
use Rattle.laws.specs.Pick.{pick}
use Rattle.laws.specs.All.{all}
use Rattle.tokens.specs.Word.{value_of}
use Rattle.probe.specs.Digits.{digits, number, ones}
use Rattle.probe.specs.Form.{Form}
use Rattle.probe.specs.declared.sequence.Said.{Said}
use Rattle.probe.specs.declared.sequence.Said.TheVariants.{Token, Nothing}

-- the bit that is 1 in a control token, and the parity that is kept
abbrev pub ninth : ℕ → ℕ
ninth t = t / 256 % 2

abbrev pub tenth : List ℕ → ℕ
tenth nine = ones 9 nine % 2

abbrev pub parted : List ℕ → List ℕ
parted nine = nine ++ (tenth nine ∷ [])

unfoldable pub serial_one : ℕ → List ℕ
serial_one t = parted (digits 2 8 (value_of t) ++ (ninth t ∷ []))

-- a transition on wire 0 or 1 at each of ten places, an even number of them on 1
unfoldable pub serial_says : List ℕ → Said
serial_says q =
    pick (all 10 (λ i. ltb (get_or q i 0) 2) && eqb (ones 10 q % 2) 0) (Token (number 2 8 q + 256 * get_or q 8 0)) Nothing

-- "The two signal wires are both at rest between tokens": what is written does not go by the wires
unfoldable pub serial : Form
serial = record { width = 10; writes = λ t. true; one = λ s t. serial_one t; says = serial_says }

pub serial_width : 10 ≡ serial.width
unfolding serial
serial_width = refl
