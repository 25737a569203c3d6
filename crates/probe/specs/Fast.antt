-- "The fast XMOS link": four symbols a sequence, a value by a transition on wire 0 to 3, an escape by one on wire 4 (002, 4.3).
use Rattle.std.specs.Prelude.{ℕ, zero, suc, ◌+◌, ◌-◌, ◌/◌, ◌≡◌, refl, Bool, true, false, ◌&&◌, ◌||◌, List, [], ◌∷◌, ◌++◌, ltb, leb, eqb, get_or}
use Rattle.laws.specs.Pick.{pick}
use Rattle.laws.specs.All.{all, first}
use Rattle.laws.specs.Row.{tab}
use Rattle.tokens.specs.Control.{end, pause}
use Rattle.tokens.specs.Word.{control_word, value_of}
use Rattle.probe.specs.Wires.{after, high}
use Rattle.probe.specs.Digits.{digits, number}
use Rattle.probe.specs.Form.{Form}
use Rattle.probe.specs.declared.sequence.Said.{Said}
use Rattle.probe.specs.declared.sequence.Said.TheVariants.{Token, Return, Nothing}

abbrev pub escape : ℕ
escape = 4

-- "In 5-wire mode, the link-level tokens use special encodings": escape v escape v, for v from 0 on CREDIT8, CREDIT64, HELLO, CREDIT16
abbrev pub link_level : List ℕ
link_level = 0xE0 ∷ 0xE1 ∷ 0xE6 ∷ 0xE4 ∷ []

-- the v of a control token of that kind, 4 where it is none
unfoldable pub link_value : ℕ → ℕ
link_value c = first 4 (λ v. eqb (get_or link_level v 0) c)

-- "RTNZ0 (control token 0xFC)" to "RTNZ3 (control token 0xFF)"
abbrev pub first_return : ℕ
first_return = 0xFC

-- "control tokens 1 (END) and 2 (PAUSE) are not transmitted using the conventional single escape", nor are link-level tokens
unfoldable pub special : ℕ → Bool
special c = (eqb c end || eqb c pause) || ltb (link_value c) 4

-- WRITING. "A control token is transmitted using one escape symbol, and three value symbols .. the first two bits of the control token are
-- determined by the position of the escape symbol": first 11, second 10, third 01, fourth 00
abbrev pub escaped : ℕ → List ℕ → List ℕ
escaped zero q = escape ∷ q
escaped (suc n) [] = escape ∷ []
escaped (suc n) (x ∷ q) = x ∷ escaped n q

abbrev pub control_form : ℕ → List ℕ
control_form c = escaped (3 - c / 64) (digits 4 3 c)

abbrev pub link_form : ℕ → List ℕ
link_form c = escape ∷ link_value c ∷ escape ∷ link_value c ∷ []

-- the rows of the tables: "16 different END tokens", "16 different PAUSE tokens", "RTNZ0" to "RTNZ3" and "16 NOPD tokens"
abbrev pub end_forms : List (List ℕ)
end_forms = tab 16 (λ i. escape ∷ escape ∷ digits 4 2 i)

abbrev pub pause_forms : List (List ℕ)
pause_forms = tab 16 (λ i. digits 4 2 i ++ (escape ∷ escape ∷ []))

abbrev pub return_forms : List (List ℕ)
return_forms = tab 4 (λ v. escape ∷ 3 ∷ 3 ∷ v ∷ []) ++ tab 16 (λ i. (escape ∷ digits 4 2 i) ++ (escape ∷ []))

-- "the smallest symbols in order" (document 02, Ask 8): the first place at which two sequences differ decides
abbrev pub smaller : List ℕ → List ℕ → Bool
smaller [] p = false
smaller (x ∷ q) [] = false
smaller (x ∷ q) (y ∷ p) = ltb x y || (eqb x y && smaller q p)

abbrev pub left : ℕ → List ℕ → ℕ
left s q = high (after s q)

-- "the one that leaves fewest wires high, then the one with the smallest symbols in order" (there)
abbrev pub preferred : ℕ → List ℕ → List ℕ → Bool
preferred s q p = ltb (left s q) (left s p) || (eqb (left s q) (left s p) && smaller q p)

abbrev pub better : ℕ → List ℕ → List ℕ → List ℕ
better s q p = pick (preferred s q p) q p

abbrev pub best : ℕ → List ℕ → List (List ℕ) → List ℕ
best s p [] = p
best s p (q ∷ qs) = best s (better s q p) qs

unfoldable pub least_of : ℕ → List (List ℕ) → List ℕ
least_of s [] = []
least_of s (q ∷ qs) = best s q qs

-- "an optional return-to-zero token": none where all wires are low
unfoldable pub returned : ℕ → List ℕ
returned s = pick (eqb (high s) 0) [] (least_of s return_forms)

-- END or PAUSE by one of its forms, with its return
unfoldable pub closing : ℕ → List (List ℕ) → List ℕ
closing s forms = least_of s forms ++ returned (after s (least_of s forms))

abbrev pub control_one : ℕ → ℕ → List ℕ
control_one s c =
    pick (eqb c end) (closing s end_forms)
    (pick (eqb c pause) (closing s pause_forms) (pick (ltb (link_value c) 4) (link_form c) (control_form c)))

-- "If all four are value symbols, a total of eight bits of data are transferred (a data-token)"
unfoldable pub fast_one : ℕ → ℕ → List ℕ
fast_one s t = pick (ltb t 256) (digits 4 4 t) (control_one s (value_of t))

-- READING. A control token by a single escape
unfoldable pub control_said : ℕ → Said
control_said c = pick (leb first_return c) Return (pick (special c) Nothing (Token (control_word c)))

abbrev pub three : ℕ → ℕ → ℕ → ℕ
three a b c = number 4 3 (a ∷ b ∷ c ∷ [])

abbrev pub four : ℕ → ℕ → ℕ → ℕ → ℕ
four a b c d = number 4 4 (a ∷ b ∷ c ∷ d ∷ [])

-- the tables of 4.3, by which of the four symbols are escapes. The row of the second escape ends at 0xBF: "0xCF by misprint; 000's 128 to
-- 191 decides" (document 02, Ask 8)
abbrev pub row_says : Bool → Bool → Bool → Bool → ℕ → ℕ → ℕ → ℕ → Said
row_says false false false false a b c d = Token (four a b c d)
row_says true false false false a b c d = control_said (0xC0 + three b c d)
row_says false true false false a b c d = control_said (0x80 + three a c d)
row_says false false true false a b c d = control_said (0x40 + three a b d)
row_says false false false true a b c d = control_said (0x00 + three a b c)
row_says true true false false a b c d = Token (control_word end)
row_says false false true true a b c d = Token (control_word pause)
row_says true false false true a b c d = Return
row_says true false true false a b c d = pick (eqb b d) (Token (control_word (get_or link_level b 0))) Nothing
row_says true true true w a b c d = Nothing
row_says true true false true a b c d = Nothing
row_says true false true true a b c d = Nothing
row_says false true true w a b c d = Nothing
row_says false true false true a b c d = Nothing

unfoldable pub symbols_say : ℕ → ℕ → ℕ → ℕ → Said
symbols_say a b c d = row_says (eqb a escape) (eqb b escape) (eqb c escape) (eqb d escape) a b c d

-- a transition on one of the five wires at each of four places
unfoldable pub fast_says : List ℕ → Said
fast_says q =
    pick (all 4 (λ i. ltb (get_or q i 0) 5)) (symbols_say (get_or q 0 0) (get_or q 1 0) (get_or q 2 0) (get_or q 3 0)) Nothing

-- every token but the returns, which would not be read back
unfoldable pub fast : Form
fast = record { width = 4; writes = λ t. ltb t (control_word first_return); one = fast_one; says = fast_says }

pub fast_width : 4 ≡ fast.width
unfolding fast
fast_width = refl
