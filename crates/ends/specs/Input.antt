-- "Input the next token as data or as control." (document 01, "Calls")
use Rattle.std.specs.Prelude.{ℕ, suc, ◌-◌, Bool, not, List, [], ◌∷◌, ◌++◌, eqb, get_or}
use Rattle.laws.specs.Row.{tab}
use Rattle.names.specs.Size.{end_buffer}
use Rattle.names.specs.declared.no.No.TheVariants.{NoSuch, Empty, Trap}
use Rattle.tokens.specs.Word.{value_of, is_control}
use Rattle.answers.specs.Rows.{Row, refused_if}
use Rattle.answers.specs.Out.{Out, out, attempt}
use Rattle.answers.specs.Answered.{Token}
use Rattle.cells.specs.View.{Net, with_buffer}
use Rattle.cells.specs.declared.end.Buffer.{Buffer}
use Rattle.ends.specs.Ends.{end_at}
use Rattle.ends.specs.declared.Wanted.{Wanted}
use Rattle.ends.specs.declared.Wanted.TheVariants.{Data, Control}

-- the oldest token
abbrev pub first_held : Buffer → ℕ
first_held k = get_or k.tokens 0 0

abbrev pub is_wanted : ℕ → Wanted → Bool
is_wanted t Data = not (is_control t)
is_wanted t Control = is_control t

-- "Empty: Input with nothing held; Trap: Input of the wrong kind; the token stays"
abbrev pub input_rows : Net → ℕ → ℕ → Wanted → List Row
input_rows s n c k =
    refused_if (not (end_at s n c)) NoSuch
    ∷ refused_if (eqb (s.ends.buffers n c).held 0) Empty
    ∷ refused_if (not (is_wanted (first_held (s.ends.buffers n c)) k)) Trap
    ∷ []

-- the others move up, and the word that the last one leaves is cleared
abbrev pub took_first : Buffer → Buffer
took_first k = record { held = k.held - 1; tokens = tab (end_buffer - 1) (λ i. get_or k.tokens (suc i) 0) ++ (0 ∷ []) }

abbrev pub input_value : Net → ℕ → ℕ → ℕ
input_value s n c = value_of (first_held (s.ends.buffers n c))

abbrev pub input_made : Net → ℕ → ℕ → Net
input_made s n c = with_buffer s n c (took_first (s.ends.buffers n c))

unfoldable pub input : Net → ℕ → ℕ → Wanted → Out Net
input s n c k = attempt (input_rows s n c k) s (out (Token (input_value s n c)) (input_made s n c))
