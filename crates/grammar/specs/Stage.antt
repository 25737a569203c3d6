-- Where a walk over a port's tokens is, and where the next token takes it (document 01, "Sound").
use Rattle.std.specs.Prelude.{ℕ, zero, suc, Bool, true, false, ◌||◌, eqb}
use Rattle.laws.specs.Pick.{pick}
use Rattle.tokens.specs.Shape.{Shape}
use Rattle.tokens.specs.Shape as S
use Rattle.grammar.specs.declared.stage.Stage.{Stage}
use Rattle.grammar.specs.declared.stage.Stage.TheVariants.{Bad, Fresh, Body, OneDue, ThreeDue, TwoDue, LastDue}

-- each shape by a number of its own; the two are one shape
abbrev pub shape_number : Shape → ℕ
shape_number S.Wrong = 0
shape_number S.Body = 1
shape_number S.Closing = 2
shape_number S.OneByte = 3
shape_number S.ThreeByte = 4
shape_number S.Channel = 5
shape_number S.Unit = 6

abbrev pub same_shape : Shape → Shape → Bool
same_shape a b = eqb (shape_number a) (shape_number b)

-- a one-byte header
abbrev pub of_one : Shape → Bool
of_one c = same_shape c S.OneByte

-- a byte of a three-byte header, and what may be its last token: a channel, or SSCTRL
abbrev pub is_byte : Shape → Bool
is_byte c = same_shape c S.ThreeByte || same_shape c S.Channel

abbrev pub is_last : Shape → Bool
is_last c = same_shape c S.Channel || same_shape c S.Unit

-- a token of a three-byte header
abbrev pub of_three : Shape → Bool
of_three c = is_byte c || is_last c

-- Where the next token leads; one that may not stand there breaks the rule, for good. "a port with no circuit is empty or starts with a
-- header, and so does what follows an END or PAUSE; .. header tokens stand elsewhere only at the front of a circuit still sending its
-- header outward or being dropped"
abbrev pub next_stage : Stage → Shape → Stage
next_stage Bad c = Bad
next_stage Fresh c = pick (of_one c) Body (pick (is_byte c) TwoDue Bad)
next_stage Body c = pick (same_shape c S.Body) Body (pick (same_shape c S.Closing) Fresh Bad)
next_stage OneDue c = pick (of_one c) Body Bad
next_stage ThreeDue c = pick (is_byte c) TwoDue Bad
next_stage TwoDue c = pick (is_byte c) LastDue Bad
next_stage LastDue c = pick (is_last c) Body Bad

-- where a circuit is with so many tokens of a three-byte header at its front; one tells whether it begins with a one-byte header
abbrev pub due : ℕ → Bool → Stage
due zero one = pick one OneDue Body
due (suc zero) one = LastDue
due (suc (suc zero)) one = TwoDue
due (suc (suc (suc zero))) one = ThreeDue
due (suc (suc (suc (suc n)))) one = Bad

abbrev pub is_bad : Stage → Bool
is_bad Bad = true
is_bad Fresh = false
is_bad Body = false
is_bad OneDue = false
is_bad ThreeDue = false
is_bad TwoDue = false
is_bad LastDue = false

-- what the far end of a cable has seen of a circuit that stands here: of a header of which nothing has left yet, nothing
abbrev pub crossed : Stage → Stage
crossed Bad = Bad
crossed Fresh = Fresh
crossed Body = Body
crossed OneDue = Fresh
crossed ThreeDue = Fresh
crossed TwoDue = TwoDue
crossed LastDue = LastDue

abbrev pub stage_number : Stage → ℕ
stage_number Bad = 0
stage_number Fresh = 1
stage_number Body = 2
stage_number OneDue = 3
stage_number ThreeDue = 4
stage_number TwoDue = 5
stage_number LastDue = 6

-- the two are one stage
abbrev pub same_stage : Stage → Stage → Bool
same_stage a b = eqb (stage_number a) (stage_number b)
