-- Sound, tight and quiet.
use Rattle.std.specs.Prelude.{ℕ, Bool, ◌&&◌}
use Rattle.laws.specs.Pick.{pick}
use Rattle.cells.specs.World.{World, shaped}
use Rattle.sound.specs.Clauses.{sound_clauses, all_hold, ask_all}
use Rattle.sound.specs.Questions.{everywhere}
use Rattle.sound.specs.declared.questions.Question.TheVariants.{Tied, Sends, Replied, QuietPort, QuietEnd, QuietLine}

-- Sound (document 01): the memories have their lengths, and the list holds; what that says with no test in it is `sound_spelled` in
-- sound/proofs/Spelled.antt
unfoldable pub sound : World → Bool
sound w = shaped w && all_hold sound_clauses w

-- 1 where a memory has the wrong length, else the number of the first clause that fails, 0 where none does
unfoldable pub unsound_clause : World → ℕ
unsound_clause w = pick (shaped w) (ask_all 0 0 sound_clauses w) 1

-- Tight: the nine ties, by which soundness lasts: fed, unfed, unsent and idle at links, and of their lines between, towards and helloLast;
-- sends at channel-ends, replied at port 12
unfoldable pub tight : World → Bool
tight w = everywhere Tied w && (everywhere Sends w && everywhere Replied w)

-- "no token, no claim, no open circuit anywhere"
unfoldable pub quiet : World → Bool
quiet w = everywhere QuietPort w && (everywhere QuietEnd w && everywhere QuietLine w)
