-- What a port may hold, in the words of document 01, "Sound", and with no walk: "tokens and headers are legal; a port with no circuit is
-- empty or starts with a header, and so does what follows an END or PAUSE; such a header is short only at its port's end; header tokens
-- stand elsewhere only at the front of a circuit still sending its header outward or being dropped". What is on the line to a port stands
-- behind what it holds (document 02, Ask 4). That the walk over both ends well just where this holds is `tokens_hold` in
-- clauses/proofs/Spoken.antt, and that the test says so `ports_hold` in line_clauses/proofs/Spoken.antt.
use Rattle.std.specs.Prelude.{ℕ, ◌<◌, ◌≤◌, ◌≡◌, List, [], ◌∷◌, ◌++◌, ◌⊎◌}
use Rattle.names.specs.Size.{channels, sink}
use Rattle.tokens.specs.Control.{end, pause}
use Rattle.tokens.specs.Word.{data_word, control_word, header_word, unit_word}
use Rattle.tokens.specs.declared.header.Width.{Width}
use Rattle.tokens.specs.declared.header.Width.TheVariants.{One, Three}
use Rattle.circuits.specs.declared.Hop.{Hop}
use Rattle.circuits.specs.declared.Hop.TheVariants.{Shut, Out, Channel, Unit, Dropped}

-- "Data tokens are 0..255"
pub record Data (w : ℕ) : Type 0 where
  pub value : ℕ
  pub legal : value < 256
  pub word : w ≡ data_word value

-- "Control tokens": application and special ones, and of the privileged those two that Output lets out, 0xC0 and 0xC1; but no END or PAUSE
pub record Control (w : ℕ) : Type 0 where
  pub value : ℕ
  pub legal : value ≤ 0xC1
  pub no_end : value ≡ end → ⊥
  pub no_pause : value ≡ pause → ⊥
  pub word : w ≡ control_word value

-- a token past a header that closes nothing
abbrev pub Plain : ℕ → Type 0
Plain w = Data w ⊎ Control w

-- "END and PAUSE close the hop"
abbrev pub Closing : ℕ → Type 0
Closing w = (w ≡ control_word end) ⊎ (w ≡ control_word pause)

-- a byte of a header of that width, which may be any: "Each header token held in the bench is marked as a header and with its width"
pub record Byte (k : Width) (w : ℕ) : Type 0 where
  pub value : ℕ
  pub legal : value < 256
  pub word : w ≡ header_word value k

-- the last token of a three-byte header: a channel, 0..31 or 255
pub record LastByte (w : ℕ) : Type 0 where
  pub channel : ℕ
  pub legal : (channel < channels) ⊎ (channel ≡ sink)
  pub word : w ≡ header_word channel Three

-- .. or "control SSCTRL 0xC3"
abbrev pub Last : ℕ → Type 0
Last w = LastByte w ⊎ (w ≡ unit_word)

-- a whole header: "number high byte, number low byte, channel", or one byte; just what the headers of destinations are (`destined`,
-- `has_header` in clauses/proofs/Destined.antt)
pub data Header : List ℕ → Type 0 where
  one : {a : ℕ} → Byte One a → Header (a ∷ [])
  three : {a b c : ℕ} → Byte Three a → Byte Three b → Last c → Header (a ∷ b ∷ c ∷ [])

-- a header short of its tokens: it has begun, and its last one is not there
pub data Short : List ℕ → Type 0 where
  first : {a : ℕ} → Byte Three a → Short (a ∷ [])
  second : {a b : ℕ} → Byte Three a → Byte Three b → Short (a ∷ b ∷ [])

-- what is left of a header whose tokens leave one by one: all of it, a part, or nothing
pub record Rest (q : List ℕ) : Type 0 where
  pub gone : List ℕ
  pub header : Header (gone ++ q)

-- tokens past a header, of which none closes
pub data Body : List ℕ → Type 0 where
  none : Body []
  more : {w : ℕ} {q : List ℕ} → Plain w → Body q → Body (w ∷ q)

-- what stands where no circuit is under way, oldest first: nothing; a header that is short, and nothing past it; a header and its body, not
-- closed yet; or a header, its body and END or PAUSE, and past that the like again
pub data Streams : List ℕ → Type 0 where
  empty : Streams []
  short : {q : List ℕ} → Short q → Streams q
  begun : {h b : List ℕ} → Header h → Body b → Streams (h ++ b)
  closed : {h b : List ℕ} {w : ℕ} {q : List ℕ} → Header h → Body b → Closing w → Streams q → Streams (h ++ (b ++ (w ∷ q)))

-- what stands past the header of a circuit that is under way: a body, not closed yet, or closed with more streams past it
pub data Onward : List ℕ → Type 0 where
  begun : {b : List ℕ} → Body b → Onward b
  closed : {b : List ℕ} {w : ℕ} {q : List ℕ} → Body b → Closing w → Streams q → Onward (b ++ (w ∷ q))

-- .. with what is left of its header in front, all of it in the port: what is on the line comes behind
pub data Led : List ℕ → List ℕ → Type 0 where
  led : {h ts : List ℕ} (q : List ℕ) → Rest h → Onward (q ++ ts) → Led (h ++ q) ts

-- what a port holds, by its circuit, with the tokens on the line to it behind: header tokens stand in front only where it goes outward or is
-- dropped
abbrev pub Holds : Hop → List ℕ → List ℕ → Type 0
Holds Shut q ts = Streams (q ++ ts)
Holds (Out l) q ts = Led q ts
Holds (Channel c t) q ts = Onward (q ++ ts)
Holds Unit q ts = Onward (q ++ ts)
Holds (Dropped c) q ts = Led q ts
