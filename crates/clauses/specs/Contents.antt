-- What ports, channel-ends and control units hold (document 01, "Sound").
use Rattle.std.specs.Prelude.{ℕ, ◌*◌, ◌/◌, Bool, true, false, not, ◌&&◌, ◌||◌, List, eqb, ltb, leb, length, get_or}
use Rattle.laws.specs.All.{all}
use Rattle.laws.specs.Pick.{pick}
use Rattle.names.specs.Size.{ports, end_buffer, unit_buffer}
use Rattle.tokens.specs.Control.{end, pause}
use Rattle.tokens.specs.Word.{control_word}
use Rattle.circuits.specs.declared.Hop.{Hop}
use Rattle.ports.specs.Queue.{capacity}
use Rattle.grammar.specs.Stage.{is_bad}
use Rattle.grammar.specs.Walk.{front_of, back_of}
use Rattle.grammar.specs.declared.port.Stages.{Stages}
use Rattle.grammar.specs.declared.stage.Stage.{Stage}
use Rattle.grammar.specs.declared.stage.Stage.TheVariants.{Bad}
use Rattle.cells.specs.View.{Net}
use Rattle.cells.specs.World.{World, hop, queue}

-- the memory has this port's stretch, and its counters are those of a ring
abbrev pub ready : World → ℕ → ℕ → Bool
ready w n p =
    let c = w.net.ports.counters n p in
    ltb n (length w.memory / (ports * capacity)) && (ltb p ports && (ltb c.head capacity && leb c.held capacity))

-- what a walk over a port's tokens finds; nothing good where there are none to be walked over
abbrev pub stage_at : (Hop → List ℕ → Stage) → World → ℕ → ℕ → Stage
stage_at f w n p = pick (ready w n p) (f (hop w.net n p) (queue w n p)) Bad

-- where it begins and where it ends
abbrev pub front : World → ℕ → ℕ → Stage
front w n p = stage_at front_of w n p

abbrev pub back : World → ℕ → ℕ → Stage
back w n p = stage_at back_of w n p

abbrev pub stages : World → ℕ → ℕ → Stages
stages w n p = record { front = front w n p; back = back w n p }

-- "tokens and headers are legal; a port with no circuit is empty or starts with a header, and so does what follows an END or PAUSE; such a
-- header is short only at its port's end; header tokens stand elsewhere only at the front of a circuit still sending its header outward or
-- being dropped": what a port holds with nothing on the line to it. The list asks for it with the line behind (`holds_over` in crate
-- line_clauses); the sentence said plainly, with no walk, is `Holds` in Sentences.antt
abbrev pub contents : World → ℕ → ℕ → Bool
contents w n p = not (is_bad (back w n p))

-- "tokens .. are legal", outside ports: data, and control that Output lets out, but no PAUSE, and END only where it is kept
abbrev pub legal_word : Bool → ℕ → Bool
legal_word ends t = ltb t 0x1C2 && (not (eqb t (control_word pause)) && (ends || not (eqb t (control_word end))))

-- how many of so many words are held: no more than there are
abbrev pub filled : ℕ → ℕ → ℕ
filled size held = pick (ltb held size) held size

abbrev pub legal_words : Bool → ℕ → ℕ → List ℕ → Bool
legal_words ends size held words = all (filled size held) (λ i. legal_word ends (get_or words i 0))

-- what a channel-end holds for its program, END too
abbrev pub held_tokens : Net → ℕ → ℕ → Bool
held_tokens s n c = legal_words true end_buffer (s.ends.buffers n c).held (s.ends.buffers n c).tokens

-- what a control unit that serves a circuit has heard: END and PAUSE end a message, and are not kept
abbrev pub heard_tokens : Net → ℕ → ℕ → Bool
heard_tokens s n i =
    eqb (s.units.serving n 0).kind 0 || legal_words false unit_buffer (s.units.hearings n 0).heard (s.units.hearings n 0).tokens
