-- What Output lets out and what may stand past a header are one set of words, so that neither rule can change without the other: towards a
-- control unit Output passes exactly the tokens whose word is legal past a header, and towards a channel those but the two commands WRITEC
-- and READC. Channel-ends and control units hold the same words, but for those that they do not keep. Assumes nothing.
use Prim.{tt}
use Prim.Native.Nat.{ℕ, ◌-◌, ◌<◌, ◌≤◌}
use mathlib.Core.Path.{◌≡◌, refl, sym, ap, ◌∙◌}
use mathlib.Core.Bool.{Bool, true, false, not, ◌&&◌, ◌||◌, and-true}
use mathlib.Core.Logic.{inl, inr, ⊎_elim}
use native.Mathlib.Omega.{arith}
use lib.Dec.{eqb, ltb}
use borrow.Author.Tests.{lt-ltb, le-ltb, ltb-true, eq-eqb, ne_eqb, eqb-true}
use Rattle.laws.specs.Pick.{pick}
use Rattle.laws.specs.All.{Means}
use Rattle.laws.proofs.All.{either, equal}
use Rattle.laws.proofs.Order.{by_test, order, clash}
use Rattle.std.specs.Prelude.{Ok, Err}
use Rattle.names.specs.No.{passes, number_by}
use Rattle.names.specs.declared.no.No.TheVariants.{Privileged}
use Rattle.names.specs.declared.NodeNumber.{NodeNumber}
use Rattle.tokens.specs.Control.{end, pause, writec, readc, ssctrl, output_checked, output_no}
use Rattle.tokens.specs.Word.{control_word, data_word, closes, is_pause}
use Rattle.tokens.specs.Shape.{legal_channel, three_shape, shape_of}
use Rattle.tokens.specs.declared.header.Target.{Target}
use Rattle.tokens.specs.declared.header.Target.TheVariants.{Unit}
use Rattle.grammar.specs.Stage.{is_bad, next_stage}
use Rattle.grammar.specs.declared.stage.Stage.TheVariants.{Body}
use Rattle.clauses.specs.Contents.{legal_word}
use Rattle.ends.specs.Output.{byte_of, word_of, is_unit, token_no}
use Rattle.ends.specs.declared.Token.{Token}
use Rattle.ends.specs.declared.Token.TheVariants.{Data, Control}

-- a word that may stand in a port past a header
abbrev pub past_header : ℕ → Bool
past_header t = not (is_bad (next_stage Body (shape_of t)))

-- WRITEC and READC
abbrev pub commands : ℕ → Bool
commands v = eqb v writec || eqb v readc

abbrev pub is_order : Token → Bool
is_order (Data v) = false
is_order (Control v) = commands (byte_of v)

-- WORDS: all below 0x1C2, and no other without a header's mark
legal_below : (t : ℕ) → t < 0x1C2 → past_header t ≡ true
unfolding shape_of
legal_below t h = by_test (closes t) (λ e. rw e) (λ e. rw (e, lt-ltb t 0x1C2 h))

open_above : (t : ℕ) → 0x1C2 ≤ t → closes t ≡ false
unfolding closes
open_above t l = rw (ne_eqb t (control_word end) (λ q. omega arith), ne_eqb t (control_word pause) (λ q. omega arith))

-- a header's tokens stand nowhere past it
header_above : (m : ℕ) → is_bad (next_stage Body (three_shape m)) ≡ true
unfolding three_shape
header_above m =
    by_test (legal_channel m)
    (λ e. rw e)
    (λ e. rw e (by_test (ltb m 0x100) (λ f. rw f) (λ f. rw f (by_test (eqb m (control_word ssctrl)) (λ g. rw g) (λ g. rw g)))))

illegal_above : (t : ℕ) → 0x1C2 ≤ t → past_header t ≡ false
unfolding shape_of
illegal_above t l =
    rw (open_above t l, le-ltb t 0x1C2 l)
    (by_test (ltb t 0x200)
    (λ e. rw e)
    (λ e. rw e (by_test (ltb t 0x300)
    (λ f. rw f)
    (λ f. rw f (by_test (ltb t 0x600) (λ g. rw g) (λ g. rw (g, header_above (t - 0x600))))))))

pub past_header_lem : (t : ℕ) → past_header t ≡ ltb t 0x1C2
past_header_lem t =
    ⊎_elim (λ l. legal_below t l ∙ sym (lt-ltb t 0x1C2 l)) (λ l. illegal_above t l ∙ sym (le-ltb t 0x1C2 l)) (order t 0x1C2)

-- TOKENS
or_true : (u : Bool) → (u || true) ≡ true
or_true true = refl
or_true false = refl

or_false : (u : Bool) → (u || false) ≡ u
or_false true = refl
or_false false = refl

given : (b : Bool) → eqb (number_by (pick b (Ok tt) (Err Privileged))) passes ≡ b
given true = refl
given false = refl

-- neither command, and none below them
others : (v : ℕ) → commands v ≡ false → 0xC0 ≤ v → 0xC2 ≤ v
others v e l =
    let m = either (equal v writec) (equal v readc) in
    let a : v ≡ writec → ⊥ = λ q. clash (sym (m.back (inl q)) ∙ e) in
    let b : v ≡ readc → ⊥ = λ q. clash (sym (m.back (inr q)) ∙ e) in
    omega arith

commands_below : (v : ℕ) → commands v ≡ true → v < 0xC2
commands_below v e = ⊎_elim (λ q. omega arith) (λ q. omega arith) ((either (equal v writec) (equal v readc)).sure e)

module _ (v : ℕ) (fits : v < 256) (u : Bool) where
  low : v < 0xC0 → eqb (output_no v u) passes ≡ (past_header (control_word v) && (u || not (commands v)))
  unfolding output_checked
  low l =
      rw (legal_below (control_word v) (omega arith), ne_eqb v writec (λ q. omega arith), ne_eqb v readc (λ q. omega arith), or_true u)
      (rw (lt-ltb v 0xC0 l) (by_test (ltb v 0x80) (λ e. rw e) (λ e. rw e)))

  middle : 0xC0 ≤ v → v < 0xE0 → eqb (output_no v u) passes ≡ (past_header (control_word v) && (u || not (commands v)))
  unfolding output_checked
  middle l m =
      rw (le-ltb v 0x80 (omega arith), le-ltb v 0xC0 l, lt-ltb v 0xE0 m)
      (given (commands v && u) ∙ by_test (commands v)
      (λ e. let b = commands_below v e in rw (legal_below (control_word v) (omega arith), e) (sym (or_false u)))
      (λ e. let b = others v e l in rw (illegal_above (control_word v) (omega arith), e)))

  high : 0xE0 ≤ v → eqb (output_no v u) passes ≡ (past_header (control_word v) && (u || not (commands v)))
  unfolding output_checked
  high l =
      rw (illegal_above (control_word v) (omega arith))
      (rw (le-ltb v 0x80 (omega arith), le-ltb v 0xC0 (omega arith), le-ltb v 0xE0 l))

  -- a control token passes Output exactly when its word is legal past a header, and it is no command but towards a control unit
  pub control_legal : eqb (output_no v u) passes ≡ (past_header (control_word v) && (u || not (commands v)))
  control_legal = ⊎_elim low (λ l. ⊎_elim (middle l) high (order v 0xE0)) (order v 0xC0)

-- any token
pub output_legal : (x : Token) (g : Target) → eqb (token_no x g) passes ≡ (past_header (word_of x) && (is_unit g || not (is_order x)))
output_legal (Data v) g = rw (legal_below (data_word (byte_of v)) (omega arith), or_true (is_unit g))
output_legal (Control v) g = control_legal (byte_of v) (omega arith) (is_unit g)

-- ONE SET: a word may stand past a header exactly when it is the word of a token that Output lets out towards a control unit
pub record LetOut (t : ℕ) : Type 0 where
  pub token : Token
  pub word : word_of token ≡ t
  pub lets : (m : NodeNumber) → token_no token (Unit m) ≡ passes

let_out : (x : Token) (t : ℕ) → word_of x ≡ t → past_header t ≡ true → LetOut t
let_out x t e legal =
    record {
      token = x;
      word = e;
      lets = λ m. eqb-true (token_no x (Unit m)) passes
          (output_legal x (Unit m) ∙ and-true (past_header (word_of x)) ∙ ap (λ (y : ℕ). past_header y) e ∙ legal);
    }

pub legal_let_out : (t : ℕ) → Means (past_header t) (LetOut t)
legal_let_out t =
    record {
      sure = λ legal.
          let small : t < 0x1C2 = ltb-true t 0x1C2 (sym (past_header_lem t) ∙ legal) in
          ⊎_elim (λ l. let_out (Data t) t (omega arith) legal) (λ l. let_out (Control (t - 0x100)) t (omega arith) legal) (order t 0x100);
      back = λ z.
          let m : NodeNumber = record { 0 = 0 } in
          ap (λ (y : ℕ). past_header y) (sym z.word)
          ∙ sym (output_legal z.token (Unit m) ∙ and-true (past_header (word_of z.token)))
          ∙ eq-eqb (token_no z.token (Unit m)) passes (z.lets m);
    }

-- HELD: a channel-end holds what may stand past a header, but PAUSE; a control unit has heard the same, but END and PAUSE
pub held_legal : (t : ℕ) → legal_word true t ≡ (past_header t && not (is_pause t))
held_legal t =
    ⊎_elim
    (λ l. rw (legal_below t l, lt-ltb t 0x1C2 l) (and-true (not (is_pause t))))
    (λ l. rw (illegal_above t l, le-ltb t 0x1C2 l))
    (order t 0x1C2)

neither : (p e : Bool) → (not p && not e) ≡ not (e || p)
neither true true = refl
neither true false = refl
neither false true = refl
neither false false = refl

pub heard_legal : (t : ℕ) → legal_word false t ≡ (past_header t && not (closes t))
unfolding closes
heard_legal t =
    ⊎_elim
    (λ l. rw (legal_below t l, lt-ltb t 0x1C2 l) (neither (is_pause t) (eqb t (control_word end))))
    (λ l. rw (illegal_above t l, le-ltb t 0x1C2 l))
    (order t 0x1C2)
