-- What a start that is not refused has, and what it then comes to. Assumes nothing.
use Prim.{Unit, tt}
use Prim.Native.Nat.{ℕ}
use mathlib.Core.Path.{◌≡◌, refl, sym, ◌∙◌}
use mathlib.Core.Bool.{true}
use mathlib.Core.List.{List, [], ◌∷◌}
use lib.ListN.{length, replicate}
use borrow.Author.Tests.{not-false}
use Rattle.laws.proofs.All.{also, as_is, at_most, equal}
use Rattle.laws.proofs.Order.{clash}
use Rattle.names.specs.Size.{nodes}
use Rattle.std.specs.Prelude.{Result, Ok, Err, IsErr}
use Rattle.std.specs.Result.{IsErrAnd}
use Rattle.names.specs.declared.no.No.{No as Why}
use Rattle.answers.specs.Rows.{checked}
use Rattle.answers.specs.Out.{out}
use Rattle.answers.specs.Answered.{Answered, Done}
use Rattle.answers.proofs.Refusals.{all_clear, hands_on, goes_on_lem}
use Rattle.cells.specs.View.{Net}
use Rattle.cells.specs.World.{World, shaped, token_words, line_words, is_empty}
use Rattle.cells.specs.Start.{start_net}
use Rattle.fresh.specs.Fresh.{start_rows, leaves_on, start_of, begin}
use Rattle.fresh.specs.declared.Start.{Start}

is_empty_lem : (l : List ℕ) → is_empty l ≡ true → l ≡ []
is_empty_lem [] e = refl
is_empty_lem (x ∷ l) e = clash (sym e)

module _ (w : World) (n : ℕ) (r : Result Unit Why) (e : r ≡ checked (start_rows w n)) where
  -- the lengths are those of n nodes
  pub record Fitting : Type 0 where
    pub rest : w.net.rest ≡ []
    pub counted : w.net.nodes ≡ n
    pub memory : length w.memory ≡ token_words n
    pub lines : length w.line_memory ≡ line_words n

  pub fitting : r ≡ Ok tt → Fitting
  unfolding shaped
  fitting h =
      let m = w.net.nodes in
      let p = (all_clear (start_rows w n) (sym e ∙ h)).1.0 in
      let memories = also (equal (length w.memory) (token_words m)) (equal (length w.line_memory) (line_words m)) in
      let shape = also (as_is (is_empty w.net.rest)) (also (at_most 1 m) (also (at_most m nodes) memories)) in
      let z = (also shape (equal m n)).sure (not-false _ p) in
      let long = z.0.1.1.1 in
      record { rest = is_empty_lem w.net.rest z.0.0; counted = z.1; memory = rw (← z.1) long.0; lines = rw (← z.1) long.1 }

  module _ (x : Start) where
    pub start_refuses : (a : Answered) (k : Why) → IsErr a × IsErrAnd a (λ j. j ≡ k) → r ≡ Err k → out a w ≡ begin w x n
    unfolding begin
    start_refuses = hands_on (start_rows w n) w (out Done (start_of x n)) r e

    -- the memories written
    pub start_goes_on : (s : Net) (m ls : List ℕ) → r ≡ Ok tt → s ≡ start_net (leaves_on x w.net.nodes) w.net.nodes
        → m ≡ replicate (length w.memory) 0
        → ls ≡ replicate (length w.line_memory) 0
        → out Done (record { net = s; memory = m; line_memory = ls }) ≡ begin w x n
    unfolding begin
    start_goes_on s m ls h a b c =
        let f = fitting h in
        goes_on_lem (start_rows w n) w (out Done (start_of x n)) r e h (rw (a, b, c, f.counted, f.memory, f.lines))
