-- `cells::layout::shaped` meets its contract: whole nodes, 1 to 16 of them, and the memory that they ask. Assumes nothing.
use Rattle.std.proofs.Common.{◌≡◌, ℕ, ◌*◌, ◌-◌, ◌%◌, List, [], ◌∷◌, length, drop, refl, sym, ap, ◌∙◌, arith}
use borrow.Author.Tests.{ne_eqb}
use lib.Dec.{eqb, eqb-suc-zero}
use lib.ListN.{length-drop}
use Rattle.cells.specs.Layout.{stride, nodes_in}
use Rattle.cells.specs.View.{view}
use Rattle.cells.specs.World.{shaped, is_empty}
use Rattle.cells.proofs.layout.shaped.Goals as goal

is_empty_lem : (l : List ℕ) → is_empty l ≡ eqb (length l) 0
is_empty_lem [] = refl
is_empty_lem (x ∷ l) = sym (eqb-suc-zero (length l))

-- what is left past the last whole node
no_rest : (ws : List ℕ) → is_empty (drop (nodes_in ws * stride) ws) ≡ eqb (length ws % stride) 0
no_rest ws =
    let e : length ws - nodes_in ws * stride ≡ length ws % stride = omega arith in
    is_empty_lem (drop (nodes_in ws * stride) ws) ∙ ap (λ (n : ℕ). eqb n 0) (length-drop (nodes_in ws * stride) ws ∙ e)

pub returns-then-m-ne0 : goal.returns-then-m-ne0
unfolding shaped view
returns-then-m-ne0 c = let ws = c.args.m.now.state.now in rw (no_rest ws, ne_eqb (length ws % stride) 0 c.if-m-ne0.true)
