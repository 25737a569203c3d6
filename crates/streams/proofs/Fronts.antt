-- A whole header at the front of a port, as a switch of its width reads it: none of its tokens closes, and they say what the switch reads.
-- Assumes nothing.
use Prim.{tt}
use Prim.Native.Nat.{ℕ, zero, suc, ◌+◌, ◌*◌, ◌%◌, ◌^◌}
use mathlib.Core.Path.{◌≡◌, refl, sym, ap, ◌∙◌}
use mathlib.Core.Bool.{true, false}
use mathlib.Core.List.{List, [], ◌∷◌}
use native.Mathlib.Omega.{arith}
use native.Mathlib.Numerals.{one-add}
use lib.Dec.{eqb}
use lib.ListN.{length, take, get_or}
use lib.Pow.{mod-pow-add}
use borrow.Author.Tests.{eqb-true}
use Rattle.laws.proofs.Order.{by_test, clash, never}
use Rattle.names.specs.declared.NodeNumber.{NodeNumber}
use Rattle.tokens.specs.Word.{closes, is_three, wide}
use Rattle.tokens.specs.Shape.{shape_of}
use Rattle.tokens.specs.Shape as S
use Rattle.tokens.specs.Header.{compared, compared_bits}
use Rattle.tokens.specs.declared.header.Width.{Width}
use Rattle.tokens.specs.declared.header.Width.TheVariants.{One, Three}
use Rattle.routing.specs.Way.{bit, highest, way_to, ThisNode, OtherNode}
use Rattle.grammar.specs.Stage.{next_stage, is_bad}
use Rattle.grammar.specs.Walk.{walk}
use Rattle.grammar.specs.declared.stage.Stage.{Stage}
use Rattle.grammar.specs.declared.stage.Stage.TheVariants.{Bad, Fresh, TwoDue, LastDue}
use Rattle.grammar.proofs.Walks.{good_from}
use Rattle.cells.specs.World.{World, queue}
use Rattle.acts.specs.Acts.{width_at, word_at, popped}
use Rattle.plans.specs.Plan.{marked_width, size_of, same_width, target_at}
use Rattle.switch.proofs.Legal.{two_due, last_due, rest, front}
use Rattle.kept.specs.Kept.{Kept}
use Rattle.kept.proofs.Opens.{Headed, front_is, good_walk}
use Rattle.kept.proofs.Found.{Legible}
use Rattle.streams.specs.Model.{Plain, read_in}

-- "none means this node": the bits that are compared are the same
pub same_bits : (k a b : ℕ) → highest k a b ≡ ThisNode → a % 2 ^ k ≡ b % 2 ^ k
unfolding highest
same_bits zero a b e = omega arith
same_bits (suc k) a b e =
    by_test (eqb (bit k a) (bit k b))
    (λ t.
    let low = same_bits k a b (rw t at e) in
    let high = eqb-true (bit k a) (bit k b) t in
    upper a ∙ ap (λ (x : ℕ). x * 2 ^ k + a % 2 ^ k) high ∙ ap (λ (x : ℕ). bit k b * 2 ^ k + x) low ∙ sym (upper b))
    (λ t. never (let z : OtherNode k ≡ ThisNode = rw t at e in cc))
  where
    upper : (x : ℕ) → x % 2 ^ suc k ≡ bit k x * 2 ^ k + x % 2 ^ k
    upper x = ap (λ (i : ℕ). x % 2 ^ i) (sym (one-add k)) ∙ mod-pow-add x 1 k

pub this_node : (w : Width) (m own : NodeNumber) → way_to w m own ≡ ThisNode → compared w m ≡ compared w own
this_node w m own e = ap (λ (x : ℕ). record { 0 = x }) (same_bits (compared_bits w) m.0 own.0 e)

-- a token that may stand where none may close does not close
stays_open : (s : Stage) (t : ℕ) → next_stage s S.Closing ≡ Bad → is_bad (next_stage s (shape_of t)) ≡ false → closes t ≡ false
unfolding shape_of
stays_open s t e good =
    by_test (closes t)
    (λ c. clash (let z : is_bad (next_stage s S.Closing) ≡ false = rw c at good in sym (ap is_bad e) ∙ z))
    (λ c. c)

-- THE FIRST TOKENS OF A WALK THAT IS GOOD
-- a header of one byte: the first does not close
plain_one : (a : ℕ) (q : List ℕ) → is_bad (walk Fresh (a ∷ q)) ≡ false → Plain (a ∷ [])
plain_one a q good = (stays_open Fresh a refl (good_from (next_stage Fresh (shape_of a)) q good), tt)

-- of three: none of the three does
plain_three : (a b c : ℕ) (q : List ℕ) → is_three a ≡ true → is_bad (walk Fresh (a ∷ b ∷ c ∷ q)) ≡ false → Plain (a ∷ b ∷ c ∷ [])
plain_three a b c q t good =
    let z = good_from (next_stage (next_stage (next_stage Fresh (shape_of a)) (shape_of b)) (shape_of c)) q good in
    let y = good_from (next_stage (next_stage Fresh (shape_of a)) (shape_of b)) (c ∷ q) good in
    let x = good_from (next_stage Fresh (shape_of a)) (b ∷ c ∷ q) good in
    let p = two_due a t x in
    let l = last_due (shape_of b) (rw p at y) in
    (stays_open Fresh a refl x, (stays_open TwoDue b refl (rw p at y), (stays_open LastDue c refl (rw (p, l) at z), tt)))

-- AS A SWITCH OF ITS WIDTH READS IT
pub record Reads (w : World) (n p : ℕ) (x : Width) : Type 0 where
  pub size : length (take (size_of x) (queue w n p)) ≡ size_of x
  pub plain : Plain (take (size_of x) (queue w n p))
  pub marked : is_three (get_or (take (size_of x) (queue w n p)) 0 0) ≡ wide x
  pub says : read_in x (take (size_of x) (queue w n p)) ≡ target_at w n p

module _ (w : World) (k : Kept w) (n p : ℕ) (z : Headed w n p) where
  reads_as : (x : Width) → same_width (marked_width (word_at w n p 0)) x ≡ true → Reads w n p x
  reads_as One e =
      let q = front_is w n p z k in
      let one : is_three (word_at w n p 0) ≡ false = by_test (is_three (word_at w n p 0)) (λ t. clash (sym (rw t at e))) (λ t. t) in
      record {
        size = rw q;
        plain = rw q (plain_one (word_at w n p 0) (queue (popped w n p) n p) (rw q at (good_walk w n p z k)));
        marked = rw q one;
        says = rw (q, one);
      }
  reads_as Three e =
      let three : is_three (word_at w n p 0) ≡ true = by_test (is_three (word_at w n p 0)) (λ t. t) (λ t. clash (sym (rw t at e))) in
      let q = front w n p (rw three at z.whole) in
      record {
        size = rw q;
        plain = rw q (plain_three (word_at w n p 0) (word_at w n p 1) (word_at w n p 2) (rest w n p) three (rw q at (good_walk w n p z k)));
        marked = rw q three;
        says = rw (q, three);
      }

  pub reads : Legible w n p → Reads w n p (width_at w.net n)
  reads y = reads_as (width_at w.net n) y.fits
