-- An Output that looks at the destination, then the token, then what can be done, meets its one definition. Assumes nothing.
use Prim.{Unit, tt}
use Prim.Native.Nat.{ℕ}
use mathlib.Core.Path.{◌≡◌, sym, ap, ◌∙◌}
use mathlib.Core.Bool.{Bool, true, false, ◌&&◌, ◌||◌}
use mathlib.Core.List.{List, ◌∷◌}
use lib.Dec.{eqb}
use Rattle.std.specs.Prelude.{Some, None}
use Rattle.laws.specs.Pick.{pick}
use Rattle.laws.proofs.Order.{by_test, never, clash}
use Rattle.std.specs.Prelude.{Result, Ok, Err, IsErr, is_ok}
use Rattle.std.specs.Result.{IsErrAnd}
use Rattle.names.specs.No as Names
use Rattle.names.specs.declared.no.No.{No as Why}
use Rattle.names.specs.declared.no.No.TheVariants as Whys
use Rattle.tokens.specs.Control.{output_checked, class_checked, class_of, writec, readc}
use Rattle.tokens.specs.declared.control.Class.{Class}
use Rattle.tokens.specs.declared.control.Class.TheVariants.{Application, Special, Privileged, Hardware}
use Rattle.tokens.specs.declared.header.Target.{Target}
use Rattle.answers.specs.Rows.{Row, refused_if}
use Rattle.answers.specs.Out.{Out, out, unless, attempt}
use Rattle.answers.specs.Answered.{Answered, No, Done}
use Rattle.cells.specs.World.{World}
use Rattle.cells.specs.declared.end.Aim.{Aim}
use Rattle.ends.specs.Ends.{end_at}
use Rattle.ends.specs.Plan.{target_of, destination_of, output_plan}
use Rattle.ends.specs.Output.{byte_of, word_of, is_unit, token_checked, plan_rows, send_rows, token_sent, output}
use Rattle.ends.specs.declared.Token.{Token}
use Rattle.ends.specs.declared.Token.TheVariants.{Data, Control}

-- how a token can be refused
data Refusing : Result Unit Why → Type 0 where
  none : Refusing (Ok tt)
  seven : Refusing (Err Whys.Hardware)
  eight : Refusing (Err Whys.Privileged)

privileged : (b : Bool) → Refusing (pick b (Ok tt) (Err Whys.Privileged))
privileged true = none
privileged false = eight

by_class : (k : Class) (v : ℕ) (u : Bool) → Refusing (class_checked k v u)
by_class Application v u = none
by_class Special v u = none
by_class Privileged v u = privileged ((eqb v writec || eqb v readc) && u)
by_class Hardware v u = seven

refusing : (x : Token) (g : Target) → Refusing (token_checked x g)
unfolding output_checked
refusing (Data v) g = none
refusing (Control v) g = by_class (class_of (byte_of v)) (byte_of v) (is_unit g)

module _ (w : World) (n c : ℕ) (g : Target) (x : Token) where
  -- refused by the token
  refused_by : {r : Result Unit Why} → Refusing r → (k : Why) → r ≡ Err k → (rs : List Row) (done : Out World)
      → out (No k) w
      ≡ attempt
      (refused_if (eqb (Names.number_by r) (Names.number Whys.Hardware)) Whys.Hardware
      ∷ refused_if (eqb (Names.number_by r) (Names.number Whys.Privileged)) Whys.Privileged
      ∷ rs)
      w
      done
  refused_by none k h rs o = clash (ap (λ (r : Result Unit Why). is_ok r) h)
  refused_by seven k h rs o = ap (λ (r : Result Unit Why). unless r w o) (sym h)
  refused_by eight k h rs o = ap (λ (r : Result Unit Why). unless r w o) (sym h)

  pub token_refused : (r : Result Unit Why) → r ≡ token_checked x g → (a : Answered) (k : Why)
      → IsErr a × IsErrAnd a (λ j. j ≡ k)
      → r ≡ Err k
      → out a w ≡ attempt (send_rows w.net n c g x) w (out Done (token_sent w n c g x))
  token_refused r e (Ok x) k p h = absurd p.1
  token_refused r e (Err j) k p h =
      rw p.1
      (refused_by (refusing x g) k (sym e ∙ h) (plan_rows (output_plan w.net n c g (word_of x))) (out Done (token_sent w n c g x)))

  pub token_passes : (r : Result Unit Why) → r ≡ token_checked x g → r ≡ Ok tt
      → attempt (plan_rows (output_plan w.net n c g (word_of x))) w (out Done (token_sent w n c g x))
      ≡ attempt (send_rows w.net n c g x) w (out Done (token_sent w n c g x))
  token_passes r e h = rw (sym e ∙ h)

module _ (w : World) (n c : ℕ) (x : Token) where
  pub not_there : end_at w.net n c ≡ false → out (No Whys.NoSuch) w ≡ output w n c x
  unfolding output
  not_there e = rw e

  pub unaimed : end_at w.net n c ≡ true → eqb (w.net.ends.aims n c).kind 0 ≡ true
      → out (No Whys.Unaimed) w ≡ output w n c x
  unfolding output
  unaimed e a = rw (e, a)

  pub sends_on_lem : (g : Target) (o : Out World) → end_at w.net n c ≡ true
      → eqb (w.net.ends.aims n c).kind 0 ≡ false
      → g ≡ target_of (w.net.ends.aims n c)
      → o ≡ attempt (send_rows w.net n c g x) w (out Done (token_sent w n c g x))
      → o ≡ output w n c x
  unfolding output
  sends_on_lem g o e a q h =
      h ∙ ap (λ (y : Target). attempt (send_rows w.net n c y x) w (out Done (token_sent w n c y x))) q ∙ rw (e, a)

pub is_unaimed : (k : Aim) → destination_of k ≡ None → eqb k.kind 0 ≡ true
is_unaimed k e = by_test (eqb k.kind 0) (λ f. f) (λ f. never (let q : Some (target_of k) ≡ None = rw f at e in cc))

pub is_aimed_lem : (k : Aim) (g : Target) → destination_of k ≡ Some g → (eqb k.kind 0 ≡ false) × (g ≡ target_of k)
is_aimed_lem k g e =
    by_test (eqb k.kind 0)
    (λ f. never (let q : None ≡ Some g = rw f at e in cc))
    (λ f. (f, let q : Some (target_of k) ≡ Some g = rw f at e in cc))
