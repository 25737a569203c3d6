-- What a sender does, as events: a circuit opened with its header, and tokens behind it. Assumes nothing.
use Prim.{tt}
use Prim.Native.Nat.{ℕ}
use mathlib.Core.Path.{◌≡◌, refl, sym, ap, ◌∙◌}
use mathlib.Core.List.{List, [], ◌∷◌, ◌++◌, append_assoc}
use Rattle.laws.specs.Pick.{pick}
use Rattle.tokens.specs.Word.{closes}
use Rattle.tokens.specs.declared.header.Width.{Width}
use Rattle.tokens.specs.declared.header.Target.{Target}
use Rattle.streams.specs.Model.{alter, push_all, Plain, encode, is_link, Closed, Through, Moving}
use Rattle.streams.specs.Events.{Event, Opens, Puts, effect, Ok}
use Rattle.streams.proofs.Basics.{alter_same, alter_twice}
use Rattle.streams.proofs.Machine.{Leads}
use Rattle.streams.proofs.View.{net_as}

-- tokens put behind tokens
pub push_push : (q : ℕ → List ℕ) (d : ℕ) (xs ys : List ℕ) → push_all (push_all q d xs) d ys ≡ push_all q d (xs ++ ys)
push_push q d xs ys =
    ap (λ (l : List ℕ). alter (push_all q d xs) d (l ++ ys)) (alter_same q d (q d ++ xs))
    ∙ alter_twice q d (q d ++ xs) ((q d ++ xs) ++ ys)
    ∙ ap (alter q d) (append_assoc (q d) xs ys)

-- a sender's circuit, through port d, with tokens behind those that it has put, the last of which may close it
abbrev pub behind_in : Moving → ℕ → ℕ → List ℕ → ℕ → Moving
behind_in v e d ts t =
    record {
      queue = push_all v.queue d ts;
      out = v.out;
      user = v.user;
      busy = alter v.busy e (pick (closes t) Closed (Through d));
      cable = v.cable;
      line = v.line;
    }

abbrev pub put_each : ℕ → ℕ → List ℕ → List Event
put_each e d [] = []
put_each e d (t ∷ ts) = Puts e d t ∷ put_each e d ts

pub puts_all : (us : List ℕ) (t e d : ℕ) (v : Moving) → Plain us → v.busy e ≡ Through d
    → Leads is_link (put_each e d (us ++ (t ∷ []))) v (behind_in v e d (us ++ (t ∷ [])) t)
unfolding effect
puts_all [] t e d v plain going = record { view = refl; ok = (going, tt) }
puts_all (u ∷ us) t e d v (c, plain) going =
    let y = effect (Puts e d u) v in
    let still : y.busy e ≡ Through d = alter_same v.busy e (pick (closes u) Closed (Through d)) ∙ rw c in
    let r = puts_all us t e d y plain still in
    record {
      view =
          net_as (sym (push_push v.queue d (u ∷ []) (us ++ (t ∷ [])))) refl refl
          (sym (alter_twice v.busy e (pick (closes u) Closed (Through d)) (pick (closes t) Closed (Through d)))) refl refl
          ∙ r.view;
      ok = (going, r.ok);
    }

-- .. and from its opening on
pub opens_all : (us : List ℕ) (t e d : ℕ) (w : Width) (g : Target) (v : Moving) → Plain us → Ok is_link v (Opens e d w g)
    → Leads is_link (Opens e d w g ∷ put_each e d (us ++ (t ∷ []))) v (behind_in v e d (encode w g ++ (us ++ (t ∷ []))) t)
unfolding effect
opens_all us t e d w g v plain ok =
    let y = effect (Opens e d w g) v in
    let r = puts_all us t e d y plain (alter_same v.busy e (Through d)) in
    record {
      view =
          net_as (sym (push_push v.queue d (encode w g) (us ++ (t ∷ [])))) refl refl
          (sym (alter_twice v.busy e (Through d) (pick (closes t) Closed (Through d)))) refl refl
          ∙ r.view;
      ok = (ok, r.ok);
    }
