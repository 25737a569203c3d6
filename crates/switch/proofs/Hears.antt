-- What the last token of a message comes to, and any other that a control unit hears, from the contracts of the functions that take it
-- and obey. Assumes nothing.
use Prim.Native.Nat.{ℕ}
use mathlib.Core.Path.{◌≡◌, refl, sym, ap, ◌∙◌}
use mathlib.Core.Bool.{true, false}
use Rattle.names.specs.Size.{reply_port}
use Rattle.tokens.specs.Word.{closes}
use Rattle.answers.specs.Out.{Out, out}
use Rattle.answers.specs.Answered.{Moved}
use Rattle.cells.specs.View.{Net}
use Rattle.cells.specs.World.{World}
use Rattle.acts.specs.Acts.{with_net, first_at}
use Rattle.acts.specs.Needs.{Room}
use Rattle.travel.proofs.There.{there_net}
use Rattle.settings.specs.Needs.{Settled}
use Rattle.messages.specs.Heard.{listens}
use Rattle.messages.specs.Ended.{ended}
use Rattle.messages.specs.Needs.{longest, Ready}
use Rattle.moves.specs.Moves.{took, closes_unit}
use Rattle.moves.specs.Needs.{Up, Takes}
use Rattle.moves.proofs.After.{took_nodes, took_links, took_room, took_there, took_tokens, after_took}
use Rattle.switch.specs.Step.{hears}

-- taking a token leaves a state on which Sets can be made
took_settled : (w : World) (n p : ℕ) → Up w n p → Settled w → Settled (took w n p)
took_settled w n p u h a j ha hj =
    let y = h a j (rw (took_nodes w n p) at ha) hj in
    record {
      cabled = rw (took_nodes w n p, took_links w n p) y.cabled;
      line = took_there w n p u a j y.line;
      tokens = rw (took_tokens w n p u a j hj) y.tokens;
    }

-- the state after a token is taken, known by an equation
module _ (w z : World) (n p : ℕ) (e : z ≡ took w n p) where
  -- what a message's end asks for is there before its last token is taken
  pub ready_after : (s : Net) → s ≡ closes_unit z.net n p → Takes w n p 1 → Ready w n → Ready (with_net z s) n
  ready_after s q t r =
      let x : Room z n reply_port longest = rw e (took_room w n p n reply_port longest t.holds r.room) in
      let y : Settled z = rw e (took_settled w n p t.up r.settled) in
      rw q (
      record {
        room =
            record {
              node = x.node;
              port = x.port;
              fair = x.fair;
              room = x.room;
              reaches = x.reaches;
            };
        settled = λ a j ha hj.
            let d = y a j ha hj in record { cabled = d.cabled; line = there_net refl refl d.line; tokens = d.tokens };
      }
      )

  -- a token that a control unit hears: the last of a message, and any other
  pub hears_end : (s : Net) (o : Out World) (x : ℕ) → x ≡ first_at w n p → closes x ≡ true
      → s ≡ closes_unit z.net n p
      → o ≡ ended (with_net z s) n x
      → o ≡ hears w n p
  hears_end s o x q f h g =
      let shut : World = with_net (took w n p) (closes_unit (took w n p).net n p) in
      rw (ap closes (sym q) ∙ f)
      (g ∙ ap (λ (v : World). ended v n x) (after_took w z n p e s x (λ y t. closes_unit y n p) q h) ∙ ap (ended shut n) q)

  pub hears_more : (s : Net) (x : ℕ) → x ≡ first_at w n p → closes x ≡ false
      → s ≡ listens z.net n x
      → out Moved (with_net z s) ≡ hears w n p
  hears_more s x q f h = rw (ap closes (sym q) ∙ f) (ap (out Moved) (after_took w z n p e s x (λ y t. listens y n t) q h))
