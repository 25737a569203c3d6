-- The walk over the tokens on a line, thing by thing, and over none. Assumes nothing.
use Prim.Native.Nat.{ℕ, ◌*◌, ◌/◌}
use mathlib.Core.Path.{◌≡◌, refl, ap}
use mathlib.Core.Bool.{true, not}
use mathlib.Core.List.{List, [], ◌∷◌}
use native.Mathlib.Omega.{arith}
use lib.Dec.{ltb}
use lib.ListN.{length}
use Rattle.std.specs.List.{filter}
use Rattle.laws.proofs.All.{also, below, equal}
use Rattle.laws.proofs.Order.{by_test}
use Rattle.names.specs.Size.{links}
use Rattle.ports.specs.Ring.{ring, stretch}
use Rattle.lines.specs.Line.{line_capacity, line_place}
use Rattle.lines.specs.Load.{is_token, tokens_of}
use Rattle.grammar.specs.Stage.{is_bad}
use Rattle.grammar.specs.Walk.{walk}
use Rattle.grammar.specs.declared.stage.Stage.{Stage}
use Rattle.cells.specs.World.{World, far_of, line_from, Far, Nowhere, At}
use Rattle.clauses.specs.Cables.{on_far}
use Rattle.clauses.specs.Contents.{back, contents}
use Rattle.line_clauses.specs.Lines.{clear_of, nothing_comes, walked_on, reached_from, reached, holds_over}
use Rattle.line_clauses.proofs.Readies.{readies}

pub walk_next : (s : Stage) (x : ℕ) (q : List ℕ) → walk (walk s (tokens_of (x ∷ []))) (tokens_of q) ≡ walk s (tokens_of (x ∷ q))
walk_next s x q = by_test (is_token x) (λ e. rw e) (λ e. rw e)

-- the tokens on a line are what the test for a token leaves
pub tokens_left : (q : List ℕ) → filter is_token q ≡ tokens_of q
tokens_left [] = refl
tokens_left (x ∷ q) = by_test (is_token x) (λ e. rw (e, tokens_left q)) (λ e. rw e (tokens_left q))

-- over a line on which there is nothing, nothing comes
pub walked_clear : (w : World) (n l : ℕ) → clear_of w.net (length w.line_memory / (links * line_capacity)) n l ≡ true
    → (s : Stage) → walked_on w n l s ≡ s
unfolding ring
walked_clear w n l e s =
    let c = w.net.lines.rings n l in
    let z = (also (below _ _) (also (below _ _) (also (below _ _) (equal c.held 0)))).sure e in
    let ready = (readies w n l).back (record { node = z.0; link = z.1.0; head = z.1.1.0; held = omega (arith, z.1.1.1) }) in
    let none : line_from w n l ≡ [] =
    ap (ring line_capacity (stretch line_capacity w.line_memory (line_place n l)) c.head) z.1.1.1 in
    rw (ready, none)

-- where nothing is on its way to a port, it ends as what it holds does
come_none : (w : World) (s : Stage) (f : Far) → on_far f true (clear_of w.net (length w.line_memory / (links * line_capacity))) ≡ true
    → reached_from w s f ≡ s
come_none w s Nowhere e = refl
come_none w s (At m k) e = walked_clear w m.0 k e s

reached_still : (w : World) (n p : ℕ) → nothing_comes w.net (length w.line_memory / (links * line_capacity)) n p ≡ true
    → reached w n p ≡ back w n p
unfolding reached
reached_still w n p e =
    by_test (ltb p links)
    (λ t. rw t (come_none w (back w n p) (far_of (w.net.links.cables n p)) (rw t at e)))
    (λ t. rw t)

pub holds_still : (w : World) (n p : ℕ) → nothing_comes w.net (length w.line_memory / (links * line_capacity)) n p ≡ true
    → holds_over w n p ≡ contents w n p
holds_still w n p e = ap (λ (s : Stage). not (is_bad s)) (reached_still w n p e)
