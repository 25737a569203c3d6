-- A token that moves over a cable stands last on the line, the very word that stood first in its port: value, marks and width. Assumes
-- nothing.
use Prim.Native.Nat.{ℕ, ◌<◌}
use mathlib.Core.Path.{◌≡◌, refl, ap, ◌∙◌}
use mathlib.Core.Bool.{true}
use mathlib.Core.List.{List, [], ◌∷◌, ◌++◌}
use Rattle.laws.specs.Table.{Off}
use Rattle.names.specs.Size.{links}
use Rattle.lines.specs.Line.{line_capacity, line_place, on_line}
use Rattle.lines.specs.Load.{is_token, tokens_of}
use Rattle.cells.specs.View.{LineTables}
use Rattle.cells.specs.World.{World, line_from}
use Rattle.acts.specs.Acts.{with_net, first_at}
use Rattle.travel.specs.Travel.{paid_one}
use Rattle.travel.specs.Needs.{LineThere}
use Rattle.travel.proofs.There.{there_kept}
use Rattle.travel.proofs.Loads.{put_line}
use Rattle.travel.proofs.Tokens.{put_token, put_tokens_away}
use Rattle.moves.specs.Moves.{took, closes_out, moves_out}
use Rattle.moves.specs.Needs.{Up, Passes}
use Rattle.moves.proofs.After.{closed_nodes, closed_lines, took_coming}

module _ (w : World) (n p l : ℕ) (r : Passes w n p l) where
  abbrev x : ℕ
  x = first_at w n p

  -- the state that it is sent in
  abbrev closed : World
  closed = with_net (took w n p) (closes_out (took w n p).net n p l x)

  abbrev paid : World
  paid = with_net closed (paid_one closed.net n l)

  there : LineThere paid n l
  there = there_kept (closed_nodes (took w n p).net n p l x) (closed_lines (took w n p).net n p l x) refl r.there

  lines_are : (a j : ℕ) → line_from paid a j ≡ line_from (took w n p) a j
  lines_are a j =
      ap (λ (t : LineTables). on_line (t.rings a j) (took w n p).line_memory (line_place a j)) (closed_lines (took w n p).net n p l x)

  room : (paid.net.lines.rings n l).held < line_capacity
  room = rw (closed_lines (took w n p).net n p l x) r.room

  pub moved : line_from (moves_out w n p l) n l ≡ line_from (took w n p) n l ++ (x ∷ [])
  moved = put_line paid n l there x room ∙ ap (λ (q : List ℕ). q ++ (x ∷ [])) (lines_are n l)

  -- the tokens on that line are those that were, and it last; those on every other are those that were
  still : Up w n p → (a j : ℕ) → j < links → tokens_of (line_from paid a j) ≡ tokens_of (line_from w a j)
  still u a j hj = ap tokens_of (lines_are a j) ∙ took_coming w n p u a j hj

  pub moved_last : Up w n p → is_token x ≡ true → tokens_of (line_from (moves_out w n p l) n l) ≡ tokens_of (line_from w n l) ++ (x ∷ [])
  moved_last u t = put_token paid n l there x room t ∙ ap (λ (q : List ℕ). q ++ (x ∷ [])) (still u n l r.there.link)

  pub moved_away : Up w n p → (a j : ℕ) → j < links → Off n l a j → tokens_of (line_from (moves_out w n p l) a j) ≡ tokens_of (line_from w a j)
  moved_away u a j hj o = put_tokens_away paid n l there x a j hj o ∙ still u a j hj
