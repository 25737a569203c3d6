-- `ends::plan::lowest_free` meets its contract: what `find` answers is the first that is free. Assumes nothing.
use Rattle.std.proofs.Common.{◌≡◌, ℕ, ◌<◌, ◌≤◌, true, false, rules, tests}
use Rattle.std.proofs.lemmas.Iterator.{first_from_Range}
use borrow.Author.Tests.{le-leb, lt-ltb, lt-leb}
use Rattle.laws.specs.All.{NoneBelow}
use Rattle.laws.proofs.All.{lowest_place}
use Rattle.names.specs.Size.{first_tile_port, reply_port}
use Rattle.cells.specs.View.{Net, view, whole_port}
use Rattle.clauses.specs.Counts.{is_free}
use Rattle.ends.specs.Plan.{free_port}
use Rattle.ends.proofs.plan.lowest_free.Goals as goal

-- a port from the tile is free by its record; a link's is none of them
by_record : (s : Net) (n p : ℕ) → first_tile_port ≤ p → p < reply_port → free_port s n p ≡ is_free (whole_port s n p)
by_record s n p a b = rw (le-leb first_tile_port p a, lt-ltb p reply_port b)

no_tile_port : (s : Net) (n : ℕ) → NoneBelow (free_port s n) first_tile_port
no_tile_port s n p l = rw (lt-leb first_tile_port p l)

pub returns : goal.returns
returns c =
    let s = view c.args.st.now in
    let n = c.args.slot.0 in
    let free = λ (p : ℕ). is_free (whole_port s n p) in
    lowest_place (free_port s n) free first_tile_port reply_port _ (no_tile_port s n) (by_record s n)
    (first_from_Range _ _ _ _ (λ i. free i ≡ true) (λ i. free i ≡ false) c.find.ensures.ran
    (λ x q k. search (rules, tests)) (λ x q k. search (rules, tests)))
