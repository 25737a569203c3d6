-- A start with any set of links enabled is sound, tight and quiet, for every number of nodes: Fresh is one, blank another. Assumes nothing.
use Prim.Native.Nat.{ℕ, ◌*◌, ◌/◌, ◌≤◌, ◌<◌}
use mathlib.Core.Bool.{Bool, true, not, or-true}
use mathlib.Core.List.{[]}
use mathlib.Core.Path.{◌≡◌, refl, ap, ◌∙◌}
use native.Mathlib.Omega.{arith}
use lib.Dec.{ltb, lit≤}
use lib.ListN.{length, length-replicate}
use borrow.Author.Tests.{lt-ltb, le-leb, eq-eqb}
use Rattle.laws.specs.All.{all}
use Rattle.laws.proofs.All.{each_place, as_is}
use Rattle.laws.proofs.Order.{by_test}
use Rattle.names.specs.Size.{nodes, links, ports, reply_port}
use Rattle.ports.specs.Queue.{capacity}
use Rattle.ports.specs.Ring.{ring}
use Rattle.lines.specs.Line.{line_capacity}
use Rattle.lines.specs.Load.{no_load}
use Rattle.grammar.specs.declared.stage.Stage.TheVariants.{Fresh}
use Rattle.cells.specs.World.{shaped, token_words, line_words}
use Rattle.cells.specs.Start.{start_net, start_world}
use Rattle.cells.specs.Records.{to_port}
use Rattle.clauses.specs.Counts.{port_counts, tile_port}
use Rattle.clauses.specs.Contents.{back}
use Rattle.clauses.specs.Pairs.{named_by, Nothing}
use Rattle.clauses.specs.declared.pairs.Role.{Role}
use Rattle.clauses.specs.declared.pairs.Role.TheVariants.{PortLink, LinkPort, PortTile, TilePort, PortUnit, UnitPort}
use Rattle.clauses.specs.declared.pairs.Role.TheVariants.{PortClaim, ClaimPort, EndClaim, ClaimEnd, EndPort, PortEnd}
use Rattle.line_clauses.specs.Lines.{load_at, reached}
use Rattle.sound.specs.Tests.{holds_at, places}
use Rattle.sound.specs.Questions.{answer_at, places_of, everywhere}
use Rattle.sound.specs.Sound.{sound, tight, quiet}
use Rattle.sound.specs.declared.tests.Test.{Test}
use Rattle.sound.specs.declared.tests.Test.TheVariants.{Nodes, Links, Ports, Tiles, Ends, Units, Credited, Greeted, Room, Cable}
use Rattle.sound.specs.declared.tests.Test.TheVariants.{Contents, Held, Agrees, OpenEnd, Silent, Heard, Lines, Few, Counted, Unlined}
use Rattle.sound.specs.declared.questions.Question.{Question}
use Rattle.sound.specs.declared.questions.Question.TheVariants.{Tied, Sends, Replied, QuietPort, QuietEnd, QuietLine}
use Rattle.sound.proofs.Sounds.{sound_from}

module _ (on : ℕ → ℕ → Bool) (n : ℕ) (some : 1 ≤ n) (few : n ≤ nodes) where
  memory_nodes : length (start_world on n).memory / (ports * capacity) ≡ n
  memory_nodes = ap (λ (l : ℕ). l / (ports * capacity)) (length-replicate (token_words n) 0) ∙ omega arith

  -- an empty port ends where it begins
  empty_back : (m p : ℕ) → m < n → p < ports → back (start_world on n) m p ≡ Fresh
  unfolding ring
  empty_back m p h g = rw (memory_nodes, lt-ltb m n h, lt-ltb p ports g)

  -- and so does one with nothing coming
  empty_reached : (m p : ℕ) → m < n → p < ports → reached (start_world on n) m p ≡ Fresh
  unfolding reached
  empty_reached m p h g = by_test (ltb p links) (λ e. rw (e, empty_back m p h g)) (λ e. rw (e, empty_back m p h g))

  line_nodes : length (start_world on n).line_memory / (links * line_capacity) ≡ n
  line_nodes = ap (λ (l : ℕ). l / (links * line_capacity)) (length-replicate (line_words n) 0) ∙ omega arith

  -- nothing is on a line
  no_load_lem : (m l : ℕ) → m < n → l < links → load_at (start_world on n) m l ≡ no_load
  unfolding load_at ring
  no_load_lem m l h g = rw (line_nodes, lt-ltb m n h, lt-ltb l links g)

  -- a port that is free has no network to look at
  zero_port : (i : ℕ) → port_counts i (to_port []) ≡ true
  zero_port i = rw (or-true (not (tile_port i)))

  -- every record names nobody
  names_nobody : (r : Role) (m i : ℕ) → named_by r (start_net on n) m i ≡ Nothing
  names_nobody PortLink m i = refl
  names_nobody LinkPort m i = refl
  names_nobody PortTile m i = refl
  names_nobody TilePort m i = refl
  names_nobody PortUnit m i = refl
  names_nobody UnitPort m i = refl
  names_nobody PortClaim m i = refl
  names_nobody ClaimPort m i = refl
  names_nobody EndClaim m i = refl
  names_nobody ClaimEnd m i = refl
  names_nobody EndPort m i = refl
  names_nobody PortEnd m i = refl

  -- the records of a start pass every test
  start_passes : (t : Test) (m i : ℕ) → m < n → i < places t → holds_at t (start_world on n) m i ≡ true
  unfolding all
  start_passes Nodes m i h g = rw (lt-ltb m n h)
  start_passes Links m i h g = by_test (on m i) (λ e. rw e) (λ e. rw e)
  start_passes Ports m i h g = zero_port i
  start_passes Tiles m i h g = refl
  start_passes Ends m i h g = refl
  start_passes Units m i h g = refl
  start_passes Credited m i h g = refl
  start_passes Greeted m i h g = refl
  start_passes Room m i h g = refl
  start_passes Cable m i h g = refl
  start_passes Contents m i h g = rw (empty_reached m i h g)
  start_passes Held m i h g = refl
  start_passes (Agrees r) m i h g = rw (names_nobody r m i)
  start_passes OpenEnd m i h g = refl
  start_passes Silent m i h g = refl
  start_passes Heard m i h g = refl
  start_passes Lines m i h g = refl
  start_passes Few m i h g = rw (no_load_lem m i h g)
  start_passes Counted m i h g = refl
  start_passes Unlined m i h g = refl

  pub start_shaped : shaped (start_world on n) ≡ true
  unfolding shaped
  start_shaped =
      rw (le-leb 1 n some, le-leb n nodes few, eq-eqb (length (start_world on n).memory) (token_words n) (length-replicate (token_words n) 0))
      (rw (eq-eqb (length (start_world on n).line_memory) (line_words n) (length-replicate (line_words n) 0)))

  pub start_sound : sound (start_world on n) ≡ true
  start_sound = sound_from (start_world on n) start_shaped start_passes

  -- a question that the records of a start answer with yes
  passes : (q : Question) → ((m i : ℕ) → m < n → i < places_of q → answer_at q (start_world on n) m i ≡ true)
      → everywhere q (start_world on n) ≡ true
  unfolding everywhere
  passes q h =
      (each_place {P = λ m i. answer_at q (start_world on n) m i ≡ true} n (places_of q) (answer_at q (start_world on n)) (λ m i. as_is _)).back h

  pub start_tight : tight (start_world on n) ≡ true
  unfolding tight
  start_tight =
      let linked = passes Tied (λ m i h g.
      let back = empty_back m i h (omega arith) in
      let on-it = no_load_lem m i h g in
      by_test (on m i) (λ e. rw (back, on-it, e)) (λ e. rw (back, on-it, e))) in
      let replies = passes Replied (λ m i h g. rw (empty_back m reply_port h (lit≤ tt))) in
      rw (linked, passes Sends (λ m i h g. refl), replies)

  pub start_quiet : quiet (start_world on n) ≡ true
  unfolding quiet
  start_quiet =
      rw (passes QuietPort (λ m i h g. refl), passes QuietEnd (λ m i h g. refl), passes QuietLine (λ m i h g. refl))
