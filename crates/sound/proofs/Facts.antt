-- What a sound state hands to a call, clause by clause, so that no proof above opens one. Assumes nothing.
use Prim.Native.Nat.{ℕ, ◌+◌, ◌*◌, ◌/◌, ◌<◌, ◌≤◌}
use mathlib.Core.Bool.{true, false}
use mathlib.Core.Logic.{◌⊎◌, inl, inr, ⊎_elim}
use mathlib.Core.Path.{◌≡◌}
use native.Mathlib.Omega.{arith}
use lib.Dec.{lit≤}
use lib.ListN.{length, get_or}
use borrow.Author.Tests.{lt-ltb, le-leb, not-true}
use Rattle.laws.proofs.All.{also, as_is, at_most, equal}
use Rattle.names.specs.Size.{nodes, links, ports, tile_links, ends, end_buffer, unit_buffer, reply_port, numbers}
use Rattle.names.specs.declared.Slot.{Slot}
use Rattle.tokens.specs.Shape.{shape_of}
use Rattle.tokens.specs.Shape.{Body}
use Rattle.ports.specs.Queue.{capacity, Fair}
use Rattle.ports.specs.Memory.{place}
use Rattle.lines.specs.Line.{line_capacity, LineFair, line_place}
use Rattle.lines.specs.Load.{load_of}
use Rattle.grammar.specs.Stage.{is_bad}
use Rattle.grammar.specs.Walk.{walk, back_of}
use Rattle.grammar.proofs.Walks.{good_from}
use Rattle.cells.specs.View.{whole_link, whole_port, whole_end, whole_unit, whole_line}
use Rattle.cells.specs.World.{World, shaped, token_words, line_words, is_empty, far_of, hop, queue, line_from, At}
use Rattle.clauses.specs.Contents.{ready, legal_word}
use Rattle.clauses.specs.Pairs.{named_by, backward, players, open_end, One}
use Rattle.clauses.specs.declared.pairs.Role.{Role}
use Rattle.clauses.proofs.Meanings.{node_counts_lem, LinkFacts, link_counts_lem, PortFacts, port_counts_lem, EndFacts, end_counts_lem, unit_counts_lem}
use Rattle.clauses.proofs.Meanings.{Joined, cables, credits, Hears, greetings, pairs, silences, filled_all, helds, heards, plain}
use Rattle.clauses.proofs.Meanings.{LineFacts, line_counts_lem}
use Rattle.line_clauses.specs.Lines.{line_ready, load_at, coming, reached}
use Rattle.line_clauses.proofs.Readies.{readies}
use Rattle.line_clauses.proofs.Spoken.{Reads, reached_walk}
use Rattle.line_clauses.proofs.Meanings.{few_means, unlined_means, room_means, count_means}
use Rattle.sound.specs.Tests.{holds_at, places}
use Rattle.sound.specs.Sound.{sound}
use Rattle.sound.specs.declared.tests.Test.{Test}
use Rattle.sound.specs.declared.tests.Test.TheVariants.{Nodes, Links, Ports, Tiles, Ends, Units, Credited, Greeted, Room, Cable}
use Rattle.sound.specs.declared.tests.Test.TheVariants.{Contents, Held, Agrees, OpenEnd, Silent, Heard, Lines, Few, Counted, Unlined}
use Rattle.sound.proofs.Sounds.{sound_shaped, sound_says}

module _ (w : World) (s : sound w ≡ true) where
  -- "A network of 1 to 16 nodes", and the memories that it asks
  pub record Lengths : Type 0 where
    pub some : 1 ≤ w.net.nodes
    pub few : w.net.nodes ≤ nodes
    pub memory : length w.memory ≡ token_words w.net.nodes
    pub lines : length w.line_memory ≡ line_words w.net.nodes

  pub lengths : Lengths
  unfolding shaped
  lengths =
      let memories = also (equal (length w.memory) (token_words _)) (equal (length w.line_memory) (line_words _)) in
      let some = also (at_most 1 w.net.nodes) (also (at_most w.net.nodes nodes) memories) in
      let z = (also (as_is (is_empty w.net.rest)) some).sure (sound_shaped w s) in
      record { some = z.1.0; few = z.1.1.0; memory = z.1.1.1.0; lines = z.1.1.1.1 }

  module _ (n : ℕ) (hn : n < w.net.nodes) where
    -- every test of the list, at every place of the node
    says : (t : Test) (i : ℕ) → i < places t → holds_at t w n i ≡ true
    says t i h = sound_says w s t n i hn h

    pub node_facts : ((w.net.own n 0).number < numbers) × (((w.net.own n 0).width ≡ 1) ⊎ ((w.net.own n 0).width ≡ 3))
    node_facts = (node_counts_lem (w.net.own n 0)).sure (says Nodes 0 (lit≤ tt))

    pub link_facts : (l : ℕ) → l < links → LinkFacts (whole_link w.net n l)
    link_facts l h = (link_counts_lem (whole_link w.net n l)).sure (says Links l h)

    pub port_facts : (p : ℕ) → p < ports → PortFacts p (whole_port w.net n p)
    port_facts p h = (port_counts_lem p (whole_port w.net n p)).sure (says Ports p h)

    pub tile_facts : (t : ℕ) → t < tile_links → (w.net.tiles n t).user.kind ≤ 1
    tile_facts t h = (at_most (w.net.tiles n t).user.kind 1).sure (says Tiles t h)

    pub line_facts : (l : ℕ) → l < links → LineFacts (whole_line w.net n l)
    line_facts l h = (line_counts_lem (whole_line w.net n l)).sure (says Lines l h)

    pub end_facts : (c : ℕ) → c < ends → EndFacts (whole_end w.net n c)
    end_facts c h = (end_counts_lem (whole_end w.net n c)).sure (says Ends c h)

    pub unit_facts : ((w.net.units.serving n 0).kind ≤ 1)
        × (((w.net.units.serving n 0).kind ≡ 0) ⊎ ((w.net.units.hearings n 0).heard ≤ unit_buffer))
    unit_facts = (unit_counts_lem (whole_unit w.net n)).sure (says Units 0 (lit≤ tt))

    pub credit_facts : (l : ℕ) → l < links → ((w.net.links.flows n l).credit ≡ 0) ⊎ ((w.net.links.flows n l).greeted ≡ 1)
    credit_facts l h = (credits w.net n l).sure (says Credited l h)

    pub greeting_facts : (l : ℕ) → l < links
        → ((w.net.links.flows n l).greeted ≡ 1 → ⊥)
        ⊎ (((w.net.links.setups n l).enabled ≡ 1) × Hears w.net (w.net.links.cables n l))
    greeting_facts l h = (greetings w.net n l).sure (says Greeted l h)

    -- "A disabled link's credit is 0 and ungreeted."
    pub disabled_facts : (l : ℕ) → l < links → ((w.net.links.setups n l).enabled ≡ 1 → ⊥)
        → ((w.net.links.flows n l).credit ≡ 0) × ((w.net.links.flows n l).greeted ≡ 1 → ⊥)
    disabled_facts l h off =
        let quiet : (w.net.links.flows n l).greeted ≡ 1 → ⊥ = λ g. ⊎_elim (λ z. z g) (λ z. off z.0) (greeting_facts l h) in
        (⊎_elim (λ z. z) (λ g. absurd (quiet g)) (credit_facts l h), quiet)

    pub cable_facts : (l : ℕ) → l < links → (m : Slot) (k : ℕ) → far_of (w.net.links.cables n l) ≡ At m k → Joined w.net n l m k
    cable_facts l h = (cables w.net n l).sure (says Cable l h)

    -- a port's counters are those of a ring, its stretch is there, and its contents are well formed
    pub fair : (p : ℕ) → p < ports → Fair (w.net.ports.counters n p)
    fair p h = let f = port_facts p h in record { head_in = f.head; held_in = f.held }

    pub reaches : (p : ℕ) → p < ports → place n p + capacity ≤ length w.memory
    reaches p h = let z = lengths in omega arith

    pub is_ready : (p : ℕ) → p < ports → ready w n p ≡ true
    is_ready p h =
        let z = lengths in
        let f = port_facts p h in
        let k = w.net.ports.counters n p in
        rw (lt-ltb n (length w.memory / (ports * capacity)) (omega arith), lt-ltb p ports h)
        (rw (lt-ltb k.head capacity f.head, le-leb k.held capacity f.held))

    -- a line's counters are those of a ring, its stretch is there, and what is on it can be read
    pub line_fair : (l : ℕ) → l < links → LineFair (w.net.lines.rings n l)
    line_fair l h = let f = line_facts l h in record { head_in = f.head; held_in = f.held }

    pub line_reaches : (l : ℕ) → l < links → line_place n l + line_capacity ≤ length w.line_memory
    line_reaches l h = let z = lengths in omega arith

    pub is_line_ready : (l : ℕ) → l < links → line_ready w n l ≡ true
    is_line_ready l h =
        let z = lengths in
        let f = line_facts l h in
        (readies w n l).back (record { node = omega arith; link = h; head = f.head; held = f.held })

    pub load_is : (l : ℕ) → l < links → load_at w n l ≡ load_of (line_from w n l)
    unfolding load_at
    load_is l h = rw (is_line_ready l h)

    pub few_facts : (l : ℕ) → l < links → ((load_of (line_from w n l)).credits ≤ 1) × ((load_of (line_from w n l)).hellos ≤ 1)
    few_facts l h = rw (load_is l h) at ((few_means w n l).sure (says Few l h))

    pub unlined_facts : (l : ℕ) → l < links
        → ((w.net.links.cables n l).wired ≡ 1) ⊎ (((w.net.lines.rings n l).held ≡ 0) × (w.net.lines.issued n l ≡ 0))
    unlined_facts l h = (unlined_means w n l).sure (says Unlined l h)

    -- every token that a channel-end holds is legal there
    pub held_facts : (c : ℕ) → c < ends → (i : ℕ) → i < (w.net.ends.buffers n c).held
        → legal_word true (get_or (w.net.ends.buffers n c).tokens i 0) ≡ true
    held_facts c h i l = (helds w.net n c).sure (says Held c h) i (filled_all end_buffer _ i (end_facts c h).held l)

    -- a control unit that serves has kept tokens that stand past a header and close nothing
    pub heard_facts : ((w.net.units.serving n 0).kind ≡ 0)
        ⊎ ((i : ℕ) → i < (w.net.units.hearings n 0).heard → shape_of (get_or (w.net.units.hearings n 0).tokens i 0) ≡ Body)
    heard_facts =
        ⊎_elim (λ z. inl z)
        (λ f. ⊎_elim (λ z. inl z) (λ b. inr (λ i l. plain _ (f i (filled_all unit_buffer _ i b l)))) unit_facts.1)
        ((heards w.net n 0).sure (says Heard 0 (lit≤ tt)))

    -- an open channel-end is aimed, and goes by a port that is taken, or straight to a channel
    pub open_facts : (c : ℕ) → c < ends → open_end w.net n c ≡ true
    open_facts c h = says OpenEnd c h

    -- what a record names in a role names it back
    pub pair_facts : (r : Role) (i : ℕ) → i < players r → (j : ℕ) → named_by r w.net n i ≡ One j
        → (j < players (backward r)) × (named_by (backward r) w.net n j ≡ One i)
    pair_facts r i h = (pairs r w.net n i).sure (says (Agrees r) i h)

    pub silent_facts : ((w.net.units.serving n 0).kind ≡ 0) ⊎ ((w.net.ports.counters n reply_port).held ≡ 0)
    silent_facts = (silences w.net n 0).sure (says Silent 0 (lit≤ tt))

  -- of what is at a link and at the far end of its cable
  module _ (n : ℕ) (hn : n < w.net.nodes) where
    far_load : (l : ℕ) → l < links → (m : Slot) (k : ℕ) → far_of (w.net.links.cables n l) ≡ At m k
        → load_at w m.0 k ≡ load_of (line_from w m.0 k)
    far_load l h m k e = let j = cable_facts n hn l h m k e in load_is m.0 j.node k j.link

    pub room_facts : (l : ℕ) → l < links → (m : Slot) (k : ℕ) → far_of (w.net.links.cables n l) ≡ At m k
        → (w.net.links.flows n l).credit + (load_of (line_from w m.0 k)).credit
        + ((load_of (line_from w n l)).tokens + (w.net.ports.counters m.0 k).held) ≤ capacity
    room_facts l h m k e =
        rw (load_is n hn l h, far_load l h m k e) at ((room_means w n l).sure (sound_says w s Room n l hn h) m k e)

    -- while no HELLO is coming to a receiver
    pub count_facts : (l : ℕ) → l < links → (m : Slot) (k : ℕ) → far_of (w.net.links.cables n l) ≡ At m k
        → (load_of (line_from w m.0 k)).hellos ≡ 0
        → w.net.lines.issued n l
        ≡ (w.net.links.flows m.0 k).credit + (load_of (line_from w n l)).credit + (load_of (line_from w m.0 k)).tokens
    count_facts l h m k e none =
        let told = (count_means w n l).sure (sound_says w s Counted n l hn h) m k e in
        ⊎_elim (λ some. absurd (some none)) (λ q. q) (rw (load_is n hn l h, far_load l h m k e) at told)

    -- what a port holds is well formed, with what is coming to it and without
    pub reached_facts : (p : ℕ) → p < ports → is_bad (walk (back_of (hop w.net n p) (queue w n p)) (coming w n p)) ≡ false
    reached_facts p h =
        let reads : Reads w n p =
        record {
          port = is_ready n hn p h;
          line = λ l m k e. let j = cable_facts n hn p l m k e in is_line_ready m.0 j.node k j.link;
        } in
        rw (reached_walk w n p reads) at (not-true (is_bad (reached w n p)) (sound_says w s Contents n p hn h))

    pub contents_facts : (p : ℕ) → p < ports → is_bad (back_of (hop w.net n p) (queue w n p)) ≡ false
    contents_facts p h = good_from _ (coming w n p) (reached_facts p h)
