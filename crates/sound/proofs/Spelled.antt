-- Sound, spelled out: a state is sound exactly where both memories have their lengths and the meaning of every test of the list holds at
-- every place. No test is left as a test. Assumes nothing.
use Prim.Native.Nat.{ℕ, ◌+◌, ◌*◌, ◌<◌, ◌≤◌}
use mathlib.Core.List.{List, [], ◌∷◌}
use mathlib.Core.Logic.{◌⊎◌}
use mathlib.Core.Path.{◌≡◌, refl, sym}
use lib.ListN.{length, get_or}
use Rattle.laws.specs.All.{Means}
use Rattle.laws.proofs.All.{also, same_as, at_most, equal}
use Rattle.laws.proofs.Order.{never, clash}
use Rattle.names.specs.Size.{nodes, links, ports, end_buffer, unit_buffer, reply_port, numbers}
use Rattle.names.specs.declared.Slot.{Slot}
use Rattle.ports.specs.Queue.{capacity}
use Rattle.lines.specs.Line.{line_capacity}
use Rattle.cells.specs.View.{whole_link, whole_port, whole_end, whole_unit, whole_line}
use Rattle.cells.specs.World.{World, shaped, is_empty, far_of, At}
use Rattle.clauses.specs.Pairs.{backward, players}
use Rattle.clauses.specs.Sentences.{Plain}
use Rattle.clauses.proofs.Meanings.{node_counts_lem, LinkFacts, link_counts_lem, PortFacts, port_counts_lem, tile_counts_lem, EndFacts, end_counts_lem}
use Rattle.clauses.proofs.Meanings.{LineFacts, line_counts_lem}
use Rattle.clauses.proofs.Meanings.{unit_counts_lem, Joined, cables, credits, Hears, greetings, Held, held_tokens_lem, heard_tokens_lem}
use Rattle.clauses.proofs.Meanings.{Names, each_names_back, Opened, open_ends, silences}
use Rattle.line_clauses.specs.Lines.{load_at}
use Rattle.line_clauses.proofs.Spoken.{PortHolds, ports_hold}
use Rattle.line_clauses.proofs.Meanings.{few_means, unlined_means, room_means, count_means}
use Rattle.sound.specs.Tests.{holds_at, places}
use Rattle.sound.specs.Sound.{sound}
use Rattle.sound.specs.declared.tests.Test.{Test}
use Rattle.sound.specs.declared.tests.Test.TheVariants as Tests
use Rattle.sound.proofs.Sounds.{sound_shaped, sound_says, sound_from}

-- what each test says at place i of node n, in the order of document 01
abbrev pub Meaning : Test → World → ℕ → ℕ → Type 0
Meaning Tests.Nodes w n i = let k = w.net.own n 0 in (k.number < numbers) × ((k.width ≡ 1) ⊎ (k.width ≡ 3))
Meaning Tests.Links w n i = LinkFacts (whole_link w.net n i)
Meaning Tests.Ports w n i = PortFacts i (whole_port w.net n i)
Meaning Tests.Tiles w n i = (w.net.tiles n i).user.kind ≤ 1
Meaning Tests.Ends w n i = EndFacts (whole_end w.net n i)
Meaning Tests.Units w n i =
    let k = whole_unit w.net n in (k.serves.kind ≤ 1) × ((k.serves.kind ≡ 0) ⊎ (k.hearing.heard ≤ unit_buffer))
Meaning Tests.Credited w n i = let k = w.net.links.flows n i in (k.credit ≡ 0) ⊎ (k.greeted ≡ 1)
Meaning Tests.Greeted w n i =
    ((w.net.links.flows n i).greeted ≡ 1 → ⊥)
    ⊎ (((w.net.links.setups n i).enabled ≡ 1) × Hears w.net (w.net.links.cables n i))
Meaning Tests.Room w n i =
    (m : Slot) (k : ℕ) → far_of (w.net.links.cables n i) ≡ At m k
    → (w.net.links.flows n i).credit + (load_at w m.0 k).credit
    + ((load_at w n i).tokens + (w.net.ports.counters m.0 k).held) ≤ capacity
Meaning Tests.Cable w n i = (m : Slot) (k : ℕ) → far_of (w.net.links.cables n i) ≡ At m k → Joined w.net n i m k
Meaning Tests.Contents w n i = PortHolds w n i
Meaning Tests.Held w n i =
    let k = w.net.ends.buffers n i in (j : ℕ) → j < k.held → j < end_buffer → Held (get_or k.tokens j 0)
Meaning (Tests.Agrees r) w n i =
    (j : ℕ) → Names r w.net n i j → (j < players (backward r)) × Names (backward r) w.net n j i
Meaning Tests.OpenEnd w n i = ((w.net.ends.sendings n i).kind ≡ 0) ⊎ Opened w.net n i
Meaning Tests.Silent w n i = ((w.net.units.serving n 0).kind ≡ 0) ⊎ ((w.net.ports.counters n reply_port).held ≡ 0)
Meaning Tests.Heard w n i =
    let k = w.net.units.hearings n 0 in
    ((w.net.units.serving n 0).kind ≡ 0) ⊎ ((j : ℕ) → j < k.heard → j < unit_buffer → Plain (get_or k.tokens j 0))
Meaning Tests.Lines w n i = LineFacts (whole_line w.net n i)
Meaning Tests.Few w n i = ((load_at w n i).credits ≤ 1) × ((load_at w n i).hellos ≤ 1)
Meaning Tests.Counted w n i =
    (m : Slot) (k : ℕ) → far_of (w.net.links.cables n i) ≡ At m k
    → ((load_at w m.0 k).hellos ≡ 0 → ⊥)
    ⊎ (w.net.lines.issued n i ≡ (w.net.links.flows m.0 k).credit + (load_at w n i).credit + (load_at w m.0 k).tokens)
Meaning Tests.Unlined w n i =
    ((w.net.links.cables n i).wired ≡ 1) ⊎ (((w.net.lines.rings n i).held ≡ 0) × (w.net.lines.issued n i ≡ 0))

pub each_test : (t : Test) (w : World) (n i : ℕ) → Means (holds_at t w n i) (Meaning t w n i)
each_test Tests.Nodes w n i = node_counts_lem (w.net.own n 0)
each_test Tests.Links w n i = link_counts_lem (whole_link w.net n i)
each_test Tests.Ports w n i = port_counts_lem i (whole_port w.net n i)
each_test Tests.Tiles w n i = tile_counts_lem (w.net.tiles n i)
each_test Tests.Ends w n i = end_counts_lem (whole_end w.net n i)
each_test Tests.Units w n i = unit_counts_lem (whole_unit w.net n)
each_test Tests.Credited w n i = credits w.net n i
each_test Tests.Greeted w n i = greetings w.net n i
each_test Tests.Room w n i = room_means w n i
each_test Tests.Cable w n i = cables w.net n i
each_test Tests.Contents w n i = ports_hold w n i
each_test Tests.Held w n i = held_tokens_lem w.net n i
each_test (Tests.Agrees r) w n i = each_names_back r w.net n i
each_test Tests.OpenEnd w n i = open_ends w.net n i
each_test Tests.Silent w n i = silences w.net n 0
each_test Tests.Heard w n i = heard_tokens_lem w.net n 0
each_test Tests.Lines w n i = line_counts_lem (whole_line w.net n i)
each_test Tests.Few w n i = few_means w n i
each_test Tests.Counted w n i = count_means w n i
each_test Tests.Unlined w n i = unlined_means w n i

-- "A network of 1 to 16 nodes", with no word past the last, "nodes × 13 ports × 64 words, exactly", and for the lines "nodes × 8 × 66 words"
pub record Fitting (w : World) : Type 0 where
  pub rest : w.net.rest ≡ []
  pub some : 1 ≤ w.net.nodes
  pub few : w.net.nodes ≤ nodes
  pub memory : length w.memory ≡ w.net.nodes * (ports * capacity)
  pub lines : length w.line_memory ≡ w.net.nodes * (links * line_capacity)

nothing : (l : List ℕ) → Means (is_empty l) (l ≡ [])
nothing [] = record { sure = λ e. refl; back = λ e. refl }
nothing (x ∷ l) = record { sure = λ e. clash (sym e); back = λ e. never (cc) }

fitting : (w : World) → Means (shaped w) (Fitting w)
unfolding shaped
fitting w =
    same_as
    (λ z. record { rest = z.0; some = z.1.0; few = z.1.1.0; memory = z.1.1.1.0; lines = z.1.1.1.1 })
    (λ f. (f.rest, (f.some, (f.few, (f.memory, f.lines)))))
    (also (nothing w.net.rest) (also (at_most _ _) (also (at_most _ _) (also (equal _ _) (equal _ _)))))

-- the lengths and the whole list
pub record Spelled (w : World) : Type 0 where
  pub lengths : Fitting w
  pub list : (t : Test) (n i : ℕ) → n < w.net.nodes → i < places t → Meaning t w n i

pub sound_spelled : (w : World) → Means (sound w) (Spelled w)
sound_spelled w =
    record {
      sure = λ s.
          record {
            lengths = (fitting w).sure (sound_shaped w s);
            list = λ t n i hn hi. (each_test t w n i).sure (sound_says w s t n i hn hi);
          };
      back = λ z. sound_from w ((fitting w).back z.lengths) (λ t n i hn hi. (each_test t w n i).back (z.list t n i hn hi));
    }
