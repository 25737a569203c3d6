-- The accounts of a cable (document 02, Ask 4): what Sound and tight say of credits, counts and what is on the lines, of the one end as it
-- sends to the other. A cable is in order where that holds both ways.
use Rattle.std.specs.Prelude.{ℕ, ◌+◌, ◌*◌, ◌<◌, ◌≤◌, ◌≡◌, ◌⊎◌}
use Rattle.names.specs.Size.{links}
use Rattle.names.specs.declared.Slot.{Slot}
use Rattle.ports.specs.Queue.{capacity}
use Rattle.lines.specs.Load.{no_load}
use Rattle.lines.specs.declared.load.Load.{Load}
use Rattle.cells.specs.World.{World, far_of, Nowhere, At}
use Rattle.cells.specs.declared.link.Cable as Wire
use Rattle.travel.specs.Travel.{load_from}

-- one end: its link's credit and greeting, what it has issued and not yet received, the tokens that its port holds, and how much is on the
-- line that starts here
pub record End : Type 0 where
  pub credit : ℕ
  pub greeted : ℕ
  pub issued : ℕ
  pub held : ℕ
  pub load : Load

-- a sends to b
pub record Side (a b : End) : Type 0 where
  -- "credit of a link 0..64", and the count of it likewise; "credit only where greeted"
  pub flag : a.greeted ≤ 1
  pub limit : (a.credit ≤ capacity) × (b.issued ≤ capacity)
  pub earned : (a.credit ≡ 0) ⊎ (a.greeted ≡ 1)
  -- "allows one credit and one HELLO there"; a credit is 8 to 64, and behind no HELLO there is nothing
  pub few : (a.load.credits ≤ 1) × (a.load.hellos ≤ 1)
  pub worth : (8 * a.load.credits ≤ a.load.credit) × (a.load.credit ≤ 64 * a.load.credits)
  pub behind : a.load.hellos ≡ 0 → a.load.behind ≡ 0
  -- credit in hand and on the line to it, and tokens on the line from it and held there, are at most 64
  pub room : a.credit + b.load.credit + (a.load.tokens + b.held) ≤ capacity
  -- "while no HELLO is coming to a receiver, holds its count to the far end's credit plus the credit on the line to that end and the tokens
  -- on the line from it"
  pub count : a.load.hellos ≡ 0 → b.issued ≡ a.credit + b.load.credit + a.load.tokens
  -- the ties: a credit is on a line only towards a greeted end; while a HELLO is on a line its sender's credit is 0, no credit is on the
  -- line back, and no token stands behind it
  pub towards : (b.load.credits ≡ 0) ⊎ (a.greeted ≡ 1)
  pub last : (a.load.hellos ≡ 0) ⊎ ((a.credit ≡ 0) × (b.load.credits ≡ 0) × (a.load.behind ≡ 0))

-- both ways
pub record Cable (a b : End) : Type 0 where
  pub there : Side a b
  pub back : Side b a

-- an end that owes nothing: no credit, not greeted, nothing issued, nothing on its line
pub record Clean (a : End) : Type 0 where
  pub credit : a.credit ≡ 0
  pub greeted : a.greeted ≡ 0
  pub issued : a.issued ≡ 0
  pub load : a.load ≡ no_load
  pub held : a.held ≤ capacity

-- ALL CABLES of N nodes are in order, and an end without one owes nothing
pub record Accounts (N : ℕ) (cables : ℕ → ℕ → Wire.Cable) (ends : ℕ → ℕ → End) : Type 0 where
  pub joined : (n l : ℕ) → n < N → l < links → (m : Slot) (k : ℕ) → far_of (cables n l) ≡ At m k → Side (ends n l) (ends m.0 k)
  pub alone : (n l : ℕ) → n < N → l < links → far_of (cables n l) ≡ Nowhere → Clean (ends n l)

-- link l of node n, as the state has it
abbrev pub end_at : World → ℕ → ℕ → End
end_at w n l =
    record {
      credit = (w.net.links.flows n l).credit;
      greeted = (w.net.links.flows n l).greeted;
      issued = w.net.lines.issued n l;
      held = (w.net.ports.counters n l).held;
      load = load_from w n l;
    }

-- the accounts of a state
abbrev pub InOrder : World → Type 0
InOrder w = Accounts w.net.nodes w.net.links.cables (end_at w)
