-- One part of a record written, with the others as they were, is one entry of one table changed. Assumes nothing.
use Prim.Native.Nat.{ℕ}
use mathlib.Core.Path.{◌≡◌}
use Rattle.laws.proofs.Table.{upd_own}
use Rattle.circuits.specs.declared.Circuit.{Circuit}
use Rattle.ports.specs.declared.Counters.{Counters}
use Rattle.cells.specs.View.{Net, with_link, with_cable, with_setup, with_flow, with_user}
use Rattle.cells.specs.View.{with_port, with_counters, with_leg, with_network, with_sender}
use Rattle.cells.specs.View.{with_end, with_aim, with_sending, with_claim, with_buffer, with_unit, with_serving, with_hearing}
use Rattle.cells.specs.View.{with_line, with_ring, with_issued}
use Rattle.cells.specs.declared.link.Cable.{Cable}
use Rattle.cells.specs.declared.link.Setup.{Setup}
use Rattle.cells.specs.declared.link.Flow.{Flow}
use Rattle.cells.specs.declared.port.Leg.{Leg}
use Rattle.cells.specs.declared.end.Aim.{Aim}
use Rattle.cells.specs.declared.end.Buffer.{Buffer}
use Rattle.cells.specs.declared.unit.Hearing.{Hearing}

module _ (s : Net) (n l : ℕ) where
  pub cable_alone : (x : Cable)
      → with_link s n l (record { cable = x; setup = s.links.setups n l; flow = s.links.flows n l; user = s.links.users n l })
      ≡ with_cable s n l x
  cable_alone x = rw (upd_own s.links.setups n l, upd_own s.links.flows n l, upd_own s.links.users n l)

  pub setup_alone : (x : Setup)
      → with_link s n l (record { cable = s.links.cables n l; setup = x; flow = s.links.flows n l; user = s.links.users n l })
      ≡ with_setup s n l x
  setup_alone x = rw (upd_own s.links.cables n l, upd_own s.links.flows n l, upd_own s.links.users n l)

  pub flow_alone : (x : Flow)
      → with_link s n l (record { cable = s.links.cables n l; setup = s.links.setups n l; flow = x; user = s.links.users n l })
      ≡ with_flow s n l x
  flow_alone x = rw (upd_own s.links.cables n l, upd_own s.links.setups n l, upd_own s.links.users n l)

  pub user_alone : (x : Circuit)
      → with_link s n l (record { cable = s.links.cables n l; setup = s.links.setups n l; flow = s.links.flows n l; user = x })
      ≡ with_user s n l x
  user_alone x = rw (upd_own s.links.cables n l, upd_own s.links.setups n l, upd_own s.links.flows n l)

module _ (s : Net) (n p : ℕ) where
  pub counters_alone : (x : Counters)
      → with_port s n p (record { counters = x; leg = s.ports.legs n p; network = s.ports.networks n p; sender = s.ports.senders n p })
      ≡ with_counters s n p x
  counters_alone x = rw (upd_own s.ports.legs n p, upd_own s.ports.networks n p, upd_own s.ports.senders n p)

  pub leg_alone : (x : Leg)
      → with_port s n p
      (record { counters = s.ports.counters n p; leg = x; network = s.ports.networks n p; sender = s.ports.senders n p })
      ≡ with_leg s n p x
  leg_alone x = rw (upd_own s.ports.counters n p, upd_own s.ports.networks n p, upd_own s.ports.senders n p)

  pub network_alone : (x : ℕ)
      → with_port s n p (record { counters = s.ports.counters n p; leg = s.ports.legs n p; network = x; sender = s.ports.senders n p })
      ≡ with_network s n p x
  network_alone x = rw (upd_own s.ports.counters n p, upd_own s.ports.legs n p, upd_own s.ports.senders n p)

  pub sender_alone : (x : Circuit)
      → with_port s n p
      (record { counters = s.ports.counters n p; leg = s.ports.legs n p; network = s.ports.networks n p; sender = x })
      ≡ with_sender s n p x
  sender_alone x = rw (upd_own s.ports.counters n p, upd_own s.ports.legs n p, upd_own s.ports.networks n p)

module _ (s : Net) (n c : ℕ) where
  pub aim_alone : (x : Aim)
      → with_end s n c (record { aim = x; sending = s.ends.sendings n c; claim = s.ends.claims n c; buffer = s.ends.buffers n c })
      ≡ with_aim s n c x
  aim_alone x = rw (upd_own s.ends.sendings n c, upd_own s.ends.claims n c, upd_own s.ends.buffers n c)

  pub sending_alone : (x : Circuit)
      → with_end s n c (record { aim = s.ends.aims n c; sending = x; claim = s.ends.claims n c; buffer = s.ends.buffers n c })
      ≡ with_sending s n c x
  sending_alone x = rw (upd_own s.ends.aims n c, upd_own s.ends.claims n c, upd_own s.ends.buffers n c)

  pub claim_alone : (x : Circuit)
      → with_end s n c (record { aim = s.ends.aims n c; sending = s.ends.sendings n c; claim = x; buffer = s.ends.buffers n c })
      ≡ with_claim s n c x
  claim_alone x = rw (upd_own s.ends.aims n c, upd_own s.ends.sendings n c, upd_own s.ends.buffers n c)

  pub buffer_alone : (x : Buffer)
      → with_end s n c (record { aim = s.ends.aims n c; sending = s.ends.sendings n c; claim = s.ends.claims n c; buffer = x })
      ≡ with_buffer s n c x
  buffer_alone x = rw (upd_own s.ends.aims n c, upd_own s.ends.sendings n c, upd_own s.ends.claims n c)

module _ (s : Net) (n : ℕ) where
  pub serves_alone : (x : Circuit)
      → with_unit s n (record { serves = x; hearing = s.units.hearings n 0 })
      ≡ with_serving s n x
  serves_alone x = rw (upd_own s.units.hearings n 0)

  pub hearing_alone : (x : Hearing)
      → with_unit s n (record { serves = s.units.serving n 0; hearing = x })
      ≡ with_hearing s n x
  hearing_alone x = rw (upd_own s.units.serving n 0)

module _ (s : Net) (n l : ℕ) where
  pub ring_alone : (x : Counters) → with_line s n l (record { ring = x; issued = s.lines.issued n l }) ≡ with_ring s n l x
  ring_alone x = rw (upd_own s.lines.issued n l)

  pub issued_alone : (x : ℕ) → with_line s n l (record { ring = s.lines.rings n l; issued = x }) ≡ with_issued s n l x
  issued_alone x = rw (upd_own s.lines.rings n l)
