-- "END and PAUSE close the hop": what it held is free, and its port has no circuit. Assumes nothing.
use Prim.Native.Nat.{ℕ}
use mathlib.Core.Path.{◌≡◌, ap}
use mathlib.Core.Bool.{true, false}
use lib.Dec.{eqb}
use Rattle.laws.proofs.Table.{upd_same}
use Rattle.names.specs.Size.{sink}
use Rattle.circuits.specs.Circuit.{hop_of, of_peer}
use Rattle.circuits.specs.declared.Hop.TheVariants.{Shut}
use Rattle.circuits.specs.declared.Peer.TheVariants.{Nobody}
use Rattle.tokens.specs.Word.{closes}
use Rattle.cells.specs.View.{Net}
use Rattle.cells.specs.World.{hop}
use Rattle.cells.specs.declared.port.Leg.{Leg}
use Rattle.cells.specs.declared.tile.Tile.{Tile}
use Rattle.acts.specs.Acts.{shut}
use Rattle.moves.specs.Moves.{closes_out, closes_channel, closes_unit, closes_dropped}

module _ (s : Net) (n p : ℕ) where
  shut_hop : hop (shut s n p) n p ≡ Shut
  shut_hop = ap (λ (k : Leg). hop_of k.circuit k.tile) (upd_same s.ports.legs n p _)

  pub unit_frees : (hop (closes_unit s n p) n p ≡ Shut) × ((closes_unit s n p).units.serving n 0 ≡ of_peer Nobody)
  unit_frees = (shut_hop, upd_same s.units.serving n 0 _)

module _ (s : Net) (n p x : ℕ) (e : closes x ≡ true) where
  pub out_frees : (l : ℕ) → (hop (closes_out s n p l x) n p ≡ Shut) × ((closes_out s n p l x).links.users n l ≡ of_peer Nobody)
  out_frees l = (rw e (shut_hop s n p), rw e (upd_same s.links.users n l _))

  pub channel_frees : (c t : ℕ) → eqb c sink ≡ false
      → let z = closes_channel s n p c t x in
      (hop z n p ≡ Shut) × ((z.tiles n t).user ≡ of_peer Nobody) × (z.ends.claims n c ≡ of_peer Nobody)
  channel_frees c t q = (
    rw (e, q) (shut_hop s n p),
    rw (e, q) (ap (λ (k : Tile). k.user) (upd_same s.tiles n t _)),
    rw (e, q) (upd_same s.ends.claims n c _),
  )

  pub dropped_frees : hop (closes_dropped s n p x) n p ≡ Shut
  dropped_frees = rw e (shut_hop s n p)
