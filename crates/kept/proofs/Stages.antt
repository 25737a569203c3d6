-- Where ports begin and end after a change: what hangs on that is kept where they end as they did. Assumes nothing.
use Prim.Native.Nat.{ℕ}
use mathlib.Core.Path.{◌≡◌, refl, sym, ap, ◌∙◌}
use mathlib.Core.List.{List}
use mathlib.Core.Logic.{inl, inr, ⊎_elim}
use native.Mathlib.Omega.{arith}
use Rattle.laws.specs.Table.{upd, Off}
use Rattle.laws.proofs.Table.{upd_hit, upd_miss}
use Rattle.laws.proofs.Order.{never}
use Rattle.names.specs.Size.{links, ports, reply_port, ends}
use Rattle.circuits.specs.Circuit.{peer_of, hop_of}
use Rattle.circuits.specs.declared.Circuit.{Circuit}
use Rattle.circuits.specs.declared.Hop.{Hop}
use Rattle.circuits.specs.declared.Peer.{Peer}
use Rattle.circuits.specs.declared.Peer.TheVariants.{Nobody, Port, End}
use Rattle.grammar.specs.Stage.{crossed}
use Rattle.grammar.specs.declared.stage.Stage.{Stage}
use Rattle.cells.specs.declared.link.Cable.{Cable}
use Rattle.cells.specs.declared.port.Leg.{Leg}
use Rattle.clauses.specs.Pairs.{port_of, Nothing, One}
use Rattle.kept.specs.Kept.{All, Cabled, Pair, Ends, Carries, GoesBy, TilePort, carried, leg_link, port_in}

-- a port's circuit by its leg
abbrev pub hop_at : (ℕ → ℕ → Leg) → ℕ → ℕ → Hop
hop_at legs n p = hop_of (legs n p).circuit (legs n p).tile

-- a reading of a port's circuit and tokens, where one leg was written and the tokens of that port may differ
module _ {B : Type 0} (F : Hop → List ℕ → B) (legs : ℕ → ℕ → Leg) (n p : ℕ) (k : Leg) (q q' : ℕ → ℕ → List ℕ) where
  pub read_here : F (hop_at (upd legs n p k) n p) (q' n p) ≡ F (hop_of k.circuit k.tile) (q' n p)
  read_here = ap (λ (x : Leg). F (hop_of x.circuit x.tile) (q' n p)) (upd_hit legs n p k n p refl refl)

  pub read_off : (m j : ℕ) → q' m j ≡ q m j → Off n p m j → F (hop_at (upd legs n p k) m j) (q' m j) ≡ F (hop_at legs m j) (q m j)
  read_off m j e o =
      ap (λ (x : Leg). F (hop_of x.circuit x.tile) (q' m j)) (upd_miss legs n p k m j o) ∙ ap (F (hop_at legs m j)) e

-- the port that an open channel-end goes by is there
pub tile_there : (x : Peer) (p : ℕ) → GoesBy x → x ≡ Port p → TilePort p
tile_there Nobody p g e = never (cc)
tile_there (Port q) p g e = let d : q ≡ p = cc in rw (← d) g
tile_there (End c) p g e = never (cc)

-- ends that are where they were, and so with what is on its way
pub same_ends : {N : ℕ} {cables : ℕ → ℕ → Cable} {sendings : ℕ → ℕ → Circuit} {b b' r r' : ℕ → ℕ → Stage}
    → All N ports (λ m j. b' m j ≡ b m j)
    → All N ports (λ m j. r' m j ≡ r m j)
    → All N ends (λ n e. GoesBy (peer_of (sendings n e)))
    → Ends N cables sendings b r
    → Ends N cables sendings b' r'
same_ends {sendings = sendings} h come g z =
    record {
      walks = λ n p hn hp. rw (come n p hn hp) (z.walks n p hn hp);
      unfed = λ n l hn hl. ⊎_elim (λ e. inl e) (λ e. inr (come n l hn (omega arith) ∙ e)) (z.unfed n l hn hl);
      sends = λ n e hn he p d.
          let there = tile_there (peer_of (sendings n e)) p (g n e hn he) d in
          h n p hn (omega (arith, there.1)) ∙ z.sends n e hn he p d;
      replied = λ n hn. h n reply_port hn (omega arith) ∙ z.replied n hn;
    }

-- what a link has carried, by where the port that uses it begins
pub carried_same : (x : Peer) (f f' : ℕ → Stage) → ((q : ℕ) → x ≡ Port q → f' q ≡ f q) → carried x f' ≡ carried x f
carried_same Nobody f f' h = refl
carried_same (Port q) f f' h = ap crossed (h q refl)
carried_same (End e) f f' h = refl

-- who uses a link names it, so a port that names no link uses none
pub used_by : (x : Peer) (q : ℕ) → x ≡ Port q → port_of x ≡ One q
used_by x q e = ap port_of e

-- a peer that names a port is that port
pub names_port : (x : Peer) (p : ℕ) → port_of x ≡ One p → x ≡ Port p
names_port Nobody p e = never (cc)
names_port (Port q) p e = let d : q ≡ p = cc in ap Port d
names_port (End c) p e = never (cc)

-- links have carried what they had, and the ports behind cables end where they did
pub carries_still : {N : ℕ} {cables : ℕ → ℕ → Cable} {users users' : ℕ → ℕ → Circuit} {f f' b b' : ℕ → ℕ → Stage}
    → Cabled N cables
    → All N links (λ m j. b' m j ≡ b m j)
    → All N links (λ a l. carried (peer_of (users' a l)) (f' a) ≡ carried (peer_of (users a l)) (f a))
    → Carries N cables users f b
    → Carries N cables users' f' b'
carries_still cabled same still z =
    record {
      fed = λ a l ha hl m k e.
          let joined = cabled.agree a l ha hl m k e in
          same m.0 k joined.node joined.link ∙ z.fed a l ha hl m k e ∙ sym (still a l ha hl);
      unsent = λ a l ha hl. ⊎_elim inl (λ e. inr (still a l ha hl ∙ e)) (z.unsent a l ha hl);
    }

-- port p of node n sends over no link, and ports end where they did
pub carries_away : {N : ℕ} {cables : ℕ → ℕ → Cable} {legs : ℕ → ℕ → Leg} {users : ℕ → ℕ → Circuit} {f f' b b' : ℕ → ℕ → Stage} (n p : ℕ)
    → Pair N ports links leg_link port_in legs users
    → leg_link (legs n p) ≡ Nothing
    → All N ports (λ m j. Off n p m j → f' m j ≡ f m j)
    → All N ports (λ m j. b' m j ≡ b m j)
    → Cabled N cables
    → Carries N cables users f b
    → Carries N cables users f' b'
carries_away {legs = legs} {users = users} {f = f} {f' = f'} n p pair none off same cabled z =
    carries_still cabled (λ m j hm hj. same m j hm (omega arith))
    (λ a l ha hl. carried_same (peer_of (users a l)) (f a) (f' a)
    (λ q d.
    let back = pair.back a l ha hl q (used_by (peer_of (users a l)) q d) in
    off a q ha back.0 (λ ea eq. never (let x : leg_link (legs a q) ≡ Nothing = rw (ea, eq) none in let y = back.1 in cc))))
    z
