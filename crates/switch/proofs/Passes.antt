-- On a sound state a link with credit has room on its line for a token, once one is taken from a port and a grant is made for it, on that
-- very line too. Assumes nothing.
use Prim.Native.Nat.{ℕ, ◌+◌, ◌<◌, ◌≤◌}
use mathlib.Core.Path.{◌≡◌, refl}
use mathlib.Core.Bool.{true}
use native.Mathlib.Omega.{arith}
use Rattle.laws.proofs.Table.{place}
use Rattle.names.specs.Size.{links}
use Rattle.names.specs.declared.Slot.{Slot}
use Rattle.ports.specs.Queue.{capacity}
use Rattle.lines.specs.Line.{line_capacity}
use Rattle.lines.proofs.Ends.{things, load_worth}
use Rattle.cells.specs.World.{World, far_of, line_from, Far, Nowhere, At}
use Rattle.acts.specs.Acts.{popped}
use Rattle.travel.specs.Travel.{load_from, grant_due, grants_back}
use Rattle.travel.specs.Needs.{LineThere}
use Rattle.travel.proofs.There.{there_kept}
use Rattle.travel.proofs.Due.{due_low, due_may}
use Rattle.travel.proofs.Loads.{load_held}
use Rattle.travel.proofs.Granted.{none_leads}
use Rattle.travel.proofs.Again.{back_load, back_load_away}
use Rattle.moves.specs.Moves.{took}
use Rattle.moves.specs.Needs.{Up, Passes}
use Rattle.moves.proofs.Takes.{by_up}
use Rattle.moves.proofs.After.{took_there}
use Rattle.sound.specs.Sound.{sound}
use Rattle.sound.proofs.Facts.{few_facts, count_facts}
use Rattle.switch.proofs.Cabled.{line_there, grants, few_tokens}

-- some of one number leave less for the other
less : (a b : ℕ) → (a ≡ 0 → ⊥) → a + b ≤ capacity → b < capacity
less a b some h = omega arith

module _ (w : World) (s : sound w ≡ true) (n l : ℕ) (hn : n < w.net.nodes) (hl : l < links)
    (has : (w.net.links.flows n l).credit ≡ 0 → ⊥) where
  -- at most 63 tokens, a credit and a HELLO
  few : ((load_from w n l).tokens < capacity) × ((load_from w n l).credits ≤ 1) × ((load_from w n l).hellos ≤ 1)
  few =
      let few_on = few_facts w s n hn l hl in
      (less (w.net.links.flows n l).credit (load_from w n l).tokens has (few_tokens w s n l hn hl), few_on.0, few_on.1)

  -- after a token is taken from port p
  module _ (p : ℕ) where
    -- where a grant is made no credit is on its way: the receiver has issued less than the least
    none_out : (m : Slot) (k : ℕ) → far_of (w.net.links.cables n l) ≡ At m k → (grant_due (popped w n p) n l ≡ 0 → ⊥)
        → (load_from w n l).credits ≡ 0
    unfolding popped
    none_out m k e some =
        let free = due_may (popped w n p) n l m k e some in
        omega (arith, due_low (popped w n p) n l some, count_facts w s n hn l hl m k e free.1, (load_worth (line_from w n l)).0)

    room_popped : things (load_from (popped w n p) n l) < line_capacity
    unfolding popped
    room_popped = let f = few in omega (arith, f.0, f.1, f.2)

    -- .. and a grant is made on that very line
    room_here : (f : Far) → far_of (w.net.links.cables n l) ≡ f → things (load_from (grants_back (popped w n p) n l) n l) < line_capacity
    unfolding popped
    room_here Nowhere e = rw (none_leads (popped w n p) n l e) room_popped
    room_here (At m k) e =
        back_load (popped w n p) n l (there_kept refl refl refl (line_there w s n l hn hl)) (λ q. things q < line_capacity) room_popped
        (λ some. let f = few in omega (arith, none_out m k e some, f.0, f.2))

  room_granted : (p : ℕ) → p < links → things (load_from (grants_back (popped w n p) n p) n l) < line_capacity
  unfolding popped
  room_granted p hp =
      place n p n l
      (λ a d. rw (← d) (room_here l (far_of (w.net.links.cables n l)) refl))
      (λ o.
      rw (back_load_away (popped w n p) n p (there_kept refl refl refl (line_there w s n p hn hp)) n l hl o) (room_popped p))

  pub passes : (p : ℕ) → Passes w n p l
  unfolding took
  passes p =
      let up : Up w n p = λ hp. grants w s n p hn hp in
      let there : LineThere (took w n p) n l = took_there w n p up n l (line_there w s n l hn hl) in
      let room : things (load_from (took w n p) n l) < line_capacity =
      by_up (popped w n p) n p (λ y. things (load_from y n l) < line_capacity) (room_popped p) (room_granted p) in
      record { there = there; room = omega (arith, load_held (took w n p) n l there, room) }
