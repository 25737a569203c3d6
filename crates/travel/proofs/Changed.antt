-- What the changes of a state make of the ends of cables: one end each, and every other as it was. Assumes nothing.
use Prim.Native.Nat.{ℕ, ◌+◌, ◌<◌}
use mathlib.Core.Path.{◌≡◌, refl, ap}
use Rattle.laws.specs.Table.{Off}
use Rattle.laws.proofs.Table.{upd_same, upd_miss}
use Rattle.names.specs.Size.{links}
use Rattle.ports.specs.Ring.{put_counters}
use Rattle.ports.specs.declared.Counters.{Counters}
use Rattle.cells.specs.View.{with_flow, with_issued}
use Rattle.cells.specs.World.{World}
use Rattle.cells.specs.declared.link.Flow.{Flow}
use Rattle.acts.specs.Acts.{with_net, pushed}
use Rattle.travel.specs.Travel.{load_from, put_on, taken_off}
use Rattle.travel.specs.Needs.{LineThere}
use Rattle.travel.specs.Accounts.{End, end_at}
use Rattle.travel.proofs.Accounts.{line_as, issued_to, held_to}
use Rattle.travel.proofs.Loads.{put_load_away, off_load_away}

-- another flow: credit and greeting
abbrev pub flow_as : End → Flow → End
flow_as a f = record { credit = f.credit; greeted = f.greeted; issued = a.issued; held = a.held; load = a.load }

module _ (w : World) (n l : ℕ) where
  module _ (f : Flow) where
    pub flow_here : end_at (with_net w (with_flow w.net n l f)) n l ≡ flow_as (end_at w n l) f
    flow_here = ap (flow_as (end_at w n l)) (upd_same w.net.links.flows n l f)

    pub flow_away : (a j : ℕ) → Off n l a j → end_at (with_net w (with_flow w.net n l f)) a j ≡ end_at w a j
    flow_away a j o = ap (flow_as (end_at w a j)) (upd_miss w.net.links.flows n l f a j o)

  module _ (i : ℕ) where
    pub issued_here : end_at (with_net w (with_issued w.net n l i)) n l ≡ issued_to (end_at w n l) i
    issued_here = ap (issued_to (end_at w n l)) (upd_same w.net.lines.issued n l i)

    pub issued_away : (a j : ℕ) → Off n l a j → end_at (with_net w (with_issued w.net n l i)) a j ≡ end_at w a j
    issued_away a j o = ap (issued_to (end_at w a j)) (upd_miss w.net.lines.issued n l i a j o)

  -- a token put into the port
  module _ (x : ℕ) where
    pub pushed_here : end_at (pushed w n l x) n l ≡ held_to (end_at w n l) ((w.net.ports.counters n l).held + 1)
    unfolding pushed
    pushed_here =
        ap (λ (c : Counters). held_to (end_at w n l) c.held)
        (upd_same w.net.ports.counters n l (put_counters (w.net.ports.counters n l)))

    pub pushed_away : (a j : ℕ) → Off n l a j → end_at (pushed w n l x) a j ≡ end_at w a j
    unfolding pushed
    pushed_away a j o =
        ap (λ (c : Counters). held_to (end_at w a j) c.held)
        (upd_miss w.net.ports.counters n l (put_counters (w.net.ports.counters n l)) a j o)

  -- the line that starts there
  pub put_here : (x : ℕ) → end_at (put_on w n l x) n l ≡ line_as (end_at w n l) (load_from (put_on w n l x) n l)
  unfolding put_on
  put_here x = refl

  pub put_away : LineThere w n l → (x a j : ℕ) → j < links → Off n l a j → end_at (put_on w n l x) a j ≡ end_at w a j
  unfolding put_on
  put_away z x a j hj o = ap (line_as (end_at w a j)) (put_load_away w n l z x a j hj o)

  pub off_here : end_at (taken_off w n l) n l ≡ line_as (end_at w n l) (load_from (taken_off w n l) n l)
  unfolding taken_off
  off_here = refl

  pub off_away : LineThere w n l → (a j : ℕ) → j < links → Off n l a j → end_at (taken_off w n l) a j ≡ end_at w a j
  unfolding taken_off
  off_away z a j hj o = ap (line_as (end_at w a j)) (off_load_away w n l z a j hj o)
