-- Each number for no of each call, spelt out: it is given exactly where no earlier row of the call refuses, which `NoEarlier` says once for
-- all, and its own condition holds. Assumes nothing.
use Prim.{Unit, tt}
use Prim.Native.Nat.{ℕ}
use mathlib.Core.Path.{◌≡◌, refl, sym, ap, ◌∙◌}
use mathlib.Core.Bool.{Bool, true, false, not, ◌&&◌, ◌||◌, and-true}
use mathlib.Core.List.{List, [], ◌∷◌}
use lib.Dec.{eqb, ltb}
use lib.ListN.{length}
use borrow.Author.Tests.{not-false}
use Rattle.laws.specs.Pick.{pick}
use Rattle.laws.specs.All.{Means}
use Rattle.laws.proofs.All.{same_as}
use Rattle.laws.proofs.Order.{by_test, clash}
use Rattle.names.specs.No as Names
use Rattle.names.specs.declared.no.No.{No as Why}
use Rattle.names.specs.declared.no.No.TheVariants as Whys
use Rattle.names.specs.Size.{networks}
use Rattle.names.specs.declared.Slot.{Slot}
use Rattle.answers.specs.Answer.{number_of}
use Rattle.answers.specs.Rows.{Row, Exactly}
use Rattle.cells.specs.World.{World}
use Rattle.fresh.specs.Fresh.{counted, fits}
use Rattle.fresh.specs.declared.Start.{Start}
use Rattle.settings.specs.Wire.{link_at, end_wired}
use Rattle.settings.specs.Set.{link_there, in_range, set_busy}
use Rattle.settings.specs.declared.Setting.{Setting}
use Rattle.switch.specs.Step.{port_at}
use Rattle.sound.specs.Sound.{sound}
use Rattle.ends.specs.Ends.{end_at, is_open}
use Rattle.ends.specs.Aim.{goal_ranged}
use Rattle.ends.specs.Input.{is_wanted, first_held}
use Rattle.ends.specs.Plan.{target_of}
use Rattle.ends.specs.Output.{word_of, token_no}
use Rattle.ends.specs.Refusals.{opens_narrow, full}
use Rattle.ends.specs.Needs.{Sends}
use Rattle.ends.proofs.Possibles.{sends_here}
use Rattle.ends.proofs.Refusals.{narrow_plan, full_plan}
use Rattle.ends.specs.declared.Token.{Token}
use Rattle.ends.specs.declared.Wanted.{Wanted}
use Rattle.ends.specs.declared.aim.Goal.{Goal}
use Rattle.bench.specs.declared.StepRecord.{StepRecord}
use Rattle.bench.specs.Calls.{Call, Begin, Wire, Set, Aim, Output, Input, Step, Line, Steps, rows, apply}
use Rattle.bench.proofs.Applied.{exactly}

-- no row of a call before that of number k refuses
abbrev pub NoEarlier : List Row → Why → Type 0
NoEarlier [] k = Unit
NoEarlier (r ∷ rs) k = pick (eqb (Names.number r.no) (Names.number k)) Unit ((r.when ≡ false) × NoEarlier rs k)

-- the test of number k's own row
abbrev pub own_test : List Row → Why → Bool
own_test [] k = false
own_test (r ∷ rs) k = pick (eqb (Names.number r.no) (Names.number k)) r.when (own_test rs k)

-- the call is refused by that number exactly when no earlier row refuses it, and P
abbrev pub Refused : World → Call → Why → Type 0 → Type 0
Refused w c k P = Means (eqb (number_of (apply w c).answer) (Names.number k)) (NoEarlier (rows w c) k × P)

-- what number k is given for, in two
told : (rs : List Row) (k : Why) → Exactly rs k → NoEarlier rs k × (own_test rs k ≡ true)
told [] k x = absurd x
told (r ∷ rs) k x =
    by_test (eqb (Names.number r.no) (Names.number k))
    (λ e. rw e (tt, rw e at x))
    (λ e. let y = rw e at x in let z = told rs k y.1 in rw e ((y.0, z.0), z.1))

untold : (rs : List Row) (k : Why) → NoEarlier rs k × (own_test rs k ≡ true) → Exactly rs k
untold [] k x = clash (sym x.1)
untold (r ∷ rs) k x =
    by_test (eqb (Names.number r.no) (Names.number k))
    (λ e. rw e (rw e at x.1))
    (λ e. let y = rw e at x.0 in rw e (y.0, untold rs k (y.1, rw e at x.1)))

refused : (w : World) (c : Call) (k : Why) → Refused w c k (own_test (rows w c) k ≡ true)
refused w c k = same_as (told (rows w c) k) (untold (rows w c) k) (exactly w c k)

-- one condition for another that is the same where no earlier row refuses
instead : (w : World) (c : Call) (k : Why) {a b : Bool} → (NoEarlier (rows w c) k → a ≡ b)
    → Refused w c k (a ≡ true)
    → Refused w c k (b ≡ true)
instead w c k same m = same_as (λ z. (z.0, sym (same z.0) ∙ z.1)) (λ z. (z.0, same z.0 ∙ z.1)) m

module _ (w : World) where
  pub start_no_such : (s : Start) (n : ℕ) → Refused w (Begin s n) Whys.NoSuch (not (counted n) ≡ true)
  start_no_such s n = refused w (Begin s n) Whys.NoSuch

  pub start_unsound : (s : Start) (n : ℕ) → Refused w (Begin s n) Whys.Unsound (not (fits w n) ≡ true)
  start_unsound s n = refused w (Begin s n) Whys.Unsound

  module _ (a : Slot) (l : ℕ) (b : Slot) (k : ℕ) where
    pub wire_unsound : Refused w (Wire a l b k) Whys.Unsound (not (sound w) ≡ true)
    wire_unsound = refused w (Wire a l b k) Whys.Unsound

    pub wire_no_such : Refused w (Wire a l b k) Whys.NoSuch (not (link_at w.net a.0 l && link_at w.net b.0 k) ≡ true)
    wire_no_such = refused w (Wire a l b k) Whys.NoSuch

    pub wire_value : Refused w (Wire a l b k) Whys.Value ((eqb a.0 b.0 && eqb l k) ≡ true)
    wire_value = refused w (Wire a l b k) Whys.Value

    pub wire_busy : Refused w (Wire a l b k) Whys.Busy ((end_wired w.net a.0 l || end_wired w.net b.0 k) ≡ true)
    wire_busy = refused w (Wire a l b k) Whys.Busy

  module _ (a : Slot) (x : Setting) where
    pub set_unsound : Refused w (Set a x) Whys.Unsound (not (sound w) ≡ true)
    set_unsound = refused w (Set a x) Whys.Unsound

    pub set_no_such : Refused w (Set a x) Whys.NoSuch (not (ltb a.0 w.net.nodes && link_there x) ≡ true)
    set_no_such = refused w (Set a x) Whys.NoSuch

    pub set_value : Refused w (Set a x) Whys.Value (not (in_range x) ≡ true)
    set_value = refused w (Set a x) Whys.Value

    pub set_busy_lem : Refused w (Set a x) Whys.Busy (set_busy w a.0 x ≡ true)
    set_busy_lem = refused w (Set a x) Whys.Busy

  module _ (a : Slot) (c : ℕ) (g : Goal) (v : ℕ) where
    pub aim_unsound : Refused w (Aim a c g v) Whys.Unsound (not (sound w) ≡ true)
    aim_unsound = refused w (Aim a c g v) Whys.Unsound

    pub aim_no_such : Refused w (Aim a c g v) Whys.NoSuch (not (end_at w.net a.0 c) ≡ true)
    aim_no_such = refused w (Aim a c g v) Whys.NoSuch

    pub aim_value : Refused w (Aim a c g v) Whys.Value (not (goal_ranged g && ltb v networks) ≡ true)
    aim_value = refused w (Aim a c g v) Whys.Value

    pub aim_open : Refused w (Aim a c g v) Whys.Open (is_open w.net a.0 c ≡ true)
    aim_open = refused w (Aim a c g v) Whys.Open

  module _ (a : Slot) (c : ℕ) (k : Wanted) where
    pub input_unsound : Refused w (Input a c k) Whys.Unsound (not (sound w) ≡ true)
    input_unsound = refused w (Input a c k) Whys.Unsound

    pub input_no_such : Refused w (Input a c k) Whys.NoSuch (not (end_at w.net a.0 c) ≡ true)
    input_no_such = refused w (Input a c k) Whys.NoSuch

    pub input_empty : Refused w (Input a c k) Whys.Empty (eqb (w.net.ends.buffers a.0 c).held 0 ≡ true)
    input_empty = refused w (Input a c k) Whys.Empty

    pub input_trap : Refused w (Input a c k) Whys.Trap (not (is_wanted (first_held (w.net.ends.buffers a.0 c)) k) ≡ true)
    input_trap = refused w (Input a c k) Whys.Trap

  -- "After 1 and 2, Output looks at the destination before the token"
  module _ (a : Slot) (c : ℕ) (x : Token) where
    pub output_unsound : Refused w (Output a c x) Whys.Unsound (not (sound w) ≡ true)
    output_unsound = refused w (Output a c x) Whys.Unsound

    pub output_no_such : Refused w (Output a c x) Whys.NoSuch (not (end_at w.net a.0 c) ≡ true)
    output_no_such = refused w (Output a c x) Whys.NoSuch

    pub output_unaimed : Refused w (Output a c x) Whys.Unaimed (eqb (w.net.ends.aims a.0 c).kind 0 ≡ true)
    output_unaimed = refused w (Output a c x) Whys.Unaimed

    pub output_hardware : Refused w (Output a c x) Whys.Hardware (eqb (token_no x (target_of (w.net.ends.aims a.0 c))) 7 ≡ true)
    output_hardware = refused w (Output a c x) Whys.Hardware

    pub output_privileged : Refused w (Output a c x) Whys.Privileged (eqb (token_no x (target_of (w.net.ends.aims a.0 c))) 8 ≡ true)
    output_privileged = refused w (Output a c x) Whys.Privileged

    -- past the first rows the state is sound, and the channel-end is there and aimed
    sends : (not (sound w) ≡ false) → (not (end_at w.net a.0 c) ≡ false) → (eqb (w.net.ends.aims a.0 c).kind 0 ≡ false)
        → Sends w a.0 c (target_of (w.net.ends.aims a.0 c))
    sends s e aimed =
        sends_here w a.0 c (record { lines = w.line_memory; all = not-false _ s }) (not-false _ e) _ (aimed, refl)

    -- 9: "opening at one-byte width towards channel 255 or a control unit"
    pub output_narrow : Refused w (Output a c x) Whys.Narrow (opens_narrow w.net a.0 c ≡ true)
    output_narrow =
        instead w (Output a c x) Whys.Narrow
        (λ z. narrow_plan w a.0 c (word_of x) _ (sends z.0 z.1.0 z.1.1.0))
        (refused w (Output a c x) Whys.Narrow)

    -- 10: "no port 8..11 free; the taken port holds 64; locally: another circuit claims the channel, or 8 are held and the token is not
    -- PAUSE (the sink is never full)"
    pub output_full : Refused w (Output a c x) Whys.Full (full w.net a.0 c (word_of x) ≡ true)
    output_full =
        instead w (Output a c x) Whys.Full
        (λ z.
        let s = sends z.0 z.1.0 z.1.1.0 in
        let wide = sym (narrow_plan w a.0 c (word_of x) _ s) ∙ z.1.1.1.1.1.0 in
        full_plan w a.0 c (word_of x) _ s
        ∙ ap (λ (b : Bool). full w.net a.0 c (word_of x) && not b) wide
        ∙ and-true (full w.net a.0 c (word_of x)))
        (refused w (Output a c x) Whys.Full)

  module _ (a : Slot) (p : ℕ) where
    pub step_unsound : Refused w (Step a p) Whys.Unsound (not (sound w) ≡ true)
    step_unsound = refused w (Step a p) Whys.Unsound

    pub step_no_such : Refused w (Step a p) Whys.NoSuch (not (port_at w.net a.0 p) ≡ true)
    step_no_such = refused w (Step a p) Whys.NoSuch

  -- a line step: "1 and 2 alone"
  module _ (a : Slot) (l : ℕ) where
    pub line_unsound : Refused w (Line a l) Whys.Unsound (not (sound w) ≡ true)
    line_unsound = refused w (Line a l) Whys.Unsound

    pub line_no_such : Refused w (Line a l) Whys.NoSuch (not (link_at w.net a.0 l) ≡ true)
    line_no_such = refused w (Line a l) Whys.NoSuch

  -- "first, a results buffer of another length than the list is NoSuch" (document 02, Ask 1): no row of a list stands before it
  pub steps_no_such : (n : ℕ) (xs : List StepRecord) → Refused w (Steps n xs) Whys.NoSuch (not (eqb n (length xs)) ≡ true)
  steps_no_such n xs = refused w (Steps n xs) Whys.NoSuch
