-- What an observer has written down of the runs of bench/proofs/Runs.antt, computed: circuits land, are handed on, are Split, find no way
-- and are answered, so that demand 3 is no statement about nothing. Assumes nothing.
use Prim.Native.Nat.{ℕ}
use mathlib.Core.Path.{◌≡◌, refl, ap, ◌∙◌}
use mathlib.Core.Bool.{Bool, true, false}
use mathlib.Core.List.{List, [], ◌∷◌, ◌++◌, map}
use lib.ListN.{take}
use Rattle.laws.specs.Row.{tab}
use Rattle.circuits.specs.declared.Cause.TheVariants.{NoRoute, Split}
use Rattle.tokens.specs.declared.header.Width.TheVariants.{One, Three}
use Rattle.tokens.specs.declared.header.Target.{Target}
use Rattle.tokens.specs.declared.header.Target.TheVariants.{Channel, Unit}
use Rattle.answers.specs.Out.{Out}
use Rattle.cells.specs.World.{World}
use Rattle.fresh.specs.Fresh.{start_of}
use Rattle.fresh.specs.declared.Start.{Start}
use Rattle.fresh.specs.declared.Start.TheVariants.{Fresh, Blank}
use Rattle.kept.specs.Kept.{Kept}
use Rattle.kept.proofs.Computes.{computes}
use Rattle.bench.specs.Calls.{Call, apply}
use Rattle.bench.specs.Runs.{flat}
use Rattle.bench.proofs.Lasts.{call_keeps}
use Rattle.bench.proofs.Computed.{applied, sound_row, Script, calls, begun_kept}
use Rattle.bench.proofs.Runs.{update, halfway, halfway_by_lists, by_lists, narrowed, booted, blanked}
use Rattle.streams.specs.Model.{Cell, Info, Given, Fate, Lost, Landed, Here, no_books, alter, port_no, door_no, unit_door, cells_of, marks}
use Rattle.streams.specs.Watch.{Seen, unseen, sees, seen}
use Rattle.streams.specs.Observer.{write, jot, anew, misreads, port_in}
use Rattle.streams.specs.Statement.{observed}

-- HOW THEY ARE COMPUTED: what is seen of a run whose calls come to `act`
abbrev watched : (World → Call → Out World) → World → Seen → List Call → Seen
watched act = seen (λ (w : World) (c : Call). (act w c).next) anew (λ w c. (act w c).answer) write jot misreads port_in

-- .. of one call that comes to o
abbrev after : Out World → World → Call → Seen → Seen
after o = sees (λ (w : World) (c : Call). o.next) anew (λ w c. o.answer) write jot misreads port_in

watched_so : (cs : List Call) (w : World) (k : Seen) → Kept w → watched apply w k cs ≡ watched applied w k cs
watched_so [] w k s = refl
watched_so (c ∷ cs) w k s =
    watched_so cs (apply w c).next (after (apply w c) w c k) (call_keeps w s c)
    ∙ ap (λ (o : Out World). watched applied o.next (after o w c k) cs) (sound_row w s c)

-- AN ACCOUNT of a circuit, as the books have it: its opening, all that was put out, what became of it, all that was handed; and whether a
-- switch of the other width has read its header
pub record Account : Type 0 where
  pub opening : Info
  pub put : List ℕ
  pub fate : Fate
  pub handed : List ℕ
  pub misread : Bool

-- of every circuit, in the order in which they were opened
abbrev pub accounts : Seen → List Account
accounts s =
    tab s.books.now (λ c. record {
      opening = s.books.info c;
      put = s.books.stream c;
      fate = s.books.fate c;
      handed = s.books.handed c;
      misread = s.misread c;
    })

-- what doors were handed, in the order of the run
abbrev pub logs : List ℕ → Seen → List (List Given)
logs ds s = map s.books.log ds

-- what an observer of a script on two boards has in the end, read by f
abbrev ShowsFrom : Start → Script → {A : Type 0} → (Seen → A) → A → Type 0
ShowsFrom x s f a = f (observed x 2 (calls s)) ≡ a

abbrev shown_from : (x : Start) (s : Script) {A : Type 0} (f : Seen → A) {a : A}
    → f (watched applied (start_of x 2) unseen (flat (calls s))) ≡ a
    → ShowsFrom x s f a
shown_from x s f computed = ap f (watched_so (flat (calls s)) (start_of x 2) unseen (begun_kept x 2 refl refl)) ∙ computed

abbrev Shows : Script → {A : Type 0} → (Seen → A) → A → Type 0
Shows s = ShowsFrom Fresh s

abbrev shown : (s : Script) {A : Type 0} (f : Seen → A) {a : A}
    → f (watched applied (start_of Fresh 2) unseen (flat (calls s))) ≡ a
    → Shows s f a
shown s = shown_from Fresh s

-- openings: at three-byte width, at one-byte width, within a node
abbrev three : ℕ → Target → Info
three e d = record { sender = e; dest = d; width = Three; skip = 3 }

abbrev one : ℕ → Target → Info
one e d = record { sender = e; dest = d; width = One; skip = 1 }

abbrev within : ℕ → Target → Info
within e d = record { sender = e; dest = d; width = One; skip = 0 }

-- THE UPDATE. Board 0 is the hub, board 1 the lane. Words: 0x600 and more is a header token of three, 0x200 and more of one, 0x100 and more
-- a control token
pub update_books : Shows update accounts
    -- landed by port 0 of the lane, whose number was 1 when it was opened and is 2
    (record {
      opening = three (door_no 0 0) (Channel (record { 0 = 2 }) 5);
      put = 0x600 ∷ 0x602 ∷ 0x605 ∷ 7 ∷ 0x101 ∷ [];
      fate = Landed (port_no 1 0) (record { 0 = 2 });
      handed = 7 ∷ 0x101 ∷ [];
      misread = false;
    }
    -- the message
    ∷ record {
      opening = three (door_no 0 1) (Unit (record { 0 = 2 }));
      put = 0x600 ∷ 0x602 ∷ 0x7C3 ∷ 0x1C1 ∷ 0 ∷ 0 ∷ 3 ∷ 0 ∷ 5 ∷ 0x101 ∷ [];
      fate = Landed (port_no 1 0) (record { 0 = 2 });
      handed = 0x1C1 ∷ 0 ∷ 0 ∷ 3 ∷ 0 ∷ 5 ∷ 0x101 ∷ [];
      misread = false;
    }
    -- the reply, whose sender is the lane's control unit
    ∷ record {
      opening = three (door_no 1 unit_door) (Channel (record { 0 = 0 }) 3);
      put = 0x600 ∷ 0x600 ∷ 0x603 ∷ 0x103 ∷ 0 ∷ 0 ∷ 0 ∷ 2 ∷ 0x101 ∷ [];
      fate = Landed (port_no 0 0) (record { 0 = 0 });
      handed = 0x103 ∷ 0 ∷ 0 ∷ 0 ∷ 2 ∷ 0x101 ∷ [];
      misread = false;
    }
    -- Split at the hub
    ∷ record {
      opening = three (door_no 1 0) (Channel (record { 0 = 0 }) 6);
      put = 0x600 ∷ 0x600 ∷ 0x606 ∷ 9 ∷ 0x101 ∷ [];
      fate = Lost Split;
      handed = [];
      misread = true;
    }
    -- within the hub
    ∷ record {
      opening = within (door_no 0 2) (Channel (record { 0 = 8 }) 4);
      put = 1 ∷ 0x101 ∷ [];
      fate = Here (record { 0 = 0 });
      handed = 1 ∷ 0x101 ∷ [];
      misread = false;
    }
    -- landed at the lane, whose number was 2 when it was opened and is 18. PAUSE was put out and not handed
    ∷ record {
      opening = one (door_no 0 0) (Channel (record { 0 = 10 }) 5);
      put = 0x245 ∷ 6 ∷ 0x102 ∷ [];
      fate = Landed (port_no 1 0) (record { 0 = 18 });
      handed = 6 ∷ [];
      misread = false;
    }
    ∷ [])
unfolding computes alter no_books
update_books = shown update accounts refl

-- the doors that they name: channel 5 and the control unit of the lane; channels 3, 6 and 4 of the hub
abbrev pub named : List ℕ
named = door_no 1 5 ∷ door_no 1 unit_door ∷ door_no 0 3 ∷ door_no 0 6 ∷ door_no 0 4 ∷ []

pub update_doors : Shows update (logs named)
    ((marks 0 (7 ∷ 0x101 ∷ []) ++ marks 5 (6 ∷ []))
    ∷ marks 1 (0x1C1 ∷ 0 ∷ 0 ∷ 3 ∷ 0 ∷ 5 ∷ 0x101 ∷ [])
    ∷ marks 2 (0x103 ∷ 0 ∷ 0 ∷ 0 ∷ 2 ∷ 0x101 ∷ [])
    ∷ []
    ∷ marks 4 (1 ∷ 0x101 ∷ [])
    ∷ [])
unfolding computes alter no_books
update_doors = shown update (logs named) refl

-- "Hub at one-byte, lane at three-byte": nothing was handed
pub halfway_books : Shows halfway accounts
    (record {
      opening = three (door_no 1 0) (Channel (record { 0 = 0 }) 5);
      put = 0x600 ∷ 0x600 ∷ 0x605 ∷ 7 ∷ 0x101 ∷ [];
      fate = Lost Split;
      handed = [];
      misread = true;
    }
    ∷ [])
unfolding computes alter no_books
halfway_books = shown halfway accounts refl

-- what is in port 0 of the hub, and on the line that comes to it
abbrev pub coming : Seen → List (List Cell)
coming s = s.books.cells (port_no 0 0) ∷ s.books.on (port_no 1 0) ∷ []

-- .. once the five tokens have gone on the line and two of them have arrived: the others are on it, in order
pub halfway_on_line : Shows (take 22 halfway) coming (cells_of 0 0 (0x600 ∷ 0x600 ∷ []) ∷ cells_of 0 2 (0x605 ∷ 7 ∷ 0x101 ∷ []) ∷ [])
unfolding computes alter no_books
halfway_on_line = shown (take 22 halfway) coming refl

-- the half-done update by lists of steps is the same
pub by_lists_books : observed Fresh 2 halfway_by_lists ≡ observed Fresh 2 (calls halfway)
by_lists_books = ap (watched apply (start_of Fresh 2) unseen) by_lists

-- "A message sets a node to one-byte": the message was heard, and nothing of the reply was handed
pub narrowed_books : Shows narrowed accounts
    (record {
      opening = three (door_no 0 0) (Unit (record { 0 = 1 }));
      put = 0x600 ∷ 0x601 ∷ 0x7C3 ∷ 0x1C0 ∷ 0 ∷ 0 ∷ 3 ∷ 0 ∷ 4 ∷ 0 ∷ 0 ∷ 0 ∷ 1 ∷ 0x101 ∷ [];
      fate = Landed (port_no 1 0) (record { 0 = 1 });
      handed = 0x1C0 ∷ 0 ∷ 0 ∷ 3 ∷ 0 ∷ 4 ∷ 0 ∷ 0 ∷ 0 ∷ 1 ∷ 0x101 ∷ [];
      misread = false;
    }
    ∷ record {
      opening = one (door_no 1 unit_door) (Channel (record { 0 = 0 }) 3);
      put = 0x203 ∷ 0x103 ∷ 0x101 ∷ [];
      fate = Lost Split;
      handed = [];
      misread = true;
    }
    ∷ [])
unfolding computes alter no_books
narrowed_books = shown narrowed accounts refl

-- AS THE BOOT ROM LEAVES THEM: the circuit that was open before its cable was there has landed at the lane, whole, by the port of that
-- cable; so has the one back
pub booted_books : Shows booted accounts
    (record {
      opening = three (door_no 0 0) (Channel (record { 0 = 1 }) 5);
      put = 0x600 ∷ 0x601 ∷ 0x605 ∷ 7 ∷ 0x101 ∷ [];
      fate = Landed (port_no 1 5) (record { 0 = 1 });
      handed = 7 ∷ 0x101 ∷ [];
      misread = false;
    }
    ∷ record {
      opening = three (door_no 1 0) (Channel (record { 0 = 0 }) 6);
      put = 0x600 ∷ 0x600 ∷ 0x606 ∷ 0x101 ∷ [];
      fate = Landed (port_no 0 4) (record { 0 = 0 });
      handed = 0x101 ∷ [];
      misread = false;
    }
    ∷ [])
unfolding computes alter no_books
booted_books = shown booted accounts refl

-- .. and from blank it had no way out
pub blanked_books : ShowsFrom Blank blanked accounts
    (record {
      opening = three (door_no 0 0) (Channel (record { 0 = 1 }) 5);
      put = 0x600 ∷ 0x601 ∷ 0x605 ∷ 7 ∷ 0x101 ∷ [];
      fate = Lost NoRoute;
      handed = [];
      misread = false;
    }
    ∷ [])
unfolding computes alter no_books
blanked_books = shown_from Blank blanked accounts refl
