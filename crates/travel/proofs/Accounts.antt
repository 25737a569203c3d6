-- What each act of a cable keeps of its accounts, and that a line has room for what an act puts on it. Assumes nothing.
use Prim.Native.Nat.{ℕ, ◌+◌, ◌-◌, ◌*◌, ◌<◌, ◌≤◌}
use mathlib.Core.Path.{◌≡◌, refl}
use mathlib.Core.Logic.{inl, inr, ⊎_elim}
use native.Mathlib.Omega.{arith}
use Rattle.ports.specs.Queue.{capacity}
use Rattle.lines.specs.Line.{line_capacity}
use Rattle.lines.specs.Load.{hello_before, credit_before, token_before, no_load}
use Rattle.lines.specs.declared.load.Load.{Load}
use Rattle.lines.proofs.Ends.{hello_after, token_after, things}
use Rattle.travel.specs.Accounts.{End, Side, Cable, Clean}

-- An end with one thing changed
abbrev pub line_as : End → Load → End
line_as a k = record { credit = a.credit; greeted = a.greeted; issued = a.issued; held = a.held; load = k }

abbrev pub credit_to : End → ℕ → End
credit_to a c = record { credit = c; greeted = a.greeted; issued = a.issued; held = a.held; load = a.load }

abbrev pub issued_to : End → ℕ → End
issued_to a i = record { credit = a.credit; greeted = a.greeted; issued = i; held = a.held; load = a.load }

abbrev pub held_to : End → ℕ → End
held_to a h = record { credit = a.credit; greeted = a.greeted; issued = a.issued; held = h; load = a.load }

abbrev pub greeted_end : End → End
greeted_end a = record { credit = a.credit; greeted = 1; issued = a.issued; held = a.held; load = a.load }

-- WHO HAS CREDIT is greeted, and no HELLO of it is on its way
module _ {a b : End} (z : Side a b) (has : 0 < a.credit) where
  pub greeted_sender : a.greeted ≡ 1
  greeted_sender = ⊎_elim (λ e. absurd (omega arith)) (λ e. e) z.earned

  pub no_hello : a.load.hellos ≡ 0
  no_hello = ⊎_elim (λ e. e) (λ e. absurd (omega (arith, e.0))) z.last

-- The one end as it sends, where only what it does not read has changed: of itself what it has issued and holds, of the other its greeting,
-- its credit and its line but for credits
pub aside : {a b a' b' : End} → Side a b
    → (a'.credit ≡ a.credit) × (a'.greeted ≡ a.greeted) × (a'.load ≡ a.load)
    → (b'.issued ≡ b.issued) × (b'.held ≡ b.held) × (b'.load.credit ≡ b.load.credit) × (b'.load.credits ≡ b.load.credits)
    → Side a' b'
aside {a} {b} {a'} {b'} s p q =
    record {
      flag = rw p.1 s.flag;
      limit = (rw p.0 s.limit.0, rw q.0 s.limit.1);
      earned = rw (p.0, p.1) s.earned;
      few = rw p.2 s.few;
      worth = rw p.2 s.worth;
      behind = rw p.2 s.behind;
      room = rw (p.0, p.2, q.1, q.2) s.room;
      count = rw (p.0, p.2, q.0, q.2) s.count;
      towards = rw (p.1, q.3) s.towards;
      last = rw (p.0, p.2, q.3) s.last;
    }

-- A TOKEN IS SENT for a credit
module _ {a b : End} (z : Cable a b) (has : 0 < a.credit) where
  abbrev sent : End
  sent = line_as (credit_to a (a.credit - 1)) (token_after a.load)

  pub keep_sent : Cable sent b
  keep_sent =
      let s = z.there in
      let r = z.back in
      let none = no_hello s has in
      let up = greeted_sender s has in
      record {
        there = record {
          flag = s.flag;
          limit = (omega (arith, s.limit.0), s.limit.1);
          earned = inr up;
          few = s.few;
          worth = s.worth;
          behind = λ e. omega (arith, s.behind none);
          room = omega (arith, s.room);
          count = λ e. omega (arith, s.count none);
          towards = inr up;
          last = inl none;
        };
        back = aside r (refl, refl, refl) (refl, refl, refl, refl);
      }

  -- the line has room for it
  pub room_sent : things a.load < line_capacity
  room_sent = let s = z.there in omega (arith, s.room, s.few.0, s.few.1)

-- A TOKEN ARRIVES, the first on the line: held, and one less that is issued
module _ (a : End) {b : End} (k : Load) (z : Cable (line_as a (token_before k)) b) where
  pub keep_token : Cable (line_as a k) (held_to (issued_to b (b.issued - 1)) (b.held + 1))
  keep_token =
      let s = z.there in
      record {
        there = record {
          flag = s.flag;
          limit = (s.limit.0, omega (arith, s.limit.1));
          earned = s.earned;
          few = s.few;
          worth = s.worth;
          behind = s.behind;
          room = omega (arith, s.room);
          count = λ e. omega (arith, s.count e);
          towards = s.towards;
          last = s.last;
        };
        back = aside z.back (refl, refl, refl) (refl, refl, refl, refl);
      }

  -- the port has room for it
  pub room_token : b.held < capacity
  room_token = omega (arith, z.there.room)

-- A CREDIT ARRIVES: it is the link's own that it comes to. What is left on the line is worth what it is (`load_worth` in crate lines)
module _ (a : End) {b : End} (k : Load) (g : ℕ) (z : Cable (line_as a (credit_before g k)) b)
    (left : (8 * k.credits ≤ k.credit) × (k.credit ≤ 64 * k.credits)) where
  pub keep_credit : Cable (line_as a k) (credit_to b (b.credit + g))
  keep_credit =
      let s = z.there in
      let r = z.back in
      let up : b.greeted ≡ 1 = ⊎_elim (λ e. absurd (omega arith)) (λ e. e) r.towards in
      let none : b.load.hellos ≡ 0 = ⊎_elim (λ e. e) (λ e. absurd (omega (arith, e.1))) r.last in
      record {
        there = record {
          flag = s.flag;
          limit = s.limit;
          earned = s.earned;
          few = (omega (arith, s.few.0), s.few.1);
          worth = left;
          behind = s.behind;
          room = s.room;
          count = s.count;
          towards = s.towards;
          last = s.last;
        };
        back = record {
          flag = r.flag;
          limit = (omega (arith, r.room), r.limit.1);
          earned = inr up;
          few = r.few;
          worth = r.worth;
          behind = r.behind;
          room = omega (arith, r.room);
          count = λ e. omega (arith, r.count e);
          towards = inr up;
          last = inl none;
        };
      }

-- A HELLO ARRIVES: its sender is greeted, and the count is 0
module _ (a : End) {b : End} (k : Load) (z : Cable (line_as a (hello_before k)) b) where
  pub keep_hello : Cable (greeted_end (line_as a k)) (issued_to b 0)
  keep_hello =
      let s = z.there in
      let alone : (a.credit ≡ 0) × (b.load.credits ≡ 0) × (k.behind + k.tokens ≡ 0) =
      ⊎_elim (λ e. absurd (omega arith)) (λ e. e) s.last in
      let none : k.hellos ≡ 0 = omega (arith, s.few.1) in
      record {
        there = record {
          flag = omega arith;
          limit = (s.limit.0, omega arith);
          earned = inr refl;
          few = (s.few.0, omega (arith, s.few.1));
          worth = s.worth;
          behind = λ e. omega (arith, alone.2);
          room = s.room;
          count = λ e. omega (arith, alone.0, alone.1, alone.2, z.back.worth.1);
          towards = inr refl;
          last = inl none;
        };
        back = aside z.back (refl, refl, refl) (refl, refl, refl, refl);
      }

-- A GRANT is counted, and goes on the line back: 8 to 64 that the room covers, to a greeted link of which no HELLO is coming
module _ {a b : End} (g : ℕ) (z : Cable a b) (up : a.greeted ≡ 1) (none : a.load.hellos ≡ 0) (due : b.issued < 8) (some : 8 ≤ g)
    (fits : b.held + b.issued + g ≤ capacity) where
  -- none is on its way
  no_credit_lem : b.load.credits ≡ 0
  no_credit_lem = omega (arith, z.there.count none, z.back.worth.0)

  pub keep_grant : Cable a (issued_to (line_as b (credit_before g b.load)) (b.issued + g))
  keep_grant =
      let s = z.there in
      let r = z.back in
      record {
        there = record {
          flag = s.flag;
          limit = (s.limit.0, omega arith);
          earned = s.earned;
          few = s.few;
          worth = s.worth;
          behind = s.behind;
          room = omega (arith, s.count none);
          count = λ e. omega (arith, s.count none);
          towards = inr up;
          last = inl none;
        };
        back = record {
          flag = r.flag;
          limit = r.limit;
          earned = r.earned;
          few = (omega (arith, no_credit_lem), r.few.1);
          worth = (omega (arith, no_credit_lem, r.worth.1), omega (arith, no_credit_lem, r.worth.1));
          behind = r.behind;
          room = r.room;
          count = r.count;
          towards = r.towards;
          last = r.last;
        };
      }

  pub room_grant : things b.load < line_capacity
  room_grant = let r = z.back in omega (arith, no_credit_lem, r.room, r.few.1)

-- A TOKEN IS TAKEN, whatever becomes of it: the ports hold no more than they did
pub keep_taken : {a b : End} (g h : ℕ) → h ≤ b.held → Side a b → Side (held_to a g) (held_to b h)
keep_taken g h less s =
    record {
      flag = s.flag;
      limit = s.limit;
      earned = s.earned;
      few = s.few;
      worth = s.worth;
      behind = s.behind;
      room = omega (arith, s.room);
      count = s.count;
      towards = s.towards;
      last = s.last;
    }

-- HELLO IS SENT, while no credit and no HELLO is on either line: its sender's credit is 0
module _ {a b : End} (z : Cable a b) (clear : (a.load.credits ≡ 0) × (a.load.hellos ≡ 0) × (b.load.credits ≡ 0)) where
  pub keep_hello_sent : Cable (line_as (credit_to a 0) (hello_after a.load)) b
  keep_hello_sent =
      let s = z.there in
      record {
        there = record {
          flag = s.flag;
          limit = (omega arith, s.limit.1);
          earned = inl refl;
          few = (s.few.0, omega (arith, clear.1));
          worth = s.worth;
          behind = λ e. absurd (omega arith);
          room = omega (arith, s.room);
          count = λ e. absurd (omega arith);
          towards = inl clear.2;
          last = inr (refl, clear.2, s.behind clear.1);
        };
        back = aside z.back (refl, refl, refl) (refl, refl, refl, refl);
      }

  pub room_hello : things a.load < line_capacity
  room_hello = omega (arith, z.there.room, clear.0, clear.1)

-- NOTHING IS OWED: two ends as they are joined by a cable, or disabled
pub clean_side : {a b : End} → Clean a → Clean b → Side a b
clean_side {a} {b} p q =
    rw (p.load, q.load) at_rest
  where
    at_rest : Side (line_as a no_load) (line_as b no_load)
    at_rest = record {
      flag = omega (arith, p.greeted);
      limit = (omega (arith, p.credit), omega (arith, q.issued));
      earned = inl p.credit;
      few = (omega arith, omega arith);
      worth = (omega arith, omega arith);
      behind = λ e. refl;
      room = omega (arith, p.credit, q.held);
      count = λ e. omega (arith, p.credit, q.issued);
      towards = inl refl;
      last = inl refl;
    }

pub clean_cable : {a b : End} → Clean a → Clean b → Cable a b
clean_cable p q = record { there = clean_side p q; back = clean_side q p }
