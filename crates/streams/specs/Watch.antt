-- A run of calls, and what an observer of it writes down who sees the state before each call, the call and its answer.
use Prim.{Unit}
use Rattle.std.specs.Prelude.{ℕ, ◌≡◌, Bool, true, false, List, [], ◌∷◌}
use Rattle.laws.specs.Pick.{pick}
use Rattle.streams.specs.Model.{Books, no_books, Notes, no_notes, alter, hd}

-- the books; the circuits whose header a switch of the other width has read; the notes of calls and answers
pub record Seen : Type 0 where
  pub books : Books
  pub misread : ℕ → Bool
  pub notes : Notes

-- before any call
abbrev pub unseen : Seen
unseen = record { books = no_books; misread = λ c. false; notes = no_notes }

-- what a call leaves
module _ {S C : Type 0} (apply : S → C → S) where
  abbrev pub run_all : S → List C → S
  run_all s [] = s
  run_all s (c ∷ cs) = run_all (apply s c) cs

  -- the calls after which the network is new
  module _ (anew : S → C → Bool) where
    abbrev pub NoneAnew : S → List C → Type 0
    NoneAnew s [] = Unit
    NoneAnew s (c ∷ cs) = (anew s c ≡ false) × NoneAnew (apply s c) cs

    -- what a call answers, and what the observer writes in the books; the calls by which a switch of the other width reads the whole
    -- header in front of a port, and the port
    module _ {A : Type 0} (answer : S → C → A) (write : Notes → S → C → A → Books → Books) (jot : C → A → Notes → Notes)
        (misreads : S → C → Bool) (port_in : C → ℕ) where
      -- after one more call; where it is anew, all begins again
      abbrev pub sees : S → C → Seen → Seen
      sees s c k =
          let front = (hd (k.books.cells (port_in c))).circuit in
          pick (anew s c) unseen (record {
            books = write k.notes s c (answer s c) k.books;
            misread = pick (misreads s c) (alter k.misread front true) k.misread;
            notes = jot c (answer s c) k.notes;
          })

      abbrev pub seen : S → Seen → List C → Seen
      seen s k [] = k
      seen s k (c ∷ cs) = seen (apply s c) (sees s c k) cs
