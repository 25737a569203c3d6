-- Links E to H enabled one after the other. Assumes nothing.
use Prim.Native.Nat.{ℕ, ◌+◌, ◌*◌, ◌≤◌, ◌<◌}
use mathlib.Core.Path.{◌≡◌, refl, sym, ap, ◌∙◌}
use mathlib.Core.Bool.{Bool, true, false}
use native.Mathlib.Decide.{ℕ_discrete}
use native.Mathlib.Omega.{arith}
use Rattle.laws.specs.All.{Means}
use Rattle.laws.specs.Table.{upd, Off}
use Rattle.laws.proofs.All.{also, at_most, below}
use Rattle.laws.proofs.Order.{clash}
use Rattle.laws.proofs.Table.{upd_hit, upd_miss, upd_own, place}
use Rattle.names.specs.Size.{links}
use Rattle.cells.specs.View.{with_link}
use Rattle.cells.specs.Start.{start_link, start_links, start_net, none_on}
use Rattle.cells.specs.declared.link.Setup.{Setup}
use Rattle.fresh.specs.Fresh.{first_boot_link, leaves_on}
use Rattle.fresh.specs.Needs.{booted_to}
use Rattle.fresh.specs.declared.Start.TheVariants.{Fresh}

-- tests of one meaning are one test
same_test : {P Q : Type 0} (a b : Bool) → Means a P → Means b Q → (P → Q) → (Q → P) → a ≡ b
same_test true true m k h g = refl
same_test true false m k h g = sym (k.back (h (m.sure refl)))
same_test false true m k h g = m.back (g (k.sure refl))
same_test false false m k h g = refl

-- what is enabled: links E to H, of all links in order those before c
abbrev Before : ℕ → ℕ → ℕ → Type 0
Before c m l = ((first_boot_link ≤ l) × (l < links)) × (m * links + l < c)

means : (c m l : ℕ) → Means (booted_to c m l) (Before c m l)
means c m l = also (also (at_most first_boot_link l) (below l links)) (below (m * links + l) c)

same_start : (on on' : ℕ → ℕ → Bool) (n : ℕ) → ((m l : ℕ) → on m l ≡ on' m l) → start_net on n ≡ start_net on' n
same_start on on' n h = λ j. start_net (λ m l. h m l j) n

-- before the first of them none
pub boot_none : (n : ℕ) → start_net none_on n ≡ start_net (booted_to 0) n
boot_none n =
    same_start none_on (booted_to 0) n (λ m l. same_test false (booted_to 0 m l)
    (record { sure = λ e. clash (sym e); back = λ (z : ⊥). absurd z }) (means 0 m l) (λ z. absurd z) (λ z. omega (arith, z.1)))

-- up to link E of a node: all before that node
pub boot_begins : (k n : ℕ) → start_net (booted_to (k * links)) n ≡ start_net (booted_to (k * links + first_boot_link)) n
boot_begins k n =
    same_start (booted_to (k * links)) (booted_to (k * links + first_boot_link)) n
    (λ m l. same_test _ _ (means (k * links) m l) (means (k * links + first_boot_link) m l)
    (λ z. (z.0, omega (arith, z.1)))
    (λ z. (z.0, omega (arith, z.0.0, z.0.1, z.1))))

-- past link H: all of that node too
pub boot_ends : (k n : ℕ) → start_net (booted_to (k * links + links)) n ≡ start_net (booted_to ((k + 1) * links)) n
boot_ends k n = ap (λ (c : ℕ). start_net (booted_to c) n) (omega arith)

-- past the last node: all
pub boot_all : (n : ℕ) → start_net (booted_to (n * links)) n ≡ start_net (leaves_on Fresh n) n
boot_all n =
    same_start (booted_to (n * links)) (leaves_on Fresh n) n
    (λ m l. same_test _ _ (means (n * links) m l) (also (also (at_most first_boot_link l) (below l links)) (below m n))
    (λ z. (z.0, omega (arith, z.0.1, z.1)))
    (λ z. (z.0, omega (arith, z.0.1, z.1))))

-- one link more
module _ (k l n : ℕ) (lo : first_boot_link ≤ l) (hi : l < links) where
  abbrev setups : ℕ → ℕ → ℕ → Setup
  setups c m i = (start_link (booted_to c m i)).setup

  abbrev on : Setup
  on = (start_link true).setup

  here : booted_to (k * links + (l + 1)) k l ≡ true
  here = (means (k * links + (l + 1)) k l).back ((lo, hi), omega arith)

  away : (m i : ℕ) → Off k l m i → booted_to (k * links + l) m i ≡ booted_to (k * links + (l + 1)) m i
  away m i o =
      same_test _ _ (means (k * links + l) m i) (means (k * links + (l + 1)) m i)
      (λ z. (z.0, omega (arith, z.1)))
      (λ z. (z.0, past z.0.1 z.1))
    where
      past : i < links → m * links + i < k * links + (l + 1) → m * links + i < k * links + l
      past h lt =
          elim (ℕ_discrete (m * links + i) (k * links + l)) [
            | yes e ↦ absurd (o (omega arith) (omega arith))
            | no ne ↦ omega arith
          ]

  one_more : (m i : ℕ) → upd (setups (k * links + l)) k l on m i ≡ setups (k * links + (l + 1)) m i
  one_more m i =
      place k l m i
      (λ d e. upd_hit (setups (k * links + l)) k l on m i d e ∙ rw (d, e, here))
      (λ o. upd_miss (setups (k * links + l)) k l on m i o ∙ rw (away m i o))

  -- all else of the link is as it was
  pub boot_next : with_link (start_net (booted_to (k * links + l)) n) k l (start_link true) ≡ start_net (booted_to (k * links + (l + 1))) n
  boot_next =
      let zero = start_links none_on in
      λ j. record {
        nodes = n;
        own = (start_net none_on n).own;
        links = record {
          cables = upd_own zero.cables k l j;
          setups = λ m i. one_more m i j;
          flows = upd_own zero.flows k l j;
          users = upd_own zero.users k l j;
        };
        ports = (start_net none_on n).ports;
        tiles = (start_net none_on n).tiles;
        ends = (start_net none_on n).ends;
        units = (start_net none_on n).units;
        lines = (start_net none_on n).lines;
        rest = (start_net none_on n).rest;
      }
