-- Wire keeps all that is kept: both ends were unwired, so neither owes anything, nothing has gone out by them, and what their ports hold
-- ends with a circuit's end. Assumes nothing.
use Prim.Native.Nat.{ℕ, ◌<◌}
use mathlib.Core.Path.{◌≡◌, refl, sym, ap, ◌∙◌}
use mathlib.Core.List.{[]}
use mathlib.Core.Logic.{inl, ⊎_elim}
use native.Mathlib.Omega.{arith}
use lib.Dec.{ltb}
use borrow.Author.Tests.{ne_eqb}
use Rattle.laws.specs.Pick.{pick}
use Rattle.laws.specs.Table.{upd, Off}
use Rattle.laws.proofs.Table.{upd_same, upd_hit, upd_miss, place}
use Rattle.laws.proofs.Order.{never}
use Rattle.names.specs.Size.{links}
use Rattle.names.specs.declared.Slot.{Slot}
use Rattle.circuits.specs.Circuit.{peer_of}
use Rattle.lines.specs.Load.{tokens_of}
use Rattle.lines.proofs.Ends.{things}
use Rattle.grammar.specs.declared.stage.Stage.TheVariants.{Fresh}
use Rattle.cells.specs.World.{World, shaped, far_of, line_from, Nowhere, At}
use Rattle.cells.specs.declared.link.Cable.{Cable}
use Rattle.cells.proofs.Fars.{same_far}
use Rattle.acts.specs.Acts.{with_net}
use Rattle.line_clauses.specs.Lines.{coming_from}
use Rattle.travel.proofs.Loads.{line_none, load_held}
use Rattle.travel.proofs.Owes.{joined_in_order}
use Rattle.settings.specs.Wire.{cable_to, wired}
use Rattle.kept.specs.Kept.{Cabled, Greeted, front_at, reached_at, carried, Kept}
use Rattle.kept.proofs.Comings.{coming_loose, coming_along}
use Rattle.kept.proofs.Grants.{kept_credited, line_there}
use Rattle.kept.proofs.Links.{resettled}

abbrev slot_of : ℕ → Slot
slot_of n = record { 0 = n }

-- a cable at a place after the two ends are joined: one of them, or as it was
data End (c : ℕ → ℕ → Cable) (n l m k a j : ℕ) (x : Cable) : Type 0 where
  one : a ≡ n → j ≡ l → x ≡ cable_to m k → End c n l m k a j x
  other : a ≡ m → j ≡ k → x ≡ cable_to n l → End c n l m k a j x
  elsewhere : Off n l a j → Off m k a j → x ≡ c a j → End c n l m k a j x

end : (c : ℕ → ℕ → Cable) (n l m k a j : ℕ) → End c n l m k a j (upd (upd c n l (cable_to m k)) m k (cable_to n l) a j)
end c n l m k a j =
    let first = upd c n l (cable_to m k) in
    place m k a j
    (λ ea ej. other ea ej (upd_hit first m k (cable_to n l) a j ea ej))
    (λ o. place n l a j
    (λ ea ej. one ea ej (upd_miss first m k (cable_to n l) a j o ∙ upd_hit c n l (cable_to m k) a j ea ej))
    (λ o'. elsewhere o' o (upd_miss first m k (cable_to n l) a j o ∙ upd_miss c n l (cable_to m k) a j o')))

-- an end that leads nowhere
pub record Loose (w : World) (n l : ℕ) : Type 0 where
  pub node : n < w.net.nodes
  pub link : l < links
  pub unwired : (w.net.links.cables n l).wired ≡ 1 → ⊥

module _ (w : World) (k : Kept w) (n l : ℕ) (z : Loose w n l) where
  pub nowhere : far_of (w.net.links.cables n l) ≡ Nowhere
  nowhere = rw (ne_eqb (w.net.links.cables n l).wired 1 z.unwired)

  not_greeted : (w.net.links.flows n l).greeted ≡ 1 → ⊥
  not_greeted g =
      let far = (k.greeted n l z.node z.link g).1 in
      never (let e : Nowhere ≡ At far.slot far.link = sym nowhere ∙ far.leads in cc)

  -- nothing is on its line
  pub unlined : (w.net.lines.rings n l).held ≡ 0
  unlined =
      load_held w n l (line_there w (kept_credited w k) n l z.node z.link)
      ∙ ap things (k.accounts.alone n l z.node z.link nowhere).load

  no_tokens : tokens_of (line_from w n l) ≡ []
  no_tokens = ap tokens_of (line_none w n l unlined)

  unsent : carried (peer_of (w.net.links.users n l)) (front_at w n) ≡ Fresh
  unsent = ⊎_elim (λ e. absurd (z.unwired e)) (λ e. e) (k.carries.unsent n l z.node z.link)

  ended : reached_at w n l ≡ Fresh
  ended = ⊎_elim (λ e. absurd (z.unwired e)) (λ e. e) (k.backs.unfed n l z.node z.link)

pub keep_wired : (w : World) → Kept w → (n l m k : ℕ) → Loose w n l → Loose w m k → Off n l m k → Kept (with_net w (wired w.net n l m k))
unfolding shaped
keep_wired w iv n l m k zn zm off =
    let t = w.net.links in
    let c = t.cables in
    let c' = upd (upd c n l (cable_to m k)) m k (cable_to n l) in
    let at = end c n l m k in
    let at-m : far_of (c' m k) ≡ At (slot_of n) l = ap far_of (upd_same (upd c n l (cable_to m k)) m k (cable_to n l)) in
    let at_n : far_of (c' n l) ≡ At (slot_of m) k =
    ap far_of (upd_miss (upd c n l (cable_to m k)) m k (cable_to n l) n l (λ a b. off (sym a) (sym b)) ∙ upd_same c n l (cable_to m k)) in
    let same : (a j : ℕ) (x : Cable) (q : Slot) (i : ℕ) (b d : ℕ) → x ≡ cable_to b d → far_of x ≡ At q i → (q.0 ≡ b) × (i ≡ d) =
    λ a j x q i b d e f.
    let g : At (slot_of b) d ≡ At q i = sym (ap far_of e) ∙ f in
    let slot : slot_of b ≡ q = (same_far g).0 in
    let link : d ≡ i = (same_far g).1 in
    (sym (ap (λ (y : Slot). y.0) slot), sym link) in
    let v = with_net w (wired w.net n l m k) in
    let linked : Cabled w.net.nodes c' = record {
      flags = λ a j ha hj. elim (at a j) [
        | one ea ej d ↦ rw d (omega arith)
        | other ea ej d ↦ rw d (omega arith)
        | elsewhere o o' d ↦ rw d (iv.cabled.flags a j ha hj)
      ];
      agree = λ a j ha hj q i e. elim (at a j) [
        | one ea ej d ↦ let (eq, ei) = same a j (c' a j) q i m k d e in
            record {
              node = rw eq zm.node;
              link = rw ei zm.link;
              other = λ y. off (sym eq ∙ y.0 ∙ ea) (sym ei ∙ y.1 ∙ ej);
              back = rw (eq, ei, ea, ej) at-m;
            }
        | other ea ej d ↦ let (eq, ei) = same a j (c' a j) q i n l d e in
            record {
              node = rw eq zn.node;
              link = rw ei zn.link;
              other = λ y. off (sym ea ∙ sym y.0 ∙ eq) (sym ej ∙ sym y.1 ∙ ei);
              back = rw (eq, ei, ea, ej) at_n;
            }
        | elsewhere o o' d ↦
            let joined = iv.cabled.agree a j ha hj q i (sym (ap far_of d) ∙ e) in
            let here = slot_of a in
            record {
              node = joined.node;
              link = joined.link;
              other = joined.other;
              back =
                  ap far_of
                  (upd_miss (upd c n l (cable_to m k)) m k (cable_to n l) q.0 i
                  (λ ex ey. never (let y : Nowhere ≡ At here j = sym (nowhere w iv m k zm) ∙ (rw (ex, ey) at joined.back) in cc))
                  ∙ upd_miss c n l (cable_to m k) q.0 i
                  (λ ex ey. never (let y : Nowhere ≡ At here j = sym (nowhere w iv n l zn) ∙ (rw (ex, ey) at joined.back) in cc)))
                  ∙ joined.back;
            }
      ];
    } in
    let greets : Greeted w.net.nodes c' t.setups t.flows = λ a j ha hj g.
    let y = iv.greeted a j ha hj g in (
      y.0,
      elim (at a j) [
        | one ea ej d ↦ absurd (not_greeted w iv n l zn (rw (ea, ej) at g))
        | other ea ej d ↦ absurd (not_greeted w iv m k zm (rw (ea, ej) at g))
        | elsewhere o o' d ↦ rw d y.1
      ],
    ) in
    resettled w w.net.own c' t.setups t.flows w.net.lines w.line_memory iv
    (record {
      nodes = iv.nodes;
      setups = iv.setups;
      credited = record {
        shape = iv.shape;
        cabled = linked;
        greeted = greets;
        accounts = joined_in_order w iv.accounts n l m k (cable_to m k) (cable_to n l) zn.node zn.link zm.node zm.link
            (nowhere w iv n l zn) (nowhere w iv m k zm) off refl refl;
        lines = iv.lines;
        between = λ a j ha hj. elim (at a j) [
          | one ea ej d ↦ inl (rw (ea, ej) (unlined w iv n l zn))
          | other ea ej d ↦ inl (rw (ea, ej) (unlined w iv m k zm))
          | elsewhere o o' d ↦ rw d (iv.between a j ha hj)
        ];
      };
      coming = λ a j ha hj. elim (at a j) [
        | one ea ej d ↦ rw (ea, ej)
            (coming_along v n l zn.link (slot_of m) k at_n ∙ no_tokens w iv m k zm ∙ sym (coming_loose w n l (nowhere w iv n l zn)))
        | other ea ej d ↦ rw (ea, ej)
            (coming_along v m k zm.link (slot_of n) l at-m ∙ no_tokens w iv n l zn ∙ sym (coming_loose w m k (nowhere w iv m k zm)))
        | elsewhere o o' d ↦ ap (λ (x : Cable). pick (ltb j links) (coming_from (λ b i. line_from w b i) (far_of x)) []) d
      ];
      unfed = λ a j ha hj. elim (at a j) [
        | one ea ej d ↦ inl (rw d)
        | other ea ej d ↦ inl (rw d)
        | elsewhere o o' d ↦ rw d (iv.backs.unfed a j ha hj)
      ];
      idle = iv.idle;
      carries = record {
        fed = λ a j ha hj q i e. elim (at a j) [
          | one ea ej d ↦ let (eq, ei) = same a j (c' a j) q i m k d e in
              rw (ea, ej, eq, ei, unsent w iv n l zn) (ended w iv m k zm)
          | other ea ej d ↦ let (eq, ei) = same a j (c' a j) q i n l d e in
              rw (ea, ej, eq, ei, unsent w iv m k zm) (ended w iv n l zn)
          | elsewhere o o' d ↦ iv.carries.fed a j ha hj q i (sym (ap far_of d) ∙ e)
        ];
        unsent = λ a j ha hj. elim (at a j) [
          | one ea ej d ↦ inl (rw d)
          | other ea ej d ↦ inl (rw d)
          | elsewhere o o' d ↦ rw d (iv.carries.unsent a j ha hj)
        ];
      };
    })
