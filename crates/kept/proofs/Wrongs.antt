-- Four rules, each broken in one fact: after the same calls the act by the broken rule leaves a state that fails the Sound list, and by the
-- rule as it stands a sound one. A hop closed without freeing its link; a claim left behind; a grant without room; a header put behind an
-- unfinished circuit. Every state is computed, from Fresh of two boards. Assumes nothing.
use Prim.{tt}
use Prim.Native.Nat.{ℕ, ◌<◌}
use mathlib.Core.Path.{◌≡◌, refl, sym, ap, ◌∙◌}
use mathlib.Core.Bool.{Bool, true, false}
use lib.Dec.{eqb, ltb}
use borrow.Author.Tests.{ltb-true}
use Rattle.laws.specs.Pick.{pick}
use Rattle.laws.specs.All.{first}
use Rattle.laws.proofs.Order.{clash}
use Rattle.names.specs.Size.{reply_port}
use Rattle.circuits.specs.declared.Peer.TheVariants.{Nobody}
use Rattle.tokens.specs.Word.{closes}
use Rattle.credits.specs.Grant.{grant_of}
use Rattle.lines.specs.Line.{line_capacity}
use Rattle.cells.specs.View.{Net}
use Rattle.cells.specs.World.{World, far_of, Far, At}
use Rattle.clauses.specs.Counts.{tile_port}
use Rattle.clauses.specs.declared.pairs.Role.TheVariants.{LinkPort, ClaimPort}
use Rattle.acts.specs.Acts.{with_net, first_at, shut, tiled_to, handed}
use Rattle.travel.specs.Travel.{taken_off, may_grant, grant_to, grant_due, issues, grants_back, sends_on, greets, line_stepped}
use Rattle.moves.specs.Moves.{took, closes_out, closes_channel, moves_out, hands}
use Rattle.settings.specs.Wire.{wired}
use Rattle.settings.specs.Set.{set_made}
use Rattle.settings.specs.declared.Setting.TheVariants.{Number, Enable, Hello}
use Rattle.fresh.specs.Fresh.{start_of}
use Rattle.fresh.specs.declared.Start.TheVariants.{Fresh}
use Rattle.ends.specs.Aim.{aim_made}
use Rattle.ends.specs.Plan.{target_of, free_port, lowest_free}
use Rattle.ends.specs.Output.{word_of, opens_by, output_made}
use Rattle.ends.specs.declared.Token.{Token}
use Rattle.ends.specs.declared.Token.TheVariants.{Data, Control}
use Rattle.ends.specs.declared.aim.Goal.TheVariants.{Channel}
use Rattle.switch.specs.Step.{step_made}
use Rattle.sound.specs.Tests.{places, holds_at}
use Rattle.sound.specs.Sound.{sound}
use Rattle.sound.specs.declared.tests.Test.{Test}
use Rattle.sound.specs.declared.tests.Test.TheVariants.{Room, Contents, Agrees}
use Rattle.sound.proofs.Sounds.{sound_says}
use Rattle.kept.specs.Kept.{Kept}
use Rattle.kept.proofs.Parts.{kept_sound}
use Rattle.kept.proofs.Arrivals.{keep_line_step}
use Rattle.kept.proofs.Calls.{keep_start, keep_wire, keep_set_made, keep_aimed, keep_output, keep_stepped}
use Rattle.kept.proofs.Computes.{computes}

-- A BROKEN RULE: `act` is an act by any such rule, `made` what the call makes, t a test of the Sound list at place i of node n
pub record Broken {R : Type 0} (act : R → World) (made : World) (right wrong : R) (t : Test) (n i : ℕ) : Type 0 where
  -- by the rule as it stands the act is what the call makes, which is sound
  pub same : act right ≡ made
  pub is_sound : sound (act right) ≡ true
  pub passes : holds_at t (act right) n i ≡ true
  -- by the broken rule that test fails, so that the state is not sound
  pub fails : holds_at t (act wrong) n i ≡ false
  pub unsound : sound (act wrong) ≡ true → ⊥

broken : {R : Type 0} {act : R → World} {made : World} {right wrong : R} {t : Test} {n i : ℕ}
    → act right ≡ made
    → Kept made
    → n < (act wrong).net.nodes
    → i < places t
    → holds_at t (act right) n i ≡ true
    → holds_at t (act wrong) n i ≡ false
    → Broken act made right wrong t n i
broken {act = act} {made = made} {wrong = wrong} {t = t} {n = n} {i = i} e k hn hi p f =
    record {
      same = e;
      is_sound = ap sound e ∙ (kept_sound made k).0;
      passes = p;
      fails = f;
      unsound = λ s. clash (sym (sound_says (act wrong) s t n i hn hi) ∙ f);
    }

-- THE RUN: boards 0 and 1, joined by link 0 of each and greeted from board 0, whose channel-end 0 is aimed at channel 5 of board 1

abbrev aimed_to : World → ℕ → ℕ → World
aimed_to w c d = with_net w (aim_made w.net 0 c (Channel 1 d) 0)

abbrev stepped : World → ℕ → ℕ → World
stepped w n p = (step_made w n p).next

-- a step of the line that starts at link 0 of board n
abbrev came : World → ℕ → World
came w n = line_stepped w n 0

came_kept : (w : World) → Kept w → (n : ℕ) → n < w.net.nodes → Kept (came w n)
came_kept w k n hn = keep_line_step w k n 0 hn (ltb-true 0 8 refl)

abbrev joined : World
joined = with_net (start_of Fresh 2) (wired (start_of Fresh 2).net 0 0 1 0)

abbrev enabled : World
enabled = set_made (set_made joined 0 (Enable 0 1)) 1 (Enable 0 1)

-- HELLO arrives at board 1, and what that grants at board 0
abbrev helloed : World
helloed = set_made enabled 0 (Hello 0)

abbrev greeted : World
greeted = set_made (came (came helloed 0) 1) 1 (Number 1)

abbrev aimed : World
aimed = aimed_to greeted 0 5

aimed_kept : Kept aimed
unfolding computes
aimed_kept =
    let fresh = keep_start (start_of Fresh 2) Fresh 2 (refl, (refl, tt)) in
    let wire = keep_wire (start_of Fresh 2) fresh 0 0 1 0 (refl, (refl, (refl, tt))) in
    let near = keep_set_made joined wire 0 (Enable 0 1) (refl, (refl, (refl, tt))) in
    let far = keep_set_made (set_made joined 0 (Enable 0 1)) near 1 (Enable 0 1) (refl, (refl, (refl, tt))) in
    let hello = keep_set_made enabled far 0 (Hello 0) (refl, (refl, (refl, tt))) in
    let heard = came_kept helloed hello 0 (ltb-true 0 2 refl) in
    let credit = came_kept (came helloed 0) heard 1 (ltb-true 1 2 refl) in
    let number = keep_set_made (came (came helloed 0) 1) credit 1 (Number 1) (refl, (refl, (refl, tt))) in
    keep_aimed greeted number 0 0 (Channel 1 5) 0 (refl, (refl, (refl, tt)))

-- END alone is sent: port 8 opens link 0, and its header goes on the line
abbrev sent : World
sent = output_made aimed 0 0 (Control 1)

abbrev opened : World
opened = stepped sent 0 8

abbrev ending : World
ending = stepped (stepped (stepped opened 0 8) 0 8) 0 8

ending_kept : Kept ending
unfolding computes
ending_kept =
    let output = keep_output aimed aimed_kept 0 0 (Control 1) (refl, (refl, (refl, (refl, (refl, (refl, tt)))))) in
    let opens = keep_stepped sent output 0 8 (refl, tt) in
    let high = keep_stepped opened opens 0 8 (refl, tt) in
    let low = keep_stepped (stepped opened 0 8) high 0 8 (refl, tt) in
    keep_stepped (stepped (stepped opened 0 8) 0 8) low 0 8 (refl, tt)

-- .. and then END, and all four come to board 1, where port 0 opens channel 5, by tile link 0
abbrev ended : World
ended = stepped ending 0 8

abbrev arrived : World
arrived = came (came (came (came ended 0) 0) 0) 0

abbrev landed : World
landed = stepped arrived 1 0

ended_kept : Kept ended
unfolding computes
ended_kept = keep_stepped ending ending_kept 0 8 (refl, tt)

arrived_kept : Kept arrived
unfolding computes
arrived_kept =
    let high = came_kept ended ended_kept 0 (ltb-true 0 2 refl) in
    let low = came_kept (came ended 0) high 0 (ltb-true 0 2 refl) in
    let channel = came_kept (came (came ended 0) 0) low 0 (ltb-true 0 2 refl) in
    came_kept (came (came (came ended 0) 0) 0) channel 0 (ltb-true 0 2 refl)

landed_kept : Kept landed
unfolding computes
landed_kept = keep_stepped arrived arrived_kept 1 0 (refl, tt)

-- or a token is sent that is no END, and channel-end 1 is aimed too
abbrev begun : World
begun = output_made aimed 0 0 (Data 7)

abbrev ready : World
ready = aimed_to begun 1 6

ready_kept : Kept ready
unfolding computes
ready_kept =
    let output = keep_output aimed aimed_kept 0 0 (Data 7) (refl, (refl, (refl, (refl, (refl, (refl, tt)))))) in
    keep_aimed begun output 0 1 (Channel 1 6) 0 (refl, (refl, (refl, tt)))

-- A LINK: "END and PAUSE close the hop": what it held is free
abbrev pub moves_out_by : (Net → ℕ → ℕ → ℕ → ℕ → Net) → World → ℕ → ℕ → ℕ → World
moves_out_by close w n p l = sends_on (with_net (took w n p) (close (took w n p).net n p l (first_at w n p))) n l (first_at w n p)

pub moves_right : (w : World) (n p l : ℕ) → moves_out_by closes_out w n p l ≡ moves_out w n p l
moves_right w n p l = refl

-- wrong: the link still has its user
abbrev pub keeps_link : Net → ℕ → ℕ → ℕ → ℕ → Net
keeps_link s n p l x = pick (closes x) (shut s n p) s

pub link_freed : Broken (λ close. moves_out_by close ending 0 8 0) (stepped ending 0 8) closes_out keeps_link (Agrees LinkPort) 0 0
unfolding computes
link_freed = broken refl ended_kept (ltb-true 0 2 refl) (ltb-true 0 8 refl) refl refl

-- A CLAIM
abbrev pub hands_by : (Net → ℕ → ℕ → ℕ → ℕ → ℕ → Net) → World → ℕ → ℕ → ℕ → ℕ → World
hands_by close w n p c t = with_net (took w n p) (close (handed (took w n p).net n c (first_at w n p)) n p c t (first_at w n p))

pub hands_right : (w : World) (n p c t : ℕ) → hands_by closes_channel w n p c t ≡ hands w n p c t
hands_right w n p c t = refl

-- wrong: the channel-end is still claimed
abbrev pub keeps_claim : Net → ℕ → ℕ → ℕ → ℕ → ℕ → Net
keeps_claim s n p c t x = pick (closes x) (tiled_to (shut s n p) n t Nobody) s

pub claim_freed : Broken (λ close. hands_by close landed 1 0 5 0) (stepped landed 1 0) closes_channel keeps_claim (Agrees ClaimPort) 1 5
unfolding computes
claim_freed = broken refl (keep_stepped landed landed_kept 1 0 (refl, tt)) (ltb-true 1 2 refl) (ltb-true 5 32 refl) refl refl

-- A GRANT: "the largest of 64, 16, 8 that room covers, else none", as a HELLO that arrives at link k of node m from link l of node n has it
abbrev pub due_by : (ℕ → ℕ → ℕ) → World → ℕ → ℕ → ℕ → ℕ → ℕ
due_by grant w n l m k =
    pick (may_grant w n l)
    (pick (ltb (w.net.lines.rings m k).held line_capacity) (grant (w.net.lines.issued m k) (w.net.ports.counters m k).held) 0) 0

abbrev pub grants_by : (ℕ → ℕ → ℕ) → World → ℕ → ℕ → ℕ → ℕ → World
grants_by grant w n l m k = let g = due_by grant w n l m k in pick (eqb g 0) w (issues w m k g)

abbrev pub hello_by : (ℕ → ℕ → ℕ) → World → ℕ → ℕ → ℕ → ℕ → World
hello_by grant w n l m k = grants_by grant (greets (taken_off w n l) n l m k) n l m k

pub grant_right : (w : World) (n l m k : ℕ) → far_of (w.net.links.cables m k) ≡ At (record { 0 = n }) l
    → grants_by grant_of w n l m k ≡ grants_back w m k
unfolding grants_back grant_due
grant_right w n l m k e = ap (λ (f : Far). let g = grant_to w m k f in pick (eqb g 0) w (issues w m k g)) (sym e)

-- wrong: 64, whatever room there is
abbrev pub grants_all : ℕ → ℕ → ℕ
grants_all issued held = pick (ltb issued 8) 64 0

-- board 0 says HELLO again, while port 0 of board 1 holds four tokens
abbrev again : World
again = set_made arrived 0 (Hello 0)

pub room_covers : Broken (λ grant. hello_by grant again 0 0 1 0) (came again 0) grant_of grants_all Room 0 0
unfolding computes
room_covers =
    let hello = keep_set_made arrived arrived_kept 0 (Hello 0) (refl, (refl, (refl, tt))) in
    broken refl (came_kept again hello 0 (ltb-true 0 2 refl)) (ltb-true 0 2 refl) (ltb-true 0 8 refl) refl refl

-- A PORT: "the lowest free port 8..11 is taken and receives header and token"
abbrev pub opens_at : (Net → ℕ → ℕ → Bool) → World → ℕ → ℕ → Token → World
opens_at free w n c x = opens_by w n c (target_of (w.net.ends.aims n c)) (first reply_port (free w.net n)) (word_of x)

pub opens_right : (w : World) (n c : ℕ) (x : Token)
    → opens_at free_port w n c x ≡ opens_by w n c (target_of (w.net.ends.aims n c)) (lowest_free w.net n) (word_of x)
opens_right w n c x = refl

-- wrong: the lowest, free or not
abbrev pub any_port : Net → ℕ → ℕ → Bool
any_port s n p = tile_port p

pub port_free : Broken (λ free. opens_at free ready 0 1 (Data 9)) (output_made ready 0 1 (Data 9)) free_port any_port Contents 0 8
unfolding computes
port_free =
    broken refl (keep_output ready ready_kept 0 1 (Data 9) (refl, (refl, (refl, (refl, (refl, (refl, tt)))))))
    (ltb-true 0 2 refl) (ltb-true 8 13 refl) refl refl
