-- No call changes how many boards there are: what each makes has as many nodes, whatever its arguments. Assumes nothing.
use Prim.Native.Nat.{ℕ}
use mathlib.Core.Path.{◌≡◌, refl, ◌∙◌}
use lib.Dec.{eqb}
use Rattle.laws.specs.Pick.{pick}
use Rattle.laws.proofs.Order.{by_test}
use Rattle.names.specs.Size.{reply_port}
use Rattle.circuits.specs.declared.Hop.TheVariants as Hops
use Rattle.circuits.specs.declared.Peer.TheVariants as Peers
use Rattle.tokens.specs.Word.{closes}
use Rattle.tokens.specs.Header.{header_of, words, is_narrow}
use Rattle.tokens.specs.declared.header.Target.{Target}
use Rattle.tokens.specs.declared.header.Width.{Width}
use Rattle.tokens.specs.declared.header.Width.TheVariants.{One, Three}
use Rattle.cells.specs.View.{Net}
use Rattle.lines.specs.Load.{is_hello, credit_of}
use Rattle.cells.specs.World.{World, far_of, Far, Nowhere, At}
use Rattle.acts.specs.Acts.{width_at, pushed, pushed_all, first_at, hopped, shut, tiled_to, until_closed, handed}
use Rattle.acts.proofs.Doors.{handed_nodes, claimed_nodes}
use Rattle.travel.specs.Travel.{put_on, sends_on, taken_off, first_on, token_in, greets, arrives_at, line_empty, left_by, line_stepped}
use Rattle.travel.proofs.Again.{back_nodes}
use Rattle.settings.specs.Wire.{wired}
use Rattle.settings.specs.Set.{set_made}
use Rattle.settings.specs.declared.Setting.{Setting}
use Rattle.settings.proofs.Leaves.{setting_leaves}
use Rattle.messages.specs.Register.{fields_of, read_of}
use Rattle.messages.specs.Heard.{message_of}
use Rattle.messages.specs.Write.{accepted, written}
use Rattle.messages.specs.Ended.{said, reply_sent, obeyed, ended}
use Rattle.messages.specs.declared.heard.Message.{Message}
use Rattle.messages.specs.declared.heard.Message.TheVariants.{Malformed, Wrong, Read, Write}
use Rattle.messages.specs.declared.reply.Reply.{Reply}
use Rattle.messages.specs.declared.reply.Reply.TheVariants.{Nack, Ack, Value}
use Rattle.messages.proofs.Writes.{write_leaves}
use Rattle.ends.specs.Aim.{aim_made}
use Rattle.ends.specs.Input.{input_made}
use Rattle.ends.specs.Plan.{target_of, output_plan}
use Rattle.ends.specs.Output.{word_of, output_performed, output_made}
use Rattle.ends.proofs.Carried.{all_nodes}
use Rattle.ends.specs.declared.Token.{Token}
use Rattle.ends.specs.declared.aim.Goal.{Goal}
use Rattle.ends.specs.declared.plan.Plan as Outputs
use Rattle.ends.specs.declared.plan.Plan.TheVariants.{Narrow, Full, Opens, Behind, Straight}
use Rattle.plans.specs.Plan.{step_plan}
use Rattle.plans.specs.declared.Plan.{Plan}
use Rattle.plans.specs.declared.Plan.TheVariants.{Idle, Wait, OpenOut, OpenChannel, OpenUnit, Refuse, MoveOut, Hand, Hear, Drop}
use Rattle.moves.specs.Moves.{took, stripped}
use Rattle.moves.proofs.After.{took_nodes}
use Rattle.switch.specs.Step.{step_performed, step_made}

-- CALLS ON THE STATE ALONE
module _ (s : Net) (n : ℕ) where
  pub wire_boards : (l m k : ℕ) → (wired s n l m k).nodes ≡ s.nodes
  wire_boards l m k = refl

  pub aim_boards : (c : ℕ) (g : Goal) (v : ℕ) → (aim_made s n c g v).nodes ≡ s.nodes
  aim_boards c g v = refl

  pub input_boards : (c : ℕ) → (input_made s n c).nodes ≡ s.nodes
  input_boards c = refl

pub set_boards : (w : World) (n : ℕ) (x : Setting) → (set_made w n x).net.nodes ≡ w.net.nodes
set_boards w n x = (setting_leaves w n x).nodes

-- OUTPUT, whatever its plan: tokens are put into a port, or handed over
sent_boards : (w : World) (n c : ℕ) (g : Target) (t : ℕ) (x : Outputs.Plan) → (output_performed w n c g t x).net.nodes ≡ w.net.nodes
unfolding pushed
sent_boards w n c g t Narrow = refl
sent_boards w n c g t Full = refl
sent_boards w n c g t (Opens p) = all_nodes w n p (words (header_of g (width_at w.net n)))
sent_boards w n c g t (Behind p) = refl
sent_boards w n c g t (Straight d) =
    claimed_nodes (handed w.net n d t) n d (until_closed t (Peers.End c)) ∙ handed_nodes w.net n d t

pub output_boards : (w : World) (n c : ℕ) (x : Token) → (output_made w n c x).net.nodes ≡ w.net.nodes
output_boards w n c x = sent_boards w n c _ (word_of x) (output_plan w.net n c (target_of (w.net.ends.aims n c)) (word_of x))

-- A MESSAGE AT ITS END: a write, and a reply in port 12
reply_boards : (w : World) (n : ℕ) (g : Target) (x : Reply) → (reply_sent w n g x).next.net.nodes ≡ w.net.nodes
unfolding pushed
reply_boards w n g x =
    let h = header_of g (width_at w.net n) in
    by_test (is_narrow h)
    (λ e. rw e)
    (λ e. rw e (all_nodes (pushed_all w n reply_port (words h)) n reply_port (said x) ∙ all_nodes w n reply_port (words h)))

obeyed_boards : (w : World) (n : ℕ) (x : Message) → (obeyed w n x).next.net.nodes ≡ w.net.nodes
obeyed_boards w n Malformed = refl
obeyed_boards w n (Wrong g) = reply_boards w n g Nack
obeyed_boards w n (Read g r) = reply_boards w n g (Value (read_of w.net n r))
obeyed_boards w n (Write g r v) =
    let xs = fields_of r v in
    reply_boards (written w n xs) n g (pick (accepted w n xs) Ack Nack) ∙ (write_leaves w n xs).nodes

-- STEP, whatever its plan: a header removed, a token on a line, and the others
stripped_boards : (w : World) (n p : ℕ) (x : Width) → (stripped w n p x).net.nodes ≡ w.net.nodes
stripped_boards w n p One = took_nodes w n p
stripped_boards w n p Three = took_nodes (took (took w n p) n p) n p ∙ took_nodes (took w n p) n p ∙ took_nodes w n p

sent_on_boards : (w : World) (n l x : ℕ) → (sends_on w n l x).net.nodes ≡ w.net.nodes
unfolding put_on
sent_on_boards w n l x = refl

module _ (w : World) (n p : ℕ) where
  carried_boards : (x : Plan) → (step_performed w n p x).next.net.nodes ≡ w.net.nodes
  unfolding ended
  carried_boards Idle = refl
  carried_boards Wait = refl
  carried_boards (OpenOut l) = refl
  carried_boards (OpenChannel c t) =
      stripped_boards _ n p (width_at w.net n)
      ∙ claimed_nodes (tiled_to (hopped w.net n p (Hops.Channel c t)) n t (Peers.Port p)) n c (Peers.Port p)
  carried_boards OpenUnit = stripped_boards _ n p (width_at w.net n)
  carried_boards (Refuse x) = refl
  carried_boards (MoveOut l) =
      sent_on_boards _ n l (first_at w n p) ∙ by_test (closes (first_at w n p)) (λ e. rw e) (λ e. rw e) ∙ took_nodes w n p
  carried_boards (Hand c t) =
      let z = handed (took w n p).net n c (first_at w n p) in
      by_test (closes (first_at w n p))
      (λ e. rw e (claimed_nodes (tiled_to (shut z n p) n t Peers.Nobody) n c Peers.Nobody))
      (λ e. rw e)
      ∙ handed_nodes (took w n p).net n c (first_at w n p)
      ∙ took_nodes w n p
  carried_boards Hear =
      by_test (closes (first_at w n p))
      (λ e. rw e (obeyed_boards _ n (message_of ((took w n p).net.units.hearings n 0) (first_at w n p))))
      (λ e. rw e)
      ∙ took_nodes w n p
  carried_boards (Drop x) = by_test (closes (first_at w n p)) (λ e. rw e) (λ e. rw e) ∙ took_nodes w n p

  pub step_boards : (step_made w n p).next.net.nodes ≡ w.net.nodes
  step_boards = carried_boards (step_plan w n p)

-- A LINE'S STEP, whatever comes off it
arrival_boards : (w : World) (n l m k x : ℕ) → (arrives_at w n l m k x).net.nodes ≡ w.net.nodes
unfolding pushed
arrival_boards w n l m k x =
    by_test (is_hello x)
    (λ e. rw e (back_nodes (greets w n l m k) m k))
    (λ e. rw e (by_test (eqb (credit_of x) 0) (λ d. rw d (back_nodes (token_in w m k x) m k)) (λ d. rw d)))

pub line_boards : (w : World) (n l : ℕ) → (line_stepped w n l).net.nodes ≡ w.net.nodes
unfolding line_stepped taken_off
line_boards w n l = at_far (far_of (w.net.links.cables n l))
  where
    at_far : (f : Far) → (left_by w n l f).net.nodes ≡ w.net.nodes
    at_far Nowhere = refl
    at_far (At m k) =
        by_test (line_empty w n l) (λ e. rw e) (λ e. rw e (arrival_boards (taken_off w n l) n l m.0 k (first_on w n l)))
