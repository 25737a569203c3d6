-- There is room for the whole of a reply. Assumes nothing.
use Prim.{tt}
use Prim.Native.Nat.{ℕ, ◌+◌, ◌≤◌}
use mathlib.Core.List.{List, []}
use native.Mathlib.Omega.{arith}
use lib.Dec.{lit≤}
use lib.ListN.{length}
use Rattle.names.specs.Size.{reply_port}
use Rattle.tokens.specs.Header.{words}
use Rattle.tokens.specs.declared.header.Header.{Header}
use Rattle.tokens.specs.declared.header.Header.TheVariants as H
use Rattle.cells.specs.World.{World}
use Rattle.acts.specs.Acts.{pushed_all}
use Rattle.acts.specs.Needs.{Room}
use Rattle.acts.proofs.Pushes.{less, room_all}
use Rattle.settings.proofs.Leaves.{Leaves}
use Rattle.messages.specs.Ended.{said}
use Rattle.messages.specs.Needs.{longest}
use Rattle.messages.specs.declared.reply.Reply.{Reply}
use Rattle.messages.specs.declared.reply.Reply.TheVariants.{Nack, Ack, Value}

-- room for k after so many tokens, of which there are m at most
room_past : (ts : List ℕ) (w : World) (n p m k : ℕ) → length ts ≤ m → Room w n p (m + k) → Room (pushed_all w n p ts) n p k
room_past ts w n p m k h r = room_all ts w n p k (less (m + k) (length ts + k) (omega arith) r)

header_size : (h : Header) → length (words h) ≤ 3
header_size H.Narrow = lit≤ tt
header_size (H.One a) = lit≤ tt
header_size (H.Three a b c) = lit≤ tt

said_size : (x : Reply) → length (said x) ≤ 5
said_size Nack = lit≤ tt
said_size Ack = lit≤ tt
said_size (Value v) = lit≤ tt

module _ (w : World) (n : ℕ) where
  pub after_header : (h : Header) → Room w n reply_port longest → Room (pushed_all w n reply_port (words h)) n reply_port 6
  after_header h r = room_past (words h) w n reply_port 3 6 (header_size h) r

  pub after_said : (x : Reply) → Room w n reply_port 6 → Room (pushed_all w n reply_port (said x)) n reply_port 1
  after_said x r = room_past (said x) w n reply_port 5 1 (said_size x) r

-- .. whatever is written before
pub room_leaves : {w z : World} {n p k : ℕ} (m ls : List ℕ) → Leaves w z → Room (record { net = w.net; memory = m; line_memory = ls }) n p k
    → Room (record { net = z.net; memory = m; line_memory = [] }) n p k
room_leaves m ls v r =
    record {
      node = rw v.nodes r.node;
      port = r.port;
      fair = rw v.ports r.fair;
      room = rw v.ports r.room;
      reaches = r.reaches;
    }
