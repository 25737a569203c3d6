-- What the steps of an Output come to, from the contracts of the functions that make them. Assumes nothing.
use Prim.{tt}
use Prim.Native.Nat.{ℕ, ◌<◌}
use mathlib.Core.Path.{◌≡◌, refl, ap, ◌∙◌}
use mathlib.Core.List.{List, [], ◌∷◌}
use lib.Dec.{lit≤}
use Rattle.tokens.specs.Header.{header_of, words}
use Rattle.tokens.specs.declared.header.Header.{Header}
use Rattle.tokens.specs.declared.header.Header.TheVariants as H
use Rattle.tokens.specs.declared.header.Target.{Target}
use Rattle.circuits.specs.declared.Peer.{Peer}
use Rattle.circuits.specs.declared.Peer.TheVariants as Peers
use Rattle.cells.specs.View.{Net}
use Rattle.cells.specs.World.{World}
use Rattle.acts.specs.Acts.{with_store, pushed, pushed_all, width_at, networked, until_closed, claimed_by, handed, sends_to}
use Rattle.acts.specs.Needs.{Room}
use Rattle.acts.proofs.Pushes.{less, room_left}
use Rattle.ends.specs.Output.{goes_by, opens_by, goes_behind, goes_straight}

-- a push leaves the number of nodes
pushed_nodes : (w : World) (n p t : ℕ) → (pushed w n p t).net.nodes ≡ w.net.nodes
unfolding pushed
pushed_nodes w n p t = refl

pub all_nodes : (w : World) (n p : ℕ) (ts : List ℕ) → (pushed_all w n p ts).net.nodes ≡ w.net.nodes
all_nodes w n p [] = refl
all_nodes w n p (t ∷ ts) = all_nodes (pushed w n p t) n p ts ∙ pushed_nodes w n p t

-- a header leaves room for the token behind it
pub room_header : (w z : World) (n p : ℕ) (h : Header) → Room w n p 4 → z ≡ pushed_all w n p (words h) → Room z n p 1
room_header w z n p H.Narrow r e = rw e (less 4 1 (lit≤ tt) r)
room_header w z n p (H.One a) r e = rw e (less 3 1 (lit≤ tt) (room_left w n p a 3 r))
room_header w z n p (H.Three a b c) r e =
    rw e (room_left (pushed (pushed w n p a) n p b) n p c 1 (room_left (pushed w n p a) n p b 2 (room_left w n p a 3 r)))

-- what a circuit that goes by a port asks of the state after a push
pub ready_behind : (w : World) (s : Net) (m : List ℕ) (n p t : ℕ) → with_store w s m ≡ pushed w n p t
    → n < w.net.nodes
    → n < s.nodes
ready_behind w s m n p t e h = rw (ap (λ (z : World). z.net.nodes) e ∙ pushed_nodes w n p t) h

pub ready_opened : (w : World) (s : Net) (m : List ℕ) (n p t : ℕ) (ts : List ℕ)
    → with_store w s m ≡ pushed (pushed_all w n p ts) n p t
    → n < w.net.nodes
    → n < s.nodes
ready_opened w s m n p t ts e h =
    rw (ap (λ (z : World). z.net.nodes) e ∙ pushed_nodes (pushed_all w n p ts) n p t ∙ all_nodes w n p ts) h

pub behind_gives : (w : World) (s z : Net) (m : List ℕ) (n c p t : ℕ) → with_store w s m ≡ pushed w n p t
    → z ≡ goes_by s n c p t
    → with_store w z m ≡ goes_behind w n c p t
behind_gives w s z m n c p t e h =
    λ j. record {
      net = (h ∙ ap (λ (y : World). goes_by y.net n c p t) e) j;
      memory = ap (λ (y : World). y.memory) e j;
      line_memory = ap (λ (y : World). y.line_memory) e j;
    }

pub opens_gives : (w : World) (s y z : Net) (m : List ℕ) (n c p t v : ℕ) (g : Target) (h : Header)
    → h ≡ header_of g (width_at w.net n)
    → v ≡ (w.net.ends.aims n c).network
    → with_store w s m ≡ pushed (pushed_all w n p (words h)) n p t
    → y ≡ networked s n p v
    → z ≡ goes_by y n c p t
    → with_store w z m ≡ opens_by w n c g p t
opens_gives w s y z m n c p t v g h a b e d f =
    let q : with_store w s m ≡ pushed (pushed_all w n p (words (header_of g (width_at w.net n)))) n p t =
    e ∙ ap (λ (k : Header). pushed (pushed_all w n p (words k)) n p t) a in
    let v = (w.net.ends.aims n c).network in
    let k : z ≡ goes_by (networked s n p v) n c p t = f ∙ ap (λ (x : Net). goes_by x n c p t) (d ∙ ap (networked s n p) b) in
    λ j. record {
      net = (k ∙ ap (λ (x : World). goes_by (networked x.net n p v) n c p t) q) j;
      memory = ap (λ (x : World). x.memory) q j;
      line_memory = ap (λ (x : World). x.line_memory) q j;
    }

pub straight_gives : (s y z v : Net) (n c d t : ℕ) (a b : Peer)
    → y ≡ handed s n d t
    → a ≡ until_closed t (Peers.End c)
    → z ≡ claimed_by y n d a
    → b ≡ until_closed t (Peers.End d)
    → v ≡ sends_to z n c b
    → v ≡ goes_straight s n c d t
straight_gives s y z v n c d t a b hy ha hz hb hv =
    let q : z ≡ claimed_by (handed s n d t) n d (until_closed t (Peers.End c)) =
    hz ∙ ap (claimed_by y n d) ha ∙ ap (λ (x : Net). claimed_by x n d (until_closed t (Peers.End c))) hy in
    hv ∙ ap (sends_to z n c) hb ∙ ap (λ (x : Net). sends_to x n c (until_closed t (Peers.End d))) q
