-- "Compare the header's number with the node's own: sixteen bits at three-byte width, the low three at one-byte width. Take the
-- highest differing bit, 15..0; none means this node." (document 01, "Routing")
use Rattle.std.specs.Prelude.{ℕ, zero, suc, ◌/◌, ◌%◌, ◌^◌, eqb, Option, Some, None}
use Rattle.laws.specs.Pick.{pick}
use Rattle.names.specs.declared.NodeNumber.{NodeNumber}
use Rattle.tokens.specs.Header.{compared_bits}
use Rattle.tokens.specs.declared.header.Width.{Width}

-- another node, and by which bit, or this node
abbrev pub Way : Type 0
Way = Option ℕ

pattern abbrev pub ThisNode : Way
ThisNode = None

pattern abbrev pub OtherNode : ℕ → Way
OtherNode k = Some k

-- bit k of a number
abbrev pub bit : ℕ → ℕ → ℕ
bit k x = x / 2 ^ k % 2

-- the highest of the low k bits in which a and b differ
unfoldable pub highest : ℕ → ℕ → ℕ → Way
highest zero a b = ThisNode
highest (suc k) a b = pick (eqb (bit k a) (bit k b)) (highest k a b) (OtherNode k)

-- where a number leads at a switch of number own and that width
abbrev pub way_to : Width → NodeNumber → NodeNumber → Way
way_to w number own = highest (compared_bits w) number.0 own.0
