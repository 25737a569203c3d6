-- How far the links of a start are enabled while that goes on, node by node and link by link. No contract that leaves the crate names it.
use Rattle.std.specs.Prelude.{ℕ, ◌+◌, ◌*◌, Bool, ◌&&◌, ltb}
use Rattle.names.specs.Size.{links}
use Rattle.fresh.specs.Fresh.{boot_link}

-- links E to H, of all links in order the first c
abbrev pub booted_to : ℕ → ℕ → ℕ → Bool
booted_to c m l = boot_link l && ltb (m * links + l) c
