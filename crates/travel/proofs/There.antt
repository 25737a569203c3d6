-- A line that could be read still can where neither the nodes nor the counters of lines are touched, and where one thing is put on a line
-- that has room; a link that may grant still may where cables, counts and lines are not touched. Assumes nothing.
use Prim.Native.Nat.{ℕ, ◌+◌, ◌%◌, ◌<◌}
use mathlib.Core.Path.{◌≡◌, sym, subst}
use native.Mathlib.Omega.{arith}
use lib.ListN.{length-set}
use Rattle.laws.proofs.Table.{upd_all}
use Rattle.ports.specs.Ring.{put_counters}
use Rattle.lines.specs.Line.{line_capacity, LineFair, line_place}
use Rattle.cells.specs.View.{Net}
use Rattle.cells.specs.World.{World, far_of, Far, Nowhere, At}
use Rattle.cells.specs.declared.link.Cable.{Cable}
use Rattle.acts.specs.Acts.{with_net}
use Rattle.travel.specs.Travel.{put_on}
use Rattle.travel.specs.Needs.{LineThere, FarLine, Grants}

pub there_net : {w : World} {s : Net} {n l : ℕ} → s.nodes ≡ w.net.nodes → s.lines.rings ≡ w.net.lines.rings
    → LineThere w n l
    → LineThere (with_net w s) n l
there_net d e z = record { node = rw d z.node; link = z.link; fair = rw e z.fair; reaches = z.reaches }

pub there_put : (w : World) (n l x : ℕ) → LineThere w n l → (w.net.lines.rings n l).held < line_capacity → (a j : ℕ) → LineThere w a j
    → LineThere (put_on w n l x) a j
unfolding put_on
there_put w n l x z room a j y =
    let c = w.net.lines.rings n l in
    record {
      node = y.node;
      link = y.link;
      fair = upd_all (λ b i k. LineFair k) w.net.lines.rings n l (put_counters c) a j
          (λ d e. record { head_in = z.fair.head_in; held_in = omega arith }) (λ o. y.fair);
      reaches = rw (length-set w.line_memory (line_place n l + (c.head + c.held) % line_capacity) x) y.reaches;
    }

-- .. of any world that has the same lines
module _ {w z : World} (d : z.net.nodes ≡ w.net.nodes) (e : z.net.lines ≡ w.net.lines) (g : z.line_memory ≡ w.line_memory) where
  pub there_kept : {n l : ℕ} → LineThere w n l → LineThere z n l
  there_kept y = record { node = rw d y.node; link = y.link; fair = rw e y.fair; reaches = rw g y.reaches }

  pub grants_kept : {m k : ℕ} → z.net.links.cables m k ≡ w.net.links.cables m k → Grants w m k → Grants z m k
  grants_kept {m} {k} c y =
      record {
        here = there_kept y.here;
        far = subst (λ (x : Cable). FarLine z (far_of x)) (sym c) (far_kept (far_of (w.net.links.cables m k)) y.far);
        fits = rw e y.fits;
      }
    where
      far_kept : (f : Far) → FarLine w f → FarLine z f
      far_kept Nowhere h = tt
      far_kept (At n l) h = there_kept h
