-- `host::list::tarvelgyo_steps` meets its contract: a turn makes one record's Step, and when none is left the whole list is made. What a
-- turn has is the `At` of shift's `Fold.antt`. Assumes nothing.
use Rattle.std.proofs.Common.{sym, ◌∙◌, arith}
use Rattle.cells.specs.World.{lent}
use Rattle.shift.specs.Lists.{left}
use Rattle.shift.proofs.Fold.{At, one_turn, done_all, refused}
use Rattle.host.proofs.list.tarvelgyo_steps.Goals as goal

pub returns-then-results-list : goal.returns-then-results-list
returns-then-results-list c =
    let a = c.args in
    rw c.answer_number.ensures (refused a.list.now a.st.now a.mem.now a.ls.now a.results.now c.if-results-list.true)

pub loop-i-preserved : goal.loop-i-preserved
loop-i-preserved c =
    let a = c.args in
    let l = c.loop-i in
    let made = c.step_into-sure.ensures in
    record {
      known = made.0;
      so_far =
          rw made.1
          (sym (one_turn a.list.now a.st.now a.mem.now a.ls.now a.results.now (left (lent l.st l.mem l.ls) l.results) l.i (omega arith))
          ∙ l.invariant.so_far);
    }

pub returns : goal.returns
returns c =
    let a = c.args in
    let l = c.loop-i in
    let t : At a.list.now a.st.now a.mem.now a.ls.now a.results.now =
    record {
      i = l.i;
      sure = l.sure;
      st = l.st;
      mem = l.mem;
      ls = l.ls;
      results = l.results;
      within = omega arith;
      known = l.invariant.known;
      so_far = l.invariant.so_far;
      st_len = omega arith;
      mem_len = omega arith;
      ls_len = omega arith;
      results_len = omega arith;
    } in
    rw c.answer_number-2.ensures (done_all a.list.now a.st.now a.mem.now a.ls.now a.results.now t (omega arith) (omega arith))
