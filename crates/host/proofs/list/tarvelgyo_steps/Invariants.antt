-- `host::list::tarvelgyo_steps`: at each turn the records before place i are done, and the rest, made from here, gives what the whole list
-- gives. Assumes nothing.
use Rattle.std.proofs.Common.{◌≡◌, drop}
use Rattle.cells.specs.World.{lent}
use Rattle.shift.specs.Lists.{left}
use Rattle.shift.specs.Needs.{Sure}
use Rattle.shift.proofs.Fold.{steps_from}
use Rattle.host.proofs.list.tarvelgyo_steps.Given as goal

abbrev pub invariant-loop-i : goal.invariant-loop-i
invariant-loop-i l =
    record {
      known : Sure l.sure (lent l.st l.mem l.ls);
      so_far : steps_from (left (lent l.st l.mem l.ls) l.results) l.i (drop l.i l.list)
          ≡ steps_from (left (lent l.fn.st l.fn.mem l.fn.ls) l.fn.results) 0 l.list;
    }
