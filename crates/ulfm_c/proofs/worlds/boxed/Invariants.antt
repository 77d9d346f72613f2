use Rattle.std.proofs.Common.{◌≡◌, ◌++◌, box_value, map}
use Rattle.std.specs.Vec.Iter.{into_iter_items}
use Rattle.ulfm_c.proofs.worlds.boxed.Given as goal

abbrev pub invariant-loop-process : goal.invariant-loop-process
invariant-loop-process l = map box_value l.boxes.items ++ into_iter_items l.process-iterator ≡ l.fn.processes.items
