use Rattle.std.proofs.Common.{◌≡◌, ◌+◌, ◌++◌, box_value, length, map, take, Some}
use Rattle.std.specs.Vec.Iter.{into_iter_items, into_iter_len}
use Rattle.ulfm_c.proofs.worlds.fill.Given as goal
use Rattle.ulfm_c.specs.Worlds.{process_in}

abbrev pub invariant-loop-process : goal.invariant-loop-process
invariant-loop-process l = record {
  within : l.place + into_iter_len l.process-iterator ≡ length l.handles;
  placed : map process_in (take l.place l.handles) ++ map Some (map box_value (into_iter_items l.process-iterator)) ≡ map Some (map box_value l.fn.boxes.items);
}
