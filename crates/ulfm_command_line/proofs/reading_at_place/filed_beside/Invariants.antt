use Rattle.std.proofs.Common.{◌≡◌, map, take}
use Rattle.ulfm_command_line.specs.Stopped.{filed_beside}
use Rattle.ulfm_command_line.proofs.reading_at_place.filed_beside.Given as goal

abbrev pub invariant-loop-one : goal.invariant-loop-one
invariant-loop-one l = l.moved.items ≡ map (filed_beside l.fn.stop l.fn.len) (take l.one-index l.fn.filed)
