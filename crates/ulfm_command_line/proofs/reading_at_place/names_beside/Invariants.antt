use Rattle.std.proofs.Common.{◌≡◌, map, take}
use Rattle.ulfm_command_line.specs.Stopped.{name_beside}
use Rattle.ulfm_command_line.proofs.reading_at_place.names_beside.Given as goal

abbrev pub invariant-loop-name : goal.invariant-loop-name
invariant-loop-name l = l.moved.items ≡ map (name_beside l.fn.stop l.fn.len) (take l.name-index l.fn.names)
