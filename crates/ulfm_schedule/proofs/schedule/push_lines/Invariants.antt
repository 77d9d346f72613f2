use Rattle.std.proofs.Common.{◌≡◌, ◌++◌, flat_map, string_bytes, take}
use Rattle.ulfm_schedule.specs.Values.{wait_text}
use Rattle.ulfm_schedule.proofs.schedule.push_lines.Given as goal

abbrev pub invariant-loop-wait : goal.invariant-loop-wait
invariant-loop-wait l = string_bytes l.text ≡ string_bytes l.initial.text ++ flat_map (wait_text l.job) (take l.wait-index l.waits)
