use Rattle.std.proofs.Common.{◌≡◌, ◌++◌, map, string_bytes, take}
use Rattle.ulfm_outcomes_list.specs.Waits.{wait_json}
use Rattle.ulfm_outcomes_list.proofs.schedule_json.push_waits.Given as goal

abbrev pub invariant-loop-wait : goal.invariant-loop-wait
invariant-loop-wait l = map string_bytes l.objects.items ≡ map string_bytes l.initial.objects.items ++ map (wait_json l.asked.names.items l.asked.job) (take l.wait-index l.waits)
