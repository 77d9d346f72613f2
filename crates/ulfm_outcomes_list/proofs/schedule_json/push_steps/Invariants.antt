use Rattle.std.proofs.Common.{◌≡◌, ◌++◌, drop, map, string_bytes}
use Rattle.ulfm_outcomes_list.specs.ScheduleJson.{step_objects}
use Rattle.ulfm_outcomes_list.proofs.schedule_json.push_steps.Given as goal

abbrev pub invariant-loop-k : goal.invariant-loop-k
invariant-loop-k l = map string_bytes l.objects.items ++ step_objects l.asked.names.items l.asked.job l.r l.k (drop l.k l.steps) ≡ map string_bytes l.initial.objects.items ++ step_objects l.asked.names.items l.asked.job l.r 0 l.steps
