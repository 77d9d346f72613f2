use Rattle.std.proofs.Common.{◌≡◌, map, string_bytes, take}
use Rattle.ulfm_outcomes_list.specs.Events.{move_json}
use Rattle.ulfm_outcomes_list.proofs.schedule_json.moves_of.Given as goal

abbrev pub invariant-loop-moved : goal.invariant-loop-moved
invariant-loop-moved l = map string_bytes l.objects.items ≡ map (move_json l.asked.names.items l.asked.job) (take l.moved-index l.moves)
