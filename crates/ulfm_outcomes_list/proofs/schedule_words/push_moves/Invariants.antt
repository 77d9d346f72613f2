use Rattle.std.proofs.Common.{◌≡◌, ◌++◌, string_bytes, take}
use Rattle.std.specs.List.{flat_map}
use Rattle.ulfm_outcomes_list.specs.ScheduleWords.{move_in}
use Rattle.ulfm_outcomes_list.proofs.schedule_words.push_moves.Given as goal

abbrev pub invariant-loop-moved : goal.invariant-loop-moved
invariant-loop-moved l = string_bytes l.text ≡ string_bytes l.initial.text ++ flat_map (move_in l.wording l.job) (take l.moved-index l.moves)
