use Rattle.std.proofs.Common.{◌≡◌, ◌++◌, flat_map, drop}
use Rattle.ulfm_schedule.specs.Words.{course_text}
use Rattle.ulfm_replay.specs.Ranks.{players_trace}
use Rattle.ulfm_replay.proofs.ranks.courses_of.Given as goal

abbrev pub invariant-loop-r : goal.invariant-loop-r
invariant-loop-r l = flat_map (course_text l.job) l.courses.items ++ players_trace l.job l.r (drop l.r l.world.players) ≡ players_trace l.job 0 l.world.players
