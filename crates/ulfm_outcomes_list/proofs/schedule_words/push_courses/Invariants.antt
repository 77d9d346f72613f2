use Rattle.std.proofs.Common.{◌≡◌, ◌++◌, string_bytes, take}
use Rattle.std.specs.List.{flat_map}
use Rattle.ulfm_outcomes_list.specs.ScheduleWords.{course_in}
use Rattle.ulfm_outcomes_list.proofs.schedule_words.push_courses.Given as goal

abbrev pub invariant-loop-course : goal.invariant-loop-course
invariant-loop-course l = string_bytes l.text ≡ string_bytes l.initial.text ++ flat_map (course_in l.wording l.job) (take l.course-index l.courses)
