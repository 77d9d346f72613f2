use Rattle.std.proofs.Common.{◌≡◌, ◌++◌, flat_map, string_bytes, take}
use Rattle.ulfm_schedule.specs.Words.{course_text}
use Rattle.ulfm_schedule.proofs.schedule.push_courses.Given as goal

abbrev pub invariant-loop-course : goal.invariant-loop-course
invariant-loop-course l = string_bytes l.text ≡ string_bytes l.initial.text ++ flat_map (course_text l.job) (take l.course-index l.courses)
