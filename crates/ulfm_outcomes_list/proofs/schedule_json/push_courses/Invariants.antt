use Rattle.std.proofs.Common.{◌≡◌, ◌++◌, map, string_bytes, take}
use Rattle.std.specs.List.{flat_map}
use Rattle.ulfm_outcomes_list.specs.ScheduleJson.{course_objects}
use Rattle.ulfm_outcomes_list.proofs.schedule_json.push_courses.Given as goal

abbrev pub invariant-loop-course : goal.invariant-loop-course
invariant-loop-course l = map string_bytes l.objects.items ≡ map string_bytes l.initial.objects.items ++ flat_map (course_objects l.asked.names.items l.asked.job) (take l.course-index l.courses)
