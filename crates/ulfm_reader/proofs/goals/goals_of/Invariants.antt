use Rattle.std.proofs.Common.{◌≡◌, [], drop}
use Rattle.ulfm_reader.specs.Goals.{goals_onto}
use Rattle.ulfm_reader.specs.JobText.{reading_view}
use Rattle.ulfm_reader.proofs.Naming.{trimmed}
use Rattle.ulfm_reader.proofs.goals.goals_of.Given as goal

abbrev pub invariant-loop-part : goal.invariant-loop-part
invariant-loop-part l =
    goals_onto (reading_view l.reading).plan.scripts l.reading.names.items l.goals.items (trimmed (drop l.part-index l.parts))
    ≡ goals_onto (reading_view l.reading).plan.scripts l.reading.names.items [] (trimmed l.parts)
