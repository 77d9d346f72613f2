use Rattle.std.specs.Vec.Iter.{into_iter_items}
use Rattle.ulfm_outcomes_reply.specs.inside.Findings.{IsFirstSoFar}
use Rattle.ulfm_outcomes_reply.proofs.finding_threads.first_of.Given as goal

abbrev pub invariant-loop-part : goal.invariant-loop-part
invariant-loop-part l = IsFirstSoFar l.fn.parts.items l.first (into_iter_items l.part-iterator)
