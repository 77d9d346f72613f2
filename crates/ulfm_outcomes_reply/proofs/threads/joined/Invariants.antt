use Rattle.std.specs.Vec.Iter.{into_iter_items}
use Rattle.ulfm_outcomes_reply.specs.inside.Parts.{AreJoinedSoFar}
use Rattle.ulfm_outcomes_reply.proofs.threads.joined.Given as goal

abbrev pub invariant-loop-part : goal.invariant-loop-part
invariant-loop-part l = AreJoinedSoFar l.fn.parts.items l.listed.items l.past_limit.items (into_iter_items l.part-iterator)
