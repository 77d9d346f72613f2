use Rattle.std.proofs.Common.{arith}
use Rattle.std.proofs.lemmas.List.{drop_all}
use Rattle.std.specs.Vec.Iter.{into_iter_items}
use Rattle.ulfm_outcomes_reply.proofs.Joining.{joined-end, joined-on}
use Rattle.ulfm_outcomes_reply.proofs.threads.joined.Goals as goal

pub loop-part-preserved : goal.loop-part-preserved
loop-part-preserved c =
    joined-on c.args.parts.items (into_iter_items c.loop-part.part-iterator) (into_iter_items c.next.new.self) c.in-Some.part c.in_ok-lists.lists c.loop-part.listed.items c.append.new.self.items
    c.loop-part.past_limit.items c.append-in-loop-part.new.self.items c.loop-part.invariant c.in-Some.ensures.steps.0 c.in_ok-lists.was c.in_ok-append.ensures.items c.in_ok-append-2.ensures.items

pub returns : goal.returns
returns c =
    joined-end c.args.parts.items (into_iter_items c.loop-part.part-iterator) c.loop-part.listed.items c.loop-part.past_limit.items c.loop-part.invariant
    (drop_all 0 (into_iter_items c.loop-part.part-iterator) (omega (arith, c.in-None.ensures.steps.0, c.loop-part.part-iterator.rest.ok)))
