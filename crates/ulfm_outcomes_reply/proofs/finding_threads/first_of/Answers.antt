use Rattle.std.proofs.Common.{arith, sym, ◌∙◌}
use Rattle.std.proofs.lemmas.List.{drop_all}
use Rattle.std.specs.Vec.Iter.{into_iter_items}
use Rattle.ulfm_outcomes_reply.proofs.Combining.{first-end, first-found, first-on}
use Rattle.ulfm_outcomes_reply.proofs.finding_threads.first_of.Goals as goal

pub loop-part-preserved : goal.loop-part-preserved
loop-part-preserved c =
    first-on c.args.parts.items (into_iter_items c.loop-part.part-iterator) (into_iter_items c.next.new.self) c.in-Some.part c.loop-part.first c.in_ok-told.told c.loop-part.invariant
    c.in-Some.ensures.steps.0 c.in_ok-told.was c.earlier-first.result (sym c.is_found.ensures ∙ c.if-is_found.false) c.earlier-first.ensures

pub returns-then-is_found : goal.returns-then-is_found
returns-then-is_found c =
    first-found c.args.parts.items (into_iter_items c.loop-part.part-iterator) (into_iter_items c.next.new.self) c.in-Some.part c.loop-part.first c.in_ok-told.told c.loop-part.invariant
    c.in-Some.ensures.steps.0 c.in_ok-told.was (sym c.is_found.ensures ∙ c.if-is_found.true)

pub returns : goal.returns
returns c =
    first-end c.args.parts.items (into_iter_items c.loop-part.part-iterator) c.loop-part.first c.loop-part.invariant
    (drop_all 0 (into_iter_items c.loop-part.part-iterator) (omega (arith, c.in-None.ensures.steps.0, c.loop-part.part-iterator.rest.ok)))
