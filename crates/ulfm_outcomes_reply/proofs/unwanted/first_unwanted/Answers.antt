use Rattle.std.proofs.Common.{◌+◌, subst, sym, ◌∙◌}
use Rattle.ulfm_command_line.specs.Stopped.{asked_view}
use Rattle.ulfm_outcomes_reply.specs.inside.Judging.{IsListedOf, IsUnfoundUpTo}
use Rattle.ulfm_outcomes_reply.proofs.Unfound.{found-next, unfound-end, unfound-next}
use Rattle.ulfm_outcomes_reply.proofs.unwanted.first_unwanted.Goals as goal

pub unwanted_at-requires : goal.unwanted_at-requires
unwanted_at-requires g c = subst (IsListedOf (asked_view c.args.asked.now) c.args.search.now.options.limit) (sym c.one-item.is) (c.requires c.loop-one.one-index c.one-item.result c.loop-one-test.true)

pub returns-then-is_found : goal.returns-then-is_found
returns-then-is_found g c =
    found-next c.args.search.now.form c.args.search.now.options (asked_view c.args.asked.now) c.args.listed.now c.loop-one.one-index c.one-item.result c.loop-one-test.true c.one-item.is c.loop-one.first c.in_ok-told.told c.loop-one.invariant c.in_ok-told.ensures
    (sym c.is_found.ensures ∙ c.if-is_found.true)

pub loop-one-preserved : goal.loop-one-preserved
loop-one-preserved g c =
    let asked = asked_view c.args.asked.now in
    subst (IsUnfoundUpTo c.args.search.now.form c.args.search.now.options asked c.args.listed.now (c.loop-one.one-index + 1)) (sym c.earlier-first.ensures)
    (unfound-next c.args.search.now.form c.args.search.now.options asked c.args.listed.now c.loop-one.one-index c.one-item.result c.loop-one-test.true c.one-item.is c.loop-one.first c.in_ok-told.told c.loop-one.invariant c.in_ok-told.ensures
    (sym c.is_found.ensures ∙ c.if-is_found.false))

pub returns : goal.returns
returns g c = unfound-end c.args.search.now.form c.args.search.now.options (asked_view c.args.asked.now) c.args.listed.now c.loop-one.one-index c.loop-one.first c.loop-one-test.false c.loop-one.invariant
