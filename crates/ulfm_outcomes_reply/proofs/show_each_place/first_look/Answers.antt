use Rattle.std.proofs.Common.{All, get_or, subst, take_all}
use Rattle.std.proofs.lemmas.List.Elements.{All-more}
use Rattle.std.proofs.lemmas.Option.{slice_get-get_or}
use Rattle.ulfm_job.specs.declared.place.Place.TheVariants.{Nowhere}
use Rattle.ulfm_outcomes_reply.specs.ShowEach.{IsNowhereAt}
use Rattle.ulfm_outcomes_reply.specs.inside.Judging.{IsLookAt}
use Rattle.ulfm_outcomes_reply.proofs.show_each_place.first_look.Goals as goal

pub returns-in-Some : goal.returns-in-Some
returns-in-Some g c =
    let places = c.args.places.now in
    let i = c.loop-place.place-index in
    (i, slice_get-get_or places i Nowhere c.loop-place-test.true, c.loop-place.invariant, subst (IsLookAt c.args.job.now c.args.answers.now c.args.search.now.options.is_brief c.args.search.now.options.limit (get_or places i Nowhere)) c.in-Some.is c.in_ok-told.ensures)

pub loop-place-preserved : goal.loop-place-preserved
loop-place-preserved g c =
    let places = c.args.places.now in
    let i = c.loop-place.place-index in
    All-more (IsNowhereAt c.args.job.now c.args.answers.now) places i Nowhere c.loop-place-test.true c.loop-place.invariant
    (subst (IsLookAt c.args.job.now c.args.answers.now c.args.search.now.options.is_brief c.args.search.now.options.limit (get_or places i Nowhere)) c.in_default.is c.in_ok-told.ensures)

pub returns : goal.returns
returns g c = subst (All (IsNowhereAt c.args.job.now c.args.answers.now)) (take_all c.loop-place.place-index c.args.places.now c.loop-place-test.false) c.loop-place.invariant
