use Rattle.std.proofs.Common.{◌+◌, drop, get_or}
use Rattle.std.proofs.lemmas.List.{drop_all}
use Rattle.ulfm_job.specs.declared.place.Place.TheVariants.{Nowhere}
use Rattle.ulfm_command_line.specs.Stopped.{asked_view}
use Rattle.ulfm_outcomes_reply.proofs.Joining.{goes_on-end, goes_on-next}
use Rattle.ulfm_outcomes_list.proofs.Telling.{drop-get_or}
use Rattle.ulfm_outcomes_reply.proofs.place_lists.list_part.Goals as goal

pub loop-place-preserved : goal.loop-place-preserved
loop-place-preserved g c =
    let places = c.args.places.now in
    let i = c.loop-place.place-index in
    goes_on-next (asked_view c.args.asked.now) c.args.search.now.options.limit places c.loop-place.listed.items c.loop-place.past_limit.items (drop i places) c.loop-place.invariant (get_or places i Nowhere) (drop (i + 1) places)
    (drop-get_or places i Nowhere c.loop-place-test.true) c.in_ok-one.one c.put.new.listed.items c.put.new.past_limit.items c.in_ok-put.ensures.listed c.in_ok-put.ensures.past_limit c.in_ok-one.ensures

pub returns : goal.returns
returns g c =
    let places = c.args.places.now in
    goes_on-end (asked_view c.args.asked.now) c.args.search.now.options.limit places c.loop-place.listed.items c.loop-place.past_limit.items (drop c.loop-place.place-index places) c.loop-place.invariant (drop_all c.loop-place.place-index places c.loop-place-test.false)
