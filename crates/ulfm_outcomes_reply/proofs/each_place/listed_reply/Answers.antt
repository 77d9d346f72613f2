use Rattle.std.proofs.Common.{All, List, None, Some, subst, sym, ◌∙◌, arith}
use Rattle.std.proofs.lemmas.Result.{IfOk-weaker}
use Rattle.ulfm_job.specs.Place.{IsPlaceOf}
use Rattle.ulfm_command_line.specs.Body.{body_in}
use Rattle.ulfm_command_line.specs.Stopped.{asked_view}
use Rattle.ulfm_command_line.specs.Wish.{choice_view}
use Rattle.ulfm_job.specs.declared.place.Place.{Place}
use Rattle.ulfm_outcomes_list.specs.declared.place_list.Listed.{Listed}
use Rattle.ulfm_outcomes_reply.specs.EachPlace.{drawn_at_place, no_room_for_stops}
use Rattle.ulfm_outcomes_reply.specs.Lists.{AreLists}
use Rattle.ulfm_outcomes_reply.specs.inside.Judging.{AreListedOf, IsFirstDrawn}
use Rattle.ulfm_outcomes_reply.proofs.EachPlace.{each_as, lists_of}
use Rattle.ulfm_outcomes_reply.proofs.each_place.listed_reply.Goals as goal

pub returns-then-len-stops-gt-MOST_STEPS : goal.returns-then-len-stops-gt-MOST_STEPS
returns-then-len-stops-gt-MOST_STEPS g c = λ bytes read named.
    rw (c.refusal.ensures.status, c.refusal.ensures.body) (no_room_for_stops (asked_view c.args.asked.now) read named (omega (arith, c.len.ensures.exact, c.if-len-stops-gt-MOST_STEPS.true)))

pub judged-requires-clause-listed : goal.judged-requires-clause-listed
judged-requires-clause-listed g c κs within =
    let asked = asked_view c.args.asked.now in
    lists_of asked c.args.search.now.options.limit c.as_slice.result.now c.in_ok-lists.lists.listed.items c.in_ok-lists.lists.past_limit.items c.in_ok-lists.ensures
    (subst (All (IsPlaceOf asked.job)) (sym c.as_slice.ensures.value) c.in_ok-places.ensures.inside)

pub first_drawn-requires : goal.first_drawn-requires
first_drawn-requires g c =
    let asked = asked_view c.args.asked.now in
    subst (AreListedOf asked c.args.search.now.options.limit) (sym c.as_slice-2.ensures.value)
    (lists_of asked c.args.search.now.options.limit c.as_slice.result.now c.in_ok-lists.lists.listed.items c.in_ok-lists.lists.past_limit.items c.in_ok-lists.ensures
    (subst (All (IsPlaceOf asked.job)) (sym c.as_slice.ensures.value) c.in_ok-places.ensures.inside))

pub returns-in-Some : goal.returns-in-Some
returns-in-Some g c = λ bytes read named.
    let asked = asked_view c.args.asked.now in
    let form = c.args.search.now.form in
    let options = c.args.search.now.options in
    let lists = c.in_ok-lists.lists in
    let reply = c.in-Some.reply in
    let of_slice = subst (IsFirstDrawn form options asked c.as_slice-2.result.now) c.in-Some.is c.in_ok-reply.ensures in
    let first = subst (λ (listed : List Listed). IsFirstDrawn form options asked listed (Some reply)) c.as_slice-2.ensures.value of_slice in
    drawn_at_place asked lists.listed.items lists.past_limit.items reply.status (body_in form reply.body) read named
    (subst (λ (ps : List Place). AreLists asked options.limit ps lists.listed.items lists.past_limit.items) (c.as_slice.ensures.value ∙ c.in_ok-places.ensures.exact) c.in_ok-lists.ensures) first

pub returns : goal.returns
returns g c = λ bytes read named.
    let asked = asked_view c.args.asked.now in
    let form = c.args.search.now.form in
    let options = c.args.search.now.options in
    let lists = c.in_ok-lists.lists in
    let of_slice = subst (IsFirstDrawn form options asked c.as_slice-2.result.now) c.in-None.is c.in_ok-reply.ensures in
    let none = subst (λ (listed : List Listed). IsFirstDrawn form options asked listed None) c.as_slice-2.ensures.value of_slice in
    IfOk-weaker c.judged.result _ _ (λ r h. each_as form (choice_view c.args.search.now.choice) options c.args.stops bytes asked c.as_slice.result.now lists.listed.items lists.past_limit.items h.0 r.status (body_in c.args.search.now.form r.body) h.1 read named
    c.in_ok-lists.ensures (c.as_slice.ensures.value ∙ c.in_ok-places.ensures.exact) none h.2 h.3) c.judged.ensures
