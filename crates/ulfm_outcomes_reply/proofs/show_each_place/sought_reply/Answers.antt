use Rattle.std.proofs.Common.{List, All, ap, subst, sym, ◌∙◌, arith}
use Rattle.std.proofs.lemmas.Result.{IfOk-weaker}
use Rattle.ulfm_job.specs.declared.clause.Clause.{Clause}
use Rattle.ulfm_reader.specs.Goals.{goals_view}
use Rattle.ulfm_job.specs.Place.{IsPlaceOf}
use Rattle.ulfm_job.specs.declared.place.Place.{Place}
use Rattle.ulfm_command_line.specs.Body.{body_in}
use Rattle.ulfm_command_line.specs.Stopped.{asked_view}
use Rattle.ulfm_outcomes_reply.specs.ShowEach.{no_room_to_show, unnamed_at_all}
use Rattle.ulfm_outcomes_reply.specs.inside.Judging.{IsFirstLook}
use Rattle.ulfm_outcomes_reply.proofs.EachPlace.{look_inside, show_each_as}
use Rattle.ulfm_outcomes_reply.proofs.show_each_place.sought_reply.Goals as goal

pub returns-then-len-stops-gt-MOST_STEPS : goal.returns-then-len-stops-gt-MOST_STEPS
returns-then-len-stops-gt-MOST_STEPS g c = λ bytes read.
    rw (c.refusal.ensures.status, c.refusal.ensures.body) (no_room_to_show (asked_view c.args.asked.now) read (omega (arith, c.len.ensures.exact, c.if-len-stops-gt-MOST_STEPS.true)))

pub returns-in-Err : goal.returns-in-Err
returns-in-Err g c = λ bytes read.
    let named = sym c.in_ok-answers.ensures ∙ ap goals_view c.in-Err.is in
    IfOk-weaker c.no_goal.result _ _ (λ r h. rw (h.0, h.1 c.args.search.now.form) (unnamed_at_all (asked_view c.args.asked.now) c.in-Err.text.now read named)) c.no_goal.ensures

pub first_look-requires : goal.first_look-requires
first_look-requires g c = subst (All (IsPlaceOf c.args.asked.now.job)) (sym c.as_slice.ensures.value) c.in_ok-places.ensures.inside

pub look_reply-requires : goal.look_reply-requires
look_reply-requires g c =
    let asked = asked_view c.args.asked.now in
    let inside = subst (All (IsPlaceOf asked.job)) (sym c.as_slice.ensures.value) c.in_ok-places.ensures.inside in
    look_inside asked.job c.as_slice-answers.result.now c.args.search.now.options.is_brief c.args.search.now.options.limit c.as_slice.result.now c.in_ok-look.look inside c.in_ok-look.ensures

pub returns : goal.returns
returns g c = λ bytes read.
    let asked = asked_view c.args.asked.now in
    let options = c.args.search.now.options in
    let named = sym c.in_ok-answers.ensures ∙ ap goals_view c.in-Ok.is in
    let of_clauses = subst (λ (clauses : List Clause). IsFirstLook asked.job clauses options.is_brief options.limit c.as_slice.result.now c.in_ok-look.look) c.as_slice-answers.ensures.value c.in_ok-look.ensures in
    let first = subst (λ (places : List Place). IsFirstLook asked.job c.in-Ok.answers.items options.is_brief options.limit places c.in_ok-look.look) (c.as_slice.ensures.value ∙ c.in_ok-places.ensures.exact) of_clauses in
    IfOk-weaker c.look_reply.result _ _ (λ r h. rw (h.0) (show_each_as c.args.search.now.form options c.args.stops c.args.show.now bytes asked c.in-Ok.answers.items c.in_ok-look.look (body_in c.args.search.now.form r.body) read named first h.1)) c.look_reply.ensures
