use Rattle.std.proofs.Common.{subst}
use Rattle.std.proofs.lemmas.Result.{IfOk-weaker}
use Rattle.ulfm_command_line.specs.Stopped.{Asked, asked_view}
use Rattle.ulfm_outcomes_reply.specs.inside.Judging.{IsUnwantedAt}
use Rattle.ulfm_outcomes_reply.proofs.EachPlace.{list_there, ruled_there, unwanted_there}
use Rattle.ulfm_outcomes_reply.proofs.unwanted.unwanted_at.Goals as goal

pub unwanted-requires-clause-list : goal.unwanted-requires-clause-list
unwanted-requires-clause-list g c = list_there (asked_view c.args.asked.now) (asked_view c.in_ok-made.made) c.args.search.now.options.limit c.args.one.now c.requires c.in_ok-made.ensures

pub unwanted-requires-clause-out : goal.unwanted-requires-clause-out
unwanted-requires-clause-out g c = ruled_there (asked_view c.args.asked.now) (asked_view c.in_ok-made.made) c.args.search.now.options.limit c.args.one.now c.requires c.in_ok-made.ensures

pub returns : goal.returns
returns g c =
    let asked = asked_view c.args.asked.now in
    let one = c.args.one.now in
    let form = c.args.search.now.form in
    let options = c.args.search.now.options in
    let made = c.in_ok-made.ensures in
    IfOk-weaker c.unwanted.result _ _ (λ told h. subst (λ (a : Asked). IsUnwantedAt form options one.place a told) made (unwanted_there form options one asked (asked_view c.in_ok-made.made) told c.requires made h)) c.unwanted.ensures
