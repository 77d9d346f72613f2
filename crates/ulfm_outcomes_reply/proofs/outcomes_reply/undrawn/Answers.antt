use Rattle.std.proofs.Common.{ℕ, List, ◌++◌, None, string_bytes, subst, sym}
use Rattle.std.proofs.lemmas.Result.{IfOk-weaker}
use Rattle.ulfm_command_line.specs.Stopped.{asked_view}
use Rattle.ulfm_command_line.specs.Wish.{choice_view}
use Rattle.ulfm_outcomes_reply.specs.Outcomes.{IsJudged, good, unwanted}
use Rattle.ulfm_outcomes_reply.specs.inside.Judging.{IsUnwanted}
use Rattle.ulfm_outcomes_reply.proofs.outcomes_reply.undrawn.Goals as goal

pub unwanted-requires-clause-list : goal.unwanted-requires-clause-list
unwanted-requires-clause-list g c = (c.args.reached.now.keys, c.requires.list)

pub returns-in_ok-list-in-Some : goal.returns-in_ok-list-in-Some
returns-in_ok-list-in-Some g c =
    let asked = asked_view c.args.asked.now in
    let form = c.args.search.now.form in
    let options = c.args.search.now.options in
    let choice = choice_view c.args.search.now.choice in
    let told = c.in-Some.told in
    let words = string_bytes told.text in
    let is = subst (IsUnwanted form options None asked c.args.reached.now.found) c.in-Some.is c.in_ok-told.ensures in
    let whole = subst (λ (list : List ℕ). IsJudged form choice options asked c.args.reached.now told.status (list ++ words)) (sym c.in_ok-list-in-Some.ensures) (unwanted told.judgement told.status words c.requires.none is) in
    IfOk-weaker c.below.result _ _ (λ r h. rw (h.0, h.1 form) whole) c.below.ensures

pub returns-in-None : goal.returns-in-None
returns-in-None g c =
    let wanted = subst (IsUnwanted c.args.search.now.form c.args.search.now.options None (asked_view c.args.asked.now) c.args.reached.now.found) c.in-None.is c.in_ok-told.ensures in
    IfOk-weaker c.good.result _ _ (λ r h. rw (h.0, h.1) (good c.requires.none wanted)) c.good.ensures
