use Rattle.std.proofs.Common.{List, ap, subst, sym, ◌∙◌}
use Rattle.std.proofs.lemmas.Result.{IfOk-weaker}
use Rattle.ulfm_job.specs.declared.clause.Clause.{Clause}
use Rattle.ulfm_outcomes_list.specs.Goals.{AreOfClauses}
use Rattle.ulfm_reader.specs.Goals.{goals_view}
use Rattle.ulfm_command_line.specs.Body.{body_in}
use Rattle.ulfm_command_line.specs.Stopped.{asked_view}
use Rattle.ulfm_outcomes_reply.specs.Outcomes.{unnamed}
use Rattle.ulfm_outcomes_reply.proofs.Judged.{show_as}
use Rattle.ulfm_outcomes_reply.proofs.show_reply.sought_reply.Goals as goal

pub returns-in-Err : goal.returns-in-Err
returns-in-Err g c = λ bytes read.
    let asked = asked_view c.args.asked.now in
    let named = sym c.in_ok-answers.ensures ∙ ap goals_view c.in-Err.is in
    IfOk-weaker c.no_goal.result _ _ (λ r h. rw (h.0, h.1 c.args.search.now.form) (unnamed asked c.in-Err.text.now read named)) c.no_goal.ensures

pub returns : goal.returns
returns g c = λ bytes read.
    let asked = asked_view c.args.asked.now in
    let named = sym c.in_ok-answers.ensures ∙ ap goals_view c.in-Ok.is in
    IfOk-weaker c.look_reply.result _ _ (λ r h. rw (h.0) (show_as c.args.search.now.form c.args.search.now.options c.args.show.now bytes asked c.in-Ok.answers.items c.in_ok-goals.goals c.in_ok-look.look (body_in c.args.search.now.form r.body)
    read named (subst (λ (clauses : List Clause). AreOfClauses asked.job clauses c.in_ok-goals.goals) c.as_slice.ensures.value c.in_ok-goals.ensures) c.in_ok-look.ensures h.1)) c.look_reply.ensures
