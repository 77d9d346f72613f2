use Rattle.std.proofs.Common.{subst}
use Rattle.std.proofs.lemmas.Result.{IfOk-weaker}
use Rattle.ulfm_command_line.specs.Body.{body_in}
use Rattle.ulfm_command_line.specs.Stopped.{asked_view}
use Rattle.ulfm_outcomes_spec.specs.Outcomes.{IsList}
use Rattle.ulfm_outcomes_reply.specs.Outcomes.{listed, past_limit}
use Rattle.ulfm_outcomes_reply.proofs.outcomes_reply.reached_reply.Goals as goal

pub returns-in-All : goal.returns-in-All
returns-in-All g c = λ bytes read.
    let list = subst (IsList c.args.asked.now.job c.args.search.now.options.limit) c.in-All.is c.requires.list in
    IfOk-weaker c.judged.result _ _ (λ r h. listed (asked_view c.args.asked.now) c.in-All.reached r.status (body_in c.args.search.now.form r.body) read c.requires.named list h) c.judged.ensures

pub returns-in-More : goal.returns-in-More
returns-in-More g c = λ bytes read.
    let many = subst (IsList c.args.asked.now.job c.args.search.now.options.limit) c.in-More.is c.requires.list in
    IfOk-weaker c.more_reply.result _ _ (λ r h. rw (h.0, h.1) (past_limit (asked_view c.args.asked.now) read c.requires.named many)) c.more_reply.ensures
