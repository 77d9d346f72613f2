use Rattle.std.proofs.Common.{ap, sym, ◌∙◌}
use Rattle.std.proofs.lemmas.Result.{IfOk-weaker}
use Rattle.ulfm_command_line.specs.Stopped.{asked_view}
use Rattle.ulfm_outcomes_reply.specs.EachPlace.{misnamed_at_all}
use Rattle.ulfm_outcomes_reply.proofs.Judged.{part_now}
use Rattle.ulfm_outcomes_reply.proofs.each_place.named_reply.Goals as goal

pub returns-in-None : goal.returns-in-None
returns-in-None g c = λ bytes read. c.listed_reply.ensures bytes read (sym c.in_ok-part.ensures ∙ ap part_now c.in-None.is)

pub returns-in-Some : goal.returns-in-Some
returns-in-Some g c = λ bytes read.
    let named = sym c.in_ok-part.ensures ∙ ap part_now c.in-Some.is in
    IfOk-weaker c.no_name.result _ _ (λ r h. rw (h.0, h.1 c.args.search.now.form) (misnamed_at_all (asked_view c.args.asked.now) c.in-Some.part.now read named)) c.no_name.ensures
