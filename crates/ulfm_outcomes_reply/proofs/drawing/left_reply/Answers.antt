use Rattle.std.proofs.lemmas.Result.{IfOk-weaker}
use Rattle.ulfm_command_line.specs.Body.{body_in}
use Rattle.ulfm_command_line.specs.Stopped.{asked_view}
use Rattle.ulfm_outcomes_reply.proofs.Picture.{drawn_as}
use Rattle.ulfm_outcomes_reply.proofs.drawing.left_reply.Goals as goal

pub told_of-requires : goal.told_of-requires
told_of-requires g c = c.requires c.in_ok-goals.goals c.in_ok-goals.ensures

pub returns : goal.returns
returns g c =
    IfOk-weaker c.told_reply.result _ _ (λ r h. rw (h.0)
    (drawn_as c.args.search.now.form c.args.search.now.options c.args.at (asked_view c.args.asked.now) c.args.left c.in_ok-goals.goals c.in_ok-told.told (body_in c.args.search.now.form r.body) c.in_ok-goals.ensures c.in_ok-told.ensures h.1)) c.told_reply.ensures
