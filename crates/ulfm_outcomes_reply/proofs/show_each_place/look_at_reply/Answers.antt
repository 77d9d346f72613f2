use Rattle.std.proofs.Common.{Some, subst}
use Rattle.std.proofs.lemmas.Result.{IfOk-weaker}
use Rattle.ulfm_command_line.specs.Body.{body_in}
use Rattle.ulfm_command_line.specs.Stopped.{Asked}
use Rattle.ulfm_outcomes_reply.specs.inside.Looking.{IsLookText}
use Rattle.ulfm_outcomes_reply.proofs.show_each_place.look_at_reply.Goals as goal

pub returns : goal.returns
returns g c =
    let look = c.args.look.now in
    IfOk-weaker c.told_reply.result _ _ (λ r h. (h.0, subst (λ (a : Asked). IsLookText c.args.search.now.form c.args.search.now.options.drawn (Some look.place) a (Some look.told) (body_in c.args.search.now.form r.body)) c.in_ok-made.ensures h.1)) c.told_reply.ensures
