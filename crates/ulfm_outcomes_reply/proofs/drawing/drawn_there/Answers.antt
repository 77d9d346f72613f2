use Rattle.std.proofs.Common.{subst}
use Rattle.std.proofs.lemmas.Result.{IfOk-weaker}
use Rattle.ulfm_command_line.specs.Stopped.{Asked, asked_view}
use Rattle.ulfm_outcomes_reply.specs.inside.Judging.{IsDrawnThere}
use Rattle.ulfm_outcomes_reply.proofs.EachPlace.{list_there}
use Rattle.ulfm_outcomes_reply.proofs.drawing.drawn_there.Goals as goal

pub drawn-requires : goal.drawn-requires
drawn-requires g c = list_there (asked_view c.args.asked.now) (asked_view c.in_ok-made.made) c.args.search.now.options.limit c.args.one.now c.requires c.in_ok-made.ensures

pub returns : goal.returns
returns g c =
    IfOk-weaker c.drawn.result _ _ (λ told h. subst (λ (a : Asked). IsDrawnThere c.args.search.now.form c.args.search.now.options c.args.one.now a told) c.in_ok-made.ensures h) c.drawn.ensures
