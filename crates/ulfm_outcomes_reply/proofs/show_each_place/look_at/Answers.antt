use Rattle.std.proofs.Common.{subst}
use Rattle.ulfm_job.specs.Job.{JobView}
use Rattle.ulfm_outcomes_spec.specs.Told.{IsLook}
use Rattle.ulfm_outcomes_reply.proofs.show_each_place.look_at.Goals as goal

pub returns : goal.returns
returns g c =
    (c.in_ok-goals.goals, c.in_ok-goals.ensures, subst (λ (j : JobView). IsLook j c.in_ok-goals.goals c.args.search.now.options.is_brief c.args.search.now.options.limit c.in_ok-look.look) c.in-Ok.ensures.exact c.in_ok-look.ensures)
