use Rattle.std.proofs.Common.{ap, sym, ◌∙◌}
use Rattle.std.proofs.lemmas.Result.{IfOk-weaker}
use Rattle.ulfm_job.specs.Place.{job_at}
use Rattle.ulfm_job.specs.declared.place.Place.{Place}
use Rattle.ulfm_job.proofs.place.Place.job.Goals as goal

pub returns-in-Two-clause-exact : goal.returns-in-Two-clause-exact
returns-in-Two-clause-exact c = IfOk-weaker c.with_two.result _ _ (λ made h. h ∙ sym (ap (λ (place : Place). job_at place c.args.job.now) c.in-Two.is)) c.with_two.ensures.exact
