use Rattle.std.proofs.Common.{arith, ap, ◌∙◌}
use Rattle.std.proofs.lemmas.Result.{IfOk-weaker}
use Rattle.ulfm_job.specs.Place.{stopped}
use Rattle.ulfm_job.proofs.place.with_two.Goals as goal

pub returns-clause-exact : goal.returns-clause-exact
returns-clause-exact c = IfOk-weaker c.job-2.result _ _ (λ made h. h ∙ ap (stopped c.args.second) c.in_ok-made.ensures.exact) c.job-2.ensures.exact

pub returns-clause-memory : goal.returns-clause-memory
returns-clause-memory c = c.job-2.ensures.memory (λ full. omega (arith, full, c.requires.room, c.in_ok-made.ensures.counted))
