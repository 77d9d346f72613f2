use Rattle.std.proofs.Common.{◌≡◌, ◌++◌, drop, map}
use Rattle.ulfm_outcomes_list.specs.Listed.{all_steps, step_view, steps_from}
use Rattle.ulfm_outcomes_list.proofs.job_step.steps_of.Given as goal

abbrev pub invariant-loop-rank : goal.invariant-loop-rank
invariant-loop-rank l = map step_view l.steps.items ++ steps_from l.job l.rank (drop l.rank l.job.scripts) ≡ all_steps l.job
