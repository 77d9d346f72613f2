use Rattle.std.proofs.Common.{◌≡◌, ◌++◌, drop, map}
use Rattle.ulfm_outcomes_list.specs.Listed.{script_steps, step_view}
use Rattle.ulfm_outcomes_list.proofs.job_step.push_script.Given as goal

abbrev pub invariant-loop-number : goal.invariant-loop-number
invariant-loop-number l = map step_view l.steps.items ++ script_steps l.job l.rank l.number (drop l.number l.script) ≡ map step_view l.initial.steps.items ++ script_steps l.job l.rank 0 l.script
