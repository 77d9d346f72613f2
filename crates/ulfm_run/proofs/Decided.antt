-- On what a step is decided, by the communicator on which ranks decide by it.
use Rattle.std.proofs.Common.{◌≡◌, true, false, List, Some, None, refl, ap, sym}
use Rattle.ulfm_base.specs.declared.context.Context.{Context}
use Rattle.ulfm_job.specs.Job.{decides_on, is_agreement_step}
use Rattle.ulfm_job.specs.declared.step.Step.TheVariants.{Agree, Shrink}
use Rattle.ulfm_log.specs.Proposal.{last_round}
use Rattle.ulfm_script.specs.Deciding.{topic_of}
use Rattle.ulfm_run.proofs.Common.{Entry, Step, none-some, same_Some}

pub round_topic_of : (log : List Entry) (asked : Step) (c : Context) → decides_on asked ≡ Some c → topic_of log asked ≡ Some (last_round log (is_agreement_step asked) c)
round_topic_of log (Shrink comm again) c on = ap (λ (x : Context). Some (last_round log false x)) (same_Some comm c on)
round_topic_of log (Agree flag comm) c on = ap (λ (x : Context). Some (last_round log true x)) (same_Some comm c on)
round_topic_of log _ c on = absurd (none-some c on)

pub no_topic_of : (log : List Entry) (asked : Step) → decides_on asked ≡ None → topic_of log asked ≡ None
no_topic_of log (Shrink comm again) none = absurd (none-some comm (sym none))
no_topic_of log (Agree flag comm) none = absurd (none-some comm (sym none))
no_topic_of log _ none = refl
