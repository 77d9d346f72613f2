use Rattle.ulfm_outcomes_spec.proofs.StayAway.{answers_stay_away}
use Rattle.ulfm_outcomes_spec.proofs.laws.answers_stay_away.Goals as goal

pub returns : goal.returns
returns c = answers_stay_away
