use Rattle.ulfm_outcomes_spec.proofs.SharedGoals.{shared_shows_no_more}
use Rattle.ulfm_outcomes_spec.proofs.laws.shared_shows_no_more.Goals as goal

pub returns : goal.returns
returns c = shared_shows_no_more
