use Rattle.ulfm_program.proofs.Together.{rows_stay_away}
use Rattle.ulfm_program.proofs.laws.rows_stay_away.Goals as goal

pub returns : goal.returns
returns c = rows_stay_away
