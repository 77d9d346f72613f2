use Rattle.ulfm_match.proofs.Bucketed.{same_numbers}
use Rattle.ulfm_match.proofs.copying.copy_buckets.Goals as goal

pub returns : goal.returns
returns c k = same_numbers k _ _ c.in_ok-copy.ensures.cases
