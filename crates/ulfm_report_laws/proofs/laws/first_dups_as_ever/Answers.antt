use Rattle.ulfm_report_laws.proofs.FirstChildren.{dup_as_ever}
use Rattle.ulfm_report_laws.proofs.laws.first_dups_as_ever.Goals as goal

pub returns : goal.returns
returns c = dup_as_ever
