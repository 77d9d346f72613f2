use Rattle.ulfm_report_laws.proofs.FirstChildren.{adoption_as_ever, enters_as_ever, entry_as_ever}
use Rattle.ulfm_report_laws.proofs.laws.first_shrinks_as_ever.Goals as goal

pub returns : goal.returns
returns c = record { refused = entry_as_ever; entered = enters_as_ever; adopted = adoption_as_ever }
