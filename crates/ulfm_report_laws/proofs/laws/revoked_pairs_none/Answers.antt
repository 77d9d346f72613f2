use Rattle.ulfm_report_laws.proofs.Each.{revoked_pairs_none}
use Rattle.ulfm_report_laws.proofs.Lawful.{so_far}
use Rattle.ulfm_report_laws.proofs.laws.revoked_pairs_none.Goals as goal

pub returns : goal.returns
returns c = λ job inboxes knows reports h. revoked_pairs_none (so_far h)
