use Rattle.ulfm_report_laws.proofs.Each.{pends_exactly}
use Rattle.ulfm_report_laws.proofs.Lawful.{so_far}
use Rattle.ulfm_report_laws.proofs.laws.pends_exactly.Goals as goal

pub returns : goal.returns
returns c = λ job inboxes knows reports h. pends_exactly (so_far h)
