use Rattle.ulfm_report_laws.proofs.Lawful.{lawful}
use Rattle.ulfm_report_laws.proofs.laws.produced_is_lawful.Goals as goal

pub returns : goal.returns
returns c = λ job inboxes knows reports produced. lawful job inboxes knows reports produced
