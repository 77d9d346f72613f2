use Rattle.ulfm_job.proofs.Written.{read_written}
use Rattle.ulfm_job.proofs.place.Place.parse.Goals as goal

pub returns-clause-written : goal.returns-clause-written
returns-clause-written c = read_written c.place_of_text.result c.args.text.now c.place_of_text.ensures
