use Rattle.ulfm_job.proofs.ReadNumbers.{number_above, number_long, number_read}
use Rattle.ulfm_job.proofs.digits.read_in.Goals as goal

pub returns-then-number-most-clause-exact : goal.returns-then-number-most-clause-exact
returns-then-number-most-clause-exact c = number_read c.args.most c.in-Ok.number c.args.text.now c.requires c.in-Ok.ensures.value.0 c.if-number-most.true

pub returns-else-number-most-clause-exact : goal.returns-else-number-most-clause-exact
returns-else-number-most-clause-exact c = number_above c.args.most c.in-Ok.number c.args.text.now c.requires c.in-Ok.ensures.value.0 c.if-number-most.false

pub returns-in-Err-clause-exact : goal.returns-in-Err-clause-exact
returns-in-Err-clause-exact c = number_long c.args.most c.args.text.now c.ranges.most.fits c.requires c.in-Err.ensures.value.0
