use Rattle.std.proofs.Common.{arith}
use Rattle.ulfm_command_line.proofs.Numbers.{in_range, no_number}
use Rattle.ulfm_command_line.proofs.number.number_in.Goals as goal

pub returns-then-number-most-clause-exact : goal.returns-then-number-most-clause-exact
returns-then-number-most-clause-exact c = in_range c.args.most c.in-Ok.number c.args.text.now c.in-Ok.ensures.value.0 (omega (arith, c.if-number-ge1.true)) (omega (arith, c.if-number-most.true))

pub returns-in-Err-clause-exact : goal.returns-in-Err-clause-exact
returns-in-Err-clause-exact c = no_number c.args.most c.args.text.now c.ranges.most.fits c.in-Err.ensures.value.0
