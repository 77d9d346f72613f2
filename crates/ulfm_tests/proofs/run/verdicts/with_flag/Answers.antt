use Rattle.std.proofs.Common.{rules}
use Rattle.ulfm_tests.proofs.Invented.{also_zero}
use Rattle.ulfm_tests.proofs.run.verdicts.with_flag.Goals as goal

pub invariant_of-result : goal.invariant_of-result
invariant_of-result c =
    record { sized = search rules; lawful = rw (c.copied-2.ensures, c.copied-3.ensures, c.with_second.ensures.changed) (also_zero c.args.decision.now 1 c.in-Agree.round c.new.result (search rules) (search rules) c.in-Agree.is c.with_second.ensures.inside) }
