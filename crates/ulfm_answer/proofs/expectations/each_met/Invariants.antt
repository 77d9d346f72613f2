use Rattle.std.proofs.Common.{◌≡◌, drop}
use Rattle.ulfm_answer.specs.Reacting.{each_met}
use Rattle.ulfm_answer.proofs.expectations.each_met.Given as goal

abbrev pub invariant-loop-k : goal.invariant-loop-k
invariant-loop-k l = each_met l.expected l.rank 0 l.done l.done ≡ each_met l.expected l.rank l.k l.done (drop l.k l.done)
