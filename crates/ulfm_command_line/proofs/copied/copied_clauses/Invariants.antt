use Rattle.std.proofs.Common.{◌≡◌, take}
use Rattle.ulfm_command_line.proofs.copied.copied_clauses.Given as goal

abbrev pub invariant-loop-clause : goal.invariant-loop-clause
invariant-loop-clause l = l.copies.items ≡ take l.clause-index l.fn.clauses
