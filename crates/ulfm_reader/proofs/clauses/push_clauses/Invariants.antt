use Rattle.std.proofs.Common.{◌≡◌, take}
use Rattle.ulfm_reader.specs.Reacting.{clauses_with}
use Rattle.ulfm_reader.proofs.clauses.push_clauses.Given as goal

abbrev pub invariant-loop-text : goal.invariant-loop-text
invariant-loop-text l = l.clauses.items ≡ clauses_with l.fn.rank l.fn.at l.fn.clauses.items (take l.text-index l.fn.texts)
