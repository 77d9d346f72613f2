use Rattle.std.proofs.Common.{◌≡◌, [], replicate}
use Rattle.ulfm_reader.proofs.Common.{lists_of}
use Rattle.ulfm_reader.proofs.draft.empty_scripts.Given as goal

abbrev pub invariant-loop : goal.invariant-loop
invariant-loop l = lists_of l.scripts.items ≡ replicate l.counter []
