use Rattle.std.proofs.Common.{◌≡◌, drop}
use Rattle.std.specs.List.{fold}
use Rattle.ulfm_outcomes_list.specs.Union.{answers_of, with_answers_of}
use Rattle.ulfm_outcomes_list.proofs.union.answer_set.Given as goal

abbrev pub invariant-loop-one : goal.invariant-loop-one
invariant-loop-one l = fold (with_answers_of l.job l.rank l.k) l.answers.keys (drop l.one-index l.listed) ≡ answers_of l.job l.listed l.rank l.k
