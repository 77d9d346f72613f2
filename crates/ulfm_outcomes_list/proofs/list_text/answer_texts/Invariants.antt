use Rattle.std.proofs.Common.{◌≡◌, map, string_bytes, take}
use Rattle.ulfm_outcomes_list.specs.Listed.{outcome_view}
use Rattle.ulfm_outcomes_list.specs.ListText.{ending_text}
use Rattle.ulfm_outcomes_list.proofs.list_text.answer_texts.Given as goal

abbrev pub invariant-loop-answer : goal.invariant-loop-answer
invariant-loop-answer l = map string_bytes l.texts.items ≡ map (ending_text l.wording) (map outcome_view (take l.answer-index l.answers))
