use Rattle.std.proofs.Common.{◌++◌, List, ℕ, [], append-nil, ap, sym, ◌∙◌}
use Rattle.ulfm_answer.specs.Trace.{answer_text}
use Rattle.ulfm_answer.proofs.lines.answer_words.Goals as goal

pub returns : goal.returns
returns c =
    sym (append-nil _) ∙ c.in_ok-put_answer.ensures [] ∙ ap (λ (xs : List ℕ). xs ++ (answer_text c.args.answer.now ++ [])) c.new-words.ensures.bytes ∙ append-nil (answer_text c.args.answer.now)
