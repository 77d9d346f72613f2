use Rattle.std.proofs.Common.{◌++◌, List, ℕ, [], append-nil, ap, sym, ◌∙◌}
use Rattle.ulfm_answer.specs.Trace.{told_text}
use Rattle.ulfm_answer.proofs.lines.told_words.Goals as goal

pub returns : goal.returns
returns c =
    sym (append-nil _) ∙ c.in_ok-put_told.ensures [] ∙ ap (λ (xs : List ℕ). xs ++ (told_text c.args.told.now ++ [])) c.new-words.ensures.bytes ∙ append-nil (told_text c.args.told.now)
