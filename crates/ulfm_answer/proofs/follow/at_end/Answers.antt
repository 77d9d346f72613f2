use Rattle.std.proofs.Common.{◌∙◌}
use Rattle.ulfm_answer.proofs.Following.{none-left}
use Rattle.ulfm_answer.proofs.follow.at_end.Goals as goal

pub returns-in-Left : goal.returns-in-Left
returns-in-Left c = rw c.in-Left.is (c.is_empty.ensures ∙ none-left c.in-Left.left.now)
