use Rattle.std.proofs.Common.{append_assoc, refl, ◌∙◌}
use Rattle.std.proofs.lemmas.Result.{IfOk-weaker}
use Rattle.ulfm_command_line.specs.Replies.{good_line}
use Rattle.ulfm_command_line.proofs.reply.good_line.Goals as goal

pub returns : goal.returns
unfolding good_line
returns c = IfOk-weaker c.format.result _ _ (λ text e. e ∙ simp append_assoc refl) c.format.ensures.ok
