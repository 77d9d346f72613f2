use Rattle.std.proofs.Common.{append_assoc, refl, ◌∙◌}
use Rattle.std.proofs.lemmas.Result.{IfOk-weaker}
use Rattle.ulfm_command_line.specs.Replies.{good_json}
use Rattle.ulfm_command_line.proofs.reply.good_json.Goals as goal

pub returns : goal.returns
unfolding good_json
returns c = IfOk-weaker c.format.result _ _ (λ text e. e ∙ simp append_assoc refl) c.format.ensures.ok
