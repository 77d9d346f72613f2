use Rattle.std.proofs.Common.{subst}
use Rattle.ulfm_program.specs.Replies.{GetsFrontOf}
use Rattle.ulfm_program.proofs.app.without_words.Goals as goal

pub returns-clause-not_text_cut_off : goal.returns-clause-not_text_cut_off
returns-clause-not_text_cut_off g c = λ not_starved four. subst (GetsFrontOf _ _) c.as_bytes.ensures.value (c.write_reply-status.ensures.failed four)
