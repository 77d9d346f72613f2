use Rattle.std.proofs.Common.{ap, ◌∙◌}
use Rattle.ulfm_answer.specs.Told.{read_code}
use Rattle.ulfm_answer.proofs.ReadBack.{codes_are_read}
use Rattle.ulfm_answer.proofs.told_answer.ToldAnswer.read.Goals as goal

pub returns : goal.returns
returns c = record { exact = c.read.ensures; back = λ told is. c.read.ensures ∙ ap read_code is ∙ codes_are_read told }
