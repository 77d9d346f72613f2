use Rattle.ulfm_match.proofs.Determined.{one_find}
use Rattle.ulfm_match.proofs.law.one_answer_to_a_probe.Goals as goal

pub returns : goal.returns
returns c h r p old new other a b t f g = one_find h r t.lawful p new other a b (f h r t) (g h r t)
