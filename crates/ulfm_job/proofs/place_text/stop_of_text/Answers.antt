use Rattle.std.proofs.Common.{None, arith}
use Rattle.std.proofs.lemmas.Str.Pattern.{split_once_first}
use Rattle.ulfm_job.proofs.Numbers.{no_dot}
use Rattle.ulfm_job.proofs.place_text.stop_of_text.Goals as goal

pub returns-in-None : goal.returns-in-None
returns-in-None c = no_dot c.args.text.now (split_once_first 46 c.args.text.now None c.in-None.ensures.cases (omega arith))
