use Rattle.ulfm_script.proofs.Nowhere.{never_made}
use Rattle.ulfm_script.proofs.law.nowhere_is_never_made.Goals as goal

pub returns : goal.returns
returns c = never_made
