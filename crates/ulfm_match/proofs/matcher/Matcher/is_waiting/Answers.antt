use Rattle.std.proofs.Common.{sym}
use Rattle.ulfm_match.proofs.matcher.Matcher.is_waiting.Goals as goal

pub returns : goal.returns
returns c = rw (sym c.self.view_is) c.is_there.ensures
