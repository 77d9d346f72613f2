use Rattle.std.proofs.Common.{sym}
use Rattle.ulfm_match.proofs.matcher.Matcher.letter.Goals as goal

pub returns : goal.returns
returns c = rw (sym c.self.view_is) c.numbered.ensures
