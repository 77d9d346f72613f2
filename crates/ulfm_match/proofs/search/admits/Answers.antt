use Rattle.std.proofs.Common.{subst, sym}
use Rattle.ulfm_match.proofs.Common.{Admits, Pattern}
use Rattle.ulfm_match.proofs.Indexed.{some_same}
use Rattle.ulfm_match.proofs.search.admits.Goals as goal

pub returns-in-Some : goal.returns-in-Some
returns-in-Some c = (
  λ t. record { entry = c.in-Some.pattern.now; found = sym c.in-Some.ensures.value; passes = c.admits.ensures.0 t },
  λ q. c.admits.ensures.1 (subst (λ (p : Pattern). Admits p c.args.envelope.now) (some_same q.found (sym c.in-Some.ensures.value)) q.passes),
)
