use Rattle.std.proofs.Common.{subst, sym}
use Rattle.ulfm_match.proofs.Common.{Admits, Letter}
use Rattle.ulfm_match.proofs.Indexed.{some_same}
use Rattle.ulfm_match.proofs.search.is_admitted.Goals as goal

pub returns-in-Some : goal.returns-in-Some
returns-in-Some c = (
  λ t. record { entry = c.in-Some.letter.now; found = sym c.in-Some.ensures.value; passes = c.admits.ensures.0 t },
  λ q. c.admits.ensures.1 (subst (λ (l : Letter). Admits c.args.pattern.now l.envelope) (some_same q.found (sym c.in-Some.ensures.value)) q.passes),
)
