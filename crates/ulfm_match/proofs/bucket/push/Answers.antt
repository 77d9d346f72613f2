use Rattle.std.proofs.Common.{subst, sym}
use Rattle.ulfm_match.proofs.Common.{Grows}
use Rattle.ulfm_match.proofs.Bucketed.{grows_push}
use Rattle.ulfm_match.proofs.bucket.push.Goals as goal

pub returns-clause-grows : goal.returns-clause-grows
returns-clause-grows c = subst (Grows c.args.number c.args.numbers.now.items) (sym c.in_ok-push_back.ensures.items) (grows_push c.args.number c.args.numbers.now.items)
