use Rattle.std.proofs.Common.{true, false, sym}
use Rattle.ulfm_match.proofs.Bucketed.{grows_both}
use Rattle.ulfm_match.proofs.buckets.put_letter.Goals as goal

pub returns-in_err-put-2-clause-grows : goal.returns-in_err-put-2-clause-grows
returns-in_err-put-2-clause-grows c k = grows_both c.args.number _ _ _ (c.put.ensures.grows k) (c.put-2.ensures.grows k)

pub returns-clause-grows : goal.returns-clause-grows
returns-clause-grows c k = grows_both c.args.number _ _ _ (c.put.ensures.grows k) (c.put-2.ensures.grows k)

pub returns-clause-put : goal.returns-clause-put
returns-clause-put c false = rw (sym c.key_at.ensures) ((c.put-2.ensures.grows _).keeps _ c.in_ok-put.ensures.put)
returns-clause-put c true = rw (sym c.key_at-2.ensures) c.in_ok-put-2.ensures.put
