use Rattle.ulfm_match.proofs.Bucketed.{grows_rest, put_rest}
use Rattle.ulfm_match.proofs.bucket.Bucket.push.Goals as goal

pub returns-clause-put : goal.returns-clause-put
returns-clause-put c = put_rest c.args.number c.args.self.now.first c.push.new.numbers.items c.push.result c.push.ensures.put

pub returns-clause-grows : goal.returns-clause-grows
returns-clause-grows c = grows_rest c.args.number c.args.self.now.first _ _ c.push.ensures.grows
