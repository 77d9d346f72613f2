use Rattle.std.proofs.Common.{length, arith}
use Rattle.ulfm_reader.proofs.Claims.{within, not_within}
use Rattle.ulfm_reader.proofs.Steps.{items_len-view}
use Rattle.ulfm_reader.proofs.rows.is_within.Goals as goal

pub returns-then-least-values : goal.returns-then-least-values
returns-then-least-values c = within c.args.least c.args.most (length c.args.values.now) _ (items_len-view c.args.values.now) (omega (arith, c.if-least-values.true))

pub returns-else-least-values : goal.returns-else-least-values
returns-else-least-values c = not_within c.args.least c.args.most (length c.args.values.now) _ (items_len-view c.args.values.now) (omega (arith, c.if-least-values.false))
