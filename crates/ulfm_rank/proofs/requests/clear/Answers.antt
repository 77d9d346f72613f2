use Rattle.std.specs.Prelude.{nat_eq}
use Rattle.ulfm_rank.proofs.Common.{get}
use Rattle.ulfm_rank.proofs.Clears.{table_cleared}
use Rattle.ulfm_rank.proofs.requests.clear.Goals as goal

pub returns-clause-tracks : goal.returns-clause-tracks
returns-clause-tracks c n entries h r t table =
    (c.clear.ensures.tracks h r t, table_cleared n c.args.context.number entries h r t.lawful (get nat_eq c.args.requests.now) (get nat_eq c.fail_context.new.requests) table c.fail_context.ensures.change)
