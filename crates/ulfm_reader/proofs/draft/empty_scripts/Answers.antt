use Rattle.ulfm_reader.proofs.Scripts.{one_more}
use Rattle.ulfm_reader.proofs.draft.empty_scripts.Goals as goal

pub loop-preserved : goal.loop-preserved
loop-preserved c = rw c.in_ok-push.ensures.items (one_more c.loop.scripts.items c.new.result c.loop.counter c.new.ensures.items c.loop.invariant)
