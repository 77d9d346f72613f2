use Rattle.ulfm_reader.proofs.Scripts.{lists_of-set}
use Rattle.ulfm_reader.proofs.draft.push_step.Goals as goal

pub returns-clause-pushed : goal.returns-clause-pushed
returns-clause-pushed c = lists_of-set c.args.scripts.now.items c.push.new.self c.index_mut.result.now c.args.rank c.args.step c.requires c.index_mut.ensures.value c.in_ok-push.ensures.items
