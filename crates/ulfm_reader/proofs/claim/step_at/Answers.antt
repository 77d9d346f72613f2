use Rattle.ulfm_reader.proofs.Common.{lists_of}
use Rattle.ulfm_reader.proofs.Claims.{step-at}
use Rattle.ulfm_reader.proofs.claim.step_at.Goals as goal

pub returns : goal.returns
returns c = step-at (lists_of c.args.draft.now.scripts.items) c.args.rank c.args.step c.step_of.result c.step_of.ensures
