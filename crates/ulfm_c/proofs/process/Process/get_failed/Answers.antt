use Rattle.std.proofs.Common.{◌≡◌, ap, subst}
use Rattle.std.specs.Prelude.{IfOk}
use Rattle.ulfm_rank.specs.Checks.{group_at}
use Rattle.ulfm_log.specs.Facts.{known_in}
use Rattle.ulfm_log.specs.State.{State}
use Rattle.ulfm_c.specs.View.{ReadyView}
use Rattle.ulfm_c.proofs.process.Process.get_failed.Goals as goal

pub returns-clause-failed : goal.returns-clause-failed
returns-clause-failed c =
    subst (λ (r : State). IfOk c.get_failed.result (λ group. group ≡ known_in r.log (group_at r c.args.comm.context.number))) (ap (λ (v : ReadyView). v.view.rank) c.self.view_is) c.get_failed.ensures.failed
