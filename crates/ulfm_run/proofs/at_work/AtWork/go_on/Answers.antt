use Rattle.std.proofs.Common.{Bool, sym, subst}
use Rattle.ulfm_run.proofs.Common.{script_at, WentOn}
use Rattle.ulfm_run.proofs.Working.{turned}
use Rattle.ulfm_run.proofs.at_work.AtWork.go_on.Goals as goal

pub returns-clause-polls : goal.returns-clause-polls
returns-clause-polls g c =
    let t = c.in-Ok.ensures in
    turned t.0.me c.is_some.result
    t.1.0 t.1.1 t.1.2 t.2.2 (subst (λ (b : Bool). WentOn (script_at t.0.job.now t.0.me) t.0.job.now.turns t.0.worker.player.player c.turn.new.hands.worker.player.player b) (sym c.is_some.ensures) t.2.3)
