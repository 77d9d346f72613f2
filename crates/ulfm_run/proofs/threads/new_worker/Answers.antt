use Rattle.std.proofs.Common.{arith, refl, ap, sym, subst, ◌∙◌, length}
use Rattle.ulfm_script.specs.Player.{Player, start_player}
use Rattle.ulfm_run.proofs.Common.{script_at, honest-start, AnswersFollowSoFar}
use Rattle.ulfm_run.proofs.Starting.{at-work-start}
use Rattle.ulfm_run.proofs.threads.new_worker.Goals as goal

pub returns-clause-at_work : goal.returns-clause-at_work
returns-clause-at_work g c =
    at-work-start g.E.Ends.place g.E.Ends.count g.E.Ends.pushed g.E.Ends.taken g.E.Ends.ready c.args.job.now (g.E.Ends.place c.args.end) c.in-Ok.player c.requires.fresh refl
    (c.in-Ok.ensures.player ∙ ap (λ i. start_player i c.ranks.result) c.me-me.ensures ∙ ap (λ n. start_player (g.E.Ends.place c.args.end) n) c.ranks.ensures.exact)
    c.me.ensures.sound
    (omega (arith, c.in-Ok.ensures.room, c.script_len-steps.ensures.exact, ap (λ i. length (script_at c.args.job.now i)) c.me-me.ensures))

pub returns-clause-honest : goal.returns-clause-honest
returns-clause-honest g c = subst (λ (p : Player). AnswersFollowSoFar (g.D.Decider.known c.args.decider) p) (sym c.in-Ok.ensures.player) (honest-start (g.D.Decider.known c.args.decider) _ _)
