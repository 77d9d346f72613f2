use Rattle.std.proofs.Common.{◌++◌, List, ap, sym, ◌∙◌}
use Rattle.ulfm_job.specs.Places.{own_stops_in}
use Rattle.ulfm_job.specs.declared.stop.Stop.{Stop}
use Rattle.ulfm_job.proofs.Listed.{flat_more}
use Rattle.ulfm_job.proofs.job_stops.own_stops.Goals as goal

pub loop-rank-preserved : goal.loop-rank-preserved
loop-rank-preserved c = c.in_ok-push_own.ensures ∙ ap (λ (stops : List Stop). stops ++ own_stops_in c.args.job.now c.loop-rank.rank) c.loop-rank.invariant ∙ sym (flat_more (own_stops_in c.args.job.now) c.loop-rank.rank)
