use Rattle.std.proofs.Common.{◌∙◌}
use Rattle.ulfm_job.specs.Places.{own_stops_at}
use Rattle.ulfm_job.proofs.Listed.{flat_next}
use Rattle.ulfm_job.proofs.job_stops.push_own.Goals as goal

pub loop-at-preserved : goal.loop-at-preserved
loop-at-preserved c = c.in_ok-push_own_at.ensures ∙ flat_next (own_stops_at c.args.job.now c.args.rank) c.loop-at.at c.loop-at.stops.items c.args.stops.now.items c.loop-at.invariant
