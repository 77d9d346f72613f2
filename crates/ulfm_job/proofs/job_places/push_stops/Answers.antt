use Rattle.std.proofs.Common.{◌∙◌}
use Rattle.ulfm_job.specs.Places.{stops_near}
use Rattle.ulfm_job.proofs.Listed.{flat_next}
use Rattle.ulfm_job.proofs.job_places.push_stops.Goals as goal

pub loop-at-preserved : goal.loop-at-preserved
loop-at-preserved c = c.in_ok-push_near.ensures ∙ flat_next (stops_near c.args.job.now c.args.rank) c.loop-at.at c.loop-at.stops.items c.args.stops.now.items c.loop-at.invariant
