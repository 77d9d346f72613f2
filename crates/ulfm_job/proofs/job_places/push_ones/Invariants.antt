use Rattle.std.proofs.Common.{◌≡◌, ◌++◌, map, take}
use Rattle.ulfm_job.specs.declared.place.Place.TheVariants.{One}
use Rattle.ulfm_job.proofs.job_places.push_ones.Given as goal

abbrev pub invariant-loop-stop : goal.invariant-loop-stop
invariant-loop-stop l = l.places.items ≡ l.fn.places.items ++ map One (take l.stop-index l.fn.stops)
