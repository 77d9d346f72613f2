use Rattle.std.proofs.lemmas.List.Elements.{All-same}
use Rattle.std.proofs.lemmas.Result.{IfOk-weaker}
use Rattle.ulfm_job.specs.Place.{IsPlaceOf}
use Rattle.ulfm_job.specs.Places.{places_of}
use Rattle.ulfm_job.proofs.Inside.{places_inside}
use Rattle.ulfm_job.proofs.job_places.places.Goals as goal

pub returns-clause-inside : goal.returns-clause-inside
returns-clause-inside c =
    let job = c.args.job.now in
    IfOk-weaker c.all_places.result _ _ (λ places h. All-same (IsPlaceOf job) places.items (places_of c.args.stops job) h (places_inside job c.args.stops)) c.all_places.ensures
