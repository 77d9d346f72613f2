use Rattle.std.proofs.Common.{ap, filter, subst, sym, ◌∙◌}
use Rattle.std.proofs.lemmas.Result.{IfOk-weaker}
use Rattle.ulfm_job.specs.Job.{JobView}
use Rattle.ulfm_job.proofs.Beside.{inside-expecting}
use Rattle.ulfm_job.specs.Place.{IsPlaceOf}
use Rattle.ulfm_command_line.specs.AskedFor.{Asked}
use Rattle.ulfm_command_line.specs.Holding.{is_expected, stops_at}
use Rattle.ulfm_command_line.specs.Stopped.{asked_view, beside_stops}
use Rattle.ulfm_command_line.proofs.reading_at_place.stopped_at.Goals as goal

pub with_stops-requires : goal.with_stops-requires
with_stops-requires c =
    let read = asked_view c.args.read.now in
    subst (λ (j : JobView). IsPlaceOf j c.args.place) (sym (ap (λ (a : Asked). a.job) c.in_ok-read.ensures))
    (inside-expecting (filter (is_expected read (stops_at c.args.place read.job)) read.job.expected) read.job c.args.place c.requires)

pub returns : goal.returns
returns c = IfOk-weaker c.with_stops.result _ _ (λ made h. h ∙ ap (beside_stops c.args.place) c.in_ok-read.ensures) c.with_stops.ensures
