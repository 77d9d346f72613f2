use Rattle.std.proofs.Common.{ap, sym, ◌∙◌}
use Rattle.std.proofs.lemmas.Result.{IfOk-weaker}
use Rattle.ulfm_command_line.specs.Stopped.{asked_beside, asked_view, beside_stops}
use Rattle.ulfm_job.specs.declared.place.Place.{Place}
use Rattle.ulfm_command_line.proofs.reading_at_place.with_stops.Goals as goal

pub returns-in_ok-read-in-Two : goal.returns-in_ok-read-in-Two
returns-in_ok-read-in-Two c =
    IfOk-weaker c.asked_beside-in-Two-2.result _ _ (λ made h.
    h ∙ ap (asked_beside c.in-Two.second) c.in_ok-read-in-Two.ensures ∙ sym (ap (λ (place : Place). beside_stops place (asked_view c.args.read)) c.in-Two.is)) c.asked_beside-in-Two-2.ensures
