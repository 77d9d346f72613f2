use Rattle.std.proofs.Common.{◌≤◌, ◌*◌, List, length, subst, arith, slice_index_or}
use Rattle.ulfm_job.specs.declared.place.Place.{Place}
use Rattle.ulfm_command_line.specs.Stopped.{asked_view}
use Rattle.ulfm_outcomes_reply.specs.inside.Parts.{IsPart}
use Rattle.ulfm_outcomes_reply.proofs.Parting.{parted, parts-enough}
use Rattle.ulfm_outcomes_reply.proofs.threads.list_parts.Goals as goal

pub returns : goal.returns
returns g c =
    let places = c.args.places.now in
    let parts = c.in_ok-parts.parts.items in
    let enough : length places ≤ length parts * c.args.size = parts-enough (length places) c.args.size (length parts) c.requires.some (omega (arith, c.in_ok-parts.parts.ok, c.in_ok-parts.ensures.len)) in
    parted (IsPart (asked_view c.args.asked.now) c.args.search.now.options.limit) places c.args.size parts
    (λ k d low. let made = (c.in_ok-parts.ensures.each k d low).1 in subst (λ (ps : List Place). IsPart (asked_view c.args.asked.now) c.args.search.now.options.limit ps (slice_index_or parts k d)) made.argument_is.value made.call) enough
