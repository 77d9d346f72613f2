use Rattle.std.proofs.Common.{◌+◌, ◌≤◌, ◌*◌, List, length, subst, sym, arith, slice_index_or}
use Rattle.std.specs.Fork.{IsChunk}
use Rattle.ulfm_command_line.specs.Stopped.{asked_view}
use Rattle.ulfm_outcomes_list.specs.declared.place_list.Listed.{Listed}
use Rattle.ulfm_outcomes_reply.specs.inside.Findings.{IsFoundIn}
use Rattle.ulfm_outcomes_reply.specs.inside.Judging.{IsListedOf}
use Rattle.ulfm_outcomes_reply.proofs.Parting.{parted, parts-enough}
use Rattle.ulfm_outcomes_reply.proofs.finding_threads.found_in_parts.Goals as goal

pub map_chunks-requires-clause-accepts : goal.map_chunks-requires-clause-accepts
map_chunks-requires-clause-accepts g c κs within = λ start p chunk k d low.
    let is : IsChunk c.args.listed.now c.args.size start p.now = chunk in
    let room = is.in_bounds in
    subst (IsListedOf (asked_view c.args.asked.now) c.args.search.now.options.limit) (sym (is.elements k d low)) (c.requires.listed (start + k) d (omega (arith, room, low)))

pub returns : goal.returns
returns g c =
    let listed = c.args.listed.now in
    let parts = c.in_ok-parts.parts.items in
    let came = IsFoundIn c.args.search.now.form c.args.search.now.options (asked_view c.args.asked.now) in
    let enough : length listed ≤ length parts * c.args.size = parts-enough (length listed) c.args.size (length parts) c.requires.some (omega (arith, c.in_ok-parts.parts.ok, c.in_ok-parts.ensures.len)) in
    parted came listed c.args.size parts
    (λ k d low. let made = (c.in_ok-parts.ensures.each k d low).1 in subst (λ (ls : List Listed). came ls (slice_index_or parts k d)) made.argument_is.value made.call) enough
