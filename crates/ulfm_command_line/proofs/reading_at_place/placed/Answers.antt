use Rattle.std.proofs.Common.{ap, arith}
use Rattle.ulfm_reader.specs.JobText.{job_in}
use Rattle.ulfm_command_line.specs.Stopped.{asked_view, no_place, no_room}
use Rattle.ulfm_command_line.proofs.Outside.{not_inside}
use Rattle.ulfm_command_line.proofs.reading_at_place.placed.Goals as goal

pub returns-then-not-is_inside : goal.returns-then-not-is_inside
returns-then-not-is_inside c = λ bytes read form.
    rw (c.no_place.ensures.status, c.no_place.ensures.body) (no_place c.args.read.job (ap job_in read) (not_inside c.is_inside.result c.is_inside.ensures c.if-not-is_inside.true))

pub returns-then-len-gt-MOST_STEPS : goal.returns-then-len-gt-MOST_STEPS
returns-then-len-gt-MOST_STEPS c = λ bytes read form.
    let many = c.if-len-gt-MOST_STEPS.true in
    rw (c.refusal.ensures.status, c.refusal.ensures.body) (no_room c.args.read.job (ap job_in read) (omega (arith, c.len.ensures.exact, c.len-2.ensures.exact, many)))

pub returns : goal.returns
returns c = λ bytes read. record {
  read = asked_view c.args.read;
  is_read = read;
  inside = c.is_inside.ensures.0 c.if-not-is_inside.false;
  at_place = c.in_ok-stopped_at.ensures;
}
