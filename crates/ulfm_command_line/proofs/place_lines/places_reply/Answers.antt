use Rattle.std.proofs.Common.{arith}
use Rattle.ulfm_command_line.specs.Places.{crowded, placed}
use Rattle.ulfm_command_line.proofs.Refused.{places_refused}
use Rattle.ulfm_command_line.proofs.place_lines.places_reply.Goals as goal

pub returns-in-Err : goal.returns-in-Err
returns-in-Err c = λ form. rw (c.refusal.ensures.status, c.refusal.ensures.body) (places_refused c.in-Err.fault _ c.in-Err.ensures)

pub returns-then-len-stops-gt-MOST_STEPS : goal.returns-then-len-stops-gt-MOST_STEPS
returns-then-len-stops-gt-MOST_STEPS c =
    let many = c.if-len-stops-gt-MOST_STEPS.true in
    let refused = c.refusal-then-len-stops-gt-MOST_STEPS.ensures in
    λ form. rw (refused.status, refused.body) (crowded c.in-Ok.job c.in-Ok.ensures (omega (arith, c.len.ensures.exact, many)))

pub returns : goal.returns
returns c =
    let few = c.if-len-stops-gt-MOST_STEPS.false in
    λ form. rw c.in_ok-places.ensures.exact (placed c.in-Ok.job c.in-Ok.ensures (omega (arith, c.len.ensures.exact, few)))
