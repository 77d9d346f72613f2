use Rattle.ulfm_command_line.proofs.Refused.{refused_at}
use Rattle.ulfm_command_line.proofs.reading_at_place.asked_at.Goals as goal

pub returns-in-Err : goal.returns-in-Err
returns-in-Err c = λ form. rw (c.refusal.ensures.status, c.refusal.ensures.body) (refused_at c.in-Err.fault c.args.bytes.now c.in-Err.ensures)
