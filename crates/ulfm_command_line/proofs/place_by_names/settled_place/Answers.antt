use Rattle.ulfm_command_line.proofs.Refused.{unnamed_refused}
use Rattle.ulfm_command_line.proofs.place_by_names.settled_place.Goals as goal

pub returns-in-Err : goal.returns-in-Err
returns-in-Err c = λ form. rw (c.refusal.ensures.status, c.refusal.ensures.body) (unnamed_refused c.in-Err.fault c.args.bytes.now c.in-Err.ensures)
