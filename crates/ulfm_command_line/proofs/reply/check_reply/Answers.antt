use Rattle.ulfm_command_line.specs.Replies.{good}
use Rattle.ulfm_command_line.proofs.Refused.{check_refused}
use Rattle.ulfm_command_line.proofs.reply.check_reply.Goals as goal

pub returns-in-Ok : goal.returns-in-Ok
returns-in-Ok c = λ form. rw (c.ranks.ensures.exact, c.len.ensures.exact) (good c.in-Ok.job c.in-Ok.ensures)

pub returns-in-Err : goal.returns-in-Err
returns-in-Err c = λ form. rw (c.refusal.ensures.status, c.refusal.ensures.body) (check_refused c.in-Err.fault _ c.in-Err.ensures)
