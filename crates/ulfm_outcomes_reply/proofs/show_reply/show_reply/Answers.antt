use Rattle.std.proofs.Common.{subst}
use Rattle.ulfm_command_line.specs.Stopped.{IsAsked}
use Rattle.ulfm_outcomes_reply.specs.Outcomes.{not_shown}
use Rattle.ulfm_outcomes_reply.proofs.show_reply.show_reply.Goals as goal

pub returns-in-Ok : goal.returns-in-Ok
returns-in-Ok g c = c.sought_reply.ensures c.args.bytes.now (subst (IsAsked c.args.search.now.options.place c.args.bytes.now) c.in-Ok.is c.in_ok-read.ensures)

pub returns-in-Err : goal.returns-in-Err
returns-in-Err g c = not_shown _ _ (subst (IsAsked c.args.search.now.options.place c.args.bytes.now) c.in-Err.is c.in_ok-read.ensures c.args.search.now.form)
