use Rattle.std.proofs.Common.{subst}
use Rattle.ulfm_command_line.specs.Stopped.{IsAsked}
use Rattle.ulfm_job.specs.declared.place.Place.TheVariants.{Nowhere}
use Rattle.ulfm_outcomes_reply.specs.EachPlace.{not_listed_at_all}
use Rattle.ulfm_outcomes_reply.proofs.each_place.each_place_reply.Goals as goal

pub returns-in-Ok : goal.returns-in-Ok
returns-in-Ok g c = c.named_reply.ensures c.args.bytes.now (subst (IsAsked Nowhere c.args.bytes.now) c.in-Ok.is c.in_ok-read.ensures)

pub returns-in-Err : goal.returns-in-Err
returns-in-Err g c = not_listed_at_all _ _ (subst (IsAsked Nowhere c.args.bytes.now) c.in-Err.is c.in_ok-read.ensures c.args.search.now.form)
