use Rattle.std.proofs.Common.{subst}
use Rattle.ulfm_outcomes_reply.specs.inside.Judging.{IsInside}
use Rattle.ulfm_outcomes_reply.proofs.show_each_place.look_reply.Goals as goal

pub look_at_reply-requires : goal.look_at_reply-requires
look_at_reply-requires g c = subst (IsInside c.args.asked.now.job) c.in-Some.is c.requires
