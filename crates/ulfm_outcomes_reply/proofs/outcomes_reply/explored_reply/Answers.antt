use Rattle.std.proofs.Common.{List, Vec, subst}
use Rattle.std.specs.declared.alloc.Global.{Global}
use Rattle.ulfm_job.specs.declared.clause.Clause.{Clause}
use Rattle.ulfm_reader.specs.JobText.{rows_of}
use Rattle.ulfm_outcomes_reply.specs.Wanted.{AreRuledOut}
use Rattle.ulfm_outcomes_reply.proofs.outcomes_reply.explored_reply.Goals as goal

pub reached_reply-requires-clause-out : goal.reached_reply-requires-clause-out
reached_reply-requires-clause-out g c = λ is. subst (λ (rows : List (Vec Clause Global)). AreRuledOut c.args.asked.now.job (rows_of rows)) c.as_slice.ensures.value (c.in_ok-reach.ensures.out is)
