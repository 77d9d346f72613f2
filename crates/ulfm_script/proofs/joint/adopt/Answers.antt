use Rattle.std.proofs.Common.{subst}
use Rattle.ulfm_script.proofs.Common.{AnswersAdoption, same_Some}
use Rattle.ulfm_job.specs.declared.step.Step.TheVariants.{Agree, Shrink}
use Rattle.ulfm_script.proofs.joint.adopt.Goals as goal

pub returns-in-Shrink-clause-answers : goal.returns-in-Shrink-clause-answers
returns-in-Shrink-clause-answers c = rw c.in-Shrink.is (λ topic about. subst (λ t. AnswersAdoption c.args.rank.now.state (Shrink c.in-Shrink.comm c.in-Shrink.again) t c.args.held c.adopt_shrink.result c.adopt_shrink.new.rank.state) (same_Some _ topic about) c.adopt_shrink.ensures.answers)

pub returns-in-Agree-clause-answers : goal.returns-in-Agree-clause-answers
returns-in-Agree-clause-answers c = rw c.in-Agree.is (λ topic about. subst (λ t. AnswersAdoption c.args.rank.now.state (Agree c.in-Agree.flag c.in-Agree.comm) t c.args.held c.adopt_verdict.result c.adopt_verdict.new.rank.state) (same_Some _ topic about) c.adopt_verdict.ensures.answers)
