-- The report of a step may go to another thread.
use denote.Param.Send.{IsSend, sendable}
use Rattle.std.proofs.Crossing.{crosses}
use Rattle.ulfm_job.specs.contracts.noted_step.NotedStep as noted
use Rattle.ulfm_answer.specs.contracts.answer.StepReport as answered

noted_send : IsSend noted.the_row
noted_send = search (sendable, crosses) depth 40 fits 20000

pub answered_send : IsSend answered.the_row
answered_send = search (noted_send, sendable, crosses) depth 100 fits 20000
