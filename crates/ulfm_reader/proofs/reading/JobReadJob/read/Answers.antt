use Rattle.std.proofs.Common.{ap}
use Rattle.ulfm_reader.specs.JobText.{job_in}
use Rattle.ulfm_reader.proofs.reading.JobReadJob.read.Goals as goal

pub returns-in-Ok : goal.returns-in-Ok
returns-in-Ok c = ap job_in c.in-Ok.ensures

pub returns-in-Err : goal.returns-in-Err
returns-in-Err c = λ no_memory. ap job_in (c.in-Err.ensures no_memory)
