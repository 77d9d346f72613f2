use Rattle.std.proofs.Common.{ap}
use Rattle.ulfm_reader.specs.JobText.{job_in, rows_alone}
use Rattle.ulfm_command_line.proofs.AsRead.{as_read, goals_read, held_read}
use Rattle.ulfm_command_line.proofs.Held.{hold-anywhere, hold-unstopped}
use Rattle.ulfm_command_line.proofs.laws.nowhere_is_as_read.Goals as goal

pub returns-clause-held : goal.returns-clause-held
returns-clause-held c = λ bytes asked h. held_read bytes asked h

pub returns-clause-job : goal.returns-clause-job
returns-clause-job c = λ bytes asked h whole. ap job_in (as_read bytes asked h whole)

pub returns-clause-rows : goal.returns-clause-rows
returns-clause-rows c = λ bytes asked h whole. ap rows_alone (as_read bytes asked h whole)

pub returns-clause-goals : goal.returns-clause-goals
returns-clause-goals c = λ bytes text asked h. goals_read bytes text asked h

pub returns-clause-anywhere : goal.returns-clause-anywhere
returns-clause-anywhere c = λ asked none. hold-anywhere asked none

pub returns-clause-unstopped : goal.returns-clause-unstopped
returns-clause-unstopped c = λ asked none. hold-unstopped asked none
